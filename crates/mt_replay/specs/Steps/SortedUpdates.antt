-- How updates in the order of their keys are held.
use Rattle.std.specs.Prelude.{List}
use Rattle.mt_words.specs.declared.update.Update.{Update}
use Rattle.mt_replay.specs.declared.sorted_updates.Held.{Held}
use Rattle.mt_replay.specs.declared.sorted_updates.Held.TheVariants.{Sorted, Read}
use Rattle.mt_replay.specs.Survivors.{wholes}

-- the updates that are held
abbrev pub held_in : Held → List Update
held_in (Sorted updates) = updates
held_in (Read entries) = wholes entries
