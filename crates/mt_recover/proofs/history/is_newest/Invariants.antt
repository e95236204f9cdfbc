use Rattle.std.proofs.Common.{take, Contains}
use Rattle.mt_words.specs.declared.update.Update.{Update}
use Rattle.mt_recover.specs.Steps.Fates.{IsUndoneBy}
use Rattle.mt_recover.proofs.history.is_newest.Given as goal

-- none of the updates so far undoes the update
abbrev pub invariant-loop-other : goal.invariant-loop-other
invariant-loop-other l = (v : Update) → Contains (take l.other-index l.updates) v → IsUndoneBy l.window l.number l.update v → ⊥
