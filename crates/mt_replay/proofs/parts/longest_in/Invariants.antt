use Rattle.std.proofs.Common.{◌++◌, take}
use Rattle.std.specs.Prelude.{IsPermutation}
use Rattle.mt_words.specs.Walks.{joined}
use Rattle.mt_replay.specs.Cuts.{updates_in}
use Rattle.mt_replay.specs.Steps.Merging.{updates_of}
use Rattle.mt_replay.proofs.parts.longest_in.Given as goal

-- the updates of the lists so far
abbrev pub invariant-loop-updates : goal.invariant-loop-updates
invariant-loop-updates l = IsPermutation (l.initial.texts.items ++ updates_in l.cuts l.piece (joined (take l.updates-index l.lists))) (updates_of l.longest ++ l.texts.items)
