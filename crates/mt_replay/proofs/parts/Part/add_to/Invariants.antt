use Rattle.std.proofs.Common.{◌≡◌, ◌++◌, take}
use Rattle.mt_replay.proofs.parts.Part.add_to.Given as goal

-- the texts of the first updates
abbrev pub invariant-loop-at : goal.invariant-loop-at
invariant-loop-at l = l.texts.items ≡ l.initial.texts.items ++ take l.at l.self
