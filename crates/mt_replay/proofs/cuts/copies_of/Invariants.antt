use Rattle.std.proofs.Common.{◌≡◌, take}
use Rattle.mt_replay.proofs.cuts.copies_of.Given as goal

-- the first keys are copied
abbrev pub invariant-loop-key : goal.invariant-loop-key
invariant-loop-key l = l.copies.items ≡ take l.key-index l.keys
