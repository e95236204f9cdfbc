use Rattle.std.proofs.Common.{◌≡◌, take}
use Rattle.std.specs.Prelude.{All}
use Rattle.mt_replay.specs.Steps.Numbers.{rests}
use Rattle.mt_replay.proofs.sorting.are_alike.Given as goal

-- the first rests are one
abbrev pub invariant-loop-number : goal.invariant-loop-number
invariant-loop-number l = All (λ rest. rest ≡ l.first) (take l.number-index (rests l.bits l.texts l.depth l.numbers))
