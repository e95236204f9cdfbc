use Rattle.std.proofs.Common.{◌≡◌, ◌+◌, ◌^◌, ◌<◌, length, take}
use Rattle.std.specs.Prelude.{All}
use Rattle.mt_replay.specs.Steps.Numbers.{rests}
use Rattle.mt_replay.proofs.sorting.shared_depth.Given as goal

-- the first rests begin with what is shared
abbrev pub invariant-loop-number : goal.invariant-loop-number
invariant-loop-number l = record {
  fits : l.depth + length l.shared < 2 ^ 32;
  shared : All (λ rest. take (length l.shared) rest ≡ l.shared) (take l.number-index (rests l.bits l.texts l.depth l.numbers));
}
