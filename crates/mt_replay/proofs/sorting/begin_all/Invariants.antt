use Rattle.std.proofs.Common.{◌≡◌, take}
use Rattle.std.specs.Prelude.{All}
use Rattle.mt_replay.specs.Steps.Numbers.{places, rest_of, BeginsWith}
use Rattle.mt_replay.proofs.sorting.begin_all.Given as goal

-- the first numbers begin with the heads of their rests
abbrev pub invariant-loop-at : goal.invariant-loop-at
invariant-loop-at l = record {
  same : places l.bits l.numbers ≡ places l.bits l.fn.numbers;
  heads : All (λ number. BeginsWith l.bits number (rest_of l.bits l.texts l.depth number)) (take l.at l.numbers);
}
