use Rattle.std.proofs.Common.{◌≡◌, ◌++◌, map, drop}
use Rattle.mt_keeper.specs.Crews.{reach_of, words_of, written_from}
use Rattle.mt_keeper.proofs.crew.deal.Given as goal

abbrev pub invariant-loop-number : goal.invariant-loop-number
invariant-loop-number l = record {
  words : l.words.items ++ map reach_of (drop l.number l.keeper.logs) ≡ words_of l.keeper;
  numbers : l.numbers.items ++ written_from l.number (drop l.number l.keeper.logs) ≡ written_from 0 l.keeper.logs;
}
