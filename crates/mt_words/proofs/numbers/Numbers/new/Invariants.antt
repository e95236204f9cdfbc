use Rattle.std.proofs.Common.{◌≡◌, take}
use Rattle.mt_words.specs.Limits.{widest}
use Rattle.mt_words.specs.Words.{AreNumbers}
use Rattle.mt_words.proofs.numbers.Numbers.new.Given as goal

-- the numbers so far were taken, and are lawful column numbers
abbrev pub invariant-loop-number : goal.invariant-loop-number
invariant-loop-number l = record {
  taken : l.rising.items ≡ take l.number-index l.numbers;
  lawful : AreNumbers widest l.rising.items;
}
