use Rattle.std.proofs.Common.{◌≡◌, take}
use Rattle.mt_words.proofs.numbers.Numbers.of_lawful.Given as goal

-- the numbers so far are copied
abbrev pub invariant-loop-number : goal.invariant-loop-number
invariant-loop-number l = l.copies.items ≡ take l.number-index l.numbers
