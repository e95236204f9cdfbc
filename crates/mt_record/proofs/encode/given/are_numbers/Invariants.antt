use Rattle.std.proofs.Common.{◌↔◌}
use Rattle.mt_words.specs.Limits.{limits_of}
use Rattle.mt_words.specs.Words.{AreNumbers}
use Rattle.mt_record.proofs.GivenLemmas.{NumbersFrom}
use Rattle.mt_record.proofs.encode.given.are_numbers.Given as goal

-- all are lawful exactly if the numbers that are left are
abbrev pub invariant-loop-number : goal.invariant-loop-number
invariant-loop-number l = AreNumbers (limits_of l.fn.format) l.numbers ↔ NumbersFrom (limits_of l.fn.format) l.least l.number-index l.numbers
