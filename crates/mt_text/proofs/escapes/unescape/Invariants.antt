use Rattle.std.proofs.Common.{length}
use Rattle.mt_text.proofs.Reading.{Read}
use Rattle.mt_text.proofs.escapes.unescape.Given as goal

abbrev pub invariant-loop-rest : goal.invariant-loop-rest
invariant-loop-rest l = Read l.text l.bytes.items l.rest

abbrev pub decreases-loop-rest : goal.decreases-loop-rest
decreases-loop-rest l = length l.rest
