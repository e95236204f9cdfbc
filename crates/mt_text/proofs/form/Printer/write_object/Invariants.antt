use Rattle.std.proofs.Common.{length}
use Rattle.mt_text.proofs.form.Printer.write_object.Given as goal

abbrev pub decreases-loop-number : goal.decreases-loop-number
decreases-loop-number g l = length l.rest
