use Rattle.std.proofs.Common.{length}
use Rattle.mt_words.specs.Limits.{limits_of}
use Rattle.mt_record.specs.Spelling.{spelling}
use Rattle.mt_text.specs.RecordText.{of_record}
use Rattle.mt_text.proofs.RecordLines.{AreListedSoFar, RecordsSoFar}
use Rattle.mt_text.proofs.listing.write_records.Given as goal

abbrev pub invariant-loop-left : goal.invariant-loop-left
invariant-loop-left g l =
    let contents = g.W.Write.contents in
    AreListedSoFar of_record spelling (RecordsSoFar (limits_of l.format) l.from.latest l.latest) l.selection l.bytes l.from l.rest l.number l.left (contents l.fn.out) (contents l.out)

abbrev pub decreases-loop-left : goal.decreases-loop-left
decreases-loop-left g l = length l.rest
