use Rattle.std.proofs.Common.{length}
use Rattle.std.specs.List.{AllByRecursion}
use Rattle.mt_words.specs.Changes.{IsEntry}
use Rattle.mt_words.specs.Limits.{limits_of}
use Rattle.mt_record.specs.Parts.{entry_spelling}
use Rattle.mt_text.specs.RecordText.{of_entry}
use Rattle.mt_text.proofs.RecordLines.{AreListedSoFar}
use Rattle.mt_text.proofs.listing.write_entries.Given as goal

abbrev pub invariant-loop-left : goal.invariant-loop-left
invariant-loop-left g l =
    let contents = g.W.Write.contents in
    AreListedSoFar of_entry entry_spelling (AllByRecursion (IsEntry (limits_of l.format))) l.selection l.bytes l.from l.rest l.number l.left (contents l.fn.out) (contents l.out)

abbrev pub decreases-loop-left : goal.decreases-loop-left
decreases-loop-left g l = length l.rest
