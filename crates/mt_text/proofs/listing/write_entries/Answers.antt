use Rattle.std.proofs.Common.{refl}
use Rattle.std.specs.List.{AllByRecursion}
use Rattle.mt_words.specs.Changes.{IsEntry}
use Rattle.mt_words.specs.Limits.{limits_of}
use Rattle.mt_record.specs.Parts.{entry_spelling}
use Rattle.mt_text.specs.RecordText.{of_entry}
use Rattle.mt_text.proofs.RecordLines.{one_more_so_far, entry_push, entry_some}
use Rattle.mt_text.proofs.listing.write_entries.Goals as goal

pub loop-left-preserved-in_ok-left-2 : goal.loop-left-preserved-in_ok-left-2
loop-left-preserved-in_ok-left-2 g c =
    let limits = limits_of c.args.format in
    let rest = c.loop-left.rest.now in
    let after = c.in-Some.after.now in
    let next = rw c.in-Some.is at c.in_ok-entry.ensures in
    one_more_so_far of_entry entry_spelling (AllByRecursion (IsEntry limits)) (AllByRecursion (IsEntry limits)) c.args.selection.now c.args.bytes.now c.args.from rest after _ _ _ _ _ _ _ _ c.loop-left.invariant
    (entry_push limits rest after _ next) next.spelled (entry_some c.in-Some.entry) refl c.loop-left-test.true (rw c.of_entry.ensures at c.in_ok-left.ensures.count) (rw c.of_entry.ensures at c.in_ok-left.ensures.printed)
