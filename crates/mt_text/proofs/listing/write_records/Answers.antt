use Rattle.std.proofs.Common.{refl}
use Rattle.mt_words.specs.Limits.{limits_of}
use Rattle.mt_record.specs.Spelling.{spelling}
use Rattle.mt_text.specs.RecordText.{of_record}
use Rattle.mt_text.proofs.RecordLines.{RecordsSoFar, one_more_so_far, record_push, record_some}
use Rattle.mt_text.proofs.listing.write_records.Goals as goal

pub loop-left-preserved-in_ok-left : goal.loop-left-preserved-in_ok-left
loop-left-preserved-in_ok-left g c =
    let limits = limits_of c.args.format in
    let rest = c.loop-left.rest.now in
    let after = c.in-Some.after.now in
    let next = rw c.in-Some.is at c.in_ok-record.ensures in
    rw c.timestamp-latest.ensures.value (one_more_so_far of_record spelling (RecordsSoFar limits c.args.from.latest c.loop-left.latest) _ c.args.selection.now c.args.bytes.now c.args.from rest after _ _ _ _ _ _ _ _ c.loop-left.invariant
    (record_push limits c.args.from.latest c.loop-left.latest rest after _ next) next.spelled (record_some c.in-Some.«record») refl c.loop-left-test.true (rw c.of_record.ensures at c.in_ok-left.ensures.count) (rw c.of_record.ensures at c.in_ok-left.ensures.printed))

pub loop-left-preserved-in_ok-left-3 : goal.loop-left-preserved-in_ok-left-3
loop-left-preserved-in_ok-left-3 g c =
    let limits = limits_of c.args.format in
    let rest = c.loop-left.rest.now in
    let after = c.in-Some.after.now in
    let next = rw c.in-Some.is at c.in_ok-record.ensures in
    rw c.timestamp-latest.ensures.value (one_more_so_far of_record spelling (RecordsSoFar limits c.args.from.latest c.loop-left.latest) _ c.args.selection.now c.args.bytes.now c.args.from rest after _ _ _ _ _ _ _ _ c.loop-left.invariant
    (record_push limits c.args.from.latest c.loop-left.latest rest after _ next) next.spelled (record_some c.in-Some.«record») refl c.loop-left-test.true (rw c.of_record.ensures at c.in_ok-left.ensures.count) (rw c.of_record.ensures at c.in_ok-left.ensures.printed))

pub loop-left-preserved : goal.loop-left-preserved
loop-left-preserved g c =
    let limits = limits_of c.args.format in
    let rest = c.loop-left.rest.now in
    let after = c.in-Some.after.now in
    let next = rw c.in-Some.is at c.in_ok-record.ensures in
    rw c.timestamp-latest.ensures.value (one_more_so_far of_record spelling (RecordsSoFar limits c.args.from.latest c.loop-left.latest) _ c.args.selection.now c.args.bytes.now c.args.from rest after _ _ _ _ _ _ _ _ c.loop-left.invariant
    (record_push limits c.args.from.latest c.loop-left.latest rest after _ next) next.spelled (record_some c.in-Some.«record») refl c.loop-left-test.true (rw c.of_record.ensures at c.in_ok-left.ensures.count) (rw c.of_record.ensures at c.in_ok-left.ensures.printed))
