use Rattle.std.proofs.Common.{◌≡◌, ◌∙◌, ◌+◌, ◌-◌, ◌++◌, ◌∷◌, [], length, ap, sym, append_assoc, arith}
use Rattle.std.proofs.lemmas.List.{length-append}
use Rattle.mt_record.proofs.RecordLemmas.{marks_and_updates}
use Rattle.mt_record.proofs.Cuts.{late_past, late_marks, is_late, one_or_none, byte_is}
use Rattle.mt_record.proofs.kept.log.KeptRecords.cut.Goals as goal

pub overflow_add-marks : goal.overflow_add-marks
overflow_add-marks c =
    let I = c.loop-self.invariant in
    let gone = c.drop_last.ensures in
    omega (arith, I.3, one_or_none c.drop_last.result, byte_is c.drop_last.result, c.from-marks.ensures, marks_and_updates 0 0 I.0, ap length I.1, length-append c.loop-self.self I.0, c.len-count.ensures, c.len-count.type_inv, ap length gone.1, length-append c.drop_last.new.self (gone.0 ∷ []))

pub loop-self-preserved : goal.loop-self-preserved
loop-self-preserved c =
    let I = c.loop-self.invariant in
    let gone = c.drop_last.ensures in
    let past = is_late c.args.limit c.loop-self.self c.drop_last.new.self gone.0 gone.1 (sym c.ends_late.ensures ∙ c.loop-self-test.true) in (
      gone.0 ∷ I.0,
      I.1 ∙ ap (λ l. l ++ I.0) gone.1 ∙ append_assoc c.drop_last.new.self (gone.0 ∷ []) I.0,
      late_past c.args.limit I.0 gone.0 I.2 past,
      omega (arith, I.3, c.from-marks.ensures, byte_is c.drop_last.result, late_marks I.0 gone.0 c.drop_last.result gone.2),
    )

pub overflow_sub-updates-2 : goal.overflow_sub-updates-2
overflow_sub-updates-2 c =
    let I = c.loop-self.invariant in
    omega (arith, I.3, marks_and_updates 0 0 I.0, ap length I.1, length-append c.loop-self.self I.0, c.len-count.ensures, c.len.ensures)

pub returns : goal.returns
returns c =
    let I = c.loop-self.invariant in
    let count : (c.len-count.result - c.len.result - c.loop-self.marks) + c.loop-self.marks ≡ length I.0 = omega (arith, I.3, marks_and_updates 0 0 I.0, ap length I.1, length-append c.loop-self.self I.0, c.len-count.ensures, c.len.ensures) in record {
      late = I.0;
      joins = I.1;
      past = I.2;
      counted = record { marks = I.3; count = count };
      ends = sym c.ends_late.ensures ∙ c.loop-self-test.false;
    }
