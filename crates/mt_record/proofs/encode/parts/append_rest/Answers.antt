use Rattle.mt_record.proofs.Entries.{one_more_entry, entries_ended, front_kept}
use Rattle.std.proofs.Common.{◌∙◌, ◌++◌, List, ℕ, ap}
use Rattle.std.proofs.Math.Seq.{take-append_seam}
use Rattle.std.proofs.lemmas.Result.{on_ok_weaker}
use Rattle.mt_record.specs.Parts.{entry_spelling}
use Rattle.mt_record.proofs.encode.parts.append_rest.Goals as goal

pub loop-entry-preserved : goal.loop-entry-preserved
loop-entry-preserved c =
    one_more_entry c.args.out.now.items c.encode_entry.new.out.items c.args.entries.now c.loop-entry.entry-index c.entry-item.result c.loop-entry-test.true c.entry-item.is
    (c.in_ok-encode_entry.ensures.ok ∙ ap (λ (x : List ℕ). x ++ entry_spelling c.entry-item.result) c.loop-entry.invariant)

pub returns-clause-ok : goal.returns-clause-ok
returns-clause-ok c =
    on_ok_weaker c.encode_part_footer.result
    (entries_ended c.args.out.now.items c.loop-entry.out.items c.encode_part_footer.new.out.items c.args.entries.now c.loop-entry.entry-index _ c.loop-entry-test.false c.loop-entry.invariant)
    c.encode_part_footer.ensures.ok

pub returns-in_err-encode_entry-clause-front : goal.returns-in_err-encode_entry-clause-front
returns-in_err-encode_entry-clause-front c = rw (c.in_err-encode_entry.ensures.err, c.loop-entry.invariant) (take-append_seam c.args.out.now.items _)

pub returns-clause-front : goal.returns-clause-front
returns-clause-front c =
    front_kept c.encode_part_footer.result c.args.out.now.items _ c.loop-entry.out.items _ c.encode_part_footer.new.out.items c.loop-entry.invariant c.encode_part_footer.ensures.ok c.encode_part_footer.ensures.err
