use Rattle.std.proofs.Common.{◌∙◌, ◌++◌, ◌∷◌, [], List, ℕ, sym, ap, append_assoc, arith}
use Rattle.std.specs.List.{flat_map}
use Rattle.std.proofs.lemmas.List.{flat_map_more}
use Rattle.mt_words.specs.Limits.{limits_of}
use Rattle.mt_record.specs.Spelling.{spelling}
use Rattle.mt_record.proofs.Records.{records_push, latest_push}
use Rattle.mt_record.proofs.Salvages.{below_push}
use Rattle.mt_record.proofs.salvage.records_below.Goals as goal

pub records-preserved : goal.records-preserved
records-preserved c =
    let I = c.records.invariant in
    let is = c.in-Some.ensures.some in
    let r = is.next in
    let next = is.is_next in
    let after = c.in-Some.after.now in
    record {
      records = I.records ++ r ∷ [];
      spelled = I.spelled ∙ ap (λ (x : List ℕ). flat_map spelling I.records ++ x) next.spelled ∙ sym (append_assoc (flat_map spelling I.records) (spelling r) after)
          ∙ ap (λ (x : List ℕ). x ++ after) (flat_map_more spelling [] I.records r);
      lawful = records_push (limits_of c.args.format) 0 I.records r I.lawful next.lawful (omega (arith, I.last, next.rises));
      below = below_push c.args.timestamp I.records r I.below (omega (arith, is.same_time, c.if-next-timestamp.false));
      last = is.same_time ∙ sym (latest_push 0 I.records r);
    }
