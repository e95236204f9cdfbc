use Rattle.std.proofs.Common.{◌≡◌, ◌∙◌, ◌<◌, ◌-◌, ℕ, length, ap, sym, arith}
use Rattle.std.proofs.lemmas.List.{length-map}
use Rattle.mt_words.specs.Changes.{Logged}
use Rattle.mt_words.specs.Built.{mark_of}
use Rattle.mt_record.specs.Decoding.{decode}
use Rattle.mt_record.proofs.Cuts.{late_is}
use Rattle.mt_record.proofs.kept.log.KeptRecords.ends_late.Goals as goal

pub returns-then-count-gt0 : goal.returns-then-count-gt0
returns-then-count-gt0 c =
    let rs = c.args.self.now in
    let count : c.len-count.result ≡ length rs = c.len-count.ensures ∙ sym (length-map c.self.inside.bodies decode) ∙ ap length c.self.view_is in
    let some : 0 < length rs = omega (arith, count, c.if-count-gt0.true) in
    late_is c.args.limit c.timestamp.result (c.len-count.result - 1) rs (mark_of 0) some (ap (λ (n : ℕ). n - 1) count) (c.timestamp.ensures ∙ ap (λ (r : Logged). r.timestamp) (c.body.ensures.says (mark_of 0)))
