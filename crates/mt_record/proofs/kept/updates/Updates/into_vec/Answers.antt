use Rattle.std.proofs.Common.{◌++◌, length, sym, ap, ◌∙◌, arith}
use Rattle.mt_words.specs.declared.update.Origin.{Origin}
use Rattle.mt_words.specs.declared.update.Origin.TheVariants as origins
use Rattle.mt_words.specs.Built.{mark_of}
use Rattle.mt_words.specs.Updates.{update_by}
use Rattle.mt_words.specs.OneLog.{OneLog}
use Rattle.mt_record.proofs.RecordLemmas.{updates_step}
use Rattle.mt_record.proofs.kept.updates.Updates.into_vec.Goals as goal

pub loop-number-preserved : goal.loop-number-preserved
loop-number-preserved c =
    let kept : OneLog = record { log = c.self.inside.log; records = c.self.inside.records } in
    let r = c.in_ok-logged.logged in
    let from = c.origin.ensures ∙ ap (λ (k : OneLog). origins.Log k.log c.loop-number.number) (sym c.self.view_is) in
    let added = ap (λ (origin : Origin). c.loop-number.updates.items ++ update_by origin r.timestamp r.change) from in
    updates_step kept c.loop-number.number c.loop-number.updates.items c.push_update.new.updates.items r
    (omega (arith, c.loop-number-test.true, c.record_count-number-end.ensures, ap (λ (k : OneLog). length k.records) c.self.view_is)) (c.in_ok-logged.ensures ∙ c.body.ensures.says (mark_of 0)) c.loop-number.invariant
    (c.in_ok-push_update.ensures ∙ added)
