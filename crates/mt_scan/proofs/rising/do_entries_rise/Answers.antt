use Rattle.std.proofs.Common.{List, refl, subst, arith}
use Rattle.std.proofs.lemmas.List.{take_all}
use Rattle.std.proofs.lemmas.Bool.{false≢true}
use Rattle.mt_words.specs.Words.{AreRising}
use Rattle.mt_scan.specs.PartsShown.{KeptPart}
use Rattle.mt_scan.specs.Steps.Checkpoints.{none_or_one}
use Rattle.mt_scan.proofs.RisingLemmas.{keys_in, text_more, text_stops}
use Rattle.mt_scan.proofs.rising.do_entries_rise.Goals as goal

pub returns-then-not-do_rise_from : goal.returns-then-not-do_rise_from
returns-then-not-do_rise_from c = (
  λ h. absurd (false≢true h),
  λ rise. absurd (text_stops c.args.texts.now c.loop-text.text-index c.text-item.result (none_or_one c.loop-text.last) c.loop-text-test.true c.text-item.is c.loop-text.invariant
      (λ on. false≢true (c.if-not-do_rise_from.ensures.1 on)) rise),
)

pub loop-text-preserved : goal.loop-text-preserved
loop-text-preserved c =
    text_more c.args.texts.now c.loop-text.text-index c.text-item.result (none_or_one c.loop-text.last) c.loop-text-test.true c.text-item.is (none_or_one c.last_key-last.result) c.loop-text.invariant
    (c.if-not-do_rise_from.ensures.0 refl) c.last_key-last.ensures

pub returns : goal.returns
returns c =
    let all = take_all c.loop-text.text-index c.args.texts.now (omega (arith, c.loop-text-test.false)) in
    let rise = subst (λ (texts : List KeptPart). AreRising (keys_in texts)) all c.loop-text.invariant.rise in
    (λ h. rise, λ h. refl)
