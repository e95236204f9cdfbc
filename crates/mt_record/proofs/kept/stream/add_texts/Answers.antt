use Rattle.std.proofs.Common.{◌≡◌, ◌∙◌, ◌++◌, ◌∷◌, ◌+◌, ◌-◌, [], suc, sym, ap, subst, arith}
use Rattle.mt_words.specs.declared.update.Update.{Update}
use Rattle.mt_record.specs.Steps.Texts.{IsUpdateText}
use Rattle.mt_record.specs.Steps.Streams.{AreUpdateTexts}
use Rattle.mt_record.proofs.StreamLemmas.{first_there, text_read}
use Rattle.mt_record.proofs.kept.stream.add_texts.Goals as goal

pub first_text-requires : goal.first_text-requires
first_text-requires c =
    let more : c.args.count - c.loop.counter ≡ suc (c.args.count - (c.loop.counter + 1)) = omega (arith, c.loop-test.true) in
    (first_there _ (c.args.count - (c.loop.counter + 1)) c.loop.rest.now more c.loop.invariant.rest).0

pub of_text-requires : goal.of_text-requires
of_text-requires c =
    let more : c.args.count - c.loop.counter ≡ suc (c.args.count - (c.loop.counter + 1)) = omega (arith, c.loop-test.true) in
    subst IsUpdateText (sym c.first_text.ensures.text) (first_there _ (c.args.count - (c.loop.counter + 1)) c.loop.rest.now more c.loop.invariant.rest).1

pub loop-preserved : goal.loop-preserved
loop-preserved c =
    let I = c.loop.invariant in
    let left = c.args.count - (c.loop.counter + 1) in
    let more : c.args.count - c.loop.counter ≡ suc left = omega (arith, c.loop-test.true) in
    let pushed = c.in_ok-push.ensures.items ∙ ap (λ (u : Update). c.loop.texts.items ++ u ∷ []) c.of_text.ensures in
    record {
      within = omega (arith, c.loop-test.true);
      rest = subst (AreUpdateTexts left) (sym c.first_text.ensures.rest) (first_there _ left c.loop.rest.now more I.rest).2;
      so_far = text_read _ left c.loop.rest.now _ _ c.loop.texts.items c.push.new.self.items _ more c.first_text.ensures.text c.first_text.ensures.rest I.so_far pushed;
    }
