use Rattle.std.proofs.Common.{◌++◌, ◌∷◌, [], ◌∙◌, List, take, sym, ap, append_assoc, arith}
use Rattle.std.proofs.lemmas.List.{take_more}
use Rattle.mt_words.specs.declared.update.Update.{Update}
use Rattle.mt_replay.proofs.parts.Part.add_to.Goals as goal

pub loop-at-preserved : goal.loop-at-preserved
loop-at-preserved c =
    let text : Update = c.text.result in
    let front : List Update = take c.loop-at.at c.args.self.now in
    let more = take_more c.args.self.now c.loop-at.at text (omega (arith, c.loop-at-test.true, c.len-at-end.ensures.value)) ∙ ap (λ (u : Update). front ++ u ∷ []) (sym (c.text.ensures text)) in
    c.in_ok-push.ensures.items ∙ ap (λ (us : List Update). us ++ text ∷ []) c.loop-at.invariant ∙ append_assoc c.args.texts.now.items front (text ∷ []) ∙ ap (λ (us : List Update). c.args.texts.now.items ++ us) (sym more)
