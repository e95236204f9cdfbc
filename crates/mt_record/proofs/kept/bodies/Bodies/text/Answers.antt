use Rattle.std.proofs.Common.{◌≡◌, ◌<◌, [], List, ℕ, length, map, get_or, sym, ap, subst, ◌∙◌, arith}
use Rattle.std.proofs.lemmas.List.{get_or-map, length-map}
use Rattle.mt_words.specs.declared.update.Update.{Update}
use Rattle.mt_record.specs.Steps.Texts.{IsUpdateText, update_in_text}
use Rattle.mt_record.proofs.kept.bodies.Bodies.text.Goals as goal

-- the place of an update is the place of a text
below : (texts : List (List ℕ)) (updates : List Update) (at : ℕ) → map update_in_text texts ≡ updates → at < length updates → at < length texts
below texts updates at same lt = omega (arith, length-map texts update_in_text, ap length same, lt)

pub of_text-requires : goal.of_text-requires
of_text-requires c = subst IsUpdateText (sym (c.get.ensures [])) (c.self.invariant c.args.at [] (below c.self.inside.texts c.args.self.now c.args.at c.self.view_is c.requires))

pub returns : goal.returns
returns c = λ d.
    let texts : List (List ℕ) = c.self.inside.texts in
    c.of_text.ensures
    ∙ ap update_in_text (c.get.ensures [])
    ∙ sym (get_or-map update_in_text texts c.args.at [] d (below texts c.args.self.now c.args.at c.self.view_is c.requires))
    ∙ ap (λ (us : List Update). get_or us c.args.at d) c.self.view_is
