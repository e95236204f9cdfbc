use Rattle.std.proofs.Common.{◌≡◌, [], ◌∷◌, ◌++◌, refl, ap, ◌∙◌, rules}
use Rattle.mt_tree.specs.declared.layer.Border.{Border}
use Rattle.mt_tree.proofs.Puts.{put_border}
use Rattle.mt_tree.proofs.layer.push_closed.Goals as goal
use Rattle.mt_tree.proofs.layer.push_closed.Goals.{then-is_empty, else-is_empty+in_ok-close}

pub returns : goal.returns
returns c =
    elim c.if-is_empty.branch [
      | then-is_empty w ↦
          put_border _ _ _ _ (c.in_ok-push.ensures.items ∙ ap (λ (b : Border). c.args.borders.now.items ++ b ∷ []) w.border-is) refl c.requires.lawful c.requires.some (λ h. h) (λ none. tt)
      | else-is_empty+in_ok-close w ↦
          let some : c.args.borders.now.items ≡ [] → ⊥ = search (rules, w.if-is_empty) in
          put_border _ _ _ _ (c.in_ok-push.ensures.items ∙ ap (λ (b : Border). c.args.borders.now.items ++ b ∷ []) w.border-is) w.in_ok-close.ensures.same c.requires.lawful c.requires.some (λ h. (w.in_ok-close.ensures.below, w.in_ok-close.ensures.count)) (λ none. absurd (some none))
    ]
