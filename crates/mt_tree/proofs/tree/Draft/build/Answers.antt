use Rattle.std.proofs.Common.{◌≡◌, ℕ, List, [], ◌∷◌, ◌++◌, sym, ap, ◌∙◌, subst, append_assoc}
use Rattle.std.specs.Vec.Iter.{into_iter_items}
use Rattle.mt_tree.specs.Borders.{layer_walk}
use Rattle.mt_words.specs.Walks.{Pair, KeysRise}
use Rattle.mt_tree.proofs.Joins.{rising_front}
use Rattle.mt_tree.proofs.tree.Draft.build.Goals as goal

next_rises : (done left pairs walk : List Pair) (p : Pair) (rest : List Pair) → walk ≡ done → done ++ left ≡ pairs → left ≡ p ∷ rest → KeysRise pairs → KeysRise (walk ++ p ∷ [])
next_rises done left pairs walk p rest a b c rising =
    let whole : (done ++ p ∷ []) ++ rest ≡ pairs = append_assoc done (p ∷ []) rest ∙ ap (λ (w : List Pair). done ++ w) (sym c) ∙ b in
    subst (λ (w : List Pair). KeysRise (w ++ p ∷ [])) (sym a) (rising_front (done ++ p ∷ []) rest (subst KeysRise (sym whole) rising))

pub push-requires-clause-rises : goal.push-requires-clause-rises
push-requires-clause-rises c =
    subst (λ (k : List ℕ). KeysRise (layer_walk c.loop-key.draft ++ (k, c.in-Some.columns) ∷ [])) (sym c.as_bytes.ensures.value)
    (next_rises _ _ _ _ _ _ c.loop-key.invariant.told c.loop-key.invariant.left c.in-Some.ensures.steps.0 c.requires)

pub loop-key-preserved : goal.loop-key-preserved
loop-key-preserved c = record {
  told = c.in_ok-push.ensures.pairs ∙ (λ i. c.loop-key.invariant.told i ++ (c.as_bytes.ensures.value i, c.in-Some.columns) ∷ []);
  lawful = c.in_ok-push.ensures.lawful;
  left = append_assoc c.loop-key.yielded ((c.in-Some.key, c.in-Some.columns) ∷ []) (into_iter_items c.next.new.self) ∙ ap (λ (z : List Pair). c.loop-key.yielded ++ z) (sym c.in-Some.ensures.steps.0) ∙ c.loop-key.invariant.left;
}
