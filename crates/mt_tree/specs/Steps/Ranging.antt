-- What a walk adds to the hits of a range query. The two proofs stand here since a ghost member cites none of proofs/.
use Rattle.std.specs.Prelude.{◌≡◌, ◌≤◌, ℕ, zero, suc, List, [], ◌∷◌, ◌++◌, map, take, length}
use Rattle.std.proofs.Common.{arith, refl, sym, ap, ◌∙◌, append_assoc}
use Rattle.std.proofs.lemmas.List.{append-nil, map-append, take_all}
use Rattle.mt_words.specs.Walks.{Pair}
use Rattle.mt_tree.specs.Range.{hit_of}
use Rattle.mt_tree.specs.declared.hit.Hit.{Hit}
use Rattle.mt_tree.specs.declared.range.Collecting.{Collecting}

-- these pairs were collected, as far as there was room
pub record HaveCollected (old new : Collecting) (pairs : List Pair) : Type 0 where
  pub count : new.count ≡ old.count
  pub wanted : new.wanted ≡ old.wanted
  pub hits : length old.hits.items ≤ old.count → new.hits.items ≡ take old.count (old.hits.items ++ map (hit_of old.wanted) pairs)

pub none_collected : (a : Collecting) → HaveCollected a a []
none_collected a = record {
  count = refl;
  wanted = refl;
  hits = λ few. sym (ap (take a.count) (append-nil a.hits.items) ∙ take_all a.count a.hits.items few);
}

take_both : (n : ℕ) (xs ys : List Hit) → take n (take n xs ++ ys) ≡ take n (xs ++ ys)
take_both zero xs ys = refl
take_both (suc n) [] ys = refl
take_both (suc n) (x ∷ xs) ys = ap (λ z. x ∷ z) (take_both n xs ys)

few_taken : (n : ℕ) (xs : List Hit) → length (take n xs) ≤ n
few_taken zero xs = omega arith
few_taken (suc n) [] = omega arith
few_taken (suc n) (x ∷ xs) = omega (arith, few_taken n xs)

pub both_collected : (a b c : Collecting) (v w : List Pair) → HaveCollected a b v → HaveCollected b c w → HaveCollected a c (v ++ w)
both_collected a b c v w f g = record {
  count = g.count ∙ f.count;
  wanted = g.wanted ∙ f.wanted;
  hits = λ few.
      let first = a.hits.items ++ map (hit_of a.wanted) v in
      let room : length b.hits.items ≤ b.count = omega (arith, few_taken a.count first, ap (λ (z : List Hit). length z) (f.hits few), f.count) in
      g.hits room
      ∙ (λ i. take (f.count i) (f.hits few i ++ map (hit_of (f.wanted i)) w))
      ∙ take_both a.count first (map (hit_of a.wanted) w)
      ∙ ap (take a.count) (append_assoc a.hits.items (map (hit_of a.wanted) v) (map (hit_of a.wanted) w))
      ∙ ap (λ (z : List Hit). take a.count (a.hits.items ++ z)) (sym (map-append (hit_of a.wanted) v w));
}
