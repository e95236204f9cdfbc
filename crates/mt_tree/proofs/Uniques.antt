-- A walk has only one number of trees.
use Rattle.std.proofs.Common.{◌≡◌, ℕ, zero, suc, ◌+◌, ◌-◌, ◌^◌, ◌<◌, min, List, [], ◌∷◌, length, sym, refl, ap, ◌∙◌, subst, inl, inr, ◌⊎◌, arith}
use Rattle.std.specs.Prelude.{Contains, sum_by}
use Rattle.std.specs.List.{AllByRecursion}
use Rattle.std.proofs.lemmas.List.Sums.{sum_by-cons}
use Rattle.mt_words.specs.Walks.{Pair}
use Rattle.mt_words.specs.Words.{IsBelow, AreRising}
use Rattle.mt_words.proofs.KeyOrder.{not_both, not_itself}
use Rattle.mt_tree.specs.Layers.{AreHeads, IsLayers, own_and_under, CountsLayers}

pub head_or_rest : (r : List ℕ) (qs : List (List ℕ)) (q : List ℕ) → Contains (r ∷ qs) q → (r ≡ q) ⊎ Contains qs q
head_or_rest r qs q (zero, l, e) = inl e
head_or_rest r qs q (suc k, l, e) = inr (k, omega arith, e)

pub below_all : (q : List ℕ) (qs : List (List ℕ)) (r : List ℕ) → AllByRecursion (IsBelow q) qs → Contains qs r → IsBelow q r
below_all q [] r h m = absurd (let l = m.1 in omega arith)
below_all q (p ∷ qs) r h (zero, l, e) = subst (IsBelow q) e h.0
below_all q (p ∷ qs) r h (suc k, l, e) = below_all q qs r h.1 (k, omega arith, e)

first : (q : List ℕ) (qs : List (List ℕ)) → Contains (q ∷ qs) q
first q qs = (0, omega arith, refl)

pub later : (q : List ℕ) (qs : List (List ℕ)) (r : List ℕ) → Contains qs r → Contains (q ∷ qs) r
later q qs r m = let l : m.0 < length qs = m.1 in (suc m.0, omega arith, m.2)

-- rising lists with the same members are equal
same_rising : (qs rs : List (List ℕ)) → AreRising qs → AreRising rs → ((x : List ℕ) → Contains qs x → Contains rs x) → ((x : List ℕ) → Contains rs x → Contains qs x) → qs ≡ rs
same_rising [] [] h k f g = refl
same_rising [] (r ∷ rs) h k f g = absurd (let m = g r (first r rs) in let l = m.1 in omega arith)
same_rising (q ∷ qs) [] h k f g = absurd (let m = f q (first q qs) in let l = m.1 in omega arith)
same_rising (q ∷ qs) (r ∷ rs) h k f g =
    let heads = head_is (head_or_rest r rs q (f q (first q qs))) (head_or_rest q qs r (g r (first r rs))) in
    (λ i. heads i ∷ same_rising qs rs h.1 k.1 (λ x m. tail_of rs (head_or_rest r rs x (f x (later q qs x m))) (λ e. not_itself x (subst (λ (z : List ℕ). IsBelow z x) (heads ∙ e) (below_all q qs x h.0 m))))
    (λ x m. tail_of qs (head_or_rest q qs x (g x (later r rs x m))) (λ e. not_itself x (subst (λ (z : List ℕ). IsBelow z x) (sym heads ∙ e) (below_all r rs x k.0 m)))) i)
  where
    head_is : (r ≡ q) ⊎ Contains rs q → (q ≡ r) ⊎ Contains qs r → q ≡ r
    head_is (inl e) n = sym e
    head_is (inr m) (inl e) = e
    head_is (inr m) (inr n) = absurd (not_both r q (below_all r rs q k.0 m) (below_all q qs r h.0 n))

    tail_of : {y x : List ℕ} (xs : List (List ℕ)) → (y ≡ x) ⊎ Contains xs x → (y ≡ x → ⊥) → Contains xs x
    tail_of xs (inl e) n = absurd (n e)
    tail_of xs (inr m) n = m

heads_one : (w : List Pair) (qs rs : List (List ℕ)) → AreHeads w qs → AreHeads w rs → qs ≡ rs
heads_one w qs rs h k = same_rising qs rs h.rising k.rising (λ x m. (k.each x).1 ((h.each x).0 m)) (λ x m. (h.each x).1 ((k.each x).0 m))

-- sums of numbers that are the same for each element are the same
pub same_sum : (qs : List (List ℕ)) (f g : List ℕ → ℕ) → ((q : List ℕ) → Contains qs q → f q ≡ g q) → sum_by f qs ≡ sum_by g qs
same_sum [] f g same = refl
same_sum (q ∷ qs) f g same = omega (arith, sum_by-cons f q qs, sum_by-cons g q qs, same q (first q qs), same_sum qs f g (λ r m. same r (later q qs r m)))

pub layers_one : {w : List Pair} {m : ℕ} → IsLayers w m → (n : ℕ) → IsLayers w n → m ≡ n
layers_one (own_and_under {pairs = w} {heads = qs} {trees = f} h each) n (own_and_under {heads = rs} {trees = g} k others) =
    let is : qs ≡ rs = heads_one w qs rs h k in
    let same : sum_by f qs ≡ sum_by g qs = same_sum qs f g (λ q m. layers_one (each q m) (g q) (others q (subst (λ (z : List (List ℕ)). Contains z q) is m))) in
    ap (λ n. 1 + n) (same ∙ ap (sum_by g) is)

pub stops_once : (w : List Pair) (r n : ℕ) → CountsLayers w r → IsLayers w n → r ≡ min n (2 ^ 64 - 1)
stops_once w r n a b = a.stops ∙ ap (λ (z : ℕ). min z (2 ^ 64 - 1)) (layers_one a.is n b)

pub one_count : (w : List Pair) (r s : ℕ) → CountsLayers w r → CountsLayers w s → r ≡ s
one_count w r s a b = stops_once w r b.number a b.is ∙ sym b.stops
