-- What a walk adds to the pairs that were shown of a range. The proofs stand here since a ghost member cites none of proofs/.
use Rattle.std.specs.Prelude.{◌≡◌, ℕ, zero, suc, Bool, true, false, cond, List, [], ◌∷◌, ◌++◌}
use Rattle.std.proofs.Common.{refl, sym, ap, ◌∙◌, subst}
use Rattle.mt_words.specs.Walks.{Pair}
use Rattle.mt_cli.specs.declared.ranges.Rest.{Rest}
use Rattle.mt_cli.specs.Ranges.{has}

-- the first pairs, at most `left`, up to one that fails the test
abbrev pub front : (Pair → Bool) → ℕ → List Pair → List Pair
front test left [] = []
front test zero (pair ∷ pairs) = []
front test (suc left) (pair ∷ pairs) = cond (test pair) (pair ∷ front test left pairs) []

-- how many more may follow: none after a pair that fails the test
abbrev pub left_after : (Pair → Bool) → ℕ → List Pair → ℕ
left_after test left [] = left
left_after test zero (pair ∷ pairs) = 0
left_after test (suc left) (pair ∷ pairs) = cond (test pair) (left_after test left pairs) 0

none_left : (test : Pair → Bool) (pairs : List Pair) → left_after test 0 pairs ≡ 0
none_left test [] = refl
none_left test (pair ∷ pairs) = refl

pub none_more : (test : Pair → Bool) (pairs : List Pair) → front test 0 pairs ≡ []
none_more test [] = refl
none_more test (pair ∷ pairs) = refl

pub front_both : (test : Pair → Bool) (left : ℕ) (v w : List Pair) → front test left v ++ front test (left_after test left v) w ≡ front test left (v ++ w)
front_both test left [] w = refl
front_both test zero (pair ∷ v) w = none_more test w
front_both test (suc left) (pair ∷ v) w = by (front_both test left v w) (test pair) refl
  where
    by : front test left v ++ front test (left_after test left v) w ≡ front test left (v ++ w) → (b : Bool) → test pair ≡ b
        → front test (suc left) (pair ∷ v) ++ front test (left_after test (suc left) (pair ∷ v)) w ≡ front test (suc left) (pair ∷ (v ++ w))
    by rest true e = rw e (ap (λ z. pair ∷ z) rest)
    by rest false e = rw e (none_more test w)

pub left_both : (test : Pair → Bool) (left : ℕ) (v w : List Pair) → left_after test (left_after test left v) w ≡ left_after test left (v ++ w)
left_both test left [] w = refl
left_both test zero (pair ∷ v) w = none_left test w
left_both test (suc left) (pair ∷ v) w = by (left_both test left v w) (test pair) refl
  where
    by : left_after test (left_after test left v) w ≡ left_after test left (v ++ w) → (b : Bool) → test pair ≡ b
        → left_after test (left_after test (suc left) (pair ∷ v)) w ≡ left_after test (suc left) (pair ∷ (v ++ w))
    by rest true e = rw e rest
    by rest false e = rw e (none_left test w)

-- of these pairs the first ones that the range has were shown, as far as their number allows
pub record HaveShown {T : Type 0} (Shown : T → T → List Pair → Type 0) (old new : Rest T) (pairs : List Pair) : Type 0 where
  pub same_target : new.target.ghost_name ≡ old.target.ghost_name
  pub range : new.range.now ≡ old.range.now
  pub left : new.left ≡ left_after (λ pair. has old.range.now pair.0) old.left pairs
  pub shown : Shown old.target.now new.target.now (front (λ pair. has old.range.now pair.0) old.left pairs)

pub none_shown : {T : Type 0} (Shown : T → T → List Pair → Type 0) → ((target : T) → Shown target target []) → (rest : Rest T) → HaveShown Shown rest rest []
none_shown Shown none rest = record { same_target = refl; range = refl; left = refl; shown = none rest.target.now }

pub both_shown : {T : Type 0} (Shown : T → T → List Pair → Type 0) → ((a b c : T) (v w : List Pair) → Shown a b v → Shown b c w → Shown a c (v ++ w))
    → (a b c : Rest T) (v w : List Pair) → HaveShown Shown a b v → HaveShown Shown b c w → HaveShown Shown a c (v ++ w)
both_shown Shown more a b c v w f g = record {
  same_target = g.same_target ∙ f.same_target;
  range = g.range ∙ f.range;
  left = g.left ∙ (λ i. left_after (λ pair. has (f.range i) pair.0) (f.left i) w) ∙ left_both (λ pair. has a.range.now pair.0) a.left v w;
  shown =
      let test : Pair → Bool = λ pair. has a.range.now pair.0 in
      let rest = subst (Shown b.target.now c.target.now) (λ i. front (λ pair. has (f.range i) pair.0) (f.left i) w) g.shown in
      subst (Shown a.target.now c.target.now) (front_both test a.left v w) (more _ _ _ _ _ f.shown rest);
}

-- a target that takes no more is left as it is
pub full_shown : {T : Type 0} (Shown : T → T → List Pair → Type 0) → ((target : T) → Shown target target []) → (rest : Rest T) → rest.left ≡ 0 → (pairs : List Pair) → HaveShown Shown rest rest pairs
full_shown Shown none rest full pairs =
    let test : Pair → Bool = λ pair. has rest.range.now pair.0 in
    record {
      same_target = refl;
      range = refl;
      left = full ∙ sym (none_left test pairs) ∙ ap (λ n. left_after test n pairs) (sym full);
      shown = subst (Shown rest.target.now rest.target.now) (sym (ap (λ n. front test n pairs) full ∙ none_more test pairs)) (none rest.target.now);
    }
