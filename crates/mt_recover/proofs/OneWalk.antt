-- Updates have at most one walk: keys and column numbers strictly rise, so what a walk holds determines it.
use Rattle.std.proofs.Common.{◌≡◌, inl, inr, ℕ, suc, ◌<◌, ◌≤◌, List, [], ◌∷◌, length, Contains, refl, sym, ap, ◌∙◌, subst, arith}
use Rattle.std.specs.List.{AllByRecursion}
use Rattle.std.proofs.lemmas.Bool.{both_ways}
use Rattle.std.proofs.lemmas.List.Elements.{Contains-append_right}
use Rattle.mt_words.specs.Words.{IsBelow, NumbersRise, AreColumns}
use Rattle.mt_words.specs.Limits.{widest}
use Rattle.mt_words.specs.Walks.{Pair, KeysRise, IsPair, IsMap, Holds}
use Rattle.mt_words.specs.declared.update.Update.{Update}
use Rattle.mt_words.proofs.Elements.{no_element, head_or_tail, head_in}
use Rattle.mt_replay.specs.Cuts.{is_below}
use Rattle.mt_replay.specs.Walk.{IsWalk}
use Rattle.mt_replay.proofs.KeyOrder.{below_order}
use Rattle.mt_replay.proofs.Members.{of_each}
use Rattle.mt_replay.proofs.StepLemmas.{below_itself}

-- ---- lists whose elements rise

-- each element is before all that come after it in the list
abbrev pub Rises : {A : Type 0} → (A → A → Type 0) → List A → Type 0
Rises Before [] = Unit {0}
Rises Before (x ∷ xs) = AllByRecursion (Before x) xs × Rises Before xs

-- rising lists with the same elements have the same head
same_head : {A : Type 0} (Before : A → A → Type 0) → ((a b : A) → Before a b → Before b a → ⊥) → (x y : A) (xs ys : List A)
    → AllByRecursion (Before x) xs → AllByRecursion (Before y) ys → Contains (y ∷ ys) x → Contains (x ∷ xs) y → x ≡ y
same_head Before one_way x y xs ys low_x low_y at here = elim (head_or_tail y x ys at) as (λ _. x ≡ y) [
  | inl e ↦ sym e
  | inr later ↦ elim (head_or_tail x y xs here) as (λ _. x ≡ y) [
    | inl e ↦ e
    | inr too ↦ absurd (one_way x y (of_each (Before x) xs y low_x too) (of_each (Before y) ys x low_y later))
  ]
]

-- if two rising lists have equal heads, an element of one tail that is in the other list is in its tail
in_tail : {A : Type 0} (Before : A → A → Type 0) → ((a b : A) → Before a b → Before b a → ⊥) → (x y a : A) (xs ys : List A)
    → x ≡ y → AllByRecursion (Before x) xs → Contains (y ∷ ys) a → Contains xs a → Contains ys a
in_tail Before one_way x y a xs ys same low at here = elim (head_or_tail y a ys at) as (λ _. Contains ys a) [
  | inl e ↦
      let before : Before x a = of_each (Before x) xs a low here in
      let itself : Before a a = subst (λ (z : _). Before z a) (same ∙ e) before in
      absurd (one_way a a itself itself)
  | inr later ↦ later
]

-- rising lists with the same elements are equal
pub same_lists : {A : Type 0} (Before : A → A → Type 0) → ((a b : A) → Before a b → Before b a → ⊥) → (xs ys : List A)
    → Rises Before xs → Rises Before ys → ((a : A) → Contains xs a → Contains ys a) → ((a : A) → Contains ys a → Contains xs a) → xs ≡ ys
same_lists Before one_way [] [] rise_x rise_y into from = refl
same_lists Before one_way [] (y ∷ ys) rise_x rise_y into from = absurd (no_element y (from y (head_in y ys)))
same_lists Before one_way (x ∷ xs) [] rise_x rise_y into from = absurd (no_element x (into x (head_in x xs)))
same_lists Before one_way (x ∷ xs) (y ∷ ys) rise_x rise_y into from =
    let first : x ≡ y = same_head Before one_way x y xs ys rise_x.0 rise_y.0 (into x (head_in x xs)) (from y (head_in y ys)) in
    let rest = same_lists Before one_way xs ys rise_x.1 rise_y.1
    (λ a at. in_tail Before one_way x y a xs ys first rise_x.0 (into a (Contains-append_right (x ∷ []) xs a at)) at)
    (λ a at. in_tail Before one_way y x a ys xs (sym first) rise_y.0 (from a (Contains-append_right (y ∷ []) ys a at)) at) in
    λ i. first i ∷ rest i

-- ---- columns

-- numbers that rise from `low` are above each number below `low`
all_above : (low : ℕ) (c : ℕ × List ℕ) (columns : List (ℕ × List ℕ)) → c.0 < low → NumbersRise low columns
    → AllByRecursion (λ (d : ℕ × List ℕ). c.0 < d.0) columns
all_above low c [] lt rise = tt
all_above low c (d ∷ ds) lt rise =
    let from : low ≤ d.0 = rise.0 in
    let first : c.0 < d.0 = omega arith in
    let next : c.0 < suc d.0 = omega arith in
    (first, all_above (suc d.0) c ds next rise.1)

-- columns rise by their numbers
columns_rise : (low : ℕ) (columns : List (ℕ × List ℕ)) → NumbersRise low columns → Rises (λ (c d : ℕ × List ℕ). c.0 < d.0) columns
columns_rise low [] rise = tt
columns_rise low (c ∷ cs) rise = (all_above (suc c.0) c cs (omega arith) rise.1, columns_rise (suc c.0) cs rise.1)

-- two column numbers are not each below the other
one_below : (c d : ℕ × List ℕ) → c.0 < d.0 → d.0 < c.0 → ⊥
one_below c d lt gt = omega arith

-- columns are equal if each list holds what the other holds
same_columns : (cs ds : List (ℕ × List ℕ)) → AreColumns widest cs → AreColumns widest ds
    → ((c : ℕ × List ℕ) → Contains cs c → Contains ds c) → ((c : ℕ × List ℕ) → Contains ds c → Contains cs c) → cs ≡ ds
same_columns cs ds are_c are_d into from =
    same_lists (λ (c d : ℕ × List ℕ). c.0 < d.0) one_below cs ds (columns_rise 0 cs are_c.1) (columns_rise 0 ds are_d.1) into from

-- ---- pairs

-- pairs rise by their keys
pairs_rise : (pairs : List Pair) → KeysRise pairs → Rises (λ (p q : Pair). IsBelow p.0 q.0) pairs
pairs_rise [] rise = tt
pairs_rise (p ∷ ps) rise = (rise.0, pairs_rise ps rise.1)

-- two keys are not each below the other
one_key_below : (p q : Pair) → IsBelow p.0 q.0 → IsBelow q.0 p.0 → ⊥
one_key_below p q lt gt = both_ways (is_below q.0 p.0) (below_order.one_way p.0 q.0 lt) gt

-- pairs of one list with the same key have the same columns
one_pair : (pairs : List Pair) (p q : Pair) → KeysRise pairs → Contains pairs p → Contains pairs q → p.0 ≡ q.0 → p.1 ≡ q.1
one_pair [] p q rise at here same = absurd (no_element p at)
one_pair (r ∷ rs) p q rise at here same = elim (head_or_tail r p rs at) as (λ _. p.1 ≡ q.1) [
  | inl e ↦ elim (head_or_tail r q rs here) as (λ _. p.1 ≡ q.1) [
    | inl f ↦ ap (λ (x : Pair). x.1) (sym e ∙ f)
    | inr later ↦
        let below : IsBelow r.0 q.0 = of_each (λ (o : Pair). IsBelow r.0 o.0) rs q rise.0 later in
        absurd (below_itself q.0 (subst (λ (k : List ℕ). IsBelow k q.0) (ap (λ (x : Pair). x.0) e ∙ same) below))
  ]
  | inr later ↦ elim (head_or_tail r q rs here) as (λ _. p.1 ≡ q.1) [
    | inl f ↦
        let below : IsBelow r.0 p.0 = of_each (λ (o : Pair). IsBelow r.0 o.0) rs p rise.0 later in
        absurd (below_itself p.0 (subst (λ (k : List ℕ). IsBelow k p.0) (ap (λ (x : Pair). x.0) f ∙ sym same) below))
    | inr too ↦ one_pair rs p q rise.1 later too same
  ]
]

-- ---- walks

-- columns that are not empty have a first one
first_of_columns : (columns : List (ℕ × List ℕ)) → 0 < length columns → (c : ℕ × List ℕ) × Contains columns c
first_of_columns [] some = absurd (omega arith)
first_of_columns (c ∷ cs) some = (c, head_in c cs)

-- the first list holds all that the second list holds
abbrev Covers : List Pair → List Pair → Type 0
Covers pairs others = (key : List ℕ) (number : ℕ) (bytes : List ℕ) → Holds others key number bytes → Holds pairs key number bytes

-- if the others hold all that the pairs hold, each column of a key among the pairs is a column of that key among the others
column_too : (pairs others : List Pair) (p q : Pair) → KeysRise others → Covers others pairs → Contains pairs p → Contains others q
    → p.0 ≡ q.0 → (c : ℕ × List ℕ) → Contains p.1 c → Contains q.1 c
column_too pairs others p q rise covers at here same c column =
    let holds = covers p.0 c.0 c.1 (p.1, at, column) in
    let columns : holds.0 ≡ q.1 = one_pair others (p.0, holds.0) q rise holds.1 here same in
    subst (λ (x : List (ℕ × List ℕ)). Contains x c) columns holds.2

-- if two maps hold the same, a pair of one is a pair of the other
pair_too : (pairs others : List Pair) (p : Pair) → IsMap pairs → IsMap others → Covers others pairs → Covers pairs others
    → Contains pairs p → Contains others p
pair_too pairs others p is_map is_other into from at =
    let is_pair : IsPair p = of_each IsPair pairs p is_map.1 at in
    let c = first_of_columns p.1 is_pair.2 in
    let holds = into p.0 c.0.0 c.0.1 (p.1, at, c.1) in
    let q : Pair = (p.0, holds.0) in
    let is_pair_too : IsPair q = of_each IsPair others q is_other.1 holds.1 in
    let columns : q.1 ≡ p.1 = same_columns q.1 p.1 is_pair_too.1 is_pair.1
    (column_too others pairs q p is_map.0 from holds.1 at refl) (column_too pairs others p q is_other.0 into at holds.1 refl) in
    subst (λ (x : List (ℕ × List ℕ)). Contains others (p.0, x)) columns holds.1

-- maps that hold the same are equal
same_maps : (pairs others : List Pair) → IsMap pairs → IsMap others → Covers others pairs → Covers pairs others → pairs ≡ others
same_maps pairs others is_map is_other into from =
    same_lists (λ (p q : Pair). IsBelow p.0 q.0) one_key_below pairs others (pairs_rise pairs is_map.0) (pairs_rise others is_other.0)
    (λ p at. pair_too pairs others p is_map is_other into from at) (λ p at. pair_too others pairs p is_other is_map from into at)

-- updates have at most one walk
pub one_walk : (updates : List Update) (pairs others : List Pair) → IsWalk updates pairs → IsWalk updates others → pairs ≡ others
one_walk updates pairs others is too = same_maps pairs others is.map too.map
    (λ key number bytes holds. (too.exact key number bytes).1 ((is.exact key number bytes).0 holds))
    (λ key number bytes holds. (is.exact key number bytes).1 ((too.exact key number bytes).0 holds))
