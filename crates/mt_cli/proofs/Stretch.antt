-- The keys of a range are one stretch: of rising keys at or after its start, those that it has are a beginning.
use Rattle.std.proofs.Math.Seq.{take-nil}
use Rattle.std.proofs.lemmas.List.{append-nil}
use Rattle.std.proofs.lemmas.Slice.Eq.{starts_is}
use Rattle.std.proofs.lemmas.Bool.{false≢true, false_from_ne_true, not-true, not_from_false}
use Rattle.std.proofs.lemmas.Bool.Decides.{Decides-eqb}
use Rattle.mt_words.proofs.SliceBytes.{slice_cmp-append}
use Rattle.std.proofs.lemmas.Cmp.{ranked}
use Rattle.std.proofs.Common.{◌≡◌, ◌⊎◌, inl, inr, ℕ, zero, suc, Bool, true, false, Option, Some, None, List, [], ◌∷◌, ◌++◌, length, take, drop, refl, sym, ap, ◌∙◌, subst}
use Rattle.std.specs.Prelude.{◌&&◌, filter, IfSome, nat_eq}
use Rattle.std.specs.List.{AllByRecursion, starts_with}
use Rattle.std.specs.Ordering.{nat_cmp, is_lt, ordering_reverse}
use Rattle.std.specs.Cmp.Lexicographic.{slice_cmp, nat_list_cmp_total}
use Rattle.std.specs.declared.cmp.Ordering.{Ordering}
use Rattle.std.specs.declared.cmp.Ordering.TheVariants.{Less, Equal, Greater}
use Rattle.mt_words.specs.Words.{IsBelow}
use Rattle.mt_words.proofs.KeyOrder.{below_trans, never_below}
use Rattle.mt_words.specs.Walks.{Pair, KeysRise}
use Rattle.mt_tree.specs.Range.{is_from, from}
use Rattle.mt_cli.specs.declared.request.Range.{Range}
use Rattle.mt_cli.specs.Ranges.{is_below_end, begins_with, has, is_in, range_of, IsStart}
use Rattle.mt_cli.specs.declared.ranges.Rest.{Rest}
use Rattle.mt_cli.specs.Steps.Showing.{HaveShown, front}

-- ---- order of keys
-- what is below a key that is not above another one is below the other one
below_not_above : (a b c : List ℕ) → IsBelow a b → ¬ IsBelow c b → IsBelow a c
below_not_above a b c h k = by (slice_cmp nat_cmp b c) refl
  where
    by : (o : Ordering) → slice_cmp nat_cmp b c ≡ o → IsBelow a c
    by Less e = below_trans a b c h (ap is_lt e)
    by Equal e = ap is_lt (nat_list_cmp_total.antisymm a c ∙ ap ordering_reverse (sym (nat_list_cmp_total.congr b c a e)) ∙ sym (nat_list_cmp_total.antisymm a b)) ∙ h
    by Greater e = absurd (k (ap is_lt (nat_list_cmp_total.antisymm c b ∙ ap ordering_reverse e)))

-- ---- keys that begin with a prefix
begins_is : (prefix key : List ℕ) → (starts_with nat_eq key prefix ≡ true → key ≡ prefix ++ drop (length prefix) key) × ((rest : List ℕ) → key ≡ prefix ++ rest → starts_with nat_eq key prefix ≡ true)
begins_is prefix key = starts_is Decides-eqb key prefix _ refl

-- none is below the prefix
begins_from : (prefix key : List ℕ) → starts_with nat_eq key prefix ≡ true → ¬ IsBelow key prefix
begins_from prefix key e less =
    let rest = drop (length prefix) key in
    let same : slice_cmp nat_cmp key prefix ≡ slice_cmp nat_cmp rest [] =
    (λ i. slice_cmp nat_cmp ((begins_is prefix key).0 e i) (sym (append-nil prefix) i)) ∙ slice_cmp-append prefix rest [] in
    never_below rest (sym (ap is_lt same) ∙ less)

-- between the prefix and a key that begins with it, all keys begin with it
between : (prefix rest x : List ℕ) → ¬ IsBelow x prefix → IsBelow x (prefix ++ rest) → (t : List ℕ) × (x ≡ prefix ++ t)
between [] rest x h k = (x, refl)
between (p ∷ prefix) rest [] h k = absurd (h refl)
between (p ∷ prefix) rest (a ∷ x) h k = by (between prefix rest x) (nat_cmp a p) refl
  where
    by : (¬ IsBelow x prefix → IsBelow x (prefix ++ rest) → (t : List ℕ) × (x ≡ prefix ++ t)) → (o : Ordering) → nat_cmp a p ≡ o → (t : List ℕ) × (a ∷ x ≡ (p ∷ prefix) ++ t)
    by tail Less e = absurd (h (rw e refl))
    by tail Equal e =
        let found = tail (λ less. h (rw e less)) (rw e at k) in
        let same : a ≡ p = ranked a p Equal (sym e) in
        (found.0, (λ i. same i ∷ found.1 i))
    by tail Greater e = let g : is_lt Greater ≡ true = rw e at k in cc

-- ---- what a range has
before_earlier : (to : Option (List ℕ)) (x y : List ℕ) → IsBelow x y → is_below_end to y ≡ true → is_below_end to x ≡ true
before_earlier None x y less e = refl
before_earlier (Some end) x y less e = below_trans x y end less e

begins_earlier : (prefix : Option (List ℕ)) (x y : List ℕ) → IfSome prefix (λ p. ¬ IsBelow x p) → IsBelow x y → begins_with prefix y ≡ true → begins_with prefix x ≡ true
begins_earlier None x y h less e = refl
begins_earlier (Some p) x y h less e =
    let whole = (begins_is p y).0 e in
    let found = between p (drop (length p) y) x h (subst (λ (z : List ℕ). IsBelow x z) whole less) in
    (begins_is p x).1 found.0 found.1

both : (a b : Bool) → (a && b) ≡ true → (a ≡ true) × (b ≡ true)
both true b e = (refl, e)
both false b e = cc

from_start : (prefix : Option (List ℕ)) (start x : List ℕ) → ¬ IsBelow x start → IfSome prefix (λ p. ¬ IsBelow start p) → IfSome prefix (λ p. ¬ IsBelow x p)
from_start None start x h k = k
from_start (Some p) start x h k = λ less. h (below_not_above x p start less k)

-- a key before one that the range has, at or after the range's start
has_earlier : (range : Range) (start x y : List ℕ) → IsStart range start → ¬ IsBelow x start → IsBelow x y → has range y ≡ true → has range x ≡ true
has_earlier range start x y is h less e =
    let parts = both (is_below_end range.to y) (begins_with range.prefix y) e in
    rw (before_earlier range.to x y less parts.0, begins_earlier range.prefix x y (from_start range.prefix start x h is.prefix) less parts.1) refl

-- ---- pairs of a range
at_or_after : (start : List ℕ) (pair : Pair) → ¬ IsBelow pair.0 start → is_from start pair ≡ true
at_or_after start pair h = let less = is_lt (slice_cmp nat_cmp pair.0 start) in not_from_false less (false_from_ne_true less h)

not_below : (start : List ℕ) (pair : Pair) → is_from start pair ≡ true → ¬ IsBelow pair.0 start
not_below start pair e less = false≢true (sym (not-true (is_lt (slice_cmp nat_cmp pair.0 start)) e) ∙ less)

is_from_start : (range : Range) (start : List ℕ) (pair : Pair) → IsStart range start → is_in range pair ≡ true → is_from start pair ≡ true
is_from_start range start pair is e = by is.one
  where
    parts : (is_from range.from pair ≡ true) × (has range pair.0 ≡ true)
    parts = both (is_from range.from pair) (has range pair.0) e

    by : (start ≡ range.from) ⊎ (range.prefix ≡ Some start) → is_from start pair ≡ true
    by (inl same) = rw same parts.0
    by (inr same) =
        let begins : begins_with (Some start) pair.0 ≡ true = ap (λ (p : Option (List ℕ)). begins_with p pair.0) (sym same) ∙ (both (is_below_end range.to pair.0) (begins_with range.prefix pair.0) parts.1).1 in
        at_or_after start pair (begins_from start pair.0 begins)

is_in_of : (range : Range) (start : List ℕ) (pair : Pair) → IsStart range start → is_from start pair ≡ true → is_in range pair ≡ has range pair.0
is_in_of range start pair is e =
    let after : is_from range.from pair ≡ true = at_or_after range.from pair (λ less. not_below start pair e (below_not_above pair.0 range.from start less is.from)) in
    rw after refl

-- after a key that the range does not have, it has none
gone : (range : Range) (start x : List ℕ) (walk : List Pair) → IsStart range start → ¬ IsBelow x start → has range x ≡ false → AllByRecursion (λ other. IsBelow x other.0) walk → filter (is_in range) walk ≡ []
gone range start x [] is h e above = refl
gone range start x (pair ∷ walk) is h e above = by (is_in range pair) refl (gone range start x walk is h e above.1)
  where
    by : (b : Bool) → is_in range pair ≡ b → filter (is_in range) walk ≡ [] → filter (is_in range) (pair ∷ walk) ≡ []
    by true f rest =
        let parts = both (is_from range.from pair) (has range pair.0) f in
        let g : true ≡ false = sym (has_earlier range start x pair.0 is h above.0 parts.1) ∙ e in
        cc
    by false f rest = rw f rest

-- ---- one stretch
stopped : (test : Pair → Bool) (n : ℕ) (pair : Pair) (pairs : List Pair) → test pair ≡ false → front test n (pair ∷ pairs) ≡ []
stopped test zero pair pairs e = refl
stopped test (suc n) pair pairs e = rw e refl

-- the pairs of a walk that a range has are the first ones at or after its start
pub stretch : (range : Range) (start : List ℕ) (n : ℕ) (walk : List Pair) → IsStart range start → KeysRise walk → front (λ pair. has range pair.0) n (from start walk) ≡ take n (filter (is_in range) walk)
stretch range start n [] is rise = sym (take-nil n)
stretch range start n (pair ∷ walk) is rise = by (λ k. stretch range start k walk is rise.1) (is_from start pair) (is_in range pair) (has range pair.0) refl refl refl
  where
    test : Pair → Bool
    test other = has range other.0

    by : ((k : ℕ) → front test k (from start walk) ≡ take k (filter (is_in range) walk)) → (a b c : Bool) → is_from start pair ≡ a → is_in range pair ≡ b → has range pair.0 ≡ c
        → front test n (from start (pair ∷ walk)) ≡ take n (filter (is_in range) (pair ∷ walk))
    by rest false false c e f g = rw (e, f) (rest n)
    by rest false true c e f g = let h : true ≡ false = sym (is_from_start range start pair is f) ∙ e in cc
    by rest true false true e f g = let h : true ≡ false = sym g ∙ sym (is_in_of range start pair is e) ∙ f in cc
    by rest true true false e f g = let h : true ≡ false = sym f ∙ is_in_of range start pair is e ∙ g in cc
    by rest true true true e f g = rw (e, f) (taken n rest)
      where
        taken : (n : ℕ) → ((k : ℕ) → front test k (from start walk) ≡ take k (filter (is_in range) walk)) → front test n (pair ∷ from start walk) ≡ take n (pair ∷ filter (is_in range) walk)
        taken zero rest = refl
        taken (suc n) rest = rw g (ap (λ z. pair ∷ z) (rest n))
    by rest true false false e f g =
        rw (e, f) (stopped test n pair (from start walk) g ∙ sym (ap (take n) (gone range start pair.0 walk is (not_below start pair e) g rise.0) ∙ take-nil n))

-- ---- the start
pub below_along : (a b x y : List ℕ) → a ≡ x → b ≡ y → IsBelow a b → IsBelow x y
below_along a b x y e f less = ap is_lt (λ i. slice_cmp nat_cmp (sym e i) (sym f i)) ∙ less

-- the start is this key, which is one of the two, and below none of them
pub starts_at : (range : Range) (prefix : Option (List ℕ)) (start key : List ℕ) → range.prefix ≡ prefix → start ≡ key → (key ≡ range.from) ⊎ (range.prefix ≡ Some key) → ¬ IsBelow key range.from → IfSome prefix (λ p. ¬ IsBelow key p)
    → IsStart range start
starts_at range prefix start key e same one from above =
    subst (IsStart range) (sym same) (record { one = one; from = from; prefix = subst (λ (z : Option (List ℕ)). IfSome z (λ p. ¬ IsBelow key p)) (sym e) above })

-- ---- what a walk from the start has shown
pub shows_range : {T : Type 0} (Shown : T → T → List Pair → Type 0) (old new : Rest T) (last : T) (start : List ℕ) (walk : List Pair) → IsStart old.range.now start → KeysRise walk → old.left ≡ old.range.now.count
    → HaveShown Shown old new (from start walk) → last ≡ new.target.now → Shown old.target.now last (range_of old.range.now walk)
shows_range Shown old new last start walk is rise count shown same =
    let pairs = ap (λ n. front (λ pair. has old.range.now pair.0) n (from start walk)) count ∙ stretch old.range.now start old.range.now.count walk is rise in
    subst (λ z. Shown old.target.now z (range_of old.range.now walk)) (sym same) (subst (Shown old.target.now new.target.now) pairs shown.shown)
