-- What was seen of the updates of one key, and the clashes of it.
use Rattle.std.proofs.Common.{◌≡◌, ◌↔◌, inl, inr, ℕ, zero, suc, leb, true, false, ◌<◌, ◌≤◌, Some, None, List, [], ◌∷◌, ◌++◌, length, map, take, drop, Contains, refl, sym, ap, ◌∙◌, subst, append_assoc, arith, IsPermutation}
use Rattle.std.specs.Prelude.{slice_index_or, slice_get, ◌&&◌, Bool, nat_eq}
use Rattle.std.specs.List.Sorted.{IsNonDecreasingBy, IsPartitionPoint, IsSorted, IsStrictlySortedBy}
use Rattle.std.proofs.lemmas.Bool.{leb-true, leb-false}
use Rattle.std.proofs.lemmas.List.{append-nil, length-map, take-append-drop}
use Rattle.std.proofs.lemmas.List.Elements.{All-contains, Contains-get_or, Contains-append_cases, Contains-append_left, Contains-append_right}
use Rattle.mt_words.specs.declared.update.Origin.{Origin}
use Rattle.mt_words.specs.declared.update.Origin.TheVariants.{Log, Checkpoint}
use Rattle.mt_words.specs.declared.update.Update.{Update}
use Rattle.mt_words.proofs.Elements.{no_element, head_or_tail, head_in, tail_in}
use Rattle.mt_replay.specs.declared.clash.Place.{Place}
use Rattle.mt_replay.specs.declared.auditor.Seen.{Seen}
use Rattle.mt_replay.specs.Clashes.{Clash, Rises, IsLowerPlace, HasUpdateAt}
use Rattle.mt_replay.specs.Steps.Auditor.{IsClashOf, AreClashesOf, IsLowerSeen, IsSeen, seen_by, seen_in, clash_at, AddClashes}
use Rattle.mt_replay.proofs.Members.{only, of_each, all_from, of_map, in_map, of_flat_map, in_flat_map}
use Rattle.mt_replay.proofs.FilterLemmas.{front, back}
use Rattle.mt_replay.proofs.ClashLemmas.{rises_front, rises_back, place_apart, stands, one_clash_of, no_clashes, same_clashes, clashes_append, Either}
use Rattle.std.specs.Cmp.{IsTotalOrder, unsigned_ties}
use Rattle.std.specs.Cmp.Derive.{Tied, tie, on_tied, then_tied}
use Rattle.std.specs.List.{dedup}
use Rattle.std.specs.Ordering.{nat_cmp, is_eq, eq_by_cmp, ordering_then}
use Rattle.std.specs.declared.cmp.Ordering.{Ordering}
use Rattle.std.specs.declared.cmp.Ordering.TheVariants.{Less}
use Rattle.std.proofs.lemmas.Cmp.{ranked, nat_cmp_total, on_total, then_total, eq_by_cmp_equiv}
use Rattle.std.proofs.lemmas.List.Kept.{Contains-dedup, Contains-from_dedup, IsStrictlySortedBy-dedup}
use Rattle.std.proofs.lemmas.List.Sorted.{IsPermutation-sym, Contains-permutation}

-- ---- what updates show

abbrev pub seen_at : ℕ → Place → Seen
seen_at version place = record { version = version; place = place }

of_origin : (version : ℕ) (origin : Origin) (one : Seen) → Contains (seen_by version origin) one → (version ≡ one.version) × (origin ≡ Log one.place.log one.place.nth)
of_origin version (Log log nth) one at = let e = only (seen_at version (record { log = log; nth = nth })) one at in (ap (λ (s : Seen). s.version) e, ap (λ (s : Seen). Log s.place.log s.place.nth) e)
of_origin version Checkpoint one at = absurd (no_element one at)

in_origin : (version : ℕ) (origin : Origin) (one : Seen) → version ≡ one.version → origin ≡ Log one.place.log one.place.nth → Contains (seen_by version origin) one
in_origin version origin one same is =
    subst (λ (o : Origin). Contains (seen_by version o) one) (sym is) (subst (λ (v : ℕ). Contains (seen_by v (Log one.place.log one.place.nth)) one) (sym same) (head_in one []))

-- what the updates of one key show stands exactly where they do
pub seen_stands : (updates : List Update) (own : List ℕ) → ((u : Update) → Contains updates u → u.key ≡ own) → (key : List ℕ) (version : ℕ) (place : Place) → IsSeen own (seen_in updates) key version place ↔ HasUpdateAt updates key version place
seen_stands updates own same_keys key version place = (
  λ seen.
      let from = of_flat_map (λ (u : Update). seen_by u.stamp.version u.stamp.origin) updates (seen_at version place) seen.1 in
      let u = from.0 in
      let is = of_origin u.stamp.version u.stamp.origin (seen_at version place) from.2 in
      record { update = u; stands = from.1; of_key = same_keys u from.1 ∙ seen.0; of_version = is.0; of_record = is.1 },
  λ has.
      let u = has.update in (
        sym (same_keys u has.stands) ∙ has.of_key,
        in_flat_map (λ (u : Update). seen_by u.stamp.version u.stamp.origin) updates u (seen_at version place) has.stands
            (in_origin u.stamp.version u.stamp.origin (seen_at version place) has.of_version has.of_record),
      ),
)

-- ---- one version

places_rise : (version : ℕ) (seen : List Seen) → Rises IsLowerSeen seen → ((one : Seen) → Contains seen one → one.version ≡ version) → Rises IsLowerPlace (map (λ (one : Seen). one.place) seen)
places_rise version [] rise same = tt
places_rise version (s ∷ ss) rise same = (
  all_from (IsLowerPlace s.place) (map (λ (one : Seen). one.place) ss) (λ place at.
      let one = of_map (λ (one : Seen). one.place) ss place at in
      let lower = of_each (IsLowerSeen s) ss one.0 rise.0 one.1 in
      let here = same s (head_in s ss) in
      let there = same one.0 (tail_in s one.0 ss one.1) in
      let low : IsLowerPlace s.place one.0.place = grind arith in
      subst (IsLowerPlace s.place) one.2 low),
  places_rise version ss rise.1 (λ one at. same one (tail_in s one ss at)),
)

-- what was seen of a key at one version more than once is its clash
pub one_version : (key : List ℕ) (version : ℕ) (seen : List Seen) → Rises IsLowerSeen seen → ((one : Seen) → Contains seen one → one.version ≡ version) → 1 < length seen → AreClashesOf (IsSeen key seen) (clash_at key version seen ∷ [])
one_version key version seen rise same several = record {
  rise = (tt, tt);
  exact = λ clash. (
    λ at. subst (IsClashOf (IsSeen key seen)) (only own clash at) is,
    λ other.
        let there = stands (IsSeen key seen) clash other in
        subst (Contains (own ∷ [])) (one_clash_of (IsSeen key seen) own clash is other there.1.0 (sym (same (seen_at clash.version there.0) there.1.1))) (head_in own []),
  );
}
  where
    own : Clash
    own = clash_at key version seen

    is : IsClashOf (IsSeen key seen) own
    is = record {
      rise = places_rise version seen rise same;
      several = omega (arith, several, length-map seen (λ (one : Seen). one.place));
      exact = λ place. (
        λ at.
            let one = of_map (λ (one : Seen). one.place) seen place at in
            let is_one : one.0 ≡ seen_at version place = λ i. seen_at (same one.0 one.1 i) (one.2 i) in
            (refl, subst (Contains seen) is_one one.1),
        λ at. in_map (λ (one : Seen). one.place) seen (seen_at version place) at.1,
      );
    }

only_one : (seen : List Seen) (a b : Seen) → length seen ≤ 1 → Contains seen a → Contains seen b → a ≡ b
only_one [] a b few at here = absurd (no_element a at)
only_one (s ∷ t ∷ ss) a b few at here = absurd (omega (arith, few))
only_one (s ∷ []) a b few at here = sym (only s a at) ∙ only s b here

-- what was seen once is no clash
pub once : (key : List ℕ) (seen : List Seen) → length seen ≤ 1 → AreClashesOf (IsSeen key seen) []
once key seen few = no_clashes (IsSeen key seen) (λ clash is. two clash clash.places is.rise is.several (λ place at. ((is.exact place).0 at).1))
  where
    two : (clash : Clash) (places : List Place) → Rises IsLowerPlace places → 1 < length places → ((place : Place) → Contains places place → Contains seen (seen_at clash.version place)) → ⊥
    two clash [] rise several from = omega (arith, several)
    two clash (p ∷ []) rise several from = omega (arith, several)
    two clash (p ∷ q ∷ ps) rise several from =
        let same = ap (λ (s : Seen). s.place) (only_one seen (seen_at clash.version p) (seen_at clash.version q) few (from p (head_in p (q ∷ ps))) (from q (tail_in p q (q ∷ ps) (head_in q ps)))) in
        let itself : IsLowerPlace p p = subst (IsLowerPlace p) (sym same) rise.0.0 in
        place_apart p p itself itself

-- ---- all versions of a key

-- nothing is left
pub none_added : (key : List ℕ) (rest : List Seen) (old : List Clash) → None ≡ slice_get rest 0 → AddClashes key rest old old
none_added key [] old none = record { added = []; appended = sym (append-nil old); are = once key [] (omega arith) }
none_added key (s ∷ rest) old none = absurd cc

-- the clashes at lower versions, and then those at higher ones
versions_added : (key : List ℕ) (same later : List Seen) (old mid new : List Clash) → ((a b : Seen) → Contains same a → Contains later b → a.version < b.version) → AddClashes key same old mid → AddClashes key later mid new
    → AddClashes key (same ++ later) old new
versions_added key same later old mid new apart lower higher = record {
  added = lower.added ++ higher.added;
  appended = higher.appended ∙ ap (λ (cs : List Clash). cs ++ higher.added) lower.appended ∙ append_assoc old lower.added higher.added;
  are = same_clashes (Either (IsSeen key same) (IsSeen key later)) (IsSeen key (same ++ later)) (lower.added ++ higher.added) (λ k v place. (
    λ either. elim either as (λ _. IsSeen key (same ++ later) k v place) [
      | inl s ↦ (s.0, Contains-append_left same later (seen_at v place) s.1)
      | inr t ↦ (t.0, Contains-append_right same later (seen_at v place) t.1)
    ],
    λ both. elim (Contains-append_cases same later (seen_at v place) both.1) as (λ _. Either (IsSeen key same) (IsSeen key later) k v place) [ inl s ↦ inl (both.0, s) | inr t ↦ inr (both.0, t) ],
  ))
      (clashes_append (IsSeen key same) (IsSeen key later) lower.added higher.added (λ k l v w p q s t. inr (sym s.0 ∙ t.0, apart (seen_at v p) (seen_at w q) s.1 t.1)) lower.are higher.are);
}

-- the first of what is left has the least version
pub least_first : (first : Seen) (rest : List Seen) (one : Seen) → Rises IsLowerSeen (first ∷ rest) → Contains (first ∷ rest) one → first.version ≤ one.version
least_first first rest one rise at = let either = head_or_tail first one rest at in let later = of_each (IsLowerSeen first) rest one rise.0 in grind arith

-- what was seen, in another order and each once, has the same clashes
pub of_kept : (key : List ℕ) (seen kept : List Seen) (old new : List Clash) → ((one : Seen) → Contains kept one ↔ Contains seen one) → AddClashes key kept old new → AddClashes key seen old new
of_kept key seen kept old new same adds = record {
  added = adds.added;
  appended = adds.appended;
  are = same_clashes (IsSeen key kept) (IsSeen key seen) adds.added (λ k v place. (λ s. (s.0, (same (seen_at v place)).0 s.1), λ s. (s.0, (same (seen_at v place)).1 s.1))) adds.are;
}

-- ---- where a version ends

-- the versions do not fall
pub versions_rise : (seen : List Seen) → Rises IsLowerSeen seen → IsNonDecreasingBy (λ (one : Seen). one.version) seen
versions_rise [] rise i j d le within = absurd (omega (arith, within))
versions_rise (s ∷ ss) rise zero zero d le within = omega arith
versions_rise (s ∷ ss) rise zero (suc j) d le within = least_first s ss (slice_index_or ss j d) rise (tail_in s (slice_index_or ss j d) ss (Contains-get_or ss j d (omega (arith, within))))
versions_rise (s ∷ ss) rise (suc i) zero d le within = absurd (omega (arith, le))
versions_rise (s ∷ ss) rise (suc i) (suc j) d le within = versions_rise ss rise.1 i j d (omega (arith, le)) (omega (arith, within))

-- the place up to which versions pass a test
pub up_to_point : (version : ℕ) (seen : List Seen) (i : ℕ) → IsPartitionPoint (λ (one : Seen). leb one.version version ≡ true) (λ (one : Seen). leb one.version version ≡ false) seen i
    → IsPartitionPoint (λ (one : Seen). one.version ≤ version) (λ (one : Seen). version < one.version) seen i
up_to_point version seen i at = (λ k d low lt. leb-true (slice_index_or seen k d).version version (at.0 k d low lt), λ k d low lt. leb-false (slice_index_or seen k d).version version (at.1 k d low lt))

-- ---- a step: those at the front that have the first one's version

module _ (rest same later : List Seen) (first : Seen) (i : ℕ) (front_is : same ≡ take i rest) (back_is : later ≡ drop i rest) (rise : Rises IsLowerSeen rest) where
  whole : same ++ later ≡ rest
  whole = (λ j. front_is j ++ back_is j) ∙ take-append-drop i rest

  rise_parts : Rises IsLowerSeen (same ++ later)
  rise_parts = subst (Rises IsLowerSeen) (sym whole) rise

  pub later_rise : Rises IsLowerSeen later
  later_rise = rises_back IsLowerSeen same later rise_parts

  least : (xs : List Seen) → Rises IsLowerSeen xs → Some first ≡ slice_get xs 0 → (one : Seen) → Contains xs one → first.version ≤ one.version
  least [] up is one at = absurd (no_element one at)
  least (x ∷ xs) up is one at = let low = least_first x xs one up at in let first_is : first ≡ x = cc in grind arith

  module _ (first_is : Some first ≡ slice_get rest 0) (point : IsPartitionPoint (λ (one : Seen). one.version ≤ first.version) (λ (one : Seen). first.version < one.version) rest i) where
    at_version : (one : Seen) → Contains same one → one.version ≡ first.version
    at_version one at =
        let most : one.version ≤ first.version = All-contains (λ (s : Seen). s.version ≤ first.version) (take i rest) one (front (λ (s : Seen). s.version ≤ first.version) rest i point.0) (subst (λ (ss : List Seen). Contains ss one) front_is at) in
        let there : Contains rest one = subst (λ (ss : List Seen). Contains ss one) whole (Contains-append_left same later one at) in
        omega (arith, most, least rest rise first_is one there)

    above : (one : Seen) → Contains later one → first.version < one.version
    above one at = All-contains (λ (s : Seen). first.version < s.version) (drop i rest) one (back (λ (s : Seen). first.version < s.version) rest i point.1) (subst (λ (ss : List Seen). Contains ss one) back_is at)

    module _ (key : List ℕ) (old new : List Clash) where
      step : (mid : List Clash) → AddClashes key same old mid → AddClashes key later mid new → AddClashes key rest old new
      step mid own more = subst (λ (ss : List Seen). AddClashes key ss old new) whole (versions_added key same later old mid new (λ a b at there. omega (arith, at_version a at, above b there)) own more)

      -- they are a clash
      pub step_several : 1 < length same → AddClashes key later (old ++ clash_at key first.version same ∷ []) new → AddClashes key rest old new
      step_several several = step (old ++ clash_at key first.version same ∷ []) (record {
        added = clash_at key first.version same ∷ [];
        appended = refl;
        are = one_version key first.version same (rises_front IsLowerSeen same later rise_parts) at_version several;
      })

      -- or one alone
      pub step_once : length same ≤ 1 → AddClashes key later old new → AddClashes key rest old new
      step_once few = step old (record { added = []; appended = sym (append-nil old); are = once key same few })

-- ---- the order: by version, then by log, then by record

abbrev pub seen_cmp : Seen → Seen → Ordering
seen_cmp a b = ordering_then (nat_cmp a.version b.version) (ordering_then (nat_cmp a.place.log b.place.log) (nat_cmp a.place.nth b.place.nth))

-- whether both are the same
abbrev pub are_same : Seen → Seen → Bool
are_same a b = nat_eq a.version b.version && (nat_eq a.place.log b.place.log && nat_eq a.place.nth b.place.nth)

seen_total : IsTotalOrder seen_cmp
seen_total = then_total (on_total (λ (s : Seen). s.version) nat_cmp_total) (then_total (on_total (λ (s : Seen). s.place.log) nat_cmp_total) (on_total (λ (s : Seen). s.place.nth) nat_cmp_total))

seen_tied : Tied are_same seen_cmp
seen_tied = then_tied (on_tied (λ (s : Seen). s.version) (tie nat_cmp unsigned_ties)) (then_tied (on_tied (λ (s : Seen). s.place.log) (tie nat_cmp unsigned_ties)) (on_tied (λ (s : Seen). s.place.nth) (tie nat_cmp unsigned_ties)))

lower_by : (a b : Seen) (v l n : Ordering) → v ≡ nat_cmp a.version b.version → l ≡ nat_cmp a.place.log b.place.log → n ≡ nat_cmp a.place.nth b.place.nth → ordering_then v (ordering_then l n) ≡ Less → IsLowerSeen a b
lower_by a b v l n e f g is =
    let version = ranked a.version b.version v e in
    let log = ranked a.place.log b.place.log l f in
    let nth = ranked a.place.nth b.place.nth n g in
    grind arith

same_by : (a b : Seen) (v l n : Ordering) → v ≡ nat_cmp a.version b.version → l ≡ nat_cmp a.place.log b.place.log → n ≡ nat_cmp a.place.nth b.place.nth → is_eq (ordering_then v (ordering_then l n)) ≡ true → a ≡ b
same_by a b v l n e f g is =
    let version = ranked a.version b.version v e in
    let log = ranked a.place.log b.place.log l f in
    let nth = ranked a.place.nth b.place.nth n g in
    grind arith

strictly_rises : (seen : List Seen) → IsStrictlySortedBy seen_cmp seen → Rises IsLowerSeen seen
unfolding IsStrictlySortedBy
strictly_rises [] sorted = tt
strictly_rises (s ∷ ss) sorted = (
  all_from (IsLowerSeen s) ss (λ one at. lower_by s one (nat_cmp s.version one.version) (nat_cmp s.place.log one.place.log) (nat_cmp s.place.nth one.place.nth) refl refl refl (of_each (λ (y : Seen). seen_cmp s y ≡ Less) ss one sorted.0 at)),
  strictly_rises ss sorted.1,
)

-- to tell them apart by `==` or by the order is the same
by_order : (seen : List Seen) → dedup are_same seen ≡ dedup (eq_by_cmp seen_cmp) seen
by_order seen = λ i. dedup (λ x y. seen_tied.ties x y i) seen

-- what was sorted and kept once each rises
pub kept_rise : (sorted kept : List Seen) → IsSorted seen_cmp sorted → kept ≡ dedup are_same sorted → Rises IsLowerSeen kept
kept_rise sorted kept up is = subst (Rises IsLowerSeen) (sym (is ∙ by_order sorted)) (strictly_rises (dedup (eq_by_cmp seen_cmp) sorted) (IsStrictlySortedBy-dedup seen_total (λ x y. refl) sorted up))

-- and nothing else was kept or lost
pub kept_same : (seen sorted kept : List Seen) → IsPermutation seen sorted → kept ≡ dedup are_same sorted → (one : Seen) → Contains kept one ↔ Contains seen one
kept_same seen sorted kept moved is one = (
  λ at. Contains-permutation sorted seen one (IsPermutation-sym seen sorted moved) (Contains-from_dedup are_same sorted one (subst (λ (ss : List Seen). Contains ss one) is at)),
  λ at. subst (λ (ss : List Seen). Contains ss one) (sym (is ∙ by_order sorted)) (Contains-dedup (eq_by_cmp_equiv seen_total)
      (λ x y same. same_by x y (nat_cmp x.version y.version) (nat_cmp x.place.log y.place.log) (nat_cmp x.place.nth y.place.nth) refl refl refl same) sorted one (Contains-permutation seen sorted one moved at)),
)
