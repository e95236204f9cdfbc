-- Clashes of what stands at places.
use Rattle.std.proofs.Common.{◌≡◌, ◌⊎◌, ◌↔◌, inl, inr, ℕ, ◌<◌, true≢false, List, [], ◌∷◌, ◌++◌, length, Contains, refl, sym, ◌∙◌, subst, arith}
use Rattle.std.proofs.lemmas.List.Elements.{Contains-append_cases, Contains-append_left, Contains-append_right}
use Rattle.mt_words.specs.declared.update.Origin.TheVariants as origins
use Rattle.mt_words.specs.declared.update.Update.{Update}
use Rattle.mt_words.specs.Words.{IsBelow}
use Rattle.mt_words.proofs.Elements.{no_element, head_or_tail, head_in, tail_in}
use Rattle.mt_replay.specs.declared.clash.Place.{Place}
use Rattle.mt_replay.specs.Clashes.{Clash, Rises, IsLowerPlace, HasUpdateAt, IsClash, IsLowerClash, AreClashes}
use Rattle.mt_replay.specs.Steps.Auditor.{Standing, IsClashOf, AreClashesOf}
use Rattle.mt_replay.proofs.KeyOrder.{below_order}
use Rattle.mt_replay.proofs.StampLemmas.{before_apart}
use Rattle.mt_replay.proofs.Members.{of_each, all_from, all_append}

-- ---- lists that rise

-- a list that rises and one that rises above it make one
pub rises_append : {A : Type 0} (R : A → A → Type 0) (xs ys : List A) → Rises R xs → Rises R ys → ((a b : A) → Contains xs a → Contains ys b → R a b) → Rises R (xs ++ ys)
rises_append R [] ys rise too low = too
rises_append R (x ∷ xs) ys rise too low = (
  all_append (R x) xs ys rise.0 (all_from (R x) ys (λ y at. low x y (head_in x xs) at)),
  rises_append R xs ys rise.1 too (λ a b at here. low a b (tail_in x a xs at) here),
)

-- both parts of a list that rises, rise
pub rises_front : {A : Type 0} (R : A → A → Type 0) (xs ys : List A) → Rises R (xs ++ ys) → Rises R xs
rises_front R [] ys rise = tt
rises_front R (x ∷ xs) ys rise = (all_from (R x) xs (λ y at. of_each (R x) (xs ++ ys) y rise.0 (Contains-append_left xs ys y at)), rises_front R xs ys rise.1)

pub rises_back : {A : Type 0} (R : A → A → Type 0) (xs ys : List A) → Rises R (xs ++ ys) → Rises R ys
rises_back R [] ys rise = rise
rises_back R (x ∷ xs) ys rise = rises_back R xs ys rise.1

-- two lists that rise and have the same elements are one
one_list : {A : Type 0} (R : A → A → Type 0) → ((x y : A) → R x y → R y x → ⊥) → (xs ys : List A) → Rises R xs → Rises R ys → ((x : A) → Contains xs x ↔ Contains ys x) → xs ≡ ys
one_list R never [] [] rise too same = refl
one_list R never [] (y ∷ ys) rise too same = absurd (no_element y ((same y).1 (head_in y ys)))
one_list R never (x ∷ xs) [] rise too same = absurd (no_element x ((same x).0 (head_in x xs)))
one_list {A} R never (x ∷ xs) (y ∷ ys) rise too same =
    let first = heads (head_or_tail y x ys ((same x).0 (head_in x xs))) (head_or_tail x y xs ((same y).1 (head_in y ys))) in
    let rest = one_list R never xs ys rise.1 too.1 (λ z. (left first z, right first z)) in
    λ i. first i ∷ rest i
  where
    heads : (y ≡ x) ⊎ Contains ys x → (x ≡ y) ⊎ Contains xs y → x ≡ y
    heads one other = let up = of_each (R x) xs y rise.0 in let down = of_each (R y) ys x too.0 in let apart = never x y in grind arith

    left : x ≡ y → (z : A) → Contains xs z → Contains ys z
    left e z at = let either = head_or_tail y z ys ((same z).0 (tail_in x z xs at)) in let up = of_each (R x) xs z rise.0 at in let itself = never z z in grind arith

    right : x ≡ y → (z : A) → Contains ys z → Contains xs z
    right e z at = let either = head_or_tail x z xs ((same z).1 (tail_in y z ys at)) in let up = of_each (R y) ys z too.0 at in let itself = never z z in grind arith

-- ---- the orders

pub place_apart : (a b : Place) → IsLowerPlace a b → IsLowerPlace b a → ⊥
place_apart a b lt gt = before_apart (origins.Log a.log a.nth) (origins.Log b.log b.nth) lt gt

key_apart : (a b : List ℕ) → IsBelow a b → IsBelow b a → ⊥
key_apart a b lt gt = true≢false (sym gt ∙ below_order.one_way a b lt)

clash_apart : (a b : Clash) → IsLowerClash a b → IsLowerClash b a → ⊥
clash_apart a b p q = let never = key_apart a.key b.key in let itself = key_apart a.key a.key in grind arith

-- ---- what stands

-- a key and a version have at most one clash
pub one_clash_of : (S : Standing) (a b : Clash) → IsClashOf S a → IsClashOf S b → a.key ≡ b.key → a.version ≡ b.version → a ≡ b
one_clash_of S a b is too key version =
    let places = one_list IsLowerPlace place_apart a.places b.places is.rise too.rise (λ place. (
      λ at. (too.exact place).1 (subst (λ (k : List ℕ). S k b.version place) key (subst (λ (v : ℕ). S a.key v place) version ((is.exact place).0 at))),
      λ at. (is.exact place).1 (subst (λ (k : List ℕ). S k a.version place) (sym key) (subst (λ (v : ℕ). S b.key v place) (sym version) ((too.exact place).0 at))),
    )) in
    λ i. record { key = key i; version = version i; places = places i }

-- something stands at a place of a clash
some_place : (places : List Place) → 1 < length places → (place : Place) × Contains places place
some_place [] several = absurd (omega (arith, several))
some_place (p ∷ ps) several = (p, head_in p ps)

pub stands : (S : Standing) (clash : Clash) → IsClashOf S clash → (place : Place) × S clash.key clash.version place
stands S clash is = let some = some_place clash.places is.several in (some.0, (is.exact some.0).0 some.1)

-- a clash of one standing is one of another, if the same stands there at its key and version
same_clash : (S T : Standing) (clash : Clash) → ((place : Place) → S clash.key clash.version place ↔ T clash.key clash.version place) → IsClashOf S clash → IsClashOf T clash
same_clash S T clash same is = record {
  rise = is.rise;
  several = is.several;
  exact = λ place. (λ at. (same place).0 ((is.exact place).0 at), λ there. (is.exact place).1 ((same place).1 there));
}

pub same_clashes : (S T : Standing) (clashes : List Clash) → ((key : List ℕ) (version : ℕ) (place : Place) → S key version place ↔ T key version place) → AreClashesOf S clashes → AreClashesOf T clashes
same_clashes S T clashes same are = record {
  rise = are.rise;
  exact = λ clash. (
    λ at. same_clash S T clash (same clash.key clash.version) ((are.exact clash).0 at),
    λ is. (are.exact clash).1 (same_clash T S clash (λ place. let both = same clash.key clash.version place in (both.1, both.0)) is),
  );
}

-- where nothing stands there is no clash
pub no_clashes : (S : Standing) → ((clash : Clash) → IsClashOf S clash → ⊥) → AreClashesOf S []
no_clashes S none = record {
  rise = tt;
  exact = λ clash. (λ at. absurd (no_element clash at), λ is. absurd (none clash is));
}

-- a key and version are lower than others
abbrev pub IsLower : List ℕ → ℕ → List ℕ → ℕ → Type 0
IsLower key version other later = IsBelow key other ⊎ ((key ≡ other) × (version < later))

not_itself : (key : List ℕ) (version : ℕ) → IsLower key version key version → ⊥
not_itself key version lt = let itself = key_apart key key in grind arith

-- either stands
abbrev pub Either : Standing → Standing → Standing
Either S T key version place = S key version place ⊎ T key version place

-- the clashes of what stands lower and of what stands higher are those of both
pub clashes_append : (S T : Standing) (clashes others : List Clash) → ((k l : List ℕ) (v w : ℕ) (p q : Place) → S k v p → T l w q → IsLower k v l w) → AreClashesOf S clashes → AreClashesOf T others → AreClashesOf (Either S T) (clashes ++ others)
clashes_append S T clashes others low are too =
    let never : (key : List ℕ) (version : ℕ) (p q : Place) → S key version p → T key version q → ⊥ = λ key version p q s t. not_itself key version (low key key version version p q s t) in
    let first : (clash : Clash) (p : Place) → S clash.key clash.version p → (place : Place) → S clash.key clash.version place ↔ Either S T clash.key clash.version place = λ clash p s place. (
      λ h. inl h,
      λ either. elim either as (λ _. S clash.key clash.version place) [ inl h ↦ h | inr t ↦ absurd (never clash.key clash.version p place s t) ],
    ) in
    let second : (clash : Clash) (q : Place) → T clash.key clash.version q → (place : Place) → T clash.key clash.version place ↔ Either S T clash.key clash.version place = λ clash q t place. (
      λ h. inr h,
      λ either. elim either as (λ _. T clash.key clash.version place) [ inl s ↦ absurd (never clash.key clash.version place q s t) | inr h ↦ h ],
    ) in
    record {
      rise = rises_append IsLowerClash clashes others are.rise too.rise (λ a b at here.
          let s = stands S a ((are.exact a).0 at) in
          let t = stands T b ((too.exact b).0 here) in
          low a.key b.key a.version b.version s.0 t.0 s.1 t.1);
      exact = λ clash. (
        λ at. elim (Contains-append_cases clashes others clash at) as (λ _. IsClashOf (Either S T) clash) [
          | inl before ↦ let is = (are.exact clash).0 before in let s = stands S clash is in same_clash S (Either S T) clash (first clash s.0 s.1) is
          | inr here ↦ let is = (too.exact clash).0 here in let t = stands T clash is in same_clash T (Either S T) clash (second clash t.0 t.1) is
        ],
        λ is. let some = stands (Either S T) clash is in elim some.1 as (λ _. Contains (clashes ++ others) clash) [
          | inl s ↦ Contains-append_left clashes others clash ((are.exact clash).1 (same_clash (Either S T) S clash (λ place. let both = first clash some.0 s place in (both.1, both.0)) is))
          | inr t ↦ Contains-append_right clashes others clash ((too.exact clash).1 (same_clash (Either S T) T clash (λ place. let both = second clash some.0 t place in (both.1, both.0)) is))
        ],
      );
    }

-- ---- updates

clash_of_updates : (updates : List Update) (clash : Clash) → IsClash updates clash → IsClashOf (HasUpdateAt updates) clash
clash_of_updates updates clash is = record { rise = is.rise; several = is.several; exact = is.exact }

updates_of_clash : (updates : List Update) (clash : Clash) → IsClashOf (HasUpdateAt updates) clash → IsClash updates clash
updates_of_clash updates clash is = record { rise = is.rise; several = is.several; exact = is.exact }

pub clashes_of_updates : (updates : List Update) (clashes : List Clash) → AreClashes updates clashes → AreClashesOf (HasUpdateAt updates) clashes
clashes_of_updates updates clashes are = record {
  rise = are.rise;
  exact = λ clash. (λ at. clash_of_updates updates clash ((are.exact clash).0 at), λ is. (are.exact clash).1 (updates_of_clash updates clash is));
}

pub updates_of_clashes : (updates : List Update) (clashes : List Clash) → AreClashesOf (HasUpdateAt updates) clashes → AreClashes updates clashes
updates_of_clashes updates clashes are = record {
  rise = are.rise;
  exact = λ clash. (λ at. updates_of_clash updates clash ((are.exact clash).0 at), λ is. (are.exact clash).1 (clash_of_updates updates clash is));
}

-- what one of some updates is, one of others is, if those have it too
pub has_in : (updates others : List Update) (key : List ℕ) (version : ℕ) (place : Place) → (has : HasUpdateAt updates key version place) → Contains others has.update → HasUpdateAt others key version place
has_in updates others key version place has at = record { update = has.update; stands = at; of_key = has.of_key; of_version = has.of_version; of_record = has.of_record }

-- the same updates in another order have the same clashes
pub same_updates : (updates others : List Update) (clashes : List Clash) → ((u : Update) → Contains updates u ↔ Contains others u) → AreClashes updates clashes → AreClashes others clashes
same_updates updates others clashes same are = updates_of_clashes others clashes (same_clashes (HasUpdateAt updates) (HasUpdateAt others) clashes (λ key version place. (
  λ has. has_in updates others key version place has ((same has.update).0 has.stands),
  λ has. has_in others updates key version place has ((same has.update).1 has.stands),
)) (clashes_of_updates updates clashes are))

-- ---- there is one audit

pub one_clash : (updates : List Update) (clash other : Clash) → IsClash updates clash → IsClash updates other → clash.key ≡ other.key → clash.version ≡ other.version → clash ≡ other
one_clash updates clash other is too key version = one_clash_of (HasUpdateAt updates) clash other (clash_of_updates updates clash is) (clash_of_updates updates other too) key version

pub one_of_all : (updates : List Update) (clashes others : List Clash) → AreClashes updates clashes → AreClashes updates others → clashes ≡ others
one_of_all updates clashes others is too = one_list IsLowerClash clash_apart clashes others is.rise too.rise (λ clash. (λ at. (too.exact clash).1 ((is.exact clash).0 at), λ at. (is.exact clash).1 ((too.exact clash).0 at)))
