-- The positions of the nameless parts, part by part.
use Rattle.std.proofs.Common.{◌≡◌, ◌∙◌, ◌⊎◌, inl, inr, ℕ, zero, suc, ◌+◌, ◌<◌, List, [], ◌∷◌, ◌++◌, length, get_or, take, map, Contains, Some, refl, sym, ap, subst, arith}
use Rattle.std.specs.List.{slice_get}
use Rattle.std.proofs.lemmas.List.{length-map, length-take-le, map_push, take_more}
use Rattle.std.proofs.lemmas.List.Elements.{Contains-push, Contains-push_cases, Contains-append_left}
use Rattle.std.proofs.lemmas.Option.{slice_get_within, same_Some}
use Rattle.mt_scan.specs.PartScans.{KnownPart, nameless}
use Rattle.mt_scan.specs.PartsShown.{known_by}
use Rattle.mt_scan.specs.Choice.{AreNameless}
use Rattle.mt_scan.specs.declared.part_scan.PartScan.{PartScan}
use Rattle.mt_scan.specs.declared.part_scan.PartScan.TheVariants as scans
use Rattle.mt_scan.proofs.SelectionLemmas.{increasing_push}

at_push : {A : Type 0} (xs : List A) (x y : A) (j : ℕ) → slice_get (xs ++ x ∷ []) j ≡ Some y → (slice_get xs j ≡ Some y) ⊎ ((j ≡ length xs) × (x ≡ y))
at_push [] x y zero e = inr (refl, same_Some x y e)
at_push [] x y (suc j) e = cc
at_push (z ∷ zs) x y zero e = inl e
at_push (z ∷ zs) x y (suc j) e = elim (at_push zs x y j e) as (λ _. (slice_get zs j ≡ Some y) ⊎ ((suc j ≡ suc (length zs)) × (x ≡ y))) [ inl before ↦ inl before | inr last ↦ inr (ap suc last.0, last.1) ]

before_push : {A : Type 0} (xs : List A) (x y : A) (j : ℕ) → slice_get xs j ≡ Some y → slice_get (xs ++ x ∷ []) j ≡ Some y
before_push [] x y j e = cc
before_push (z ∷ zs) x y zero e = e
before_push (z ∷ zs) x y (suc j) e = before_push zs x y j e

last_push : {A : Type 0} (xs : List A) (x : A) → slice_get (xs ++ x ∷ []) (length xs) ≡ Some x
last_push [] x = refl
last_push (z ∷ zs) x = last_push zs x

-- one more part that is nameless
nameless_push : (parts : List KnownPart) (positions : List ℕ) → AreNameless parts positions → AreNameless (parts ++ nameless ∷ []) (positions ++ length parts ∷ [])
nameless_push parts positions are = record {
  rise = increasing_push positions (length parts) are.rise (λ m at. slice_get_within parts m nameless ((are.exact m).0 at));
  exact = λ j. (
    λ at. elim (Contains-push_cases positions (length parts) j at) as (λ _. slice_get (parts ++ nameless ∷ []) j ≡ Some nameless) [
      | inl before ↦ before_push parts nameless nameless j ((are.exact j).0 before)
      | inr e ↦ subst (λ (n : ℕ). slice_get (parts ++ nameless ∷ []) n ≡ Some nameless) e (last_push parts nameless)
    ],
    λ e. elim (at_push parts nameless nameless j e) as (λ _. Contains (positions ++ length parts ∷ []) j) [
      | inl before ↦ Contains-append_left positions (length parts ∷ []) j ((are.exact j).1 before)
      | inr last ↦ subst (λ (n : ℕ). Contains (positions ++ length parts ∷ []) n) (sym last.0) (Contains-push positions (length parts))
    ],
  );
}

-- one more part that is not nameless
nameless_same : (parts : List KnownPart) (part : KnownPart) (positions : List ℕ) → (part ≡ nameless → ⊥) → AreNameless parts positions → AreNameless (parts ++ part ∷ []) positions
nameless_same parts part positions other are = record {
  rise = are.rise;
  exact = λ j. (
    λ at. before_push parts part nameless j ((are.exact j).0 at),
    λ e. elim (at_push parts part nameless j e) as (λ _. Contains positions j) [ inl before ↦ (are.exact j).1 before | inr last ↦ absurd (other last.1) ],
  );
}

known_nameless : (scan : PartScan) → known_by scan ≡ nameless → scan ≡ scans.Nameless
known_nameless (scans.Whole text) e = cc
known_nameless (scans.Broken number entries) e = cc
known_nameless scans.Nameless e = refl

module _ (all : List PartScan) (i : ℕ) (scan : PartScan) (fits : i < length all) (at : scan ≡ get_or all i scan) (positions : List ℕ) (are : AreNameless (map known_by (take i all)) positions) where
  known_more : map known_by (take (i + 1) all) ≡ map known_by (take i all) ++ known_by scan ∷ []
  known_more = ap (λ (xs : List PartScan). map known_by xs) (take_more all i scan fits ∙ ap (λ (x : PartScan). take i all ++ x ∷ []) (sym at)) ∙ map_push known_by (take i all) scan

  pub position_more : scan ≡ scans.Nameless → AreNameless (map known_by (take (i + 1) all)) (positions ++ i ∷ [])
  position_more e =
      let long : length (map known_by (take i all)) ≡ i = omega (arith, length-map (take i all) known_by, length-take-le i all (omega (arith, fits))) in
      let part : map known_by (take (i + 1) all) ≡ map known_by (take i all) ++ nameless ∷ [] = known_more ∙ ap (λ (x : PartScan). map known_by (take i all) ++ known_by x ∷ []) e in
      subst (λ (parts : List KnownPart). AreNameless parts (positions ++ i ∷ [])) (sym part)
      (subst (λ (n : ℕ). AreNameless (map known_by (take i all) ++ nameless ∷ []) (positions ++ n ∷ [])) long (nameless_push (map known_by (take i all)) positions are))

  pub position_same : (scan ≡ scans.Nameless → ⊥) → AreNameless (map known_by (take (i + 1) all)) positions
  position_same other =
      subst (λ (parts : List KnownPart). AreNameless parts positions) (sym known_more)
      (nameless_same (map known_by (take i all)) (known_by scan) positions (λ e. other (known_nameless scan e)) are)
