-- The groups of parts, part by part.
use Rattle.std.proofs.Common.{◌≡◌, ◌≢◌, ◌∙◌, inl, inr, ℕ, Bool, true, false, cond, List, [], ◌∷◌, ◌++◌, Some, refl, sym, ap, subst}
use Rattle.std.specs.Ordering.{nat_cmp, is_eq}
use Rattle.std.specs.BTreeMap.{BTreeMap, get}
use Rattle.std.proofs.lemmas.Bool.{cases_eq, eq-eqb, ne_eqb, false_from_ne_true}
use Rattle.std.proofs.lemmas.List.{append-nil}
use Rattle.std.proofs.lemmas.List.Elements.{filter-append, Contains-push, Contains-append_left}
use Rattle.std.proofs.lemmas.Map.Lookups.{exact_unsigned}
use Rattle.std.proofs.lemmas.Map.Views.{tells_apart}
use Rattle.mt_record.specs.Parts.{PartReading}
use Rattle.mt_scan.specs.PartScans.{KnownPart, whole, broken}
use Rattle.mt_scan.specs.Choice.{belongs_to, parts_of}
use Rattle.mt_scan.specs.Steps.Groups.{IsPartGroupOf, IsGroupAt, AreGroupsOf}
use Rattle.mt_scan.specs.declared.group.PartGroup.{PartGroup}
use Rattle.mt_scan.specs.declared.group.PartGroup.TheVariants as groups

-- the groups of all other numbers are unchanged
abbrev pub AreOthers : BTreeMap ℕ PartGroup → BTreeMap ℕ PartGroup → ℕ → Type 0
AreOthers old new number = (q : ℕ) → is_eq (nat_cmp number q) ≡ false → get nat_cmp new q ≡ get nat_cmp old q

differ : (n q : ℕ) → n ≢ q → is_eq (nat_cmp n q) ≡ false
differ n q other = false_from_ne_true (is_eq (nat_cmp n q)) (λ e. other (tells_apart exact_unsigned n q e))

parts_with : (q : ℕ) (parts : List KnownPart) (part : KnownPart) → belongs_to q part ≡ true → parts_of q (parts ++ part ∷ []) ≡ parts_of q parts ++ part ∷ []
parts_with q parts part belongs = filter-append (belongs_to q) parts (part ∷ []) ∙ ap (λ (b : Bool). parts_of q parts ++ cond b (part ∷ []) []) belongs

parts_without : (q : ℕ) (parts : List KnownPart) (part : KnownPart) → belongs_to q part ≡ false → parts_of q (parts ++ part ∷ []) ≡ parts_of q parts
parts_without q parts part other = filter-append (belongs_to q) parts (part ∷ []) ∙ ap (λ (b : Bool). parts_of q parts ++ cond b (part ∷ []) []) other ∙ append-nil (parts_of q parts)

-- the part belongs to the checkpoint with this number and to no other
pub record IsOf (number : ℕ) (part : KnownPart) : Type 0 where
  pub own : belongs_to number part ≡ true
  pub alone : (q : ℕ) → number ≢ q → belongs_to q part ≡ false

pub whole_is_of : (part : PartReading) → IsOf part.number (whole part)
whole_is_of part = record { own = eq-eqb part.number part.number refl; alone = λ q other. ne_eqb part.number q other }

pub broken_is_of : (number entries : ℕ) → IsOf number (broken number entries)
broken_is_of number entries = record { own = eq-eqb number number refl; alone = λ q other. ne_eqb number q other }

-- one more part of a checkpoint changes the group of that checkpoint, and no other
pub groups_more : (parts : List KnownPart) (part : KnownPart) (number : ℕ) (old new : BTreeMap ℕ PartGroup) → IsOf number part → IsGroupAt (parts_of number parts ++ part ∷ []) (get nat_cmp new number)
    → AreOthers old new number → AreGroupsOf parts old → AreGroupsOf (parts ++ part ∷ []) new
groups_more parts part number old new is own others are q = elim (cases_eq number q) as (λ _. IsGroupAt (parts_of q (parts ++ part ∷ [])) (get nat_cmp new q)) [
  | inl e ↦ subst (λ (n : ℕ). IsGroupAt (parts_of n (parts ++ part ∷ [])) (get nat_cmp new n)) e
      (subst (λ (x : List KnownPart). IsGroupAt x (get nat_cmp new number)) (sym (parts_with number parts part is.own)) own)
  | inr other ↦
      let there = subst (λ (x : List KnownPart). IsGroupAt x (get nat_cmp old q)) (sym (parts_without q parts part (is.alone q other))) (are q) in
      subst (IsGroupAt (parts_of q (parts ++ part ∷ []))) (sym (others q (differ number q other))) there
]

-- a broken part makes the group of its checkpoint a broken one
pub broken_more : (parts : List KnownPart) (number entries : ℕ) (old new : BTreeMap ℕ PartGroup) → get nat_cmp new number ≡ Some groups.Broken → AreOthers old new number → AreGroupsOf parts old
    → AreGroupsOf (parts ++ broken number entries ∷ []) new
broken_more parts number entries old new is others are =
    groups_more parts (broken number entries) number old new (broken_is_of number entries)
    (subst (IsGroupAt (parts_of number parts ++ broken number entries ∷ [])) (sym is) (number, entries, Contains-push (parts_of number parts) (broken number entries))) others are

-- a group that exists gets one more complete part
pub whole_more : (parts : List KnownPart) (part : PartReading) (old new : BTreeMap ℕ PartGroup) (before after : PartGroup) → get nat_cmp old part.number ≡ Some before → get nat_cmp new part.number ≡ Some after
    → AreOthers old new part.number → ((own : List KnownPart) → IsPartGroupOf own before → IsPartGroupOf (own ++ whole part ∷ []) after) → AreGroupsOf parts old → AreGroupsOf (parts ++ whole part ∷ []) new
whole_more parts part old new before after was is others adds are =
    let number : ℕ = part.number in
    let there = subst (IsGroupAt (parts_of number parts)) was (are number) in
    groups_more parts (whole part) number old new (whole_is_of part) (subst (IsGroupAt (parts_of number parts ++ whole part ∷ [])) (sym is) (adds (parts_of number parts) there)) others are

-- a broken group stays broken
pub stays_broken : (parts : List KnownPart) (part : KnownPart) → IsPartGroupOf parts groups.Broken → IsPartGroupOf (parts ++ part ∷ []) groups.Broken
stays_broken parts part is = (is.0, is.1, Contains-append_left parts (part ∷ []) (broken is.0 is.1) is.2)
