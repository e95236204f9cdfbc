-- The selection of the best checkpoint, group by group.
use Rattle.std.proofs.Common.{◌≡◌, ◌↔◌, ◌⊎◌, inl, inr, ℕ, ◌+◌, ◌<◌, List, [], ◌∷◌, ◌++◌, length, get_or, map, Contains, Option, Some, None, refl, sym, ap, subst, nat_cmp, arith}
use Rattle.std.specs.List.Sorted.{IsStrictlyIncreasing, IsStrictlySortedBy}
use Rattle.std.specs.Ordering.{MatchOrdering}
use Rattle.std.specs.declared.cmp.Ordering.{Ordering}
use Rattle.std.specs.declared.cmp.Ordering.TheVariants.{Less}
use Rattle.std.specs.Map.{keys_of}
use Rattle.std.proofs.lemmas.Bool.{cases_lt}
use Rattle.std.proofs.lemmas.Cmp.{ranked}
use Rattle.std.proofs.lemmas.List.{length_push, get_or_push, get_or_append_left}
use Rattle.std.proofs.lemmas.List.Elements.{Contains-push, Contains-push_cases, Contains-append_left, Contains-get_or}
use Rattle.std.proofs.lemmas.List.Sorted.{IsPermutation-sym, IsPermutation-trans}
use Rattle.mt_record.specs.Parts.{PartReading}
use Rattle.mt_scan.specs.PartScans.{whole}
use Rattle.mt_scan.specs.PartsShown.{shown_by_all}
use Rattle.mt_scan.specs.Choice.{CheckpointReading, AreInPlace, AreItsParts, IsNoBetter}
use Rattle.mt_scan.specs.Choosing.{checkpoint_in}
use Rattle.mt_scan.specs.Steps.Checkpoints.{AreSameTexts}
use Rattle.mt_scan.specs.Steps.Groups.{HasCheckpoint, HasNone, IsCheckpointOf}
use Rattle.mt_scan.specs.Steps.Selections.{GroupsBelow, IsOffered, IsPassed, IsBestOf, IsSelectionOf, IsNoWorse}
use Rattle.mt_scan.specs.declared.checkpoint.Checkpoint.{Checkpoint}
use Rattle.mt_scan.specs.declared.selection.Selection.{Selection}
use Rattle.mt_scan.specs.declared.group.PartGroup.{PartGroup}
use Rattle.mt_scan.specs.declared.group.PartGroup.TheVariants as groups
use Rattle.mt_scan.proofs.KeysInOrder.{keys_below}
use Rattle.mt_scan.proofs.OneChoice.{are_numbered, same_texts, same_times}

-- ---- one group

abbrev pub Entry : Type 0
Entry = ℕ × PartGroup

-- two checkpoints that the same parts make up have the same begin and end
same_times_of : (a b : CheckpointReading) (xs ys : List PartReading) → AreItsParts xs a → AreItsParts ys b → AreSameTexts xs ys → (a.begin ≡ b.begin) × (a.end ≡ b.end)
same_times_of a b xs ys of_a of_b same =
    let texts : xs ≡ ys = same_texts xs ys (are_numbered a (length xs) xs of_a.in_place) (are_numbered b (length ys) ys of_b.in_place) same in
    same_times a b (length xs) (length ys) xs of_a.in_place (subst (λ (zs : List PartReading). AreInPlace b (length ys) 0 zs) (sym texts) of_b.in_place) of_a.some

-- all checkpoints that a group can make up end when the one made of it does
one_end : (number : ℕ) (group : PartGroup) (made : Checkpoint) (other : CheckpointReading) → IsCheckpointOf number group made → HasCheckpoint group other → other.end ≡ made.end
one_end number (groups.Whole texts) made other is has =
    let parts : List PartReading = shown_by_all made.parts.items in
    let same : AreSameTexts has.ordered parts =
    IsPermutation-trans (map whole has.ordered) (map whole (shown_by_all texts.items)) (map whole parts) (IsPermutation-sym (map whole (shown_by_all texts.items)) (map whole has.ordered) has.same) is.same in
    (same_times_of other (checkpoint_in made) has.ordered parts has.make_up is.make_up same).1
one_end number groups.Broken made other is has = absurd is

made_number : (number : ℕ) (group : PartGroup) (made : Checkpoint) → IsCheckpointOf number group made → made.number ≡ number
made_number number (groups.Whole texts) made is = is.number_is
made_number number groups.Broken made is = absurd is

made_has : (number : ℕ) (group : PartGroup) (made : Checkpoint) → IsCheckpointOf number group made → HasCheckpoint group (checkpoint_in made)
made_has number (groups.Whole texts) made is = record { ordered = shown_by_all made.parts.items; same = is.same; make_up = is.make_up }
made_has number groups.Broken made is = absurd is

-- ---- one more group

-- among the groups with one more at the end, each is an earlier one or the last one
last_or_before : (all : List Entry) (number : ℕ) (group : PartGroup) (entry : Entry) → Contains (all ++ (number, group) ∷ []) entry → Contains all entry ⊎ ((number ≡ entry.0) × (group ≡ entry.1))
last_or_before all number group entry at = elim (Contains-push_cases all (number, group) entry at) as (λ _. Contains all entry ⊎ ((number ≡ entry.0) × (group ≡ entry.1))) [
  | inl before ↦ inl before
  | inr e ↦ inr (ap (λ (x : Entry). x.0) e, ap (λ (x : Entry). x.1) e)
]

offered_more : (all : List Entry) (number : ℕ) (group : PartGroup) (cutoff : ℕ) (checkpoint : CheckpointReading) → IsOffered all cutoff checkpoint → IsOffered (all ++ (number, group) ∷ []) cutoff checkpoint
offered_more all number group cutoff checkpoint is =
    record { group = is.group; stands = Contains-append_left all ((number, group) ∷ []) (checkpoint.number, is.group) is.stands; has = is.has; ends_below = is.ends_below }

-- a checkpoint that is offered was offered before, or belongs to the last group
pub record IsLast (number : ℕ) (group : PartGroup) (cutoff : ℕ) (checkpoint : CheckpointReading) : Type 0 where
  pub number_is : checkpoint.number ≡ number
  pub has : HasCheckpoint group checkpoint
  pub ends_below : checkpoint.end < cutoff

offered_cases : (all : List Entry) (number : ℕ) (group : PartGroup) (cutoff : ℕ) (checkpoint : CheckpointReading) → IsOffered (all ++ (number, group) ∷ []) cutoff checkpoint
    → IsOffered all cutoff checkpoint ⊎ IsLast number group cutoff checkpoint
offered_cases all number group cutoff checkpoint is =
    elim (last_or_before all number group (checkpoint.number, is.group) is.stands) as (λ _. IsOffered all cutoff checkpoint ⊎ IsLast number group cutoff checkpoint) [
      | inl before ↦ inl (record { group = is.group; stands = before; has = is.has; ends_below = is.ends_below })
      | inr e ↦ inr (record { number_is = sym e.0; has = subst (λ (g : PartGroup). HasCheckpoint g checkpoint) (sym e.1) is.has; ends_below = is.ends_below })
    ]

-- if the last group has a checkpoint, the numbers of groups without one are those before
passed_same : (all : List Entry) (number : ℕ) (group : PartGroup) (checkpoint : CheckpointReading) (n : ℕ) → HasCheckpoint group checkpoint → IsPassed (all ++ (number, group) ∷ []) n ↔ IsPassed all n
passed_same all number group checkpoint n has = (
  λ is. elim (last_or_before all number group (n, is.group) is.stands) as (λ _. IsPassed all n) [
    | inl before ↦ record { group = is.group; stands = before; none = is.none }
    | inr e ↦ absurd (is.none checkpoint (subst (λ (g : PartGroup). HasCheckpoint g checkpoint) e.1 has))
  ],
  λ is. record { group = is.group; stands = Contains-append_left all ((number, group) ∷ []) (n, is.group) is.stands; none = is.none },
)

-- if the last group has no checkpoint, the numbers of groups without one are those before, and its own
passed_more : (all : List Entry) (number : ℕ) (group : PartGroup) (n : ℕ) → HasNone group → IsPassed (all ++ (number, group) ∷ []) n ↔ (IsPassed all n ⊎ (number ≡ n))
passed_more all number group n none = (
  λ is. elim (last_or_before all number group (n, is.group) is.stands) as (λ _. IsPassed all n ⊎ (number ≡ n)) [
    | inl before ↦ inl (record { group = is.group; stands = before; none = is.none })
    | inr e ↦ inr e.0
  ],
  λ s. elim s as (λ _. IsPassed (all ++ (number, group) ∷ []) n) [
    | inl is ↦ record { group = is.group; stands = Contains-append_left all ((number, group) ∷ []) (n, is.group) is.stands; none = is.none }
    | inr e ↦ record { group = group; stands = subst (λ (m : ℕ). Contains (all ++ (number, group) ∷ []) (m, group)) e (Contains-push all (number, group)); none = none }
  ],
)

-- the best checkpoint stays the same if the last group has none
best_same : (all : List Entry) (number : ℕ) (group : PartGroup) (cutoff : ℕ) (best : Option Checkpoint) → HasNone group → IsBestOf all cutoff best → IsBestOf (all ++ (number, group) ∷ []) cutoff best
best_same all number group cutoff None none is = λ other offered. elim (offered_cases all number group cutoff other offered) as (λ _. ⊥) [ inl before ↦ is other before | inr last ↦ none other last.has ]
best_same all number group cutoff (Some best) none is = (
  offered_more all number group cutoff (checkpoint_in best) is.0,
  λ other offered. elim (offered_cases all number group cutoff other offered) as (λ _. IsNoBetter other (checkpoint_in best)) [ inl before ↦ is.1 other before | inr last ↦ absurd (none other last.has) ],
)

module _ (all : List Entry) (number : ℕ) (group : PartGroup) (cutoff : ℕ) (made : Checkpoint) (is_of : IsCheckpointOf number group made) (below : GroupsBelow all number) where
  offered : made.end < cutoff → IsOffered (all ++ (number, group) ∷ []) cutoff (checkpoint_in made)
  offered ends = record {
    group = group;
    stands = subst (λ (n : ℕ). Contains (all ++ (number, group) ∷ []) (n, group)) (sym (made_number number group made is_of)) (Contains-push all (number, group));
    has = made_has number group made is_of;
    ends_below = ends;
  }

  -- no other checkpoint of the group is better
  no_other : (other : CheckpointReading) → IsLast number group cutoff other → IsNoBetter other (checkpoint_in made)
  no_other other last =
      let e = one_end number group made other is_of last.has in
      inr (e, omega (arith, last.number_is, made_number number group made is_of))

  -- the checkpoint made of the group is the best now
  best_taken : (best : Option Checkpoint) → IsBestOf all cutoff best → IsNoWorse cutoff best made → IsBestOf (all ++ (number, group) ∷ []) cutoff (Some made)
  best_taken None is no_worse = (
    offered no_worse,
    λ other now. elim (offered_cases all number group cutoff other now) as (λ _. IsNoBetter other (checkpoint_in made)) [ inl before ↦ absurd (is other before) | inr last ↦ no_other other last ],
  )
  best_taken (Some best) is no_worse = (
    offered no_worse.0,
    λ other now. elim (offered_cases all number group cutoff other now) as (λ _. IsNoBetter other (checkpoint_in made)) [
      | inl before ↦
          let lesser : other.number < number = below (other.number, before.group) before.stands in
          let own = made_number number group made is_of in
          elim (is.1 other before) as (λ _. IsNoBetter other (checkpoint_in made)) [
            | inl less ↦ inl (omega (arith, less, no_worse.1))
            | inr same ↦ elim (cases_lt other.end made.end) as (λ _. IsNoBetter other (checkpoint_in made)) [
              | inl less ↦ inl less
              | inr above ↦ inr (omega (arith, above, same.0, no_worse.1), omega (arith, lesser, own))
            ]
          ]
      | inr last ↦ no_other other last
    ],
  )

  -- the best so far remains the best
  best_left : (best : Option Checkpoint) → IsBestOf all cutoff best → (IsNoWorse cutoff best made → ⊥) → IsBestOf (all ++ (number, group) ∷ []) cutoff best
  best_left None is worse = λ other now. elim (offered_cases all number group cutoff other now) as (λ _. ⊥) [
    | inl before ↦ is other before
    | inr last ↦ let e = one_end number group made other is_of last.has in worse (omega (arith, e, last.ends_below))
  ]
  best_left (Some best) is worse = (
    offered_more all number group cutoff (checkpoint_in best) is.0,
    λ other now. elim (offered_cases all number group cutoff other now) as (λ _. IsNoBetter other (checkpoint_in best)) [
      | inl before ↦ is.1 other before
      | inr last ↦
          let e = one_end number group made other is_of last.has in
          let ends : made.end < cutoff = omega (arith, e, last.ends_below) in
          elim (cases_lt made.end best.end) as (λ _. IsNoBetter other (checkpoint_in best)) [ inl less ↦ inl (omega (arith, e, less)) | inr above ↦ absurd (worse (ends, above)) ]
    ],
  )

no_worse_or_not : (cutoff : ℕ) (best : Option Checkpoint) (made : Checkpoint) → IsNoWorse cutoff best made ⊎ (IsNoWorse cutoff best made → ⊥)
no_worse_or_not cutoff None made = elim (cases_lt made.end cutoff) as (λ _. IsNoWorse cutoff None made ⊎ (IsNoWorse cutoff None made → ⊥)) [ inl less ↦ inl less | inr above ↦ inr (λ h. omega (arith, above, h)) ]
no_worse_or_not cutoff (Some best) made =
    elim (cases_lt made.end cutoff) as (λ _. IsNoWorse cutoff (Some best) made ⊎ (IsNoWorse cutoff (Some best) made → ⊥)) [
      | inl ends ↦ elim (cases_lt made.end best.end) as (λ _. IsNoWorse cutoff (Some best) made ⊎ (IsNoWorse cutoff (Some best) made → ⊥)) [ inl less ↦ inr (λ h. omega (arith, less, h.1)) | inr above ↦ inl (ends, above) ]
      | inr above ↦ inr (λ h. omega (arith, above, h.0))
    ]

-- the selection after a checkpoint was offered
pub record IsOfferedTo (cutoff : ℕ) (made : Checkpoint) (old new : Selection) : Type 0 where
  pub taken : IsNoWorse cutoff old.best made → new.best ≡ Some made
  pub left : (IsNoWorse cutoff old.best made → ⊥) → new.best ≡ old.best
  pub skipped : new.skipped ≡ old.skipped

pub selection_offered : (all : List Entry) (number : ℕ) (group : PartGroup) (cutoff : ℕ) (made : Checkpoint) (old new : Selection) → IsCheckpointOf number group made → GroupsBelow all number
    → IsOfferedTo cutoff made old new → IsSelectionOf all cutoff old → IsSelectionOf (all ++ (number, group) ∷ []) cutoff new
selection_offered all number group cutoff made old new is_of below offer is =
    let more : List Entry = all ++ (number, group) ∷ [] in
    let same : old.skipped.items ≡ new.skipped.items = sym (ap (λ skipped. skipped.items) offer.skipped) in
    record {
      best = elim (no_worse_or_not cutoff old.best made) as (λ _. IsBestOf more cutoff new.best) [
        | inl h ↦ subst (IsBestOf more cutoff) (sym (offer.taken h)) (best_taken all number group cutoff made is_of below old.best is.best h)
        | inr h ↦ subst (IsBestOf more cutoff) (sym (offer.left h)) (best_left all number group cutoff made is_of below old.best is.best h)
      ];
      rise = subst IsStrictlyIncreasing same is.rise;
      exact = λ n.
          let passed = passed_same all number group (checkpoint_in made) n (made_has number group made is_of) in
          let both : Contains old.skipped.items n ↔ IsPassed more n = (λ h. passed.1 ((is.exact n).0 h), λ h. (is.exact n).1 (passed.0 h)) in
          subst (λ (ns : List ℕ). Contains ns n ↔ IsPassed more n) same both;
    }

pub increasing_push : (xs : List ℕ) (n : ℕ) → IsStrictlyIncreasing xs → ((m : ℕ) → Contains xs m → m < n) → IsStrictlyIncreasing (xs ++ n ∷ [])
increasing_push xs n rise below = λ k fits.
    let more = length_push xs n in
    let inside : k < length xs = omega (arith, fits, more) in
    let at : get_or (xs ++ n ∷ []) k 0 ≡ get_or xs k 0 = get_or_append_left xs (n ∷ []) 0 k inside in
    elim (cases_lt (k + 1) (length xs)) as (λ _. get_or (xs ++ n ∷ []) k 0 < get_or (xs ++ n ∷ []) (k + 1) 0) [
      | inl within ↦
          let next : get_or (xs ++ n ∷ []) (k + 1) 0 ≡ get_or xs (k + 1) 0 = get_or_append_left xs (n ∷ []) 0 (k + 1) within in
          let up : get_or xs k 0 < get_or xs (k + 1) 0 = rise k within in
          omega (arith, at, next, up)
      | inr past ↦
          let last : length xs ≡ k + 1 = omega (arith, inside, past) in
          let next : get_or (xs ++ n ∷ []) (k + 1) 0 ≡ n = get_or_push xs n 0 (k + 1) last in
          let up : get_or xs k 0 < n = below (get_or xs k 0) (Contains-get_or xs k 0 inside) in
          omega (arith, at, next, up)
    ]

-- the selection after a group without a checkpoint
pub selection_passed : (all : List Entry) (number : ℕ) (group : PartGroup) (cutoff : ℕ) (old new : Selection) → HasNone group → GroupsBelow all number
    → new.best ≡ old.best → new.skipped.items ≡ old.skipped.items ++ number ∷ [] → IsSelectionOf all cutoff old → IsSelectionOf (all ++ (number, group) ∷ []) cutoff new
selection_passed all number group cutoff old new none below best skipped is =
    let more : List Entry = all ++ (number, group) ∷ [] in
    record {
      best = subst (IsBestOf more cutoff) (sym best) (best_same all number group cutoff old.best none is.best);
      rise = subst IsStrictlyIncreasing (sym skipped)
          (increasing_push old.skipped.items number is.rise (λ m at. let passed = (is.exact m).0 at in below (m, passed.group) passed.stands));
      exact = λ n.
          let passed = passed_more all number group n none in
          let both : Contains (old.skipped.items ++ number ∷ []) n ↔ IsPassed more n = (
            λ h. passed.1 (elim (Contains-push_cases old.skipped.items number n h) as (λ _. IsPassed all n ⊎ (number ≡ n)) [ inl before ↦ inl ((is.exact n).0 before) | inr e ↦ inr e ]),
            λ h. elim (passed.0 h) as (λ _. Contains (old.skipped.items ++ number ∷ []) n) [
              | inl before ↦ Contains-append_left old.skipped.items (number ∷ []) n ((is.exact n).1 before)
              | inr e ↦ subst (λ (m : ℕ). Contains (old.skipped.items ++ number ∷ []) m) e (Contains-push old.skipped.items number)
            ],
          ) in
          subst (λ (ns : List ℕ). Contains ns n ↔ IsPassed more n) (sym skipped) both;
    }

-- ---- in order, each number is above those before it

less_is_below : (a b : ℕ) → nat_cmp a b ≡ Less → a < b
less_is_below a b e = subst (λ (o : Ordering). MatchOrdering o (a < b) (a ≡ b) (b < a)) e (ranked a b (nat_cmp a b) refl)

pub are_below : (all entries : List Entry) (number : ℕ) (group : PartGroup) (rest : List Entry) → IsStrictlySortedBy nat_cmp (keys_of all) → all ≡ entries ++ (number, group) ∷ rest → GroupsBelow entries number
are_below all entries number group rest sorted e = λ x at. less_is_below x.0 number (keys_below nat_cmp all entries number group rest sorted e x at)
