-- The longest chains of timestamps that never fall, and their marks.
use Rattle.std.proofs.Common.{◌≡◌, ◌≢◌, ◌⊎◌, inl, inr, ℕ, zero, suc, leb, true, false, ◌+◌, ◌<◌, ◌≤◌, List, [], ◌∷◌, ◌++◌, length, set, replicate, Bool, cond, refl, sym, ap, ◌∙◌, subst, append_assoc, arith}
use Rattle.std.specs.Prelude.{slice_index, slice_index_or}
use Rattle.std.specs.List.Sorted.{IsNonDecreasingBy, IsPartitionPoint}
use Rattle.std.proofs.lemmas.Bool.{leb-true, leb-false}
use Rattle.std.proofs.lemmas.Grind.{get_or_default_zero}
use Rattle.std.proofs.lemmas.Bool.{cases_lt}
use Rattle.std.proofs.lemmas.List.{length-append, get_or_append_left, get_or-set_same, get_or-set_other, length-set, length-replicate}
use Rattle.std.proofs.Math.Seq.{get_or-append_seam}
use Rattle.mt_record.specs.Salvage.{marked, NeverFall, KeepMost}
use Rattle.mt_record.specs.Steps.Climbs.{IsChainTo, IsSorted, Leads, Climbed}

-- one of two lists of places grows by a place
pub stable : (times before : List ℕ) (b place n : ℕ) → Leads times before place n → Leads times (before ++ b ∷ []) place n
stable times before b place zero h = omega (arith, h, length-append before (b ∷ []))
stable times before b place (suc n) h =
    let same : slice_index (before ++ b ∷ []) place ≡ slice_index before place = get_or_append_left before (b ∷ []) 0 place h.0 in
    let kept = subst (λ (q : ℕ). (q < place) × (slice_index times q ≤ slice_index times place) × Leads times (before ++ b ∷ []) q n) (sym same) (h.1, h.2, stable times before b (slice_index before place) n h.3) in
    (omega (arith, h.0, length-append before (b ∷ [])), kept.0, kept.1, kept.2)

-- y is at the place k of ys, which is otherwise as xs
pub record Put (xs : List ℕ) (k y : ℕ) (ys : List ℕ) : Type 0 where
  pub within : k < length ys
  pub more : length xs ≤ length ys
  pub at : slice_index ys k ≡ y
  pub kept : (j : ℕ) → j < length ys → j ≢ k → j < length xs
  pub same : (j : ℕ) → j < length ys → j ≢ k → slice_index ys j ≡ slice_index xs j

pub put_last : (xs : List ℕ) (k y : ℕ) → k ≡ length xs → Put xs k y (xs ++ y ∷ [])
put_last xs k y e =
    let long = length-append xs (y ∷ []) in
    record {
      within = omega (arith, e, long);
      more = omega (arith, long);
      at = ap (λ (n : ℕ). slice_index (xs ++ y ∷ []) n) e ∙ get_or-append_seam xs y [] 0;
      kept = λ j less other. apart j less other;
      same = λ j less other. get_or_append_left xs (y ∷ []) 0 j (apart j less other);
    }
  where
    apart : (j : ℕ) → j < length (xs ++ y ∷ []) → j ≢ k → j < length xs
    apart j less other = elim (cases_lt j (length xs)) as (λ _. j < length xs) [
      | inl lt ↦ lt
      | inr ge ↦ absurd (other (omega (arith, ge, less, e, length-append xs (y ∷ []))))
    ]

pub put_set : (xs : List ℕ) (k y : ℕ) → k < length xs → Put xs k y (set xs k y)
put_set xs k y within =
    let long : length (set xs k y) ≡ length xs = length-set xs k y in
    record {
      within = omega (arith, within, long);
      more = omega (arith, long);
      at = get_or-set_same xs k y 0 within;
      kept = λ j less other. omega (arith, less, long);
      same = λ j less other. get_or-set_other xs k j y 0 other;
    }

-- what is set or appended
pub put_in : (xs : List ℕ) (k y : ℕ) (ys : List ℕ) → k ≤ length xs → (k < length xs → ys ≡ set xs k y) → (k ≡ length xs → ys ≡ xs ++ y ∷ []) → Put xs k y ys
put_in xs k y ys within in_place appended = elim (cases_lt k (length xs)) as (λ _. Put xs k y ys) [
  | inl lt ↦ subst (Put xs k y) (sym (in_place lt)) (put_set xs k y lt)
  | inr ge ↦ let e : k ≡ length xs = omega (arith, within, ge) in subst (Put xs k y) (sym (appended e)) (put_last xs k y e)
]

-- both lists grow, or neither
pub put_as_long : (xs zs : List ℕ) (k x z : ℕ) (ys ws : List ℕ) → length zs ≡ length xs → k ≤ length xs → (k < length xs → ys ≡ set xs k x) → (k ≡ length xs → ys ≡ xs ++ x ∷ [])
    → (k < length zs → ws ≡ set zs k z) → (k ≡ length zs → ws ≡ zs ++ z ∷ []) → length ws ≡ length ys
put_as_long xs zs k x z ys ws same within xs_set xs_on zs_set zs_on = elim (cases_lt k (length xs)) as (λ _. length ws ≡ length ys) [
  | inl lt ↦ omega (arith, same, ap length (xs_set lt), ap length (zs_set (omega (arith, lt, same))), length-set xs k x, length-set zs k z)
  | inr ge ↦
      let e : k ≡ length xs = omega (arith, within, ge) in
      omega (arith, same, ap length (xs_on e), ap length (zs_on (omega (arith, e, same))), length-append xs (x ∷ []), length-append zs (z ∷ []))
]

equal_or_not : (j k : ℕ) → (j ≡ k) ⊎ (j ≢ k)
equal_or_not j k = elim (cases_lt j k) as (λ _. (j ≡ k) ⊎ (j ≢ k)) [
  | inl lt ↦ inr (λ e. omega (arith, lt, e))
  | inr ge ↦ elim (cases_lt k j) as (λ _. (j ≡ k) ⊎ (j ≢ k)) [
    | inl gt ↦ inr (λ e. omega (arith, gt, e))
    | inr le ↦ inl (omega (arith, ge, le))
  ]
]

-- nothing was read yet
pub climbed_none : (times : List ℕ) → Climbed times 0 [] [] []
climbed_none times = record {
  long = refl;
  read = refl;
  below = λ k none. absurd (omega (arith, none));
  reached = λ k none. absurd (omega (arith, none));
  leads = λ k none. absurd (omega (arith, none));
  sorted = λ k l le none. absurd (omega (arith, none));
  ranked = λ place others chain none. absurd (omega (arith, none));
  least = λ place others chain none. absurd (omega (arith, none));
}

-- what the search for the rank of the next timestamp found, and what is remembered then
pub record Step (times : List ℕ) (i t rank b : ℕ) (ends places new_ends new_places : List ℕ) : Type 0 where
  pub time : t ≡ slice_index times i
  pub within : rank ≤ length ends
  pub low : (j : ℕ) → j < rank → slice_index ends j ≤ t
  pub high : (j : ℕ) → rank ≤ j → j < length ends → t < slice_index ends j
  pub last : (m : ℕ) → rank ≡ suc m → b ≡ slice_index places m
  pub ends_put : Put ends rank t new_ends
  pub places_put : Put places rank i new_places
  pub as_long : length new_places ≡ length new_ends

-- one timestamp more was read
pub climbed_on : (times : List ℕ) (i t rank b : ℕ) (ends places before new_ends new_places : List ℕ) → Climbed times i ends places before → Step times i t rank b ends places new_ends new_places
    → Climbed times (i + 1) new_ends new_places (before ++ b ∷ [])
climbed_on times i t rank b ends places before new_ends new_places h s =
    record {
      long = s.as_long;
      read = omega (arith, h.read, length-append before (b ∷ []));
      below = λ k less. elim (equal_or_not k rank) as (λ _. slice_index new_places k < i + 1) [
        | inl e ↦ omega (arith, ap (slice_index new_places) e, s.places_put.at)
        | inr apart ↦ omega (arith, h.below k (s.ends_put.kept k less apart), s.places_put.same k (in_places k less) apart)
      ];
      reached = λ k less. elim (equal_or_not k rank) as (λ _. slice_index new_ends k ≡ slice_index times (slice_index new_places k)) [
        | inl e ↦ ap (slice_index new_ends) e ∙ s.ends_put.at ∙ s.time ∙ ap (slice_index times) (sym (ap (slice_index new_places) e ∙ s.places_put.at))
        | inr apart ↦ s.ends_put.same k less apart ∙ h.reached k (s.ends_put.kept k less apart) ∙ ap (slice_index times) (sym (s.places_put.same k (in_places k less) apart))
      ];
      leads = λ k less. elim (equal_or_not k rank) as (λ _. Leads times (before ++ b ∷ []) (slice_index new_places k) k) [
        | inl e ↦ subst (λ (p : ℕ × ℕ). Leads times (before ++ b ∷ []) p.0 p.1) (λ i. (sym (ap (slice_index new_places) e ∙ s.places_put.at) i, sym e i)) (here rank refl)
        | inr apart ↦ subst (λ (p : ℕ). Leads times (before ++ b ∷ []) p k) (sym (s.places_put.same k (in_places k less) apart)) (stable times before b (slice_index places k) k (h.leads k (s.ends_put.kept k less apart)))
      ];
      sorted = λ k l le less. in_order k l le less;
      ranked = λ place others chain less. rank_in place others chain less;
      least = λ place others chain less. least_in place others chain less;
    }
  where
    in_places : (k : ℕ) → k < length new_ends → k < length new_places
    in_places k less = omega (arith, less, s.as_long)

    here : (m : ℕ) → rank ≡ m → Leads times (before ++ b ∷ []) i m
    here zero e = omega (arith, h.read, length-append before (b ∷ []))
    here (suc m) e =
        let less : m < length ends = omega (arith, e, s.within) in
        let at : slice_index (before ++ b ∷ []) i ≡ slice_index places m = ap (slice_index (before ++ b ∷ [])) (sym h.read) ∙ get_or-append_seam before b [] 0 ∙ s.last m e in
        let led = subst (λ (q : ℕ). (q < i) × (slice_index times q ≤ slice_index times i) × Leads times (before ++ b ∷ []) q m) (sym at)
        (h.below m less, omega (arith, h.reached m less, s.low m (omega (arith, e)), s.time), stable times before b (slice_index places m) m (h.leads m less)) in
        (omega (arith, h.read, length-append before (b ∷ [])), led.0, led.1, led.2)

    below_rank : (k : ℕ) → k ≤ rank → k ≢ rank → k < rank
    below_rank k le other = elim (cases_lt k rank) as (λ _. k < rank) [
      | inl lt ↦ lt
      | inr ge ↦ absurd (other (omega (arith, le, ge)))
    ]

    -- a place of the new ends is the rank, or one of before
    new_end : (k : ℕ) → k < length new_ends → (slice_index new_ends k ≤ t) ⊎ (rank < k)
    new_end k less = elim (cases_lt rank k) as (λ _. (slice_index new_ends k ≤ t) ⊎ (rank < k)) [
      | inl gt ↦ inr gt
      | inr le ↦ elim (equal_or_not k rank) as (λ _. (slice_index new_ends k ≤ t) ⊎ (rank < k)) [
        | inl e ↦ inl (omega (arith, ap (slice_index new_ends) e, s.ends_put.at))
        | inr apart ↦ inl (omega (arith, s.ends_put.same k less apart, s.low k (below_rank k le apart)))
      ]
    ]

    in_order : (k l : ℕ) → k ≤ l → l < length new_ends → slice_index new_ends k ≤ slice_index new_ends l
    in_order k l le less = elim (equal_or_not l rank) as (λ _. slice_index new_ends k ≤ slice_index new_ends l) [
      | inl e ↦ elim (new_end k (omega (arith, le, less))) as (λ _. slice_index new_ends k ≤ slice_index new_ends l) [
        | inl low ↦ omega (arith, low, ap (slice_index new_ends) e, s.ends_put.at)
        | inr gt ↦ omega (arith, gt, le, e)
      ]
      | inr apart ↦ elim (equal_or_not k rank) as (λ _. slice_index new_ends k ≤ slice_index new_ends l) [
        | inl e ↦ omega (arith, ap (slice_index new_ends) e, s.ends_put.at, s.high l (omega (arith, e, le)) (s.ends_put.kept l less apart), s.ends_put.same l less apart)
        | inr other ↦ omega (arith, s.ends_put.same l less apart, s.ends_put.same k (omega (arith, le, less)) other, h.sorted k l le (s.ends_put.kept l less apart))
      ]
    ]

    -- the rank of a chain that ends at the new place is at most that which was found
    at_most : (others : List ℕ) → IsChainTo times i others → length others ≤ rank
    at_most [] chain = omega arith
    at_most (q ∷ qs) chain =
        let less = h.ranked q qs chain.3 chain.1 in
        let le = h.least q qs chain.3 chain.1 in
        elim (cases_lt (length qs) rank) as (λ _. length (q ∷ qs) ≤ rank) [
          | inl lt ↦ omega (arith, lt)
          | inr ge ↦ absurd (omega (arith, s.high (length qs) ge less, le, chain.2, s.time))
        ]

    rank_in : (place : ℕ) (others : List ℕ) → IsChainTo times place others → place < i + 1 → length others < length new_ends
    rank_in place others chain less = elim (cases_lt place i) as (λ _. length others < length new_ends) [
      | inl lt ↦ omega (arith, h.ranked place others chain lt, s.ends_put.more)
      | inr ge ↦ omega (arith, at_most others (subst (λ (p : ℕ). IsChainTo times p others) (omega (arith, less, ge)) chain), s.ends_put.within)
    ]

    least_in : (place : ℕ) (others : List ℕ) → IsChainTo times place others → place < i + 1 → slice_index new_ends (length others) ≤ slice_index times place
    least_in place others chain less = elim (cases_lt place i) as (λ _. slice_index new_ends (length others) ≤ slice_index times place) [
      | inl lt ↦ elim (equal_or_not (length others) rank) as (λ _. slice_index new_ends (length others) ≤ slice_index times place) [
        | inl e ↦ omega (arith, ap (slice_index new_ends) e, s.ends_put.at, s.high (length others) (omega (arith, e)) (h.ranked place others chain lt), h.least place others chain lt)
        | inr apart ↦ omega (arith, s.ends_put.same (length others) (rank_in place others chain less) apart, h.least place others chain lt)
      ]
      | inr ge ↦
          let same : place ≡ i = omega (arith, less, ge) in
          elim (new_end (length others) (rank_in place others chain less)) as (λ _. slice_index new_ends (length others) ≤ slice_index times place) [
            | inl low ↦ omega (arith, low, s.time, ap (slice_index times) same)
            | inr gt ↦ absurd (omega (arith, gt, at_most others (subst (λ (p : ℕ). IsChainTo times p others) same chain)))
          ]
    ]

-- ---- marks

-- no mark is set below this place
abbrev pub NoneBelow : ℕ → List Bool → Type 0
NoneBelow zero marks = Unit {0}
NoneBelow (suc n) [] = Unit {0}
NoneBelow (suc n) (mark ∷ marks) = (mark ≡ false) × NoneBelow n marks

pub none_set : (n k : ℕ) → NoneBelow k (replicate n false)
none_set n zero = tt
none_set zero (suc k) = tt
none_set (suc n) (suc k) = (refl, none_set n k)

pub none_marked : (n : ℕ) (xs : List ℕ) → marked (replicate n false) xs ≡ []
none_marked zero xs = refl
none_marked (suc n) [] = refl
none_marked (suc n) (x ∷ xs) = none_marked n xs

-- a mark is set below the others
set_below : (marks : List Bool) (times : List ℕ) (p q : ℕ) → p < q → p < length marks → p < length times → NoneBelow q marks
    → marked (set marks p true) times ≡ slice_index times p ∷ marked marks times
set_below [] times p q lt in_marks in_times none = absurd (omega (arith, in_marks))
set_below (b ∷ bs) [] p q lt in_marks in_times none = absurd (omega (arith, in_times))
set_below (b ∷ bs) (t ∷ ts) zero zero lt in_marks in_times none = absurd (omega (arith, lt))
set_below (b ∷ bs) (t ∷ ts) zero (suc q) lt in_marks in_times none = ap (λ (mark : Bool). t ∷ cond mark (t ∷ marked bs ts) (marked bs ts)) (sym none.0)
set_below (b ∷ bs) (t ∷ ts) (suc p) zero lt in_marks in_times none = absurd (omega (arith, lt))
set_below (b ∷ bs) (t ∷ ts) (suc p) (suc q) lt in_marks in_times none =
    let rest = set_below bs ts p q (omega (arith, lt)) (omega (arith, in_marks)) (omega (arith, in_times)) none.1 in
    ap (λ (mark : Bool). cond mark (t ∷ marked (set bs p true) ts) (marked (set bs p true) ts)) none.0 ∙ rest
    ∙ ap (λ (mark : Bool). slice_index ts p ∷ cond mark (t ∷ marked bs ts) (marked bs ts)) (sym none.0)

none_left : (marks : List Bool) (p q : ℕ) → p < q → NoneBelow q marks → NoneBelow p (set marks p true)
none_left marks zero q lt none = tt
none_left [] (suc p) q lt none = tt
none_left (b ∷ bs) (suc p) zero lt none = absurd (omega (arith, lt))
none_left (b ∷ bs) (suc p) (suc q) lt none = (none.0, none_left bs p q (omega (arith, lt)) none.1)

-- ---- marked timestamps that never fall are a chain

abbrev IsChain : List ℕ → List ℕ → Type 0
IsChain times [] = Unit {0}
IsChain times (place ∷ others) = IsChainTo times place others

-- the last place of a chain is below this one, and its timestamp is at most `low`
abbrev Ends : List ℕ → ℕ → ℕ → List ℕ → Type 0
Ends times at low [] = Unit {0}
Ends times at low (place ∷ others) = IsChainTo times place others × (place < at) × (slice_index times place ≤ low)

ends_chain : (times : List ℕ) (at low : ℕ) (chain : List ℕ) → Ends times at low chain → IsChain times chain
ends_chain times at low [] h = tt
ends_chain times at low (place ∷ others) h = h.0

ends_later : (times : List ℕ) (at later low : ℕ) (chain : List ℕ) → at ≤ later → Ends times at low chain → Ends times later low chain
ends_later times at later low [] le h = tt
ends_later times at later low (place ∷ others) le h = (h.0, omega (arith, h.1, le), h.2)

ends_on : (times : List ℕ) (at low : ℕ) (chain : List ℕ) → at < length times → low ≤ slice_index times at → Ends times at low chain → IsChainTo times at chain
ends_on times at low [] within le h = within
ends_on times at low (place ∷ others) within le h = (within, h.1, omega (arith, h.2, le), h.0)

-- so many timestamps were read before, and these are left
chained : (times front rest : List ℕ) (marks : List Bool) (low : ℕ) (chain : List ℕ) → times ≡ front ++ rest → Ends times (length front) low chain → NeverFall low (marked marks rest)
    → (longer : List ℕ) × IsChain times longer × (length longer ≡ length chain + length (marked marks rest))
chained times front rest [] low chain e ends rise = (chain, ends_chain times (length front) low chain ends, omega arith)
chained times front [] (b ∷ bs) low chain e ends rise = (chain, ends_chain times (length front) low chain ends, omega arith)
chained times front (t ∷ ts) (false ∷ bs) low chain e ends rise =
    chained times (front ++ t ∷ []) ts bs low chain (e ∙ sym (append_assoc front (t ∷ []) ts))
    (ends_later times (length front) (length (front ++ t ∷ [])) low chain (omega (arith, length-append front (t ∷ []))) ends) rise
chained times front (t ∷ ts) (true ∷ bs) low chain e ends rise =
    let at = length front in
    let here : slice_index times at ≡ t = ap (λ (xs : List ℕ). slice_index xs at) e ∙ get_or-append_seam front t ts 0 in
    let within : at < length times = omega (arith, ap length e, length-append front (t ∷ ts)) in
    let on = ends_on times at low chain within (omega (arith, here, rise.0)) ends in
    let rest = chained times (front ++ t ∷ []) ts bs t (at ∷ chain) (e ∙ sym (append_assoc front (t ∷ []) ts)) (on, omega (arith, length-append front (t ∷ [])), omega (arith, here)) rise.1 in
    (rest.0, rest.1, omega (arith, rest.2))

chain_within : (times : List ℕ) (place : ℕ) (others : List ℕ) → IsChainTo times place others → place < length times
chain_within times place [] h = h
chain_within times place (q ∷ qs) h = h.0

-- so they are no more than the ranks
at_most : (times ends places before : List ℕ) → Climbed times (length times) ends places before → (marks : List Bool) → NeverFall 0 (marked marks times) → length (marked marks times) ≤ length places
at_most times ends places before h marks rise = let c = chained times [] times marks 0 [] refl tt rise in by c.0 c.1 c.2
  where
    by : (chain : List ℕ) → IsChain times chain → length chain ≡ 0 + length (marked marks times) → length (marked marks times) ≤ length places
    by [] is count = omega (arith, count)
    by (p ∷ ps) is count = omega (arith, h.ranked p ps is (chain_within times p ps is), h.long, count)

-- ---- the walk back

-- the place before this one
next_lead : (times before : List ℕ) (place n m : ℕ) → n ≡ suc m → Leads times before place n
    → (place < length before) × (slice_index before place < place) × (slice_index times (slice_index before place) ≤ slice_index times place) × Leads times before (slice_index before place) m
next_lead times before place n m e h = subst (Leads times before place) e h

pub lead_within : (times before : List ℕ) (place n : ℕ) → Leads times before place n → place < length before
lead_within times before place zero h = h
lead_within times before place (suc n) h = h.0

-- the walk has come to a place, the last that has a mark
pub record Walked (times before : List ℕ) (total left place : ℕ) (marks : List Bool) : Type 0 where
  pub leads : Leads times before place left
  pub each : length marks ≡ length times
  pub none : NoneBelow place marks
  pub others : List ℕ
  pub kept : marked marks times ≡ slice_index times place ∷ others
  pub rise : NeverFall (slice_index times place) others
  pub count : length (marked marks times) + left ≡ total

pub walk_begins : (times ends places before : List ℕ) (last left : ℕ) → Climbed times (length times) ends places before → left + 1 ≡ length places → last ≡ slice_index places left
    → Walked times before (length places) left last (set (replicate (length times) false) last true)
walk_begins times ends places before last left h long is =
    let none = replicate (length times) false in
    let leads = subst (λ (p : ℕ). Leads times before p left) (sym is) (h.leads left (omega (arith, long, h.long))) in
    let within : last < length times = omega (arith, lead_within times before last left leads, h.read) in
    let each : length none ≡ length times = length-replicate (length times) false in
    let kept = set_below none times last (length times) within (omega (arith, within, each)) within (none_set (length times) (length times)) ∙ ap (λ (xs : List ℕ). slice_index times last ∷ xs) (none_marked (length times) times) in
    record {
      leads = leads;
      each = length-set none last true ∙ each;
      none = none_left none last (length times) within (none_set (length times) (length times));
      others = [];
      kept = kept;
      rise = tt;
      count = omega (arith, ap length kept, long);
    }

pub walk_within : (times ends places before : List ℕ) (total left less place : ℕ) (marks : List Bool) → Climbed times (length times) ends places before → left ≡ suc less → Walked times before total left place marks
    → slice_index before place < length marks
walk_within times ends places before total left less place marks h e w =
    let next = next_lead times before place left less e w.leads in
    omega (arith, next.0, next.1, h.read, w.each)

pub walk_on : (times ends places before : List ℕ) (total left less place : ℕ) (marks : List Bool) → Climbed times (length times) ends places before → left ≡ suc less → Walked times before total left place marks
    → Walked times before total less (slice_index before place) (set marks (slice_index before place) true)
walk_on times ends places before total left less place marks h e w =
    let next = next_lead times before place left less e w.leads in
    let to = slice_index before place in
    let within : to < length times = omega (arith, next.0, next.1, h.read) in
    let more = set_below marks times to place next.1 (omega (arith, within, w.each)) within w.none in
    record {
      leads = next.3;
      each = length-set marks to true ∙ w.each;
      none = none_left marks to place next.1 w.none;
      others = slice_index times place ∷ w.others;
      kept = more ∙ ap (λ (xs : List ℕ). slice_index times to ∷ xs) w.kept;
      rise = (next.2, w.rise);
      count = omega (arith, ap length more, w.count, e);
    }

pub walk_ends : (times ends places before : List ℕ) (left place : ℕ) (marks : List Bool) → Climbed times (length times) ends places before → left ≡ 0 → Walked times before (length places) left place marks
    → KeepMost times marks
walk_ends times ends places before left place marks h e w = record {
  each = w.each;
  rise = subst (NeverFall 0) (sym w.kept) (omega arith, w.rise);
  most = λ others rise. omega (arith, at_most times ends places before h others rise, w.count, e);
}

-- without places there is no chain
pub no_walk : (times ends places before : List ℕ) → Climbed times (length times) ends places before → length places ≡ 0 → KeepMost times (replicate (length times) false)
no_walk times ends places before h none = record {
  each = length-replicate (length times) false;
  rise = subst (NeverFall 0) (sym (none_marked (length times) times)) tt;
  most = λ others rise. omega (arith, at_most times ends places before h others rise, none);
}

-- ---- the search for a rank

pub sorted_ends : (ends : List ℕ) → IsSorted ends → IsNonDecreasingBy (λ (end : ℕ). end) ends
sorted_ends ends sorted i j d le within = omega (arith, sorted i j le within, get_or_default_zero ends i d (omega (arith, le, within)), get_or_default_zero ends j d within)

-- the place up to which ends pass the test
pub up_to_point : (time : ℕ) (ends : List ℕ) (i : ℕ) → IsPartitionPoint (λ (end : ℕ). leb end time ≡ true) (λ (end : ℕ). leb end time ≡ false) ends i
    → IsPartitionPoint (λ (end : ℕ). end ≤ time) (λ (end : ℕ). time < end) ends i
up_to_point time ends i at = (λ k d low lt. leb-true (slice_index_or ends k d) time (at.0 k d low lt), λ k d low lt. leb-false (slice_index_or ends k d) time (at.1 k d low lt))
