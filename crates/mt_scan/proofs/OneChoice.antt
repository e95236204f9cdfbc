-- There is only one choice: two valid checkpoints with the same number are equal.
use Rattle.std.proofs.Common.{◌≡◌, ◌∙◌, inl, inr, ℕ, zero, suc, ◌+◌, ◌<◌, List, [], ◌∷◌, length, get_or, map, Contains, Option, Some, None, refl, sym, ap, subst, arith}
use Rattle.std.specs.List.{flat_map}
use Rattle.std.specs.List.Sorted.{IsPermutation}
use Rattle.std.proofs.lemmas.List.{length-map, get_or-map, get_or_default, same_lists}
use Rattle.std.proofs.lemmas.List.Sorted.{Contains-permutation, IsPermutation-sym, IsPermutation-trans, length_permutation}
use Rattle.mt_record.specs.Parts.{PartReading}
use Rattle.mt_scan.specs.PartScans.{KnownPart, whole}
use Rattle.mt_scan.specs.Choice.{CheckpointReading, IsPartAt, AreInPlace, IsValid, IsNoBetter, IsChosenOf, parts_of}

-- parts in place: the part at position i has the number of its place
pub at_place : (checkpoint : CheckpointReading) (count place : ℕ) (texts : List PartReading) (i : ℕ) (d : PartReading) → AreInPlace checkpoint count place texts → i < length texts
    → IsPartAt checkpoint count (place + i) (get_or texts i d)
at_place checkpoint count place [] i d are h = absurd (omega (arith, h))
at_place checkpoint count place (x ∷ xs) zero d are h = let e : place ≡ place + 0 = omega arith in subst (λ (n : ℕ). IsPartAt checkpoint count n x) e are.0
at_place checkpoint count place (x ∷ xs) (suc i) d are h =
    let e : suc place + i ≡ place + suc i = omega arith in
    subst (λ (n : ℕ). IsPartAt checkpoint count n (get_or xs i d)) e (at_place checkpoint count (suc place) xs i d are.1 (omega (arith, h)))

-- a complete part among complete parts
pub whole_among : (texts : List PartReading) (x : PartReading) → Contains (map whole texts) (whole x) → Contains texts x
whole_among texts x at =
    let fits : at.0 < length texts = omega (arith, at.1, length-map texts whole) in
    let e : whole (get_or texts at.0 x) ≡ whole x = sym (get_or-map whole texts at.0 x (whole x) fits) ∙ at.2 in
    let same : get_or texts at.0 x ≡ x = cc in
    (at.0, fits, same)

abbrev pub HaveSameWhole : List PartReading → List PartReading → Type 0
HaveSameWhole xs ys = IsPermutation (map whole xs) (map whole ys)

pub same_length : (xs ys : List PartReading) → HaveSameWhole xs ys → length xs ≡ length ys
same_length xs ys moved = omega (arith, length_permutation (map whole xs) (map whole ys) moved, length-map xs whole, length-map ys whole)

-- each part has the number of its position
abbrev pub AreNumbered : List PartReading → Type 0
AreNumbered texts = (k : ℕ) (d : PartReading) → k < length texts → (get_or texts k d).part ≡ k

pub are_numbered : (checkpoint : CheckpointReading) (count : ℕ) (texts : List PartReading) → AreInPlace checkpoint count 0 texts → AreNumbered texts
are_numbered checkpoint count texts are k d fits = let of_k = (at_place checkpoint count 0 texts k d are fits).stands in omega (arith, of_k)

-- two orders of the same numbered parts have the same part at each position
same_at : (xs ys : List PartReading) → AreNumbered xs → AreNumbered ys → HaveSameWhole xs ys → (k : ℕ) (d : PartReading) → k < length xs → get_or xs k d ≡ get_or ys k d
same_at xs ys of_xs of_ys moved k d fits =
    let x : PartReading = get_or xs k d in
    let there : Contains (map whole xs) (whole x) = (k, omega (arith, fits, length-map xs whole), get_or-map whole xs k d (whole x) fits) in
    let at : Contains ys x = whole_among ys x (Contains-permutation (map whole xs) (map whole ys) (whole x) moved there) in
    let of_x : x.part ≡ k = of_xs k d fits in
    let of_y : (get_or ys at.0 x).part ≡ at.0 = of_ys at.0 x at.1 in
    let parts : (get_or ys at.0 x).part ≡ x.part = ap (λ (y : PartReading). y.part) at.2 in
    let place : at.0 ≡ k = omega (arith, of_x, of_y, parts) in
    sym at.2 ∙ ap (λ (i : ℕ). get_or ys i x) place ∙ get_or_default ys k x d (omega (arith, fits, same_length xs ys moved))

pub same_texts : (xs ys : List PartReading) → AreNumbered xs → AreNumbered ys → HaveSameWhole xs ys → xs ≡ ys
same_texts xs ys of_xs of_ys moved = same_lists xs ys (same_length xs ys moved) (same_at xs ys of_xs of_ys moved)

-- two checkpoints with the same parts begin and end at the same time
pub same_times : (a b : CheckpointReading) (m n : ℕ) (texts : List PartReading) → AreInPlace a m 0 texts → AreInPlace b n 0 texts → 0 < length texts → (a.begin ≡ b.begin) × (a.end ≡ b.end)
same_times a b m n [] of_a of_b some = absurd (omega arith)
same_times a b m n (x ∷ xs) of_a of_b some = (sym of_a.0.begin_agrees ∙ of_b.0.begin_agrees, sym of_a.0.end_agrees ∙ of_b.0.end_agrees)

have_same_whole : (parts : List KnownPart) (a b : CheckpointReading) (of_a : IsValid parts a) (of_b : IsValid parts b) → a.number ≡ b.number → HaveSameWhole of_a.texts of_b.texts
have_same_whole parts a b of_a of_b same =
    let of_b' = subst (λ (n : ℕ). IsPermutation (parts_of n parts) (map whole of_b.texts)) (sym same) of_b.are_whole in
    IsPermutation-trans (map whole of_a.texts) (parts_of a.number parts) (map whole of_b.texts) (IsPermutation-sym (parts_of a.number parts) (map whole of_a.texts) of_a.are_whole) of_b'

pub same_checkpoint : (a b : CheckpointReading) → a.number ≡ b.number → a.begin ≡ b.begin → a.end ≡ b.end → a.entries ≡ b.entries → a ≡ b
same_checkpoint a b number begin end entries = λ i. record { number = number i; begin = begin i; end = end i; entries = entries i }

-- for each number there is at most one valid checkpoint
pub one_valid : (parts : List KnownPart) (a b : CheckpointReading) → IsValid parts a → IsValid parts b → a.number ≡ b.number → a ≡ b
one_valid parts a b of_a of_b same =
    let texts : of_a.texts ≡ of_b.texts = same_texts of_a.texts of_b.texts (are_numbered a (length of_a.texts) of_a.texts of_a.make_up.in_place) (are_numbered b (length of_b.texts) of_b.texts of_b.make_up.in_place)
    (have_same_whole parts a b of_a of_b same) in
    let in_place = subst (λ (x : List PartReading). AreInPlace b (length of_b.texts) 0 x) (sym texts) of_b.make_up.in_place in
    let times = same_times a b (length of_a.texts) (length of_b.texts) of_a.texts of_a.make_up.in_place in_place of_a.make_up.some in
    same_checkpoint a b same times.0 times.1 (of_a.make_up.all ∙ ap (λ (x : List PartReading). flat_map (λ (text : PartReading). text.entries) x) texts ∙ sym of_b.make_up.all)

neither_better : (a b : CheckpointReading) → IsNoBetter a b → IsNoBetter b a → a.number ≡ b.number
neither_better a b (inl h) (inl k) = absurd (omega (arith, h, k))
neither_better a b (inl h) (inr k) = absurd (omega (arith, h, k.0))
neither_better a b (inr h) (inl k) = absurd (omega (arith, h.0, k))
neither_better a b (inr h) (inr k) = omega (arith, h.1, k.1)

-- at most one is chosen
pub one_chosen : (parts : List KnownPart) (cutoff : ℕ) (a b : Option CheckpointReading) → IsChosenOf parts cutoff a → IsChosenOf parts cutoff b → a ≡ b
one_chosen parts cutoff None None none none' = refl
one_chosen parts cutoff None (Some b) none is = absurd (none b is.0)
one_chosen parts cutoff (Some a) None is none = absurd (none a is.0)
one_chosen parts cutoff (Some a) (Some b) of_a of_b =
    ap Some (one_valid parts a b of_a.0.valid of_b.0.valid (neither_better a b (of_b.1 a of_a.0) (of_a.1 b of_b.0)))
