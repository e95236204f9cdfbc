-- Parts in order: those that make up a checkpoint.
use Rattle.std.proofs.Common.{◌≡◌, ◌∙◌, ℕ, zero, suc, ◌+◌, ◌-◌, ◌<◌, ◌≤◌, List, [], ◌∷◌, ◌++◌, length, get_or, take, map, Some, None, All, refl, sym, ap, subst, eqb, arith}
use Rattle.std.specs.List.{IsDistinct, flat_map, slice_get}
use Rattle.std.specs.List.Sorted.{IsPermutation, IsStrictlyIncreasing, IsNonDecreasing, IsNonDecreasingBy}
use Rattle.std.proofs.lemmas.Bool.{ne_eqb}
use Rattle.std.proofs.lemmas.List.{length-map, length-take-le, get_or-map, map_push, take_more}
use Rattle.std.proofs.lemmas.List.Sorted.{All-permutation, IsPermutation-map, IsPermutation-sym, IsPermutation-trans, length_permutation}
use Rattle.std.proofs.lemmas.Map.Keys.{IsDistinct-from_apart, IsDistinct-IsPermutation, IsStrictlyIncreasing-from_distinct}
use Rattle.std.proofs.lemmas.Cmp.{nat_eq_equiv}
use Rattle.mt_words.specs.declared.record.Change.{Change}
use Rattle.mt_words.specs.Words.{AreRising}
use Rattle.mt_record.specs.Parts.{PartReading}
use Rattle.mt_scan.specs.PartScans.{KnownPart, whole, broken, nameless}
use Rattle.mt_scan.specs.PartsShown.{KeptPart, shown_by, shown_by_all}
use Rattle.mt_scan.specs.Choice.{CheckpointReading, IsPartAt, AreInPlace, entry_keys, AreItsParts}
use Rattle.mt_scan.specs.Choosing.{checkpoint_in}
use Rattle.mt_scan.specs.Steps.Checkpoints.{entries_of, MakeUpNone, AreSameTexts, IsMadeOfParts, reading_of}
use Rattle.mt_scan.specs.declared.checkpoint.Checkpoint.{Checkpoint}
use Rattle.mt_scan.proofs.OneChoice.{at_place, AreNumbered, are_numbered, same_texts}

-- ---- one more part in place

in_place_push : (checkpoint : CheckpointReading) (count place : ℕ) (texts : List PartReading) (x : PartReading) → AreInPlace checkpoint count place texts → IsPartAt checkpoint count (place + length texts) x
    → AreInPlace checkpoint count place (texts ++ x ∷ [])
in_place_push checkpoint count place [] x are at = let e : place + 0 ≡ place = omega arith in (subst (λ (n : ℕ). IsPartAt checkpoint count n x) e at, tt)
in_place_push checkpoint count place (y ∷ ys) x are at =
    let e : place + suc (length ys) ≡ suc place + length ys = omega arith in
    (are.0, in_place_push checkpoint count (suc place) ys x are.1 (subst (λ (n : ℕ). IsPartAt checkpoint count n x) e at))

pub in_place_more : (checkpoint : CheckpointReading) (count : ℕ) (texts : List KeptPart) (i : ℕ) (x : KeptPart) → i < length texts → x ≡ get_or texts i x
    → AreInPlace checkpoint count 0 (shown_by_all (take i texts)) → IsPartAt checkpoint count i (shown_by x) → AreInPlace checkpoint count 0 (shown_by_all (take (i + 1) texts))
in_place_more checkpoint count texts i x fits at are is =
    let more : take (i + 1) texts ≡ take i texts ++ x ∷ [] = take_more texts i x fits ∙ ap (λ (y : KeptPart). take i texts ++ y ∷ []) (sym at) in
    let long : 0 + length (shown_by_all (take i texts)) ≡ i = omega (arith, length-map (take i texts) shown_by, length-take-le i texts (omega (arith, fits))) in
    let all = in_place_push checkpoint count 0 (shown_by_all (take i texts)) (shown_by x) are (subst (λ (n : ℕ). IsPartAt checkpoint count n (shown_by x)) (sym long) is) in
    subst (AreInPlace checkpoint count 0) (sym (ap (λ (ys : List KeptPart). shown_by_all ys) more ∙ map_push shown_by (take i texts) x)) all

pub in_place_at : (checkpoint : CheckpointReading) (count : ℕ) (texts : List KeptPart) (i : ℕ) (x : KeptPart) → i < length texts → x ≡ get_or texts i x
    → AreInPlace checkpoint count 0 (shown_by_all texts) → IsPartAt checkpoint count i (shown_by x)
in_place_at checkpoint count texts i x fits at are =
    let is = at_place checkpoint count 0 (shown_by_all texts) i (shown_by x) are (omega (arith, fits, length-map texts shown_by)) in
    let e : 0 + i ≡ i = omega arith in
    let same : get_or (shown_by_all texts) i (shown_by x) ≡ shown_by x = get_or-map shown_by texts i x (shown_by x) fits ∙ ap (λ (y : KeptPart). shown_by y) (sym at) in
    subst (IsPartAt checkpoint count i) same (subst (λ (n : ℕ). IsPartAt checkpoint count n (get_or (shown_by_all texts) i (shown_by x))) e is)

-- parts in place for a checkpoint are in place for another with the same begin and end
pub in_place_of : (a b : CheckpointReading) (count place : ℕ) (texts : List PartReading) → a.begin ≡ b.begin → a.end ≡ b.end → AreInPlace a count place texts → AreInPlace b count place texts
in_place_of a b count place [] begin end are = tt
in_place_of a b count place (x ∷ xs) begin end are =
    (record { stands = are.0.stands; parts = are.0.parts; begin_agrees = are.0.begin_agrees ∙ begin; end_agrees = are.0.end_agrees ∙ end }, in_place_of a b count (suc place) xs begin end are.1)

-- ---- strictly rising numbers below their count are those of their places

module _ (xs : List ℕ) (rise : IsStrictlyIncreasing xs) where
  no_less : (k : ℕ) → k < length xs → k ≤ get_or xs k 0
  no_less zero fits = omega arith
  no_less (suc k) fits =
      let before : k ≤ get_or xs k 0 = no_less k (omega (arith, fits)) in
      let next : get_or xs k 0 < get_or xs (k + 1) 0 = rise k (omega (arith, fits)) in
      let e : k + 1 ≡ suc k = omega arith in
      let same : get_or xs (k + 1) 0 ≡ get_or xs (suc k) 0 = ap (λ (n : ℕ). get_or xs n 0) e in
      omega (arith, before, next, same)

  far : (k m : ℕ) → k + m < length xs → get_or xs k 0 + m ≤ get_or xs (k + m) 0
  far k zero fits = let e : k + 0 ≡ k = omega arith in rw e (omega arith)
  far k (suc m) fits =
      let before : get_or xs k 0 + m ≤ get_or xs (k + m) 0 = far k m (omega (arith, fits)) in
      let next : get_or xs (k + m) 0 < get_or xs (k + m + 1) 0 = rise (k + m) (omega (arith, fits)) in
      let e : k + m + 1 ≡ k + suc m = omega arith in
      let same : get_or xs (k + m + 1) 0 ≡ get_or xs (k + suc m) 0 = ap (λ (n : ℕ). get_or xs n 0) e in
      omega (arith, before, next, same)

  number_at : (k : ℕ) → k < length xs → All (λ (x : ℕ). x < length xs) xs → get_or xs k 0 ≡ k
  number_at k fits below =
      let m : ℕ = length xs - suc k in
      let low = no_less k fits in
      let high : get_or xs k 0 + m ≤ get_or xs (k + m) 0 = far k m (omega arith) in
      let top : get_or xs (k + m) 0 < length xs = below (k + m) 0 (omega arith) in
      omega (arith, low, high, top)

-- ---- parts by their numbers

abbrev part_in : KnownPart → ℕ
part_in (whole part) = part.part
part_in (broken number entries) = 0
part_in nameless = 0

abbrev numbers_of : List PartReading → List ℕ
numbers_of texts = map (λ text. text.part) texts

numbers_in : (texts : List PartReading) → map part_in (map whole texts) ≡ numbers_of texts
numbers_in [] = refl
numbers_in (x ∷ xs) = ap (λ (ns : List ℕ). x.part ∷ ns) (numbers_in xs)

same_numbers : (xs ys : List PartReading) → AreSameTexts xs ys → IsPermutation (numbers_of ys) (numbers_of xs)
same_numbers xs ys same =
    let moved = IsPermutation-map part_in (map whole xs) (map whole ys) same in
    let one = subst (λ (ns : List ℕ). IsPermutation ns (map part_in (map whole ys))) (numbers_in xs) moved in
    IsPermutation-sym (numbers_of xs) (numbers_of ys) (subst (λ (ns : List ℕ). IsPermutation (numbers_of xs) ns) (numbers_in ys) one)

module _ (d : PartReading) (texts : List PartReading) (are : AreNumbered texts) where
  number_is : (k n : ℕ) → k < length (numbers_of texts) → get_or (numbers_of texts) k n ≡ k
  number_is k n fits =
      let within : k < length texts = omega (arith, fits, length-map texts (λ (text : PartReading). text.part)) in
      get_or-map (λ (text : PartReading). text.part) texts k d n within ∙ are k d within

  numbers_differ : IsDistinct eqb (numbers_of texts)
  numbers_differ = IsDistinct-from_apart eqb (numbers_of texts) (λ i j n lt fits.
      ne_eqb (get_or (numbers_of texts) i n) (get_or (numbers_of texts) j n) (λ e. absurd (omega (arith, e, lt, number_is i n (omega (arith, lt, fits)), number_is j n fits))))

  numbers_below : All (λ (n : ℕ). n < length (numbers_of texts)) (numbers_of texts)
  numbers_below = λ k n fits. let e = number_is k n fits in omega (arith, e, fits)

sorted_numbers : (sorted : List KeptPart) (d : KeptPart) → IsNonDecreasingBy (λ (text : KeptPart). text.part) sorted → IsNonDecreasing (numbers_of (shown_by_all sorted))
sorted_numbers sorted d rise = λ i j n le fits.
    let within : j < length (shown_by_all sorted) = omega (arith, fits, length-map (shown_by_all sorted) (λ (text : PartReading). text.part)) in
    let inside : j < length sorted = omega (arith, within, length-map sorted shown_by) in
    let at_i : get_or (numbers_of (shown_by_all sorted)) i n ≡ (get_or sorted i d).part =
    get_or-map (λ (text : PartReading). text.part) (shown_by_all sorted) i (shown_by d) n (omega (arith, le, within)) ∙ ap (λ (x : PartReading). x.part) (get_or-map shown_by sorted i d (shown_by d) (omega (arith, le, inside))) in
    let at_j : get_or (numbers_of (shown_by_all sorted)) j n ≡ (get_or sorted j d).part =
    get_or-map (λ (text : PartReading). text.part) (shown_by_all sorted) j (shown_by d) n within ∙ ap (λ (x : PartReading). x.part) (get_or-map shown_by sorted j d (shown_by d) inside) in
    let low : (get_or sorted i d).part ≤ (get_or sorted j d).part = rise i j d le inside in
    omega (arith, at_i, at_j, low)

-- parts of a checkpoint that are sorted by their numbers are in the order of the checkpoint
pub sorted_are_numbered : (sorted : List KeptPart) (ordered : List PartReading) (d : KeptPart) → IsNonDecreasingBy (λ (text : KeptPart). text.part) sorted → AreNumbered ordered → AreSameTexts (shown_by_all sorted) ordered
    → AreNumbered (shown_by_all sorted)
sorted_are_numbered sorted ordered d rise are same = λ k e fits.
    let texts : List PartReading = shown_by_all sorted in
    let moved = same_numbers texts ordered same in
    let distinct : IsDistinct eqb (numbers_of texts) = IsDistinct-IsPermutation eqb nat_eq_equiv.symm (numbers_of ordered) (numbers_of texts) moved (numbers_differ (shown_by d) ordered are) in
    let up : IsStrictlyIncreasing (numbers_of texts) = IsStrictlyIncreasing-from_distinct (numbers_of texts) (sorted_numbers sorted d rise) distinct in
    let many : length (numbers_of texts) ≡ length (numbers_of ordered) = length_permutation (numbers_of ordered) (numbers_of texts) moved in
    let below : All (λ (n : ℕ). n < length (numbers_of ordered)) (numbers_of texts) =
    All-permutation (λ (n : ℕ). n < length (numbers_of ordered)) (numbers_of ordered) (numbers_of texts) moved (numbers_below (shown_by d) ordered are) in
    let within : k < length (numbers_of texts) = omega (arith, fits, length-map texts (λ (text : PartReading). text.part)) in
    let is = number_at (numbers_of texts) up k within (subst (λ (m : ℕ). All (λ (n : ℕ). n < m) (numbers_of texts)) (sym many) below) in
    sym (get_or-map (λ (text : PartReading). text.part) texts k e 0 fits) ∙ is

-- ---- a checkpoint, or none

same_texts_as : (texts sorted : List KeptPart) → IsPermutation texts sorted → AreSameTexts (shown_by_all texts) (shown_by_all sorted)
same_texts_as texts sorted moved = IsPermutation-map whole (shown_by_all texts) (shown_by_all sorted) (IsPermutation-map shown_by texts sorted moved)

first_times : (checkpoint : CheckpointReading) (count : ℕ) (texts : List KeptPart) (first : KeptPart) → slice_get texts 0 ≡ Some first → AreInPlace checkpoint count 0 (shown_by_all texts)
    → (checkpoint.begin ≡ first.begin) × (checkpoint.end ≡ first.end)
first_times checkpoint count [] first at are = cc
first_times checkpoint count (x ∷ xs) first at are =
    let e : x ≡ first = cc in
    (sym are.0.begin_agrees ∙ ap (λ (y : KeptPart). y.begin) e, sym are.0.end_agrees ∙ ap (λ (y : KeptPart). y.end) e)

-- parts that make up no checkpoint in the order of their numbers make up none in any order
pub none_made : (texts sorted : List KeptPart) (first : KeptPart) → IsPermutation texts sorted → IsNonDecreasingBy (λ (text : KeptPart). text.part) sorted → slice_get sorted 0 ≡ Some first
    → ((number : ℕ) → AreItsParts (shown_by_all sorted) (reading_of number first.begin first.end sorted) → ⊥) → MakeUpNone (shown_by_all texts)
none_made texts parts first moved rise at not checkpoint can =
    let sorted : List PartReading = shown_by_all parts in
    let there : AreSameTexts (shown_by_all texts) sorted = same_texts_as texts parts moved in
    let same : AreSameTexts sorted can.ordered =
    IsPermutation-trans (map whole sorted) (map whole (shown_by_all texts)) (map whole can.ordered) (IsPermutation-sym (map whole (shown_by_all texts)) (map whole sorted) there) can.same in
    let ordered_are : AreNumbered can.ordered = are_numbered checkpoint (length can.ordered) can.ordered can.make_up.in_place in
    let are : sorted ≡ can.ordered = same_texts sorted can.ordered (sorted_are_numbered parts can.ordered first rise ordered_are same) ordered_are same in
    let make_up = subst (λ (xs : List PartReading). AreItsParts xs checkpoint) (sym are) can.make_up in
    let times = first_times checkpoint (length sorted) parts first at make_up.in_place in
    not checkpoint.number (record {
      some = make_up.some;
      in_place = in_place_of checkpoint (reading_of checkpoint.number first.begin first.end parts) (length sorted) 0 sorted times.0 times.1 make_up.in_place;
      begins = omega (arith, make_up.begins, times.0, times.1);
      all = refl;
      rise = subst (λ (entries : List Change). AreRising (entry_keys entries)) make_up.all make_up.rise;
    })

-- an empty list of parts makes up no checkpoint
pub none_of_none : (texts sorted : List KeptPart) → IsPermutation texts sorted → slice_get sorted 0 ≡ None → MakeUpNone (shown_by_all texts)
none_of_none texts [] moved none checkpoint can =
    omega (arith, can.make_up.some, length_permutation texts [] moved, length-map texts shown_by, length-map (shown_by_all texts) whole, length-map can.ordered whole, length_permutation (map whole (shown_by_all texts)) (map whole can.ordered) can.same)
none_of_none texts (x ∷ xs) moved none checkpoint can = cc

-- the entries of parts are those that the parts say
pub entries_shown : (parts : List KeptPart) → entries_of (shown_by_all parts) ≡ flat_map (λ (part : KeptPart). part.entries) parts
entries_shown [] = refl
entries_shown (part ∷ parts) = ap (λ (entries : List Change). part.entries ++ entries) (entries_shown parts)

pub made : (number : ℕ) (texts : List KeptPart) (value : Checkpoint) → value.number ≡ number → IsPermutation texts value.parts.items
    → AreItsParts (shown_by_all value.parts.items) (checkpoint_in value) → IsMadeOfParts number (shown_by_all texts) value
made number texts value number_is moved make_up = record { number_is = number_is; same = same_texts_as texts value.parts.items moved; make_up = make_up }
