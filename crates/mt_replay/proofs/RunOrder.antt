-- Numbers that are in order are sorted run by run: a run is of one head.
use Rattle.std.proofs.Common.{◌≡◌, ℕ, ◌+◌, ◌-◌, ◌<◌, ◌≤◌, ◌/◌, ◌^◌, List, ◌++◌, length, get_or, take, drop, false, sym, ap, ◌∙◌, subst, arith}
use Rattle.std.specs.Prelude.{All, IsPermutation}
use Rattle.std.specs.declared.cmp.Ordering.TheVariants.{Greater}
use Rattle.std.specs.Cmp.{nat_cmp_is}
use Rattle.std.specs.Ordering.{is_lt}
use Rattle.std.proofs.lemmas.List.{map-append, get_or-take, get_or-drop, get_or_default, get_or_append_left, get_or-append_right, length-append, length-take-le, length-drop}
use Rattle.std.proofs.lemmas.List.Elements.{All-append, All-take, All-drop, All-map}
use Rattle.std.proofs.lemmas.List.Sorted.{All-permutation, IsNonDecreasingBy-drop}
use Rattle.std.proofs.lemmas.Nat.{pow_pos}
use Rattle.itertools.proofs.ListLemmas.{div-le-div}
use Rattle.mt_words.specs.declared.update.Update.{Update}
use Rattle.mt_words.specs.Slices.{AreBytes, slice_in}
use Rattle.mt_words.proofs.SliceLemmas.{by_slices}
use Rattle.mt_replay.specs.Cuts.{is_below}
use Rattle.mt_replay.specs.Steps.Numbers.{places, rest_of, rests, head_of, AreInOrder, BeginsWith, AreSorted}
use Rattle.mt_replay.proofs.NumberLemmas.{rests_moved}
use Rattle.mt_replay.proofs.KeyOrder.{joined_in_order}

-- a lower head is of a lower rest
head_orders : (bits : ℕ) (x y : List ℕ) → AreBytes x → AreBytes y → head_of bits x < head_of bits y → is_below y x ≡ false
head_orders bits x y p q low =
    let back = div-le-div (slice_in y) (slice_in x) (2 ^ bits) (pow_pos bits) in
    let above : slice_in x < slice_in y = grind arith in
    ap is_lt (by_slices y x q p (λ same. omega (arith, above, same)) ∙ sym (nat_cmp_is (slice_in y) (slice_in x) Greater above))

-- the first run of the numbers that are left was sorted
pub run_sorted : (bits : ℕ) (updates : List Update) (depth n : ℕ) (done left run : List ℕ) → 0 < n → n ≤ length left → AreSorted bits updates depth done left
    → ((k : ℕ) → k < n → get_or left k 0 / 2 ^ bits ≡ get_or left 0 0 / 2 ^ bits) → (n < length left → ¬ (get_or left 0 0 / 2 ^ bits ≡ get_or left n 0 / 2 ^ bits))
    → IsPermutation (places bits (take n left)) (places bits run) → AreInOrder (rests bits updates depth run) → AreSorted bits updates depth (done ++ run) (drop n left)
run_sorted bits updates depth n done left run some fits was alike ends same sorted =
    let w = 2 ^ bits in
    let q = get_or left 0 0 / w in
    let mid = take n left in
    let rest : ℕ → List ℕ = rest_of bits updates depth in
    let A = rests bits updates depth done in
    let B = rests bits updates depth run in
    let Q : List ℕ → Type 0 = λ r. (head_of bits r ≡ q) × AreBytes r in
    let of_mid : All (λ number. Q (rest number)) mid = λ k d low.
    (let within : k < n = omega (arith, low, length-take-le n left fits) in
    let begins = All-take (λ number. BeginsWith bits number (rest number)) n left was.heads k d low in
    let item : get_or mid k d ≡ get_or left k 0 = get_or-take n left k d within ∙ get_or_default left k d 0 (omega (arith, within, fits)) in
    (sym begins.head ∙ ap (λ (m : ℕ). m / w) item ∙ alike k within, begins.bytes)) in
    let of_run : All Q B = All-permutation Q (rests bits updates depth mid) B (rests_moved bits updates depth mid run same) (All-map Q rest mid of_mid) in
    let later : All (λ number. q < number / w) (drop n left) = λ k d low.
    (let long : n + k < length left = omega (arith, low, length-drop n left) in
    let item : get_or (drop n left) k d ≡ get_or left (n + k) 0 = get_or-drop n left k d ∙ get_or_default left (n + k) d 0 long in
    let first = div-le-div (get_or left 0 0) (get_or left n 0) w (pow_pos bits) (was.rising 0 n 0 (omega arith) (omega (arith, long))) in
    let next = div-le-div (get_or left n 0) (get_or left (n + k) 0) w (pow_pos bits) (was.rising n (n + k) 0 (omega arith) long) in
    let apart : q < get_or left n 0 / w = let other = ends (omega (arith, long)) in grind arith in
    subst (λ (m : ℕ). q < m / w) (sym item) (omega (arith, apart, next))) in
    let both = map-append rest done run in
    let Below : List ℕ → Type 0 = λ r. All (λ number. head_of bits r < number / w) (drop n left) in
    record {
      in_order = subst AreInOrder (sym both) (joined_in_order is_below A B was.in_order sorted (λ d low high.
          let left = get_or_append_left A B d (length A - 1) (omega arith) in
          let right = get_or-append_right A B (length A) in
          let next = of_run 0 d high in
          let orders = head_orders bits (get_or A (length A - 1) d) (get_or B 0 d) (was.bytes (length A - 1) d (omega arith)) next.1 (subst (λ (m : ℕ). head_of bits (get_or A (length A - 1) d) < m) (sym next.0) (was.below (length A - 1) d (omega arith) 0 0 (omega (arith, some, fits)))) in
          grind arith));
      bytes = subst (All AreBytes) (sym both) (All-append AreBytes A B was.bytes (λ k d low. (of_run k d low).1));
      below = subst (All Below) (sym both) (All-append Below A B (λ k d low. All-drop (λ (number : ℕ). head_of bits (get_or A k d) < number / w) n left (was.below k d low))
          (λ k d low. subst (λ (m : ℕ). All (λ number. m < number / w) (drop n left)) (sym (of_run k d low).0) later));
      rising = IsNonDecreasingBy-drop (λ (m : ℕ). m) n left was.rising;
      heads = All-drop (λ number. BeginsWith bits number (rest number)) n left was.heads;
    }
