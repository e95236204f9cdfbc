-- Keys of entries, and keys that strictly rise.
use Rattle.std.proofs.Common.{◌≡◌, ◌≢◌, ◌∙◌, ◌↔◌, ℕ, suc, ◌-◌, ◌<◌, true, List, [], ◌∷◌, ◌++◌, length, map, get_or, refl, sym, ap, subst, arith}
use Rattle.std.specs.Prelude.{nat_lt}
use Rattle.std.specs.List.{AllByRecursion}
use Rattle.std.specs.Ordering.{nat_cmp, is_lt}
use Rattle.std.specs.Cmp.Lexicographic.{slice_cmp}
use Rattle.std.proofs.lemmas.Bool.Decides.{nat_tests}
use Rattle.std.proofs.lemmas.List.{get_or-map, get_or_default, length-append}
use Rattle.std.proofs.lemmas.Cmp.{ranked}
use Rattle.mt_words.specs.declared.record.Change.{Change}
use Rattle.mt_words.specs.declared.update.Kind.TheVariants.{Remove}
use Rattle.mt_words.specs.Slices.{AreBytes, slice_in}
use Rattle.mt_words.specs.Words.{IsBelow, AreRising}
use Rattle.mt_words.proofs.SliceLemmas.{by_slices}
use Rattle.mt_words.proofs.KeyOrder.{below_trans}
use Rattle.mt_record.specs.Steps.Kept.{IsLastSlice}

abbrev pub AreAbove : List ℕ → List (List ℕ) → Type 0
AreAbove x xs = AllByRecursion (IsBelow x) xs

-- keys that are above another one are above each key below it
pub above_all : (x y : List ℕ) (ys : List (List ℕ)) → IsBelow x y → AreAbove y ys → AreAbove x ys
above_all x y [] h are = tt
above_all x y (z ∷ zs) h are = (below_trans x y z h are.0, above_all x y zs h are.1)

above_front : (x : List ℕ) (xs ys : List (List ℕ)) → AreAbove x (xs ++ ys) → AreAbove x xs
above_front x [] ys are = tt
above_front x (y ∷ xs) ys are = (are.0, above_front x xs ys are.1)

-- the front of a rising list rises
pub rise_front : (xs ys : List (List ℕ)) → AreRising (xs ++ ys) → AreRising xs
rise_front [] ys rise = tt
rise_front (x ∷ xs) ys rise = (above_front x xs ys rise.0, rise_front xs ys rise.1)

-- the last of at least two keys is the last of them without the first
last_at : (k l : List ℕ) (ks : List (List ℕ)) (last : List ℕ) → last ≡ get_or (k ∷ l ∷ ks) (length (k ∷ l ∷ ks) - 1) last → last ≡ get_or (l ∷ ks) (length (l ∷ ks) - 1) last
last_at k l ks last at =
    let e : length (k ∷ l ∷ ks) - 1 ≡ suc (length (l ∷ ks) - 1) = omega arith in
    at ∙ ap (λ (n : ℕ). get_or (k ∷ l ∷ ks) n last) e

-- rising keys rise with one more key, if it is above the last of them
rise_push : (keys : List (List ℕ)) (last key : List ℕ) → 0 < length keys → last ≡ get_or keys (length keys - 1) last → AreRising keys → IsBelow last key → AreRising (keys ++ key ∷ [])
rise_push [] last key some at rise below = absurd (omega (arith, some))
rise_push (k ∷ []) last key some at rise below = ((subst (λ (x : List ℕ). IsBelow x key) at below, tt), (tt, tt))
rise_push (k ∷ l ∷ ks) last key some at rise below =
    let rest : AreRising (l ∷ ks ++ key ∷ []) = rise_push (l ∷ ks) last key (omega arith) (last_at k l ks last at) rise.1 below in
    ((rise.0.0, above_all k l (ks ++ key ∷ []) rise.0.0 rest.0), rest)

-- the last of rising keys is above the one before it
above_last : (keys : List (List ℕ)) (last key : List ℕ) → 0 < length keys → last ≡ get_or keys (length keys - 1) last → AreRising (keys ++ key ∷ []) → IsBelow last key
above_last [] last key some at rise = absurd (omega (arith, some))
above_last (k ∷ []) last key some at rise = subst (λ (x : List ℕ). IsBelow x key) (sym at) rise.0.0
above_last (k ∷ l ∷ ks) last key some at rise = above_last (l ∷ ks) last key (omega arith) (last_at k l ks last at) rise.1

-- rising keys rise with one more key exactly if it is above the last of them
pub rise_to : (keys : List (List ℕ)) (last key : List ℕ) → 0 < length keys → last ≡ get_or keys (length keys - 1) last → AreRising keys → IsBelow last key ↔ AreRising (keys ++ key ∷ [])
rise_to keys last key some at rise = (rise_push keys last key some at rise, above_last keys last key some at)

-- slices that differ tell whether a key is below another
pub slices_tell : (a b : List ℕ) → AreBytes a → AreBytes b → slice_in a ≢ slice_in b → nat_lt (slice_in a) (slice_in b) ≡ is_lt (slice_cmp nat_cmp a b)
slices_tell a b p q apart = let order = ranked (slice_in a) (slice_in b) (nat_cmp (slice_in a) (slice_in b)) refl in let is = by_slices a b p q apart in grind (arith, nat_tests)

-- rising keys rise with one more key if its slice is above that of the last of them
pub rise_by_slice : (keys : List (List ℕ)) (slice : ℕ) (key : List ℕ) → AreRising keys → IsLastSlice keys slice → AreBytes key → slice < slice_in key → AreRising (keys ++ key ∷ [])
rise_by_slice [] slice key rise told bytes above = (tt, tt)
rise_by_slice (k ∷ ks) slice key rise told bytes above =
    let last : List ℕ = get_or (k ∷ ks) (length (k ∷ ks) - 1) [] in
    let are = told (omega arith) in
    let apart : slice_in last ≢ slice_in key = λ same. omega (arith, are.0, same, above) in
    let less : nat_lt (slice_in last) (slice_in key) ≡ true = let is = are.0 in grind (arith, nat_tests) in
    rise_push (k ∷ ks) last key (omega arith) (get_or_default (k ∷ ks) (length (k ∷ ks) - 1) [] last (omega arith)) rise (sym (slices_tell last key are.1 bytes apart) ∙ less)

last_pushed : (keys : List (List ℕ)) (key : List ℕ) → get_or (keys ++ key ∷ []) (length (keys ++ key ∷ []) - 1) [] ≡ key
last_pushed [] key = refl
last_pushed (k ∷ ks) key =
    let e : length (k ∷ ks ++ key ∷ []) - 1 ≡ suc (length (ks ++ key ∷ []) - 1) = omega (arith, length-append ks (key ∷ [])) in
    ap (λ (n : ℕ). get_or (k ∷ ks ++ key ∷ []) n []) e ∙ last_pushed ks key

-- after one more key, the slice of the last one is its slice
pub slice_pushed : (keys : List (List ℕ)) (key : List ℕ) (slice : ℕ) → slice ≡ slice_in key → AreBytes key → IsLastSlice (keys ++ key ∷ []) slice
slice_pushed keys key slice is bytes some = subst (λ (k : List ℕ). (slice ≡ slice_in k) × AreBytes k) (sym (last_pushed keys key)) (is, bytes)

-- the key of an entry is the key at its position in the list of all keys
pub key_at : (entries : List Change) (n : ℕ) (key : List ℕ) → n < length entries → ((d : Change) → key ≡ (get_or entries n d).key) → key ≡ get_or (map (λ (entry : Change). entry.key) entries) n key
key_at entries n key below is =
    let d : Change = record { version = 0; key = []; kind = Remove } in
    is d ∙ sym (get_or-map (λ (entry : Change). entry.key) entries n d key below)
