use Rattle.std.proofs.Common.{◌≡◌, ℕ, suc, ◌+◌, List, [], ◌∷◌, ◌++◌, length, drop, get_or, refl, sym, ap, ◌∙◌, subst, append_assoc, add-one, arith}
use Rattle.std.specs.Prelude.{slice_index, slice_set}
use Rattle.std.specs.List.{refill}
use Rattle.byteorder.specs.Endian.{big_bytes}
use Rattle.mt_words.specs.Limits.{widest}
use Rattle.mt_words.specs.Columns.{CanFollow}
use Rattle.mt_words.specs.Packed.{column_bytes, ArePacked, columns_counted}
use Rattle.mt_words.proofs.ColumnBytes.{take_front, few_columns, lent_columns, pushed}
use Rattle.mt_words.proofs.packed.PackedColumns.add.Goals as goal

-- three bytes, appended one after the other
three : (block room one two all : List ℕ) (a b c : ℕ) → room ≡ block → one ≡ room ++ a ∷ [] → two ≡ one ++ b ∷ [] → all ≡ two ++ c ∷ [] → all ≡ block ++ a ∷ b ∷ c ∷ []
three block room one two all a b c reserved first second third =
    let apart : all ≡ ((block ++ a ∷ []) ++ b ∷ []) ++ c ∷ [] = cc in
    let together : ((block ++ a ∷ []) ++ b ∷ []) ++ c ∷ [] ≡ block ++ a ∷ b ∷ c ∷ [] = simp append_assoc in
    apart ∙ together

-- a block, then the number, the length and the bytes of a column
joined : (block one two bytes both : List ℕ) (number : ℕ) → ArePacked block → both ≡ big_bytes 2 (length bytes) → one ≡ block ++ number ∷ get_or both 0 0 ∷ get_or both 1 0 ∷ []
    → two ≡ one ++ bytes → two ≡ slice_index block 0 ∷ (drop 1 block ++ column_bytes (number, bytes))
joined [] one two bytes both number are is header all = absurd (omega (arith, ap length are.spelled))
joined (count ∷ rest) one two bytes both number are is header all =
    let front : number ∷ get_or both 0 0 ∷ get_or both 1 0 ∷ [] ≡ number ∷ big_bytes 2 (length bytes) = ap (λ (b : List ℕ). number ∷ get_or b 0 0 ∷ get_or b 1 0 ∷ []) is in
    all ∙ ap (λ (x : List ℕ). x ++ bytes) (header ∙ ap (λ (x : List ℕ). (count ∷ rest) ++ x) front)
    ∙ append_assoc (count ∷ rest) (number ∷ big_bytes 2 (length bytes)) bytes

-- one more in the count
counted : (two slice rest : List ℕ) (count : ℕ) → slice ≡ two → two ≡ count ∷ rest → refill (length two) two (slice_set slice 0 (get_or slice 0 0 + 1)) ≡ suc count ∷ rest
counted two slice rest count same is =
    let more : count + 1 ≡ suc count = add-one count in
    let here : refill (length (count ∷ rest)) (count ∷ rest) ((count + 1) ∷ rest) ≡ (count + 1) ∷ rest =
    take_front (length (count ∷ rest)) ((count + 1) ∷ rest) (drop (length ((count + 1) ∷ rest)) (count ∷ rest)) refl in
    ap (λ (x : List ℕ). refill (length two) two (slice_set x 0 (get_or x 0 0 + 1))) same
    ∙ ap (λ (x : List ℕ). refill (length x) x (slice_set x 0 (get_or x 0 0 + 1))) is
    ∙ here ∙ ap (λ (n : ℕ). n ∷ rest) more

-- the block with one more column
added : (block one two slice bytes both : List ℕ) (number : ℕ) → ArePacked block → CanFollow widest (columns_counted block) (number, bytes) → both ≡ big_bytes 2 (length bytes)
    → one ≡ block ++ number ∷ get_or both 0 0 ∷ get_or both 1 0 ∷ [] → two ≡ one ++ bytes → slice ≡ two
    → let new = refill (length two) two (slice_set slice 0 (get_or slice 0 0 + 1)) in
    ArePacked new × (columns_counted new ≡ columns_counted block ++ (number, bytes) ∷ [])
added block one two slice bytes both number are follows is header all same =
    pushed block (refill (length two) two (slice_set slice 0 (get_or slice 0 0 + 1))) (number, bytes) are follows
    (counted two slice (drop 1 block ++ column_bytes (number, bytes)) (slice_index block 0) same (joined block one two bytes both number are is header all))

pub overflow_add-as_mut_slice : goal.overflow_add-as_mut_slice
overflow_add-as_mut_slice c =
    let block = c.self.inside.bytes.items in
    let header = three _ _ _ _ _ c.args.number (get_or c.to_be_bytes.result 0 0) (get_or c.to_be_bytes.result 1 0) c.reserve.ensures.items c.push_reserved.ensures.items c.push_reserved-2.ensures.items c.push_reserved-3.ensures.items in
    let two = joined block _ _ c.args.bytes.now _ _ c.self.invariant c.to_be_bytes.ensures header c.in_ok-extend_from_slice.ensures.ok in
    let first : get_or c.as_mut_slice.result.now 0 0 ≡ slice_index block 0 = ap (λ (x : List ℕ). get_or x 0 0) (c.as_mut_slice.ensures.value ∙ two) in
    omega (arith, first, few_columns widest (columns_counted block) c.self.invariant.lawful, (lent_columns block c.self.invariant).spelled.number)

pub invariant_of-self-2 : goal.invariant_of-self-2
invariant_of-self-2 c =
    let follows = subst (λ (columns : List (ℕ × List ℕ)). CanFollow widest columns (c.args.number, c.args.bytes.now)) (sym c.self.view_is) c.requires in
    let header = three _ _ _ _ _ c.args.number (get_or c.to_be_bytes.result 0 0) (get_or c.to_be_bytes.result 1 0) c.reserve.ensures.items c.push_reserved.ensures.items c.push_reserved-2.ensures.items c.push_reserved-3.ensures.items in
    (added c.self.inside.bytes.items _ _ _ c.args.bytes.now _ c.args.number c.self.invariant follows c.to_be_bytes.ensures header c.in_ok-extend_from_slice.ensures.ok c.as_mut_slice.ensures.value).0

pub returns-clause-ok : goal.returns-clause-ok
returns-clause-ok c =
    let follows = subst (λ (columns : List (ℕ × List ℕ)). CanFollow widest columns (c.args.number, c.args.bytes.now)) (sym c.self.view_is) c.requires in
    let header = three _ _ _ _ _ c.args.number (get_or c.to_be_bytes.result 0 0) (get_or c.to_be_bytes.result 1 0) c.reserve.ensures.items c.push_reserved.ensures.items c.push_reserved-2.ensures.items c.push_reserved-3.ensures.items in
    (added c.self.inside.bytes.items _ _ _ c.args.bytes.now _ c.args.number c.self.invariant follows c.to_be_bytes.ensures header c.in_ok-extend_from_slice.ensures.ok c.as_mut_slice.ensures.value).1
    ∙ ap (λ (x : List (ℕ × List ℕ)). x ++ (c.args.number, c.args.bytes.now) ∷ []) c.self.view_is
