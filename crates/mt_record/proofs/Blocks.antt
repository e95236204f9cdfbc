-- Texts in blocks.
use Rattle.std.proofs.Common.{◌≡◌, ◌∙◌, ℕ, zero, suc, ◌+◌, ◌*◌, ◌^◌, ◌/◌, ◌%◌, ◌<◌, ◌≤◌, List, [], ◌∷◌, ◌++◌, length, take, get_or, All, refl, sym, ap, subst, arith}
use Rattle.std.proofs.lemmas.Nat.{div-add-mod', mod_below}
use Rattle.std.proofs.lemmas.List.{length-append, append-nil, get_or_append_left, get_or-append-add}
use Rattle.std.proofs.lemmas.List.Concat.{get_or-flat_map}
use Rattle.std.proofs.lemmas.List.Elements.{All-append, All-head, All-push, All-tail}
use Rattle.std.proofs.lemmas.Grind.{flat_map-append}
use Rattle.mt_words.specs.Walks.{joined}
use Rattle.mt_record.specs.Steps.Blocks.{IsFull, AreBlocks}

-- the texts of full blocks
pub joined_length : (full : List (List (List ℕ))) → All IsFull full → length (joined full) ≡ length full * 512
joined_length [] are = refl
joined_length (block ∷ blocks) are =
    omega (arith, length-append block (joined blocks), All-head IsFull block blocks are, joined_length blocks (All-tail IsFull block blocks are))

-- the texts of all blocks
pub texts_length : (full : List (List (List ℕ))) (last : List (List ℕ)) → All IsFull full → length (joined full ++ last) ≡ length full * 512 + length last
texts_length full last are = omega (arith, length-append (joined full) last, joined_length full are)

-- the texts before a block
before : (full : List (List (List ℕ))) (nth : ℕ) → All IsFull full → nth < length full → length (joined (take nth full)) ≡ nth * 512
before [] nth are below = absurd (omega (arith, below))
before (block ∷ blocks) zero are below = refl
before (block ∷ blocks) (suc nth) are below =
    omega (arith, length-append block (joined (take nth blocks)), All-head IsFull block blocks are, before blocks nth (All-tail IsFull block blocks are) (omega (arith, below)))

-- a text of a full block
pub in_full : (full : List (List (List ℕ))) (last block : List (List ℕ)) (nth place at : ℕ) (text d : List ℕ) → All IsFull full → nth < length full → place < 512 → nth * 512 + place ≡ at
    → block ≡ get_or full nth block → ((d : List ℕ) → text ≡ get_or block place d) → text ≡ get_or (joined full ++ last) at d
in_full full last block nth place at text d are below small is found has =
    let size : length (get_or full nth block) ≡ 512 = are nth block below in
    let seat : length (joined (take nth full)) + place ≡ at = omega (arith, before full nth are below, is) in
    let within : at < length (joined full) = omega (arith, joined_length full are, below, small, is) in
    has d
    ∙ ap (λ (texts : List (List ℕ)). get_or texts place d) found
    ∙ sym (get_or-flat_map (λ (list : List (List ℕ)). list) full nth place block d below (omega (arith, size, small)))
    ∙ ap (λ (n : ℕ). get_or (joined full) n d) seat
    ∙ sym (get_or_append_left (joined full) last d at within)

-- a text of the last block
pub in_last : (full : List (List (List ℕ))) (last : List (List ℕ)) (place at : ℕ) (text d : List ℕ) → All IsFull full → at ≡ length full * 512 + place
    → ((d : List ℕ) → text ≡ get_or last place d) → text ≡ get_or (joined full ++ last) at d
in_last full last place at text d are is has =
    has d ∙ sym (get_or-append-add (joined full) last place d) ∙ ap (λ (n : ℕ). get_or (joined full ++ last) n d) (omega (arith, is, joined_length full are))

-- a place past the full blocks lies in the last one
pub past_full : (full : List (List (List ℕ))) (last now : List (List ℕ)) (at : ℕ) → joined full ++ last ≡ now → AreBlocks full last → at < length now → length full ≤ at / 512
    → (at ≡ length full * 512 + at % 512) × (at % 512 < length last)
past_full full last now at view are below past =
    let count = texts_length full last are.filled in
    let whole = div-add-mod' at 512 in
    let part = mod_below at 512 (omega arith) in
    let same : length (joined full ++ last) ≡ length now = ap length view in (
      omega (arith, count, same, whole, part, below, are.within, past),
      omega (arith, count, same, whole, part, below, are.within, past),
    )

-- the last block as one of the others
pub all_blocks : (full all : List (List (List ℕ))) (last : List (List ℕ)) → all ≡ full ++ last ∷ [] → joined all ≡ joined full ++ last
all_blocks full all last is =
    ap joined is ∙ flat_map-append (λ (list : List (List ℕ)). list) full (last ∷ []) ∙ ap (λ (texts : List (List ℕ)). joined full ++ texts) (append-nil last)

-- the last block as one of the others, and then further blocks
pub blocks_append : (full more new : List (List (List ℕ))) (last end dest : List (List ℕ)) → AreBlocks full last → AreBlocks more end → length last ≡ 512 → length full + length more < 2 ^ 54
    → new ≡ (full ++ last ∷ []) ++ more → dest ≡ end → AreBlocks new dest
blocks_append full more new last end dest are others whole small is same = record {
  filled = subst (All IsFull) (sym is) (All-append IsFull (full ++ last ∷ []) more (All-push IsFull full last are.filled whole) others.filled);
  few = omega (arith, ap length is, length-append (full ++ last ∷ []) more, length-append full (last ∷ []), small);
  within = omega (arith, ap length same, others.within);
}
