-- Bytes in blocks.
use Rattle.std.proofs.Common.{◌≡◌, ℕ, ◌<◌, Bool, false, List, [], ◌∷◌, ◌++◌, length, sym, refl, ap, subst, ◌∙◌, append_assoc}
use Rattle.std.specs.Prelude.{All, ◌==◌}
use Rattle.std.proofs.lemmas.Bool.{false≢true}
use Rattle.std.proofs.lemmas.List.{append-nil, flat_map_more}
use Rattle.std.proofs.lemmas.List.Elements.{All-append, All-cons, All-nil}
use Rattle.mt_block.specs.declared.block.TheConstants.{MOST_BODY}
use Rattle.mt_block.specs.Blocks.{block, blocks, IsBody}
use Rattle.mt_block.specs.Sealing.{joined, bodies_of, IsSealing}

pub joined_more : (bodies : List (List ℕ)) (body : List ℕ) → joined (bodies ++ body ∷ []) ≡ joined bodies ++ body
joined_more [] body = append-nil body
joined_more (b ∷ bs) body = ap (λ (l : List ℕ). b ++ l) (joined_more bs body) ∙ sym (append_assoc b (joined bs) body)

-- one more body is cut off the front of the rest
pub joins_more : (bytes : List ℕ) (full : List (List ℕ)) (body rest after : List ℕ) → bytes ≡ joined full ++ rest → rest ≡ body ++ after → bytes ≡ joined (full ++ body ∷ []) ++ after
joins_more bytes full body rest after joins split =
    joins ∙ ap (λ (l : List ℕ). joined full ++ l) split ∙ sym (append_assoc (joined full) body after) ∙ ap (λ (l : List ℕ). l ++ after) (sym (joined_more full body))

-- one more block is appended
pub blocks_more : (mark : ℕ) (old out new : List ℕ) (full : List (List ℕ)) (body : List ℕ) → out ≡ old ++ blocks mark full → new ≡ out ++ block mark body → new ≡ old ++ blocks mark (full ++ body ∷ [])
blocks_more mark old out new full body before appended =
    appended ∙ ap (λ (l : List ℕ). l ++ block mark body) before ∙ append_assoc old (blocks mark full) (block mark body) ∙ ap (λ (l : List ℕ). old ++ l) (flat_map_more (block mark) [] full body)

pub all_more : {T : Type 0} (P : T → Type 0) (xs : List T) (x : T) → All P xs → P x → All P (xs ++ x ∷ [])
all_more P xs x are is = All-append P xs (x ∷ []) are (All-cons P x [] is (All-nil P))

one_body : (left : List ℕ) (empty : Bool) → empty ≡ (length left == 0) → empty ≡ false → bodies_of left ≡ left ∷ []
one_body [] empty is some = absurd (false≢true (sym some ∙ is))
one_body (b ∷ bs) empty is some = refl

-- what is left is appended as one more block
pub sealed_with : (mark : ℕ) (bytes old out new : List ℕ) (full : List (List ℕ)) (left : List ℕ) (empty : Bool) → bytes ≡ joined full ++ left → All (λ body. length body ≡ MOST_BODY) full → All IsBody full
    → out ≡ old ++ blocks mark full → length left < MOST_BODY → empty ≡ (length left == 0) → empty ≡ false → IsBody left → new ≡ out ++ block mark left
    → (sealed : List ℕ) × IsSealing mark bytes sealed × (new ≡ old ++ sealed)
sealed_with mark bytes old out new full left empty joins are_full are_bodies before few is some is_body appended =
    let one = one_body left empty is some in (
      blocks mark (full ++ left ∷ []),
      record {
        full = full;
        left = left;
        joins = joins;
        are_full = are_full;
        few = few;
        are_bodies = ap_All (sym one) (all_more IsBody full left are_bodies is_body);
        spelled = ap (λ (l : List (List ℕ)). blocks mark (full ++ l)) (sym one);
      },
      blocks_more mark old out new full left before appended,
    )
  where
    ap_All : left ∷ [] ≡ bodies_of left → All IsBody (full ++ left ∷ []) → All IsBody (full ++ bodies_of left)
    ap_All e are = subst (λ (l : List (List ℕ)). All IsBody (full ++ l)) e are
