-- A burst of errors makes no part of a part.
use Rattle.std.proofs.Common.{◌≡◌, inl, inr, ℕ, List, [], ◌∷◌, ◌++◌, length, codes, refl, sym, ap, subst, ◌∙◌, arith}
use Rattle.std.proofs.lemmas.List.{length-append, append-nil}
use Rattle.std.proofs.lemmas.List.Concat.{flat_map-append}
use Rattle.byteorder.specs.Endian.{big_bytes}
use Rattle.mt_crc.specs.Crc.{AreBytes, IsBurst}
use Rattle.mt_crc.proofs.Changes.{burst_is_seen}
use Rattle.mt_crc.proofs.Codewords.{no_burst, four_bytes}
use Rattle.mt_block.specs.declared.part_header.PartHeader.{PartHeader}
use Rattle.mt_block.specs.Blocks.{block, blocks, LosesFew}
use Rattle.mt_block.specs.Parts.{part_header_fields, part_header_bytes, part_mark, BeginsPart}
use Rattle.mt_block.proofs.Heads.{block-length}
use Rattle.mt_block.proofs.Splits.{burst_splits}
use Rattle.mt_block.proofs.Headers.{are_big, both}
use Rattle.mt_block.proofs.PartHeaders.{part_header-length, same_part_header}
use Rattle.mt_block.proofs.Errors.{same_few}

are_part_header : (header : PartHeader) → AreBytes (part_header_fields header)
are_part_header header =
    let begin : List ℕ = big_bytes 8 header.begin in
    let one : List ℕ = big_bytes 4 1 ++ begin in
    let parts : List ℕ = big_bytes 2 header.parts ++ one in
    let part : List ℕ = big_bytes 2 header.part ++ parts in
    let number : List ℕ = big_bytes 4 header.number ++ part in
    let salt : List ℕ = big_bytes 8 header.salt ++ number in
    both (codes "MTC4") salt (four_bytes 77 84 67 52 (omega arith) (omega arith) (omega arith) (omega arith))
    (both (big_bytes 8 header.salt) number (are_big 8 header.salt)
    (both (big_bytes 4 header.number) part (are_big 4 header.number)
    (both (big_bytes 2 header.part) parts (are_big 2 header.part)
    (both (big_bytes 2 header.parts) one (are_big 2 header.parts)
    (both (big_bytes 4 1) begin (are_big 4 1) (are_big 8 header.begin))))))

-- bytes differ from themselves by no burst
none_of_itself : (xs ys : List ℕ) → xs ≡ ys → IsBurst xs ys → ⊥
none_of_itself xs ys e burst = burst_is_seen 0 ys ys (subst (λ (l : List ℕ). IsBurst l ys) e burst) refl

-- as many bytes in blocks are as many blocks, if only the last may be missing
none_lost : (mark : ℕ) (bodies others : List (List ℕ)) → LosesFew bodies others → length (blocks mark bodies) ≡ length (blocks mark others) → bodies ≡ others
none_lost mark bodies others ([], e, few) sizes = e ∙ append-nil others
none_lost mark bodies others (b ∷ bs, e, few) sizes =
    let apart : blocks mark bodies ≡ blocks mark others ++ (block mark b ++ blocks mark bs) = ap (blocks mark) e ∙ flat_map-append (block mark) others (b ∷ bs) in
    let long = ap length apart in
    absurd (omega (arith, sizes, long, length-append (blocks mark others) (block mark b ++ blocks mark bs), length-append (block mark b) (blocks mark bs), block-length mark b))

pub part_seen_of : (bytes other : List ℕ) (header new : PartHeader) (bodies others : List (List ℕ)) → BeginsPart bytes header bodies [] → BeginsPart other new others [] → IsBurst bytes other → ⊥
part_seen_of bytes other header new bodies others is changed burst =
    let x : List ℕ = blocks (part_mark header) bodies ++ [] in
    let y : List ℕ = blocks (part_mark new) others ++ [] in
    let first : IsBurst (part_header_bytes header ++ x) other = subst (λ (l : List ℕ). IsBurst l other) is.spelled burst in
    let whole : IsBurst (part_header_bytes header ++ x) (part_header_bytes new ++ y) = subst (IsBurst (part_header_bytes header ++ x)) changed.spelled first in
    elim (burst_splits (part_header_bytes header) (part_header_bytes new) x y (part_header-length header ∙ sym (part_header-length new)) whole) as (λ _. ⊥) [
      | inl (same, behind) ↦
          let headers : header ≡ new = (same_part_header header new [] [] is.is_header changed.is_header (ap (λ (l : List ℕ). l ++ []) same)).0 in
          by (subst (λ (s : PartHeader). IsBurst x (blocks (part_mark s) others ++ [])) (sym headers) behind)
      | inr broken ↦ no_burst 0 (part_header_fields header) (part_header_fields new) (omega arith) (are_part_header header) (are_part_header new) broken
    ]
  where
    by : IsBurst (blocks (part_mark header) bodies ++ []) (blocks (part_mark header) others ++ []) → ⊥
    by behind =
        let sizes : length (blocks (part_mark header) bodies) ≡ length (blocks (part_mark header) others) = sym (ap length (append-nil (blocks (part_mark header) bodies))) ∙ behind.sizes ∙ ap length (append-nil (blocks (part_mark header) others)) in
        let same : bodies ≡ others = elim (same_few (part_mark header) bodies others [] [] is.are_bodies changed.are_bodies (inl refl) (inl refl) behind) as (λ _. bodies ≡ others) [
          | inl few ↦ none_lost (part_mark header) bodies others few sizes
          | inr few ↦ sym (none_lost (part_mark header) others bodies few (sym sizes))
        ] in
        none_of_itself (blocks (part_mark header) bodies ++ []) (blocks (part_mark header) others ++ []) (ap (λ (bs : List (List ℕ)). blocks (part_mark header) bs ++ []) same) behind
