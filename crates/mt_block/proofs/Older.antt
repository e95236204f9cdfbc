-- A burst makes no log or part of an older format: it leaves the magic, or the places where the older formats have their first length.
use Rattle.std.proofs.Common.{◌≡◌, ℕ, suc, ◌+◌, ◌-◌, ◌≤◌, ◌⊎◌, List, [], ◌∷◌, ◌++◌, length, take, codes, sym, ap, subst, ◌∙◌, arith, inl, inr, length-append}
use Rattle.std.specs.Prelude.{slice_index}
use Rattle.std.proofs.Math.Seq.{take-append_seam}
use Rattle.byteorder.specs.Endian.{big_from}
use Rattle.mt_crc.specs.Crc.{IsBurst}
use Rattle.mt_block.specs.declared.header.Header.{Header}
use Rattle.mt_block.specs.declared.part_header.PartHeader.{PartHeader}
use Rattle.mt_block.specs.Blocks.{header_bytes}
use Rattle.mt_block.specs.Parts.{part_header_bytes}
use Rattle.mt_block.proofs.Splits.{burst_splits, burst_far}
use Rattle.mt_block.proofs.Files.{IsCutAt, cut_at}

-- an index after a list
behind : (xs ys : List ℕ) (i : ℕ) → slice_index (xs ++ ys) (length xs + i) ≡ slice_index ys i
behind [] ys i = let e : 0 + i ≡ i = omega arith in ap (slice_index ys) e
behind (x ∷ xs) ys i = let e : suc (length xs) + i ≡ suc (length xs + i) = omega arith in ap (slice_index (x ∷ (xs ++ ys))) e ∙ behind xs ys i

-- a burst that touches the first four bytes touches none from the ninth on
module _ (xs other : List ℕ) (burst : IsBurst xs other) (cx : IsCutAt 4 xs) (co : IsCutAt 4 other) (bx : IsCutAt 4 cx.back) (bo : IsCutAt 4 co.back) where
  whole : IsBurst (cx.front ++ cx.back) (co.front ++ co.back)
  whole = subst (λ (l : List ℕ). IsBurst (cx.front ++ cx.back) l) co.spelled (subst (λ (l : List ℕ). IsBurst l other) cx.spelled burst)

  ninth : (zs : List ℕ) (c : IsCutAt 4 zs) (b : IsCutAt 4 c.back) (k : ℕ) → 8 ≤ k → slice_index zs k ≡ slice_index b.back (k - 8)
  ninth zs c b k far =
      let one : length c.front + (k - 4) ≡ k = let f : length c.front ≡ 4 = c.size in omega arith in
      let two : length b.front + (k - 8) ≡ k - 4 = let f : length b.front ≡ 4 = b.size in omega arith in
      ap (slice_index zs) (sym one) ∙ ap (λ (l : List ℕ). slice_index l (length c.front + (k - 4))) c.spelled ∙ behind c.front c.back (k - 4)
      ∙ ap (slice_index c.back) (sym two) ∙ ap (λ (l : List ℕ). slice_index l (length b.front + (k - 8))) b.spelled ∙ behind b.front b.back (k - 8)

  parted : (cx.front ≡ co.front) ⊎ ((k : ℕ) → 8 ≤ k → slice_index other k ≡ slice_index xs k)
  parted =
      let sizes : length cx.front ≡ length co.front = cx.size ∙ sym co.size in
      elim (burst_splits cx.front co.front cx.back co.back sizes whole) [
        | inl (same, rest) ↦ inl same
        | inr part ↦
            let e : bx.back ≡ bo.back = burst_far cx.front co.front cx.back co.back sizes whole part bx.front bo.front bx.back bo.back bx.spelled bo.spelled bx.size bo.size in
            inr (λ k far. ninth other co bo k far ∙ ap (λ (l : List ℕ). slice_index l (k - 8)) (sym e) ∙ sym (ninth xs cx bx k far))
      ]

front_is_take : (xs : List ℕ) (c : IsCutAt 4 xs) → c.front ≡ take 4 xs
front_is_take xs c = sym (ap (λ (n : ℕ). take n (c.front ++ c.back)) (sym c.size) ∙ take-append_seam c.front c.back) ∙ ap (take 4) (sym c.spelled)

magic_or_far : (xs other : List ℕ) → 8 ≤ length xs → IsBurst xs other → (take 4 other ≡ take 4 xs) ⊎ ((k : ℕ) → 8 ≤ k → slice_index other k ≡ slice_index xs k)
magic_or_far xs other long burst =
    let s : length xs ≡ length other = burst.sizes in
    by (cut_at 4 xs (omega arith)) (cut_at 4 other (omega arith)) s
  where
    back_long : (zs : List ℕ) (c : IsCutAt 4 zs) → 8 ≤ length zs → 4 ≤ length c.back
    back_long zs c le =
        let e : length zs ≡ length c.front + length c.back = ap length c.spelled ∙ length-append c.front c.back in
        let f : length c.front ≡ 4 = c.size in
        omega arith

    by : IsCutAt 4 xs → IsCutAt 4 other → length xs ≡ length other → (take 4 other ≡ take 4 xs) ⊎ ((k : ℕ) → 8 ≤ k → slice_index other k ≡ slice_index xs k)
    by cx co s =
        elim (parted xs other burst cx co (cut_at 4 cx.back (back_long xs cx long)) (cut_at 4 co.back (back_long other co (omega arith)))) [
          | inl same ↦ inl (sym (front_is_take other co) ∙ sym same ∙ front_is_take xs cx)
          | inr far ↦ inr far
        ]

places : (header : Header) (more : List ℕ) → (big_from 12 4 (header_bytes header ++ more) ≡ 0) × (big_from 20 4 (header_bytes header ++ more) ≡ 0)
places header more = (omega arith, omega arith)

same_places : (xs ys : List ℕ) (i : ℕ) → 8 ≤ i → ((k : ℕ) → 8 ≤ k → slice_index ys k ≡ slice_index xs k) → big_from i 4 ys ≡ big_from i 4 xs
same_places xs ys i far same =
    let a = same i far in
    let b = same (suc i) (omega arith) in
    let c = same (suc (suc i)) (omega arith) in
    let d = same (suc (suc (suc i))) (omega arith) in
    omega (arith, a, b, c, d)

pub no_older : (bytes other : List ℕ) (header : Header) (more : List ℕ) → bytes ≡ header_bytes header ++ more → IsBurst bytes other
    → (take 4 other ≡ codes "MTL4") ⊎ ((big_from 12 4 other ≡ 0) × (big_from 20 4 other ≡ 0))
no_older bytes other header more e burst =
    let zeros = places header more in
    let long : 8 ≤ length (header_bytes header ++ more) = omega arith in
    elim (magic_or_far (header_bytes header ++ more) other long (subst (λ (l : List ℕ). IsBurst l other) e burst)) [
      | inl same ↦ inl same
      | inr far ↦ inr (
        same_places (header_bytes header ++ more) other 12 (omega arith) far ∙ zeros.0,
        same_places (header_bytes header ++ more) other 20 (omega arith) far ∙ zeros.1,
      )
    ]

one_there : (header : PartHeader) (more : List ℕ) → big_from 20 4 (part_header_bytes header ++ more) ≡ 1
one_there header more = omega arith

pub no_older_part : (bytes other : List ℕ) (header : PartHeader) (more : List ℕ) → bytes ≡ part_header_bytes header ++ more → IsBurst bytes other
    → (take 4 other ≡ codes "MTC4") ⊎ (big_from 20 4 other ≡ 1)
no_older_part bytes other header more e burst =
    let long : 8 ≤ length (part_header_bytes header ++ more) = omega arith in
    elim (magic_or_far (part_header_bytes header ++ more) other long (subst (λ (l : List ℕ). IsBurst l other) e burst)) [
      | inl same ↦ inl same
      | inr far ↦ inr (same_places (part_header_bytes header ++ more) other 20 (omega arith) far ∙ one_there header more)
    ]
