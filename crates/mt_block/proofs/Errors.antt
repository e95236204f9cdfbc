-- Files in which a burst of errors has changed bits.
use Rattle.std.proofs.Common.{◌≡◌, ℕ, ◌+◌, ◌^◌, ◌<◌, ◌≤◌, ◌⊎◌, List, [], ◌∷◌, ◌++◌, length, refl, sym, ap, subst, ◌∙◌, arith, inl, inr, append_assoc, length-append}
use Rattle.std.specs.List.{All}
use Rattle.std.proofs.lemmas.List.Elements.{All-head, All-tail}
use Rattle.std.proofs.lemmas.Nat.{xor_comm}
use Rattle.mt_crc.specs.Crc.{crc32c_append, crc_bytes, codeword, number_of, AreBytes, IsBurst}
use Rattle.mt_crc.proofs.Codewords.{no_burst, crc-lt}
use Rattle.mt_block.specs.declared.block.TheConstants.{MOST_BODY}
use Rattle.mt_block.specs.declared.header.Header.{Header}
use Rattle.mt_block.specs.Blocks.{header_fields, header_bytes, mark_of, head_fields, head_bytes, head_crc, body_bytes, block, IsBody, HasHead, HasNoHead, HasSomeHead, LacksBody, IsTornEnd, blocks, IsFile, LosesFew}
use Rattle.mt_block.proofs.Splits.{burst_splits, burst_far}
use Rattle.mt_block.proofs.Heads.{same_split, head-length, codeword-length, same_codeword, same_heads, are_fields, one_head, block_apart, block-length}
use Rattle.mt_block.proofs.Headers.{are_header, same_size, same_header}
use Rattle.mt_block.proofs.Files.{IsCutAt, cut_at, flat}

turned : (xs ys : List ℕ) → IsBurst xs ys → IsBurst ys xs
turned xs ys burst = record {
  sizes = sym burst.sizes;
  bytes = burst.others;
  others = burst.bytes;
  first = burst.first;
  bits = burst.bits;
  some = burst.some;
  short = burst.short;
  differ = xor_comm (number_of ys) (number_of xs) ∙ burst.differ;
}

-- no burst makes one head of another
heads_apart : (mark n m : ℕ) → IsBurst (head_bytes mark n) (head_bytes mark m) → ⊥
heads_apart mark n m burst = no_burst 0 (head_fields mark n) (head_fields mark m) (omega arith) (are_fields mark n) (are_fields mark m) burst

-- two heads, of which a burst made one into the other, are the same, and the burst is after them
heads : (mark n m : ℕ) (x y : List ℕ) → n ≤ MOST_BODY → m ≤ MOST_BODY → IsBurst (head_bytes mark n ++ x) (head_bytes mark m ++ y) → (n ≡ m) × IsBurst x y
heads mark n m x y fits other burst =
    elim (burst_splits (head_bytes mark n) (head_bytes mark m) x y (head-length mark n ∙ sym (head-length mark m)) burst) [
      | inl (same, behind) ↦ ((same_heads mark n m [] [] fits other (ap (λ (l : List ℕ). l ++ []) same)).0, behind)
      | inr broken ↦ absurd (heads_apart mark n m broken)
    ]

-- likewise two bodies of one length with their checksums
bodies_same : (crc : ℕ) (b c x y : List ℕ) → crc < 2 ^ 32 → length b ≡ length c → AreBytes b → AreBytes c → IsBurst (codeword crc b ++ x) (codeword crc c ++ y) → (b ≡ c) × IsBurst x y
bodies_same crc b c x y fits size are others burst =
    elim (burst_splits (codeword crc b) (codeword crc c) x y (codeword-length crc b ∙ ap (λ n. n + 4) size ∙ sym (codeword-length crc c)) burst) [
      | inl (same, behind) ↦ (same_codeword crc crc b c size same, behind)
      | inr broken ↦ absurd (no_burst crc b c fits are others broken)
    ]

crc-fits : (mark n : ℕ) → head_crc mark n < 2 ^ 32
crc-fits mark n = crc-lt 0 (head_fields mark n) (omega arith) (are_fields mark n)

-- ---- a block that is gone

-- the front of a block stands after some bytes
head_behind : (mark : ℕ) (front b after : List ℕ) → IsBody b → HasSomeHead mark (front ++ (block mark b ++ after))
head_behind mark front b after is =
    (front, block mark b ++ after, refl, record { number = length b; after = body_bytes mark b ++ after; fits = is.1; spelled = block_apart mark b after })

-- a list that ends as another does has the heads of that
ends_alike : (mark : ℕ) (bytes q u : List ℕ) → bytes ≡ q ++ u → HasSomeHead mark u → HasSomeHead mark bytes
ends_alike mark bytes q u e some = (q ++ some.0, some.1, e ∙ ap (λ (l : List ℕ). q ++ l) some.2 ∙ sym (append_assoc q some.0 some.1), some.3)

-- after the first byte
not_first : (mark byte : ℕ) (front behind u rest : List ℕ) → rest ≡ byte ∷ behind → rest ≡ front ++ u → 0 < length front → HasSomeHead mark u → HasSomeHead mark behind
not_first mark byte [] behind u rest e f some has = absurd (omega arith)
not_first mark byte (x ∷ xs) behind u rest e f some has = ends_alike mark behind xs u (same_split (byte ∷ []) (x ∷ []) behind (xs ++ u) refl (sym e ∙ f)).1 has

-- after four bytes of one block, the next one's head stands
next_head : (mark : ℕ) (p u front c after : List ℕ) → length p ≡ 4 → 4 ≤ length front → front ++ (block mark c ++ after) ≡ p ++ u → IsBody c → HasSomeHead mark u
next_head mark p u front c after four long e is = by (cut_at 4 front long)
  where
    by : IsCutAt 4 front → HasSomeHead mark u
    by cut =
        let s = same_split cut.front p (cut.back ++ (block mark c ++ after)) u (cut.size ∙ sym four) (sym (append_assoc cut.front cut.back (block mark c ++ after)) ∙ ap (λ (l : List ℕ). l ++ (block mark c ++ after)) (sym cut.spelled) ∙ e) in
        subst (HasSomeHead mark) s.1 (head_behind mark cut.back c after is)

-- the bytes that a burst leaves alone: those from the fifth on after the halves in which it begins
record AreFar (x y : List ℕ) : Type 0 where
  pub first : List ℕ
  pub other : List ℕ
  pub rest : List ℕ
  pub four : length first ≡ 4
  pub four_too : length other ≡ 4
  pub spelled : x ≡ first ++ rest
  pub spelled_too : y ≡ other ++ rest

are_far : (a b x y : List ℕ) → length a ≡ length b → IsBurst (a ++ x) (b ++ y) → IsBurst a b → 4 ≤ length x → AreFar x y
are_far a b x y same burst part long =
    let ax : length (a ++ x) ≡ length a + length x = length-append a x in
    let by_ : length (b ++ y) ≡ length b + length y = length-append b y in
    let s : length (a ++ x) ≡ length (b ++ y) = burst.sizes in
    by (cut_at 4 x long) (cut_at 4 y (omega arith))
  where
    by : IsCutAt 4 x → IsCutAt 4 y → AreFar x y
    by c d = record {
      first = c.front;
      other = d.front;
      rest = c.back;
      four = c.size;
      four_too = d.size;
      spelled = c.spelled;
      spelled_too = d.spelled ∙ ap (λ (l : List ℕ). d.front ++ l) (sym (burst_far a b x y same burst part c.front d.front c.back d.back c.spelled d.spelled c.size d.size));
    }

-- a block, in which or after which a burst begins, and the bytes that it made of all
module _ (mark : ℕ) (b tail rest f g : List ℕ) (end : (rest ≡ []) ⊎ IsTornEnd mark rest) (cut : rest ≡ f ++ g) (twelve : length f ≡ 12) where
  long : length rest ≡ 12 + length g
  long = ap length cut ∙ length-append f g ∙ ap (λ n. n + length g) twelve

  -- where the burst begins in the head: no block follows
  bad_head : (bs : List (List ℕ)) → All IsBody bs → IsBurst (head_bytes mark (length b) ++ (body_bytes mark b ++ (blocks mark bs ++ tail))) (f ++ g) → IsBurst (head_bytes mark (length b)) f
      → length bs ≤ 1
  bad_head [] are both part = omega arith
  bad_head (c ∷ cs) are both part = absurd (by end)
    where
      no_head : HasHead mark rest → ⊥
      no_head h = heads_apart mark (length b) h.number (subst (IsBurst (head_bytes mark (length b))) (same_split f (head_bytes mark h.number) g h.after (twelve ∙ sym (head-length mark h.number)) (sym cut ∙ h.spelled)).0 part)

      size : 4 ≤ length (body_bytes mark b ++ (blocks mark (c ∷ cs) ++ tail))
      size =
          let e : length (body_bytes mark b ++ (blocks mark (c ∷ cs) ++ tail)) ≡ length (body_bytes mark b) + length (blocks mark (c ∷ cs) ++ tail) = length-append (body_bytes mark b) (blocks mark (c ∷ cs) ++ tail) in
          let s : length (body_bytes mark b) ≡ length b + 4 = codeword-length (head_crc mark (length b)) b in
          omega arith

      far : AreFar (body_bytes mark b ++ (blocks mark (c ∷ cs) ++ tail)) g
      far = are_far (head_bytes mark (length b)) f (body_bytes mark b ++ (blocks mark (c ∷ cs) ++ tail)) g (head-length mark (length b) ∙ sym twelve) both part size

      has : HasSomeHead mark far.rest
      has =
          let s : length (body_bytes mark b) ≡ length b + 4 = codeword-length (head_crc mark (length b)) b in
          next_head mark far.first far.rest (body_bytes mark b) c (blocks mark cs ++ tail) far.four (omega arith) (ap (λ (l : List ℕ). body_bytes mark b ++ l) (sym (flat mark c cs tail)) ∙ far.spelled) (All-head IsBody c cs are)

      wide : 4 ≤ length g
      wide =
          let e : length g ≡ length far.other + length far.rest = ap length far.spelled_too ∙ length-append far.other far.rest in
          let s : length far.other ≡ 4 = far.four_too in
          omega arith

      by : (rest ≡ []) ⊎ IsTornEnd mark rest → ⊥
      by (inl none) = let z : length rest ≡ 0 = ap length none in let l : length rest ≡ 12 + length g = long in absurd (omega arith)
      by (inr (inl (inl few))) = let s : length rest < 12 = few.1 in let l : length rest ≡ 12 + length g = long in absurd (omega arith)
      by (inr (inl (inr short))) = no_head short.head
      by (inr (inr (behind, inl lacks, none))) =
          let some = not_first mark lacks.byte (f ++ far.other) behind far.rest rest lacks.spelled (cut ∙ ap (λ (l : List ℕ). f ++ l) far.spelled_too ∙ sym (append_assoc f far.other far.rest))
          (let s : length (f ++ far.other) ≡ length f + length far.other = length-append f far.other in let t : length f ≡ 12 = twelve in omega arith) has in
          none some.0 some.1 some.2 some.3
      by (inr (inr (behind, inr lacks, none))) = no_head lacks.head

  -- where it begins after the head
  module _ (is : IsBody b) (same : head_bytes mark (length b) ≡ f) where
    stands : HasHead mark rest
    stands = record { number = length b; after = g; fits = is.1; spelled = cut ∙ ap (λ (l : List ℕ). l ++ g) (sym same) }

    -- the block's body or checksum is damaged: at most one block follows
    bad_body : (behind : List ℕ) (bs : List (List ℕ)) → All IsBody bs → LacksBody mark rest behind → HasNoHead mark behind → IsBurst (body_bytes mark b ++ (blocks mark bs ++ tail)) g → length bs ≤ 1
    unfolding stands
    bad_body behind bs are lacks none burst = by bs are burst (burst_splits (body_bytes mark b) (lacks.body ++ lacks.check) (blocks mark bs ++ tail) behind sizes (subst (IsBurst (body_bytes mark b ++ (blocks mark bs ++ tail))) whole burst))
      where
        one : (length b ≡ lacks.head.number) × (g ≡ lacks.head.after)
        one = one_head mark rest stands lacks.head

        whole : g ≡ (lacks.body ++ lacks.check) ++ behind
        whole = one.1 ∙ lacks.spelled ∙ sym (append_assoc lacks.body lacks.check behind)

        sizes : length (body_bytes mark b) ≡ length (lacks.body ++ lacks.check)
        sizes =
            let e : length (lacks.body ++ lacks.check) ≡ length lacks.body + length lacks.check = length-append lacks.body lacks.check in
            let s : length lacks.body ≡ lacks.head.number = lacks.size in
            let t : length lacks.check ≡ 4 = lacks.four in
            let n : length b ≡ lacks.head.number = one.0 in
            let d : length (body_bytes mark b) ≡ length b + 4 = codeword-length (head_crc mark (length b)) b in
            omega arith

        by : (bs : List (List ℕ)) → All IsBody bs → IsBurst (body_bytes mark b ++ (blocks mark bs ++ tail)) g
            → ((body_bytes mark b ≡ lacks.body ++ lacks.check) × IsBurst (blocks mark bs ++ tail) behind) ⊎ IsBurst (body_bytes mark b) (lacks.body ++ lacks.check) → length bs ≤ 1
        by bs are burst (inl both) =
            let s = same_split b lacks.body (crc_bytes (crc32c_append (head_crc mark (length b)) b)) lacks.check (one.0 ∙ sym lacks.size) both.0 in
            absurd (lacks.wrong (sym s.1 ∙ (λ i. crc_bytes (crc32c_append (head_crc mark (one.0 i)) (s.0 i)))))
        by [] are burst (inr part) = omega arith
        by (c ∷ []) are burst (inr part) = omega arith
        by (c ∷ d ∷ ds) are burst (inr part) =
            let more : List ℕ = blocks mark ds ++ tail in
            let parts : blocks mark (c ∷ d ∷ ds) ++ tail ≡ block mark c ++ (block mark d ++ more) = flat mark c (d ∷ ds) tail ∙ ap (λ (l : List ℕ). block mark c ++ l) (flat mark d ds tail) in
            let s : length (block mark c) ≡ length c + 16 = block-length mark c in
            let t : length (block mark c ++ (block mark d ++ more)) ≡ length (block mark c) + length (block mark d ++ more) = length-append (block mark c) (block mark d ++ more) in
            let u : length (blocks mark (c ∷ d ∷ ds) ++ tail) ≡ length (block mark c ++ (block mark d ++ more)) = ap length parts in
            let far : AreFar (blocks mark (c ∷ d ∷ ds) ++ tail) behind =
            are_far (body_bytes mark b) (lacks.body ++ lacks.check) (blocks mark (c ∷ d ∷ ds) ++ tail) behind sizes (subst (IsBurst (body_bytes mark b ++ (blocks mark (c ∷ d ∷ ds) ++ tail))) whole burst) part (omega arith) in
            let has = next_head mark far.first far.rest (block mark c) d more far.four (omega arith) (sym parts ∙ far.spelled) (All-head IsBody d ds (All-tail IsBody c (d ∷ ds) are)) in
            let some = ends_alike mark behind far.other far.rest far.spelled_too has in
            absurd (none some.0 some.1 some.2 some.3)

    good_head : (bs : List (List ℕ)) → All IsBody bs → IsBurst (body_bytes mark b ++ (blocks mark bs ++ tail)) g → length bs ≤ 1
    unfolding stands
    good_head bs are burst = by end
      where
        size : length g ≡ length b + 4 + length (blocks mark bs ++ tail)
        size =
            let e : length (body_bytes mark b ++ (blocks mark bs ++ tail)) ≡ length (body_bytes mark b) + length (blocks mark bs ++ tail) = length-append (body_bytes mark b) (blocks mark bs ++ tail) in
            let s : length (body_bytes mark b) ≡ length b + 4 = codeword-length (head_crc mark (length b)) b in
            let t : length (body_bytes mark b ++ (blocks mark bs ++ tail)) ≡ length g = burst.sizes in
            omega arith

        by : (rest ≡ []) ⊎ IsTornEnd mark rest → length bs ≤ 1
        by (inl none) = let z : length rest ≡ 0 = ap length none in let l : length rest ≡ 12 + length g = long in absurd (omega arith)
        by (inr (inl (inl few))) = let s : length rest < 12 = few.1 in let l : length rest ≡ 12 + length g = long in absurd (omega arith)
        by (inr (inl (inr short))) =
            let o = one_head mark rest stands short.head in
            let n : length b ≡ short.head.number = o.0 in
            let a : length g ≡ length short.head.after = ap length o.1 in
            let s : length short.head.after < short.head.number + 4 = short.short in
            let l : length g ≡ length b + 4 + length (blocks mark bs ++ tail) = size in
            absurd (omega arith)
        by (inr (inr (behind, inl lacks, none))) = absurd (lacks.none stands)
        by (inr (inr (behind, inr lacks, none))) = bad_body behind bs are lacks none burst

lost_few : (mark : ℕ) (b : List ℕ) (bs : List (List ℕ)) (tail rest : List ℕ) → IsBody b → All IsBody bs → (rest ≡ []) ⊎ IsTornEnd mark rest
    → IsBurst (blocks mark (b ∷ bs) ++ tail) rest → length bs ≤ 1
lost_few mark b bs tail rest is are end burst =
    let apart : IsBurst (head_bytes mark (length b) ++ (body_bytes mark b ++ (blocks mark bs ++ tail))) rest =
    subst (λ (l : List ℕ). IsBurst l rest) (flat mark b bs tail ∙ block_apart mark b (blocks mark bs ++ tail)) burst in
    let s : length (head_bytes mark (length b) ++ (body_bytes mark b ++ (blocks mark bs ++ tail))) ≡ length rest = apart.sizes in
    let e : length (head_bytes mark (length b) ++ (body_bytes mark b ++ (blocks mark bs ++ tail))) ≡ length (head_bytes mark (length b)) + length (body_bytes mark b ++ (blocks mark bs ++ tail)) =
    length-append (head_bytes mark (length b)) (body_bytes mark b ++ (blocks mark bs ++ tail)) in
    let f : length (head_bytes mark (length b)) ≡ 12 = head-length mark (length b) in
    by (cut_at 12 rest (omega arith)) apart
  where
    by : IsCutAt 12 rest → IsBurst (head_bytes mark (length b) ++ (body_bytes mark b ++ (blocks mark bs ++ tail))) rest → length bs ≤ 1
    by c apart =
        let both : IsBurst (head_bytes mark (length b) ++ (body_bytes mark b ++ (blocks mark bs ++ tail))) (c.front ++ c.back) =
        subst (IsBurst (head_bytes mark (length b) ++ (body_bytes mark b ++ (blocks mark bs ++ tail)))) c.spelled apart in
        elim (burst_splits (head_bytes mark (length b)) c.front (body_bytes mark b ++ (blocks mark bs ++ tail)) c.back (head-length mark (length b) ∙ sym c.size) both) [
          | inl (same, behind) ↦ good_head mark b tail rest c.front c.back end c.spelled c.size is same bs are behind
          | inr part ↦ bad_head mark b tail rest c.front c.back end c.spelled c.size bs are both part
        ]

-- ---- all blocks, and the header

pub same_few : (mark : ℕ) (bodies others : List (List ℕ)) (end rest : List ℕ) → All IsBody bodies → All IsBody others → (end ≡ []) ⊎ IsTornEnd mark end → (rest ≡ []) ⊎ IsTornEnd mark rest
    → IsBurst (blocks mark bodies ++ end) (blocks mark others ++ rest) → LosesFew bodies others ⊎ LosesFew others bodies
same_few mark [] [] end rest are others ends other_ends burst = inl ([], refl, omega arith)
same_few mark (b ∷ bs) [] end rest are others ends other_ends burst =
    let few : length bs ≤ 1 = lost_few mark b bs end rest (All-head IsBody b bs are) (All-tail IsBody b bs are) other_ends burst in
    inl (b ∷ bs, refl, omega arith)
same_few mark [] (c ∷ cs) end rest are others ends other_ends burst =
    let few : length cs ≤ 1 = lost_few mark c cs rest end (All-head IsBody c cs others) (All-tail IsBody c cs others) ends (turned end (blocks mark (c ∷ cs) ++ rest) burst) in
    inr (c ∷ cs, refl, omega arith)
same_few mark (b ∷ bs) (c ∷ cs) end rest are others ends other_ends burst =
    let is : IsBody b = All-head IsBody b bs are in
    let other : IsBody c = All-head IsBody c cs others in
    let x : List ℕ = blocks mark bs ++ end in
    let y : List ℕ = blocks mark cs ++ rest in
    let first : IsBurst (head_bytes mark (length b) ++ (body_bytes mark b ++ x)) (blocks mark (c ∷ cs) ++ rest) = subst (λ (l : List ℕ). IsBurst l (blocks mark (c ∷ cs) ++ rest)) (flat mark b bs end ∙ block_apart mark b x) burst in
    let both : IsBurst (head_bytes mark (length b) ++ (body_bytes mark b ++ x)) (head_bytes mark (length c) ++ (body_bytes mark c ++ y)) =
    subst (IsBurst (head_bytes mark (length b) ++ (body_bytes mark b ++ x))) (flat mark c cs rest ∙ block_apart mark c y) first in
    let h = heads mark (length b) (length c) (body_bytes mark b ++ x) (body_bytes mark c ++ y) is.1 other.1 both in
    let one : IsBurst (body_bytes mark b ++ x) (codeword (head_crc mark (length b)) c ++ y) = subst (λ (n : ℕ). IsBurst (body_bytes mark b ++ x) (codeword (head_crc mark n) c ++ y)) (sym h.0) h.1 in
    let g = bodies_same (head_crc mark (length b)) b c x y (crc-fits mark (length b)) h.0 is.0 other.0 one in
    longer b c g.0 bs cs (same_few mark bs cs end rest (All-tail IsBody b bs are) (All-tail IsBody c cs others) ends other_ends g.1)
  where
    longer : (b c : List ℕ) → b ≡ c → (bs cs : List (List ℕ)) → LosesFew bs cs ⊎ LosesFew cs bs → LosesFew (b ∷ bs) (c ∷ cs) ⊎ LosesFew (c ∷ cs) (b ∷ bs)
    longer b c e bs cs (inl few) = inl (few.0, (λ i. e i ∷ few.1 i), few.2)
    longer b c e bs cs (inr few) = inr (few.0, (λ i. sym e i ∷ few.1 i), few.2)

pub seen_of : (bytes other : List ℕ) (header new : Header) (bodies others : List (List ℕ)) (end rest : List ℕ) → IsFile bytes header bodies end → IsFile other new others rest
    → IsBurst bytes other → (header ≡ new) × (LosesFew bodies others ⊎ LosesFew others bodies)
seen_of bytes other header new bodies others end rest is changed burst =
    let x : List ℕ = blocks (mark_of header) bodies ++ end in
    let y : List ℕ = blocks (mark_of new) others ++ rest in
    let first : IsBurst (header_bytes header ++ x) other = subst (λ (l : List ℕ). IsBurst l other) is.begins.spelled burst in
    let whole : IsBurst (header_bytes header ++ x) (header_bytes new ++ y) = subst (IsBurst (header_bytes header ++ x)) changed.begins.spelled first in
    elim (burst_splits (header_bytes header) (header_bytes new) x y (same_size header new) whole) [
      | inl (same, behind) ↦
          let headers : header ≡ new = same_header header new is.begins.is_header changed.begins.is_header same in
          let moved : IsBurst x (blocks (mark_of header) others ++ rest) = subst (λ (s : Header). IsBurst x (blocks (mark_of s) others ++ rest)) (sym headers) behind in
          let ends : (rest ≡ []) ⊎ IsTornEnd (mark_of header) rest = subst (λ (s : Header). (rest ≡ []) ⊎ IsTornEnd (mark_of s) rest) (sym headers) changed.ends in
          (headers, same_few (mark_of header) bodies others end rest is.begins.are_bodies changed.begins.are_bodies is.ends ends moved)
      | inr broken ↦ absurd (no_burst 0 (header_fields header) (header_fields new) (omega arith) (are_header header) (are_header new) broken)
    ]
