-- Bytes after a header are a file, or damaged.
use Rattle.std.proofs.Common.{◌≡◌, ◌≢◌, ℕ, zero, suc, ◌+◌, ◌^◌, ◌<◌, ◌≤◌, ◌⊎◌, List, [], ◌∷◌, ◌++◌, length, take, drop, slice_index, refl, sym, ap, subst, ◌∙◌, arith, inl, inr, length-append}
use Rattle.std.specs.List.{All}
use Rattle.std.proofs.lemmas.Bool.{cases_lt, cases_eq}
use Rattle.std.proofs.lemmas.List.{take-append-drop}
use Rattle.std.proofs.lemmas.List.Elements.{All-cons, All-nil, All-head, All-tail}
use Rattle.std.proofs.Math.Seq.{take-append_seam}
use Rattle.byteorder.specs.Endian.{big_bytes, big_from}
use Rattle.mt_crc.specs.Crc.{crc32c_append, crc_bytes, AreBytes}
use Rattle.mt_block.proofs.Splits.{bytes_left, bytes_right}
use Rattle.mt_block.specs.declared.block.TheConstants.{MOST_BODY}
use Rattle.mt_block.specs.declared.header.Header.{Header}
use Rattle.mt_block.specs.Blocks.{IsHeader, header_bytes, mark_of, head_bytes, head_crc, body_bytes, block, IsBody, HasHead, HasNoHead, HasSomeHead, IsNext, IsBroken, IsTornEnd, IsDamage, blocks, IsFile, IsDamaged}
use Rattle.mt_block.proofs.Heads.{small, same_split, same_heads, head-length, block_apart, body_apart, block-length}
use Rattle.mt_block.proofs.Places.{head_of, head_parts, next_not_cut, next_not_broken}
use Rattle.mt_block.proofs.Files.{IsCutAt, cut_at, flat}

same_bytes : (xs ys : List ℕ) → (xs ≡ ys) ⊎ (xs ≢ ys)
same_bytes [] [] = inl refl
same_bytes [] (y ∷ ys) = inr (λ e. omega (arith, ap length e))
same_bytes (x ∷ xs) [] = inr (λ e. omega (arith, ap length e))
same_bytes (x ∷ xs) (y ∷ ys) = by (cases_eq x y) (same_bytes xs ys)
  where
    by : (x ≡ y) ⊎ (x ≢ y) → (xs ≡ ys) ⊎ (xs ≢ ys) → (x ∷ xs ≡ y ∷ ys) ⊎ (x ∷ xs ≢ y ∷ ys)
    by (inl first) (inl rest) = inl (λ i. first i ∷ rest i)
    by (inr fails) rest = inr (λ e. fails (ap (λ (l : List ℕ). slice_index l 0) e))
    by (inl first) (inr fails) = inr (λ e. fails (ap (drop 1) e))

-- ---- heads

number_back : (mark n : ℕ) (more : List ℕ) → n < 2 ^ 32 → big_from 4 4 (crc_bytes mark ++ (big_bytes 4 n ++ more)) ≡ n
number_back mark n more fits = omega arith

head_or_none : (mark : ℕ) (bytes : List ℕ) → HasHead mark bytes ⊎ (HasHead mark bytes → ⊥)
head_or_none mark bytes = by (cases_lt MOST_BODY number) (same_bytes (take 12 bytes) (head_bytes mark number))
  where
    number : ℕ
    number = big_from 4 4 bytes

    is_number : (h : HasHead mark bytes) → number ≡ h.number
    is_number h = ap (big_from 4 4) (head_parts mark bytes h) ∙ number_back mark h.number (crc_bytes (head_crc mark h.number) ++ h.after) (small h.number h.fits)

    is_front : (h : HasHead mark bytes) → take 12 bytes ≡ head_bytes mark number
    is_front h =
        ap (take 12) h.spelled
        ∙ ap (λ (n : ℕ). take n (head_bytes mark h.number ++ h.after)) (sym (head-length mark h.number))
        ∙ take-append_seam (head_bytes mark h.number) h.after
        ∙ ap (head_bytes mark) (sym (is_number h))

    by : (MOST_BODY < number) ⊎ (number ≤ MOST_BODY) → (take 12 bytes ≡ head_bytes mark number) ⊎ (take 12 bytes ≢ head_bytes mark number) → HasHead mark bytes ⊎ (HasHead mark bytes → ⊥)
    by (inl more) front = inr (λ h. let e : number ≡ h.number = is_number h in let f : h.number ≤ MOST_BODY = h.fits in omega arith)
    by (inr fits) (inr differs) = inr (λ h. differs (is_front h))
    by (inr fits) (inl same) =
        inl (record { number = number; after = drop 12 bytes; fits = fits; spelled = sym (take-append-drop 12 bytes) ∙ ap (λ (l : List ℕ). l ++ drop 12 bytes) same })

some_head_or_none : (mark : ℕ) (bytes : List ℕ) → HasSomeHead mark bytes ⊎ HasNoHead mark bytes
some_head_or_none mark [] = inr (λ front back e h.
    let s : 0 ≡ length front + length back = ap length e ∙ length-append front back in
    let t : length back ≡ 12 + length h.after = ap length h.spelled ∙ length-append (head_bytes mark h.number) h.after ∙ ap (λ n. n + length h.after) (head-length mark h.number) in
    omega arith)
some_head_or_none mark (x ∷ xs) = by (head_or_none mark (x ∷ xs)) (some_head_or_none mark xs)
  where
    behind : HasNoHead mark xs → (HasHead mark (x ∷ xs) → ⊥) → (front back : List ℕ) → x ∷ xs ≡ front ++ back → HasHead mark back → ⊥
    behind none here [] back e h = here (subst (HasHead mark) (sym e) h)
    behind none here (y ∷ ys) back e h = none ys back (ap (drop 1) e) h

    by : HasHead mark (x ∷ xs) ⊎ (HasHead mark (x ∷ xs) → ⊥) → HasSomeHead mark xs ⊎ HasNoHead mark xs → HasSomeHead mark (x ∷ xs) ⊎ HasNoHead mark (x ∷ xs)
    by (inl h) rest = inl ([], x ∷ xs, refl, h)
    by (inr here) (inl some) = inl (x ∷ some.0, some.1, ap (λ (l : List ℕ). x ∷ l) some.2, some.3)
    by (inr here) (inr none) = inr (behind none here)

-- ---- a place

Next : ℕ → List ℕ → Type 0
Next mark bytes = (body : List ℕ) × (after : List ℕ) × IsNext mark bytes body after

-- what is broken is an end, or damage
broken_there : (mark : ℕ) (bytes behind : List ℕ) → IsBroken mark bytes behind → ((bytes ≡ []) ⊎ IsTornEnd mark bytes) ⊎ IsDamage mark bytes
broken_there mark bytes behind broken =
    elim (some_head_or_none mark behind) [
      | inl some ↦ inr (behind, broken, some)
      | inr none ↦ inl (inr (inr (behind, broken, none)))
    ]

place : (mark : ℕ) (bytes : List ℕ) → AreBytes bytes → Next mark bytes ⊎ (((bytes ≡ []) ⊎ IsTornEnd mark bytes) ⊎ IsDamage mark bytes)
unfolding Next
place mark [] are = inr (inl (inl refl))
place mark (x ∷ xs) are = by (cases_lt (length (x ∷ xs)) 12) (head_or_none mark (x ∷ xs))
  where
    Found : Type 0
    Found = Next mark (x ∷ xs) ⊎ ((((x ∷ xs) ≡ []) ⊎ IsTornEnd mark (x ∷ xs)) ⊎ IsDamage mark (x ∷ xs))

    with_check : (h : HasHead mark (x ∷ xs)) (c : IsCutAt h.number h.after) (d : IsCutAt 4 c.back) → (d.front ≡ crc_bytes (crc32c_append (head_crc mark h.number) c.front)) ⊎ (d.front ≢ crc_bytes (crc32c_append (head_crc mark h.number) c.front)) → Found
    with_check h c d (inl same) =
        let there : AreBytes h.after = bytes_right (head_bytes mark h.number) h.after (subst AreBytes h.spelled are) in
        let check : d.front ≡ crc_bytes (crc32c_append (head_crc mark (length c.front)) c.front) = same ∙ ap (λ (n : ℕ). crc_bytes (crc32c_append (head_crc mark n) c.front)) (sym c.size) in
        let whole : h.after ≡ body_bytes mark c.front ++ d.back = c.spelled ∙ ap (λ (l : List ℕ). c.front ++ l) (d.spelled ∙ ap (λ (l : List ℕ). l ++ d.back) check) ∙ sym (body_apart mark c.front d.back) in
        inl (
          c.front,
          d.back,
          record {
            spelled = h.spelled ∙ (λ i. head_bytes mark (sym c.size i) ++ whole i) ∙ sym (block_apart mark c.front d.back);
            is_body = (bytes_left c.front c.back (subst AreBytes c.spelled there), subst (λ (n : ℕ). n ≤ MOST_BODY) (sym c.size) h.fits);
          },
        )
    with_check h c d (inr wrong) = inr (broken_there mark (x ∷ xs) d.back (inr (record {
      head = h;
      body = c.front;
      check = d.front;
      spelled = c.spelled ∙ ap (λ (l : List ℕ). c.front ++ l) d.spelled;
      size = c.size;
      four = d.size;
      wrong = wrong;
    })))

    with_head : (h : HasHead mark (x ∷ xs)) → (length h.after < h.number + 4) ⊎ (h.number + 4 ≤ length h.after) → Found
    with_head h (inl short) = inr (inl (inr (inl (inr (record { head = h; short = short })))))
    with_head h (inr room) = cut (cut_at h.number h.after (omega arith))
      where
        cut : IsCutAt h.number h.after → Found
        cut c =
            let e : length h.after ≡ length c.front + length c.back = ap length c.spelled ∙ length-append c.front c.back in
            let s : length c.front ≡ h.number = c.size in
            checked (cut_at 4 c.back (omega arith))
          where
            checked : IsCutAt 4 c.back → Found
            checked d = with_check h c d (same_bytes d.front (crc_bytes (crc32c_append (head_crc mark h.number) c.front)))

    by : (length (x ∷ xs) < 12) ⊎ (12 ≤ length (x ∷ xs)) → HasHead mark (x ∷ xs) ⊎ (HasHead mark (x ∷ xs) → ⊥) → Found
    by (inl few) found = inr (inl (inr (inl (inl (omega arith, few)))))
    by (inr long) (inl h) = with_head h (cases_lt (length h.after) (h.number + 4))
    by (inr long) (inr none) = inr (broken_there mark (x ∷ xs) xs (inl (record { byte = x; spelled = refl; long = long; none = none })))

-- ---- all places

record AreRead (mark : ℕ) (bytes : List ℕ) : Type 0 where
  pub bodies : List (List ℕ)
  pub rest : List ℕ
  pub spelled : bytes ≡ blocks mark bodies ++ rest
  pub are : All IsBody bodies
  pub ends : ((rest ≡ []) ⊎ IsTornEnd mark rest) ⊎ IsDamage mark rest

read : (mark n : ℕ) (bytes : List ℕ) → length bytes < n → AreBytes bytes → AreRead mark bytes
unfolding Next
read mark zero bytes fewer are = absurd (omega arith)
read mark (suc n) bytes fewer are = by (place mark bytes are) (λ after less small. read mark n after less small)
  where
    by : Next mark bytes ⊎ (((bytes ≡ []) ⊎ IsTornEnd mark bytes) ⊎ IsDamage mark bytes) → ((after : List ℕ) → length after < n → AreBytes after → AreRead mark after) → AreRead mark bytes
    by (inr ends) others = record { bodies = []; rest = bytes; spelled = refl; are = All-nil IsBody; ends = ends }
    by (inl next) others =
        let body : List ℕ = next.0 in
        let after : List ℕ = next.1 in
        let e : bytes ≡ block mark body ++ after = next.2.spelled in
        let size : length bytes ≡ length (block mark body) + length after = ap length e ∙ length-append (block mark body) after in
        let long : length (block mark body) ≡ length body + 16 = block-length mark body in
        let r = others after (omega arith) (bytes_right (block mark body) after (subst AreBytes e are)) in
        record {
          bodies = body ∷ r.bodies;
          rest = r.rest;
          spelled = e ∙ ap (λ (l : List ℕ). block mark body ++ l) r.spelled ∙ sym (flat mark body r.bodies r.rest);
          are = All-cons IsBody body r.bodies next.2.is_body r.are;
          ends = r.ends;
        }

pub some_of : (bytes : List ℕ) (header : Header) (rest : List ℕ) → AreBytes bytes → IsHeader header → bytes ≡ header_bytes header ++ rest
    → ((bodies : List (List ℕ)) × (end : List ℕ) × IsFile bytes header bodies end) ⊎ ((bodies : List (List ℕ)) × IsDamaged bytes header bodies)
some_of bytes header rest are is e = by (read (mark_of header) (suc (length rest)) rest (omega arith) (bytes_right (header_bytes header) rest (subst AreBytes e are)))
  where
    by : AreRead (mark_of header) rest → ((bodies : List (List ℕ)) × (end : List ℕ) × IsFile bytes header bodies end) ⊎ ((bodies : List (List ℕ)) × IsDamaged bytes header bodies)
    by r = with r.ends
      where
        begins : bytes ≡ header_bytes header ++ (blocks (mark_of header) r.bodies ++ r.rest)
        begins = e ∙ ap (λ (l : List ℕ). header_bytes header ++ l) r.spelled

        with : ((r.rest ≡ []) ⊎ IsTornEnd (mark_of header) r.rest) ⊎ IsDamage (mark_of header) r.rest → ((bodies : List (List ℕ)) × (end : List ℕ) × IsFile bytes header bodies end) ⊎ ((bodies : List (List ℕ)) × IsDamaged bytes header bodies)
        with (inl ends) = inl (r.bodies, r.rest, record { begins = record { spelled = begins; is_header = is; are_bodies = r.are }; ends = ends })
        with (inr damage) = inr (r.bodies, record { rest = r.rest; begins = record { spelled = begins; is_header = is; are_bodies = r.are }; damage = damage })

-- ---- as many blocks as there are

are_bytes_or_not : (xs : List ℕ) → AreBytes xs ⊎ (AreBytes xs → ⊥)
are_bytes_or_not [] = inl (All-nil (λ b. b < 2 ^ 8))
are_bytes_or_not (x ∷ xs) = by (cases_lt x (2 ^ 8)) (are_bytes_or_not xs)
  where
    by : (x < 2 ^ 8) ⊎ (2 ^ 8 ≤ x) → AreBytes xs ⊎ (AreBytes xs → ⊥) → AreBytes (x ∷ xs) ⊎ (AreBytes (x ∷ xs) → ⊥)
    by (inl small) (inl are) = inl (All-cons (λ b. b < 2 ^ 8) x xs small are)
    by (inl small) (inr not) = inr (λ all. not (All-tail (λ b. b < 2 ^ 8) x xs all))
    by (inr large) rest = inr (λ all. let small : x < 2 ^ 8 = All-head (λ b. b < 2 ^ 8) x xs all in omega arith)

-- a block whose body has this head has this body
body_there : (mark : ℕ) (bytes body after : List ℕ) (h : HasHead mark bytes) (c : IsCutAt h.number h.after) → IsNext mark bytes body after → body ≡ c.front
body_there mark bytes body after h c next =
    let o = same_heads mark (length body) h.number (body_bytes mark body ++ after) h.after next.is_body.1 h.fits (sym (next.spelled ∙ block_apart mark body after) ∙ h.spelled) in
    (same_split body c.front (crc_bytes (crc32c_append (head_crc mark (length body)) body) ++ after) c.back (o.0 ∙ sym c.size) (sym (body_apart mark body after) ∙ o.1 ∙ c.spelled)).0

next_or_none : (mark : ℕ) (bytes : List ℕ) → Next mark bytes ⊎ ((body after : List ℕ) → IsNext mark bytes body after → ⊥)
unfolding Next
next_or_none mark bytes = by (head_or_none mark bytes)
  where
    Found : Type 0
    Found = Next mark bytes ⊎ ((body after : List ℕ) → IsNext mark bytes body after → ⊥)

    with_body : (h : HasHead mark bytes) (c : IsCutAt h.number h.after) (d : IsCutAt 4 c.back) → d.front ≡ crc_bytes (crc32c_append (head_crc mark h.number) c.front) → AreBytes c.front ⊎ (AreBytes c.front → ⊥) → Found
    with_body h c d same (inr not) = inr (λ body after next. not (subst AreBytes (body_there mark bytes body after h c next) next.is_body.0))
    with_body h c d same (inl are) =
        let check : d.front ≡ crc_bytes (crc32c_append (head_crc mark (length c.front)) c.front) = same ∙ ap (λ (n : ℕ). crc_bytes (crc32c_append (head_crc mark n) c.front)) (sym c.size) in
        let whole : h.after ≡ body_bytes mark c.front ++ d.back = c.spelled ∙ ap (λ (l : List ℕ). c.front ++ l) (d.spelled ∙ ap (λ (l : List ℕ). l ++ d.back) check) ∙ sym (body_apart mark c.front d.back) in
        inl (
          c.front,
          d.back,
          record { spelled = h.spelled ∙ (λ i. head_bytes mark (sym c.size i) ++ whole i) ∙ sym (block_apart mark c.front d.back); is_body = (are, subst (λ (n : ℕ). n ≤ MOST_BODY) (sym c.size) h.fits) },
        )

    with_check : (h : HasHead mark bytes) (c : IsCutAt h.number h.after) (d : IsCutAt 4 c.back) → (d.front ≡ crc_bytes (crc32c_append (head_crc mark h.number) c.front)) ⊎ (d.front ≢ crc_bytes (crc32c_append (head_crc mark h.number) c.front)) → Found
    with_check h c d (inl same) = with_body h c d same (are_bytes_or_not c.front)
    with_check h c d (inr wrong) = inr (λ body after next. next_not_broken mark bytes body after d.back next (inr (record {
      head = h;
      body = c.front;
      check = d.front;
      spelled = c.spelled ∙ ap (λ (l : List ℕ). c.front ++ l) d.spelled;
      size = c.size;
      four = d.size;
      wrong = wrong;
    })))

    with_head : (h : HasHead mark bytes) → (length h.after < h.number + 4) ⊎ (h.number + 4 ≤ length h.after) → Found
    with_head h (inl short) = inr (λ body after next. next_not_cut mark bytes body after next (inr (inr (record { head = h; short = short }))))
    with_head h (inr room) = cut (cut_at h.number h.after (omega arith))
      where
        cut : IsCutAt h.number h.after → Found
        cut c =
            let e : length h.after ≡ length c.front + length c.back = ap length c.spelled ∙ length-append c.front c.back in
            let s : length c.front ≡ h.number = c.size in
            checked (cut_at 4 c.back (omega arith))
          where
            checked : IsCutAt 4 c.back → Found
            checked d = with_check h c d (same_bytes d.front (crc_bytes (crc32c_append (head_crc mark h.number) c.front)))

    by : HasHead mark bytes ⊎ (HasHead mark bytes → ⊥) → Found
    by (inl h) = with_head h (cases_lt (length h.after) (h.number + 4))
    by (inr none) = inr (λ body after next. none (head_of mark bytes body after next))

-- the bytes are blocks, and a rest at which no block stands
pub record AreAll (mark : ℕ) (bytes : List ℕ) : Type 0 where
  pub bodies : List (List ℕ)
  pub rest : List ℕ
  pub spelled : bytes ≡ blocks mark bodies ++ rest
  pub are : All IsBody bodies
  pub none : (body after : List ℕ) → IsNext mark rest body after → ⊥

all_below : (mark n : ℕ) (bytes : List ℕ) → length bytes < n → AreAll mark bytes
unfolding Next
all_below mark zero bytes fewer = absurd (omega arith)
all_below mark (suc n) bytes fewer = by (next_or_none mark bytes) (λ after less. all_below mark n after less)
  where
    by : Next mark bytes ⊎ ((body after : List ℕ) → IsNext mark bytes body after → ⊥) → ((after : List ℕ) → length after < n → AreAll mark after) → AreAll mark bytes
    by (inr none) others = record { bodies = []; rest = bytes; spelled = refl; are = All-nil IsBody; none = none }
    by (inl next) others =
        let body : List ℕ = next.0 in
        let after : List ℕ = next.1 in
        let e : bytes ≡ block mark body ++ after = next.2.spelled in
        let size : length bytes ≡ length (block mark body) + length after = ap length e ∙ length-append (block mark body) after in
        let long : length (block mark body) ≡ length body + 16 = block-length mark body in
        let r = others after (omega arith) in
        record {
          bodies = body ∷ r.bodies;
          rest = r.rest;
          spelled = e ∙ ap (λ (l : List ℕ). block mark body ++ l) r.spelled ∙ sym (flat mark body r.bodies r.rest);
          are = All-cons IsBody body r.bodies next.2.is_body r.are;
          none = r.none;
        }

-- any bytes are blocks, as many as there are, and a rest
pub all_blocks : (mark : ℕ) (bytes : List ℕ) → AreAll mark bytes
all_blocks mark bytes = all_below mark (suc (length bytes)) bytes (omega arith)
