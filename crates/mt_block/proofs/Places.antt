-- What stands at a place: one thing, and always something.
use Rattle.std.proofs.Common.{◌≡◌, ◌≢◌, ℕ, ◌+◌, ◌-◌, ◌^◌, ◌<◌, ◌≤◌, ◌⊎◌, Option, Some, None, Bool, true, false, List, [], ◌∷◌, ◌++◌, length, take, drop, get_or, refl, sym, ap, subst, ◌∙◌, arith, inl, inr, append_assoc, length-append}
use Rattle.byteorder.specs.Endian.{big_bytes}
use Rattle.mt_crc.specs.Crc.{crc32c_append, crc_bytes, AreBytes}
use Rattle.std.proofs.lemmas.Bool.{ltb-true, ltb-false}
use Rattle.std.proofs.lemmas.List.{take-append-drop, length-drop}
use Rattle.std.proofs.lemmas.List.Elements.{All-from_get_or}
use Rattle.std.specs.Prelude.{◌↔◌, IfSome, IfNone, MatchOption, MatchBool, IsTrue, nat_lt, is_some}
use Rattle.std.specs.Borrow.{Bor}
use Rattle.mt_block.specs.declared.block.TheConstants.{MOST_BODY}
use Rattle.mt_block.specs.Blocks.{head_fields, head_bytes, head_crc, body_bytes, HasHead, HasNoHeadIn, HasNoHead, HasSomeHead, IsNext, IsCut, IsBroken}
use Rattle.mt_block.proofs.Splits.{bytes_left, bytes_right}
use Rattle.mt_block.proofs.Heads.{same_split, same_four, small, head_long, one_head, block_apart, body_apart, codeword-length}

-- the head of a block
pub head_of : (mark : ℕ) (bytes body after : List ℕ) → IsNext mark bytes body after → HasHead mark bytes
head_of mark bytes body after next = record {
  number = length body;
  after = body_bytes mark body ++ after;
  fits = next.is_body.1;
  spelled = next.spelled ∙ block_apart mark body after;
}

long_after : (mark : ℕ) (body after : List ℕ) → length (body_bytes mark body ++ after) ≡ length body + 4 + length after
long_after mark body after = length-append (body_bytes mark body) after ∙ ap (λ n. n + length after) (codeword-length (head_crc mark (length body)) body)

-- a block is not cut
pub next_not_cut : (mark : ℕ) (bytes body after : List ℕ) → IsNext mark bytes body after → (bytes ≡ []) ⊎ IsCut mark bytes → ⊥
unfolding head_of
next_not_cut mark bytes body after next cut = by cut
  where
    h : HasHead mark bytes
    h = head_of mark bytes body after next

    by : (bytes ≡ []) ⊎ IsCut mark bytes → ⊥
    by (inl none) = let e : length bytes ≡ 0 = ap length none in let l = head_long mark bytes h in absurd (omega arith)
    by (inr (inl few)) = let l = head_long mark bytes h in let s : length bytes < 12 = few.1 in absurd (omega arith)
    by (inr (inr short)) =
        let o = one_head mark bytes h short.head in
        let e : length (body_bytes mark body ++ after) ≡ length short.head.after = ap length o.1 in
        let n : length body ≡ short.head.number = o.0 in
        let s : length short.head.after < short.head.number + 4 = short.short in
        let l = long_after mark body after in
        absurd (omega arith)

-- nor broken
pub next_not_broken : (mark : ℕ) (bytes body after behind : List ℕ) → IsNext mark bytes body after → IsBroken mark bytes behind → ⊥
unfolding head_of
next_not_broken mark bytes body after behind next (inl lacks) = lacks.none (head_of mark bytes body after next)
next_not_broken mark bytes body after behind next (inr lacks) =
    let o = one_head mark bytes (head_of mark bytes body after next) lacks.head in
    let n : length body ≡ lacks.head.number = o.0 in
    let all : body ++ (crc_bytes (crc32c_append (head_crc mark (length body)) body) ++ after) ≡ lacks.body ++ (lacks.check ++ behind) = sym (body_apart mark body after) ∙ o.1 ∙ lacks.spelled in
    let first = same_split body lacks.body (crc_bytes (crc32c_append (head_crc mark (length body)) body) ++ after) (lacks.check ++ behind) (n ∙ sym lacks.size) all in
    let second = same_split (crc_bytes (crc32c_append (head_crc mark (length body)) body)) lacks.check after behind (sym lacks.four) first.1 in
    lacks.wrong (sym second.0 ∙ (λ i. crc_bytes (crc32c_append (head_crc mark (n i)) (first.0 i))))

-- what is cut is not broken
pub cut_not_broken : (mark : ℕ) (bytes behind : List ℕ) → (bytes ≡ []) ⊎ IsCut mark bytes → IsBroken mark bytes behind → ⊥
cut_not_broken mark bytes behind (inl none) (inl lacks) = let e : length bytes ≡ 0 = ap length none in let l : 12 ≤ length bytes = lacks.long in absurd (omega arith)
cut_not_broken mark bytes behind (inl none) (inr lacks) = let e : length bytes ≡ 0 = ap length none in let l = head_long mark bytes lacks.head in absurd (omega arith)
cut_not_broken mark bytes behind (inr (inl few)) (inl lacks) = let s : length bytes < 12 = few.1 in let l : 12 ≤ length bytes = lacks.long in absurd (omega arith)
cut_not_broken mark bytes behind (inr (inl few)) (inr lacks) = let s : length bytes < 12 = few.1 in let l = head_long mark bytes lacks.head in absurd (omega arith)
cut_not_broken mark bytes behind (inr (inr short)) (inl lacks) = lacks.none short.head
cut_not_broken mark bytes behind (inr (inr short)) (inr lacks) =
    let o = one_head mark bytes short.head lacks.head in
    let e : length short.head.after ≡ length lacks.head.after = ap length o.1 in
    let n : short.head.number ≡ lacks.head.number = o.0 in
    let all : length lacks.head.after ≡ length lacks.body + (length lacks.check + length behind) = ap length lacks.spelled ∙ length-append lacks.body (lacks.check ++ behind) ∙ ap (λ k. length lacks.body + k) (length-append lacks.check behind) in
    let four : length lacks.check ≡ 4 = lacks.four in
    let size : length lacks.body ≡ lacks.head.number = lacks.size in
    let s : length short.head.after < short.head.number + 4 = short.short in
    absurd (omega arith)

-- what follows something broken
pub one_behind : (mark : ℕ) (bytes behind other : List ℕ) → IsBroken mark bytes behind → IsBroken mark bytes other → behind ≡ other
one_behind mark bytes behind other (inl a) (inl b) = (same_split (a.byte ∷ []) (b.byte ∷ []) behind other refl (sym a.spelled ∙ b.spelled)).1
one_behind mark bytes behind other (inl a) (inr b) = absurd (a.none b.head)
one_behind mark bytes behind other (inr a) (inl b) = absurd (b.none a.head)
one_behind mark bytes behind other (inr a) (inr b) =
    let o = one_head mark bytes a.head b.head in
    let all : a.body ++ (a.check ++ behind) ≡ b.body ++ (b.check ++ other) = sym a.spelled ∙ o.1 ∙ b.spelled in
    let first = same_split a.body b.body (a.check ++ behind) (b.check ++ other) (a.size ∙ o.0 ∙ sym b.size) all in
    (same_split a.check b.check behind other (a.four ∙ sym b.four) first.1).1

-- ---- what is read at a place

pub head_found : (mark n crc : ℕ) (bytes r s after : List ℕ) → bytes ≡ crc_bytes mark ++ r → r ≡ big_bytes 4 n ++ s → s ≡ crc_bytes crc ++ after → crc ≡ head_crc mark n → bytes ≡ head_bytes mark n ++ after
head_found mark n crc bytes r s after e f g same =
    e
    ∙ ap (λ (l : List ℕ). crc_bytes mark ++ l) (f ∙ ap (λ (l : List ℕ). big_bytes 4 n ++ l) (g ∙ ap (λ (k : ℕ). crc_bytes k ++ after) same))
    ∙ sym (append_assoc (crc_bytes mark) (big_bytes 4 n) (crc_bytes (head_crc mark n) ++ after))
    ∙ sym (append_assoc (head_fields mark n) (crc_bytes (head_crc mark n)) after)

-- a head in its parts
pub head_parts : (mark : ℕ) (bytes : List ℕ) (h : HasHead mark bytes) → bytes ≡ crc_bytes mark ++ (big_bytes 4 h.number ++ (crc_bytes (head_crc mark h.number) ++ h.after))
head_parts mark bytes h =
    h.spelled
    ∙ append_assoc (head_fields mark h.number) (crc_bytes (head_crc mark h.number)) h.after
    ∙ append_assoc (crc_bytes mark) (big_bytes 4 h.number) (crc_bytes (head_crc mark h.number) ++ h.after)

-- what stands after the mark, and the number
pub number_there : (mark : ℕ) (bytes r : List ℕ) (h : HasHead mark bytes) → bytes ≡ crc_bytes mark ++ r → r ≡ big_bytes 4 h.number ++ (crc_bytes (head_crc mark h.number) ++ h.after)
number_there mark bytes r h e =
    (same_split (crc_bytes mark) (crc_bytes mark) r (big_bytes 4 h.number ++ (crc_bytes (head_crc mark h.number) ++ h.after)) refl (sym e ∙ head_parts mark bytes h)).1

pub crc_there : (mark n : ℕ) (bytes r s : List ℕ) (h : HasHead mark bytes) → n < 2 ^ 32 → bytes ≡ crc_bytes mark ++ r → r ≡ big_bytes 4 n ++ s → (n ≡ h.number) × (s ≡ crc_bytes (head_crc mark n) ++ h.after)
crc_there mark n bytes r s h fits e f =
    let t = same_split (big_bytes 4 n) (big_bytes 4 h.number) s (crc_bytes (head_crc mark h.number) ++ h.after) refl (sym f ∙ number_there mark bytes r h e) in
    let same : n ≡ h.number = same_four n h.number fits (small h.number h.fits) t.0 in
    (same, t.1 ∙ ap (λ (k : ℕ). crc_bytes (head_crc mark k) ++ h.after) (sym same))

-- a front, which the bytes begin with or not
pub stripped : (bytes front : List ℕ) (found : Option (Bor (List ℕ))) → MatchOption found ((more : List ℕ) → bytes ≢ front ++ more) (λ rest. bytes ≡ front ++ rest.now)
    → IfSome found (λ rest. bytes ≡ front ++ rest.now) × IfNone found ((more : List ℕ) → bytes ≢ front ++ more)
stripped bytes front None match = (tt, match)
stripped bytes front (Some rest) match = (match, tt)

-- whether a head is there
pub head_told : (mark : ℕ) (bytes : List ℕ) (found : Option (ℕ × Bor (List ℕ))) (answer : Bool) → answer ≡ is_some found
    → IfSome found (λ x. (x.0 ≤ MOST_BODY) × (bytes ≡ head_bytes mark x.0 ++ x.1.now)) → IfNone found (HasHead mark bytes → ⊥) → IsTrue answer ↔ HasHead mark bytes
head_told mark bytes None answer e found none = (λ t. let f : answer ≡ false = e in absurd cc, λ h. absurd (none h))
head_told mark bytes (Some x) answer e found none = (λ t. record { number = x.0; after = x.1.now; fits = found.0; spelled = found.1 }, λ h. e)

module _ (mark n : ℕ) (bytes rest : List ℕ) (there : (n ≤ MOST_BODY) × (bytes ≡ head_bytes mark n ++ rest)) where
  pub too_short : length rest < n + 4 → (bytes ≡ []) ⊎ IsCut mark bytes
  too_short short = inr (inr (record { head = record { number = n; after = rest; fits = there.0; spelled = there.1 }; short = short }))

  module _ (body more : List ℕ) (parts : (rest ≡ body ++ more) × (length body ≡ n)) where
    pub no_check : length more < 4 → (bytes ≡ []) ⊎ IsCut mark bytes
    no_check few =
        let e : length rest ≡ length body + length more = ap length parts.0 ∙ length-append body more in
        let s : length body ≡ n = parts.1 in
        too_short (omega arith)

    module _ (crc : ℕ) (same : crc ≡ crc32c_append (head_crc mark n) body) where
      pub block_there : (after : List ℕ) → more ≡ crc_bytes crc ++ after → ((i : ℕ) → get_or bytes i 0 < 256) → IsNext mark bytes body after
      block_there after header small =
          let e : crc ≡ crc32c_append (head_crc mark (length body)) body = same ∙ ap (λ (k : ℕ). crc32c_append (head_crc mark k) body) (sym parts.1) in
          let all : AreBytes bytes = All-from_get_or (λ b. b < 2 ^ 8) bytes 0 (λ i h. small i) in
          let behind : AreBytes rest = bytes_right (head_bytes mark n) rest (subst AreBytes there.1 all) in
          let whole : rest ≡ body_bytes mark body ++ after = parts.0 ∙ ap (λ (l : List ℕ). body ++ l) (header ∙ ap (λ (k : ℕ). crc_bytes k ++ after) e) ∙ sym (body_apart mark body after) in
          record {
            spelled = there.1 ∙ (λ i. head_bytes mark (sym parts.1 i) ++ whole i) ∙ sym (block_apart mark body after);
            is_body = (bytes_left body more (subst AreBytes parts.0 behind), subst (λ (k : ℕ). k ≤ MOST_BODY) (sym parts.1) there.0);
          }

      pub no_block_there : (check behind : List ℕ) → (more ≡ check ++ behind) × (length check ≡ 4) → ((after : List ℕ) → more ≢ crc_bytes crc ++ after) → IsBroken mark bytes behind
      no_block_there check behind cut none = inr (record {
        head = record { number = n; after = rest; fits = there.0; spelled = there.1 };
        body = body;
        check = check;
        spelled = parts.0 ∙ ap (λ (l : List ℕ). body ++ l) cut.0;
        size = parts.1;
        four = cut.1;
        wrong = λ e. none behind (cut.0 ∙ ap (λ (l : List ℕ). l ++ behind) (e ∙ ap crc_bytes (sym same)));
      })

-- ---- heads anywhere

none_anywhere : (mark n : ℕ) (bytes : List ℕ) → n ≡ length bytes → HasNoHeadIn mark bytes n → HasNoHead mark bytes
none_anywhere mark n bytes all none front back e h =
    let s : length bytes ≡ length front + length back = ap length e ∙ length-append front back in
    let l = head_long mark back h in
    none front back e (omega arith) h

pub found_anywhere : (mark n : ℕ) (bytes : List ℕ) (answer : Bool) → (answer ≡ nat_lt n (length bytes)) → n ≤ length bytes → HasNoHeadIn mark bytes n → (drop n bytes ≡ []) ⊎ HasHead mark (drop n bytes)
    → MatchBool answer (HasSomeHead mark bytes) (HasNoHead mark bytes)
found_anywhere mark n bytes true e within none (inl gone) =
    let s : length (drop n bytes) ≡ length bytes - n = length-drop n bytes in
    let z : length (drop n bytes) ≡ 0 = ap length gone in
    let lt : n < length bytes = ltb-true n (length bytes) (sym e) in
    absurd (omega arith)
found_anywhere mark n bytes true e within none (inr h) = (take n bytes, drop n bytes, sym (take-append-drop n bytes), h)
found_anywhere mark n bytes false e within none found =
    let le : length bytes ≤ n = ltb-false n (length bytes) (sym e) in
    none_anywhere mark n bytes (omega arith) none
