-- Bytes are a file in one way, or damaged in one way; and what a crash leaves.
use Rattle.std.proofs.Common.{◌≡◌, ℕ, ◌+◌, ◌<◌, ◌≤◌, ◌⊎◌, List, [], ◌∷◌, ◌++◌, length, take, drop, refl, sym, ap, subst, ◌∙◌, arith, inl, inr, append_assoc, length-append}
use Rattle.std.specs.List.{All}
use Rattle.std.proofs.lemmas.Bool.{cases_lt}
use Rattle.std.proofs.lemmas.List.{take-append-drop, length-take}
use Rattle.std.proofs.lemmas.List.Elements.{All-head, All-tail}
use Rattle.mt_block.specs.declared.header.Header.{Header}
use Rattle.mt_block.specs.Blocks.{IsHeader, header_bytes, mark_of, head_bytes, head_crc, body_bytes, block, IsBody, HasNoHead, IsNext, IsTornEnd, IsDamage, blocks, Begins, IsFile, IsDamaged}
use Rattle.mt_block.proofs.Heads.{same_split, same_heads, head-length, same_codeword, codeword-length, block_apart}
use Rattle.mt_block.proofs.Headers.{same_size, same_header}
use Rattle.mt_block.proofs.Places.{next_not_cut, next_not_broken, cut_not_broken, one_behind}

-- a list of `k` elements or more is its first k and the others
pub record IsCutAt (k : ℕ) (xs : List ℕ) : Type 0 where
  pub front : List ℕ
  pub back : List ℕ
  pub spelled : xs ≡ front ++ back
  pub size : length front ≡ k

pub cut_at : (k : ℕ) (xs : List ℕ) → k ≤ length xs → IsCutAt k xs
cut_at k xs le = record { front = take k xs; back = drop k xs; spelled = sym (take-append-drop k xs); size = simp length-take (omega arith) }

pub flat : (mark : ℕ) (b : List ℕ) (bs : List (List ℕ)) (rest : List ℕ) → blocks mark (b ∷ bs) ++ rest ≡ block mark b ++ (blocks mark bs ++ rest)
flat mark b bs rest = append_assoc (block mark b) (blocks mark bs) rest

-- ---- in one way

NoBlock : ℕ → List ℕ → Type 0
NoBlock mark rest = (body after : List ℕ) → IsNext mark rest body after → ⊥

pub same_block : (mark : ℕ) (b c x y : List ℕ) → IsBody b → IsBody c → block mark b ++ x ≡ block mark c ++ y → (b ≡ c) × (x ≡ y)
same_block mark b c x y is other e =
    let h = same_heads mark (length b) (length c) (body_bytes mark b ++ x) (body_bytes mark c ++ y) is.1 other.1 (sym (block_apart mark b x) ∙ e ∙ block_apart mark c y) in
    let size : length (body_bytes mark b) ≡ length (body_bytes mark c) = codeword-length (head_crc mark (length b)) b ∙ ap (λ n. n + 4) h.0 ∙ sym (codeword-length (head_crc mark (length c)) c) in
    let s = same_split (body_bytes mark b) (body_bytes mark c) x y size h.1 in
    (same_codeword (head_crc mark (length b)) (head_crc mark (length c)) b c h.0 s.0, s.1)

same_all : (mark : ℕ) (bodies others : List (List ℕ)) (rest end : List ℕ) → All IsBody bodies → All IsBody others → NoBlock mark rest → NoBlock mark end
    → blocks mark bodies ++ rest ≡ blocks mark others ++ end → (bodies ≡ others) × (rest ≡ end)
unfolding NoBlock
same_all mark [] [] rest end are others none no_other e = (refl, e)
same_all mark (b ∷ bs) [] rest end are others none no_other e =
    absurd (no_other b (blocks mark bs ++ rest) (record { spelled = sym e ∙ flat mark b bs rest; is_body = All-head IsBody b bs are }))
same_all mark [] (c ∷ cs) rest end are others none no_other e =
    absurd (none c (blocks mark cs ++ end) (record { spelled = e ∙ flat mark c cs end; is_body = All-head IsBody c cs others }))
same_all mark (b ∷ bs) (c ∷ cs) rest end are others none no_other e =
    let s = same_block mark b c (blocks mark bs ++ rest) (blocks mark cs ++ end) (All-head IsBody b bs are) (All-head IsBody c cs others) (sym (flat mark b bs rest) ∙ e ∙ flat mark c cs end) in
    let r = same_all mark bs cs rest end (All-tail IsBody b bs are) (All-tail IsBody c cs others) none no_other s.1 in
    ((λ i. s.0 i ∷ r.0 i), r.1)

one_begin : (bytes : List ℕ) (header new : Header) (bodies others : List (List ℕ)) (rest end : List ℕ) → Begins bytes header bodies rest → Begins bytes new others end
    → NoBlock (mark_of header) rest → NoBlock (mark_of new) end → (header ≡ new) × (bodies ≡ others) × (rest ≡ end)
one_begin bytes header new bodies others rest end is other none no_other =
    let s = same_split (header_bytes header) (header_bytes new) (blocks (mark_of header) bodies ++ rest) (blocks (mark_of new) others ++ end) (same_size header new) (sym is.spelled ∙ other.spelled) in
    let headers : header ≡ new = same_header header new is.is_header other.is_header s.0 in
    let e : blocks (mark_of header) bodies ++ rest ≡ blocks (mark_of header) others ++ end = s.1 ∙ ap (λ (x : Header). blocks (mark_of x) others ++ end) (sym headers) in
    let r = same_all (mark_of header) bodies others rest end is.are_bodies other.are_bodies none (subst (λ (x : Header). NoBlock (mark_of x) end) (sym headers) no_other) e in
    (headers, r.0, r.1)

no_block : (mark : ℕ) (end : List ℕ) → (end ≡ []) ⊎ IsTornEnd mark end → NoBlock mark end
unfolding NoBlock
no_block mark end (inl none) body after next = next_not_cut mark end body after next (inl none)
no_block mark end (inr (inl cut)) body after next = next_not_cut mark end body after next (inr cut)
no_block mark end (inr (inr broken)) body after next = next_not_broken mark end body after broken.0 next broken.1

none_in_damage : (mark : ℕ) (rest : List ℕ) → IsDamage mark rest → NoBlock mark rest
unfolding NoBlock
none_in_damage mark rest damage body after next = next_not_broken mark rest body after damage.0 next damage.1

end_or_damage : (mark : ℕ) (rest : List ℕ) → (rest ≡ []) ⊎ IsTornEnd mark rest → IsDamage mark rest → ⊥
end_or_damage mark rest (inl none) damage = cut_not_broken mark rest damage.0 (inl none) damage.1
end_or_damage mark rest (inr (inl cut)) damage = cut_not_broken mark rest damage.0 (inr cut) damage.1
end_or_damage mark rest (inr (inr broken)) damage =
    let same : broken.0 ≡ damage.0 = one_behind mark rest broken.0 damage.0 broken.1 damage.1 in
    let some = damage.2 in
    broken.2 some.0 some.1 (same ∙ some.2) some.3

pub one_file_of : (bytes : List ℕ) (header new : Header) (bodies others : List (List ℕ)) (end rest : List ℕ) → IsFile bytes header bodies end → IsFile bytes new others rest
    → (header ≡ new) × (bodies ≡ others) × (end ≡ rest)
one_file_of bytes header new bodies others end rest is other =
    one_begin bytes header new bodies others end rest is.begins other.begins (no_block (mark_of header) end is.ends) (no_block (mark_of new) rest other.ends)

pub one_damage_of : (bytes : List ℕ) (header new : Header) (bodies others : List (List ℕ)) → IsDamaged bytes header bodies → IsDamaged bytes new others → (header ≡ new) × (bodies ≡ others)
one_damage_of bytes header new bodies others is other =
    let r = one_begin bytes header new bodies others is.rest other.rest is.begins other.begins (none_in_damage (mark_of header) is.rest is.damage) (none_in_damage (mark_of new) other.rest other.damage) in
    (r.0, r.1)

pub not_both_of : (bytes : List ℕ) (header new : Header) (bodies others : List (List ℕ)) (end : List ℕ) → IsFile bytes header bodies end → IsDamaged bytes new others → ⊥
not_both_of bytes header new bodies others end is other =
    let r = one_begin bytes header new bodies others end other.rest is.begins other.begins (no_block (mark_of header) end is.ends) (none_in_damage (mark_of new) other.rest other.damage) in
    let marks : mark_of header ≡ mark_of new = ap (λ (x : Header). mark_of x) r.0 in
    let ends : (other.rest ≡ []) ⊎ IsTornEnd (mark_of new) other.rest = subst (λ (x : ℕ × List ℕ). (x.1 ≡ []) ⊎ IsTornEnd x.0 x.1) (λ i. (marks i, r.2 i)) is.ends in
    end_or_damage (mark_of new) other.rest ends other.damage

-- ---- what a crash leaves

few_are_cut : (mark : ℕ) (left : List ℕ) → length left < 12 → (left ≡ []) ⊎ IsTornEnd mark left
few_are_cut mark [] few = inl refl
few_are_cut mark (x ∷ xs) few = inr (inl (inl (omega arith, few)))

without_head : (mark : ℕ) (left : List ℕ) → 12 ≤ length left → HasNoHead mark left → (left ≡ []) ⊎ IsTornEnd mark left
without_head mark [] long none = absurd (omega arith)
without_head mark (x ∷ xs) long none = inr (inr (
  xs,
  inl (record { byte = x; spelled = refl; long = long; none = none [] (x ∷ xs) refl }),
  λ front back e. none (x ∷ front) back (ap (λ (l : List ℕ). x ∷ l) e),
))

torn_end : (mark : ℕ) (left : List ℕ) → HasNoHead mark left → (left ≡ []) ⊎ IsTornEnd mark left
torn_end mark left none =
    elim (cases_lt (length left) 12) [
      | inl few ↦ few_are_cut mark left few
      | inr long ↦ without_head mark left long none
    ]

pub anything_is_an_end : (header : Header) (bodies : List (List ℕ)) (left : List ℕ) → IsHeader header → All IsBody bodies → HasNoHead (mark_of header) left
    → IsFile (header_bytes header ++ (blocks (mark_of header) bodies ++ left)) header bodies left
anything_is_an_end header bodies left is are none =
    record { begins = record { spelled = refl; is_header = is; are_bodies = are }; ends = torn_end (mark_of header) left none }

cut_block : (mark : ℕ) (body left lost : List ℕ) → IsBody body → block mark body ≡ left ++ lost → 0 < length lost → (left ≡ []) ⊎ IsTornEnd mark left
cut_block mark body left lost is e some =
    elim (cases_lt (length left) 12) [
      | inl few ↦ few_are_cut mark left few
      | inr long ↦ by (cut_at 12 left long)
    ]
  where
    by : IsCutAt 12 left → (left ≡ []) ⊎ IsTornEnd mark left
    by c =
        let s = same_split (head_bytes mark (length body)) c.front (body_bytes mark body) (c.back ++ lost) (head-length mark (length body) ∙ sym c.size)
        (e ∙ ap (λ (l : List ℕ). l ++ lost) c.spelled ∙ append_assoc c.front c.back lost) in
        let all : length body + 4 ≡ length c.back + length lost = sym (codeword-length (head_crc mark (length body)) body) ∙ ap length s.1 ∙ length-append c.back lost in
        inr (inl (inr (record {
          head = record { number = length body; after = c.back; fits = is.1; spelled = c.spelled ∙ ap (λ (l : List ℕ). l ++ c.back) (sym s.0) };
          short = omega arith;
        })))

pub beginning_is_an_end : (header : Header) (bodies : List (List ℕ)) (body left lost : List ℕ) → IsHeader header → All IsBody bodies → IsBody body
    → block (mark_of header) body ≡ left ++ lost → 0 < length lost → IsFile (header_bytes header ++ (blocks (mark_of header) bodies ++ left)) header bodies left
beginning_is_an_end header bodies body left lost is are is_body e some =
    record { begins = record { spelled = refl; is_header = is; are_bodies = are }; ends = cut_block (mark_of header) body left lost is_body e some }
