-- What is left of frames that were cut: nothing, or the beginning of one.
use Rattle.std.proofs.Common.{◌≡◌, ◌⊎◌, inl, inr, ℕ, ◌+◌, ◌<◌, List, [], ◌∷◌, ◌++◌, length, refl, sym, ap, ◌∙◌, arith}
use Rattle.std.proofs.lemmas.List.{length-append, append-nil}
use Rattle.byteorder.specs.Endian.{big_bytes}
use Rattle.byteorder.specs.Numbers.{length-bytes_high_first}
use Rattle.mt_words.specs.declared.limits.Limits.{Limits}
use Rattle.mt_words.specs.Changes.{Logged, IsLawful}
use Rattle.mt_record.specs.Fronts.{GoTogether}
use Rattle.mt_record.specs.Spelling.{body, spelling, IsRecordLength}
use Rattle.mt_record.specs.Logs.{IsUnfinished, IsTorn}
use Rattle.mt_record.proofs.Feeds.{apart}
use Rattle.mt_record.proofs.Lawful.{lawful_length}

-- bytes that go together with a lawful length, and are fewer than it asks for
cut_at : (IsLength : ℕ → Type 0) (n : ℕ) (bytes : List ℕ) → IsLength n → 0 < length bytes → length bytes < n + 8
    → GoTogether bytes (big_bytes 4 n) → IsUnfinished IsLength bytes
cut_at IsLength n bytes is some short (inl u) =
    let all : length bytes ≡ length (big_bytes 4 n) + length u.0 = ap length u.1 ∙ length-append (big_bytes 4 n) u.0 in
    let four : length (big_bytes 4 n) ≡ 4 = length-bytes_high_first 4 n in
    inr (record { number = n; more = u.0; is_length = is; spelled = u.1; short = omega (arith, all, short, four) })
cut_at IsLength n bytes is some short (inr ([], e)) = inr (record {
  number = n;
  more = [];
  is_length = is;
  spelled = sym (append-nil bytes) ∙ sym e ∙ sym (append-nil (big_bytes 4 n));
  short = omega arith;
})
cut_at IsLength n bytes is some short (inr (x ∷ xs, e)) =
    let all : length (big_bytes 4 n) ≡ length bytes + length (x ∷ xs) = ap length e ∙ length-append bytes (x ∷ xs) in
    let four : length (big_bytes 4 n) ≡ 4 = length-bytes_high_first 4 n in
    inl (some, omega (arith, all, four))

-- a beginning of a tail is a tail
pub cut_end : (IsLength : ℕ → Type 0) (tail bytes lost : List ℕ) → tail ≡ bytes ++ lost → (tail ≡ []) ⊎ IsUnfinished IsLength tail
    → (bytes ≡ []) ⊎ IsUnfinished IsLength bytes
cut_end IsLength tail [] lost e end = inl refl
cut_end IsLength tail (b ∷ bs) lost e (inl none) =
    let all : 0 ≡ length (b ∷ bs) + length lost = ap length (sym none ∙ e) ∙ length-append (b ∷ bs) lost in
    absurd (omega (arith, all))
cut_end IsLength tail (b ∷ bs) lost e (inr (inl few)) =
    let all : length tail ≡ length (b ∷ bs) + length lost = ap length e ∙ length-append (b ∷ bs) lost in
    let short : length tail < 4 = few.1 in
    inr (inl (omega arith, omega (arith, short, all)))
cut_end IsLength tail (b ∷ bs) lost e (inr (inr f)) =
    let all : length tail ≡ length (b ∷ bs) + length lost = ap length e ∙ length-append (b ∷ bs) lost in
    let framed : length tail ≡ length (big_bytes 4 f.number) + length f.more = ap length f.spelled ∙ length-append (big_bytes 4 f.number) f.more in
    let four : length (big_bytes 4 f.number) ≡ 4 = length-bytes_high_first 4 f.number in
    let few : length f.more < f.number + 4 = f.short in
    inr (cut_at IsLength f.number (b ∷ bs) f.is_length (omega arith) (omega (arith, all, framed, four, few))
    (apart (b ∷ bs) (big_bytes 4 f.number) lost f.more (sym e ∙ f.spelled)))

-- a beginning of a record that has not all of it is a tail
pub cut_record : (limits : Limits) (r : Logged) (bytes lost : List ℕ) → IsLawful limits r → spelling r ≡ bytes ++ lost → 0 < length lost
    → (bytes ≡ []) ⊎ IsTorn limits bytes
cut_record limits r [] lost is e some = inl refl
cut_record limits r (b ∷ bs) lost is e some =
    let n = length (body r) in
    let all : length (spelling r) ≡ length (b ∷ bs) + length lost = ap length e ∙ length-append (b ∷ bs) lost in
    let outer : length (spelling r) ≡ length (big_bytes 4 n) + length (body r ++ big_bytes 4 n) = length-append (big_bytes 4 n) (body r ++ big_bytes 4 n) in
    let inner : length (body r ++ big_bytes 4 n) ≡ n + length (big_bytes 4 n) = length-append (body r) (big_bytes 4 n) in
    let four : length (big_bytes 4 n) ≡ 4 = length-bytes_high_first 4 n in
    inr (cut_at (IsRecordLength limits) n (b ∷ bs) (lawful_length limits r is) (omega arith) (omega (arith, all, outer, inner, four, some))
    (apart (b ∷ bs) (big_bytes 4 n) lost (body r ++ big_bytes 4 n) (sym e)))
