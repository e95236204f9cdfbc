-- Cutting the records of a log into small blocks.
use Rattle.std.proofs.Common.{◌≡◌, inl, inr, ℕ, ◌+◌, ◌^◌, ◌<◌, ◌≤◌, List, [], ◌∷◌, ◌++◌, length, take, drop, refl, sym, ap, ◌∙◌, subst, append_assoc, arith}
use Rattle.std.specs.List.{flat_map}
use Rattle.std.specs.Prelude.{nat_lt, ◌&&◌}
use Rattle.std.proofs.lemmas.Bool.{cases_Bool}
use Rattle.std.proofs.lemmas.List.{append-nil, length-append}
use Rattle.std.proofs.lemmas.Grind.{flat_map-append}
use Rattle.std.proofs.Math.Seq.{take-append_seam, drop-append_seam}
use Rattle.byteorder.specs.Endian.{big_bytes}
use Rattle.mt_words.specs.declared.limits.Format.{Format}
use Rattle.mt_words.specs.declared.limits.Format.TheVariants.{One, Two}
use Rattle.mt_words.specs.Limits.{limits_of}
use Rattle.mt_words.specs.Changes.{Logged, IsLawful}
use Rattle.mt_block.specs.declared.block.TheConstants.{MOST_BODY}
use Rattle.mt_record.specs.Spelling.{body, spelling}
use Rattle.mt_record.specs.Logs.{AreRecords}
use Rattle.mt_record.specs.Resuming.{greatest_timestamp, is_ended, below, marks_of}
use Rattle.mt_record.specs.Runs.{IsSmall}
use Rattle.mt_record.specs.Steps.Runs.{Fit, AreFitting, IsWanted, IsRun}
use Rattle.mt_record.proofs.Lawful.{lawful_length}
use Rattle.mt_record.proofs.Unique.{length_framed, framed_apart}

-- ---- lengths

fits_block : (format : Format) (r : Logged) → IsLawful (limits_of format) r → length (spelling r) ≤ MOST_BODY
fits_block One r lawful = let is = lawful_length (limits_of One) r lawful in omega (arith, is.1, length_framed (body r))
fits_block Two r lawful = let is = lawful_length (limits_of Two) r lawful in omega (arith, is.1, length_framed (body r))

-- no record of a log is longer than a block
pub below_fit : (format : Format) (cutoff low : ℕ) (rs : List Logged) → AreRecords (limits_of format) low rs → Fit (below cutoff rs)
below_fit format cutoff low [] are = tt
below_fit format cutoff low (r ∷ rs) are =
    let rest = below_fit format cutoff r.timestamp rs are.2 in
    elim (cases_Bool (nat_lt r.timestamp cutoff)) as (λ _. Fit (below cutoff (r ∷ rs))) [
      | inl is ↦ rw is (fits_block format r are.0, rest)
      | inr not ↦ rw not rest
    ]

-- the marks of a resumed log are one or two
pub marks_few : (cutoff : ℕ) (rs : List Logged) → length (flat_map spelling (marks_of cutoff rs)) ≤ 34
marks_few cutoff rs = elim (cases_Bool (is_ended rs && nat_lt cutoff greatest_timestamp)) as (λ _. length (flat_map spelling (marks_of cutoff rs)) ≤ 34) [
  | inl is ↦ rw is (omega arith)
  | inr not ↦ rw not (omega arith)
]

-- a frame asks for its number of bytes
frame_size : (r : Logged) (bytes more : List ℕ) (n : ℕ) → IsWanted bytes n → length (spelling r) ≤ MOST_BODY → bytes ≡ spelling r ++ more → n ≡ length (spelling r)
frame_size r bytes more n wanted fits e =
    let long = length_framed (body r) in
    let asked = wanted (length (body r)) (body r ++ (big_bytes 4 (length (body r)) ++ more)) (omega (arith, long, fits)) (e ∙ framed_apart (body r) more) in
    omega (arith, asked, long)

-- ---- runs

-- the first record is a run
pub first_run : (bytes : List ℕ) (n : ℕ) → AreFitting bytes → 0 < length bytes → IsWanted bytes n → IsRun bytes n
first_run bytes n are some wanted = by are.records are.spelled are.fit
  where
    by : (rs : List Logged) → bytes ≡ flat_map spelling rs → Fit rs → IsRun bytes n
    by [] e fit = absurd (omega (arith, some, ap length e))
    by (r ∷ rs) e fit =
        let size = frame_size r bytes (flat_map spelling rs) n wanted fit.0 e in
        let one = append-nil (spelling r) in
        record {
          front = r ∷ [];
          back = rs;
          spelled = e ∙ ap (λ (l : List ℕ). l ++ flat_map spelling rs) (sym one);
          size = size ∙ ap length (sym one);
          some = omega (arith, size, length_framed (body r));
          most = omega (arith, size, fit.0);
          small = inr refl;
          later = fit.1;
        }

-- the record behind a run, and its number of bytes
record Next (back : List Logged) (m : ℕ) : Type 0 where
  r : Logged
  rs : List Logged
  is : back ≡ r ∷ rs
  size : m ≡ length (spelling r)
  some : 0 < m
  most : m ≤ MOST_BODY

next : (bytes rest : List ℕ) (n m : ℕ) → (run : IsRun bytes n) → n < length bytes → rest ≡ drop n bytes → IsWanted rest m → Next run.back m
next bytes rest n m run less behind wanted = by run.back refl
  where
    front : List ℕ
    front = flat_map spelling run.front

    stands : rest ≡ flat_map spelling run.back
    stands = behind ∙ (λ i. drop (run.size i) (run.spelled i)) ∙ drop-append_seam front (flat_map spelling run.back)

    by : (rs : List Logged) → run.back ≡ rs → Next run.back m
    by [] e = absurd (omega (arith, less, run.size, ap length run.spelled, length-append front (flat_map spelling run.back), ap (λ (rs : List Logged). length (flat_map spelling rs)) e))
    by (r ∷ rs) e =
        let fit : Fit (r ∷ rs) = subst Fit e run.later in
        let size = frame_size r rest (flat_map spelling rs) m wanted fit.0 (stands ∙ ap (flat_map spelling) e) in
        record { r = r; rs = rs; is = e; size = size; some = omega (arith, size, length_framed (body r)); most = omega (arith, size, fit.0) }

pub next_within : (bytes rest : List ℕ) (n m : ℕ) → IsRun bytes n → n < length bytes → rest ≡ drop n bytes → IsWanted rest m → (0 < m) × (m ≤ MOST_BODY)
next_within bytes rest n m run less behind wanted = let one = next bytes rest n m run less behind wanted in (one.some, one.most)

-- a run and the record behind it are a run if they are small
pub more_run : (bytes rest : List ℕ) (n m : ℕ) → IsRun bytes n → n < length bytes → rest ≡ drop n bytes → IsWanted rest m → n + m ≤ 32768 → IsRun bytes (n + m)
more_run bytes rest n m run less behind wanted small =
    let one = next bytes rest n m run less behind wanted in
    let front = flat_map spelling run.front in
    let all : flat_map spelling (run.front ++ one.r ∷ []) ≡ front ++ spelling one.r = flat_map-append spelling run.front (one.r ∷ []) ∙ ap (λ (l : List ℕ). front ++ l) (append-nil (spelling one.r)) in
    record {
      front = run.front ++ one.r ∷ [];
      back = one.rs;
      spelled = run.spelled ∙ ap (λ (rs : List Logged). front ++ flat_map spelling rs) one.is ∙ sym (append_assoc front (spelling one.r) (flat_map spelling one.rs)) ∙ ap (λ (l : List ℕ). l ++ flat_map spelling one.rs) (sym all);
      size = omega (arith, run.size, one.size, ap length all, length-append front (spelling one.r));
      some = omega (arith, run.some);
      most = omega (arith, small);
      small = inl small;
      later = (subst Fit one.is run.later).1;
    }

-- the bytes of a run are a small body
pub run_small : (bytes front : List ℕ) (n : ℕ) → IsRun bytes n → front ≡ take n bytes → IsSmall front × (length front ≡ n)
run_small bytes front n run e =
    let are : front ≡ flat_map spelling run.front = e ∙ (λ i. take (run.size i) (run.spelled i)) ∙ take-append_seam (flat_map spelling run.front) (flat_map spelling run.back) in
    let long : length front ≡ n = ap length are ∙ sym run.size in
    (record { records = run.front; spelled = are; small = elim run.small [ inl few ↦ inl (omega (arith, few, long)) | inr one ↦ inr one ] }, long)

-- and those behind it are records
pub run_rest : (bytes back : List ℕ) (n : ℕ) → IsRun bytes n → back ≡ drop n bytes → AreFitting back
run_rest bytes back n run e = record {
  records = run.back;
  spelled = e ∙ (λ i. drop (run.size i) (run.spelled i)) ∙ drop-append_seam (flat_map spelling run.front) (flat_map spelling run.back);
  fit = run.later;
}
