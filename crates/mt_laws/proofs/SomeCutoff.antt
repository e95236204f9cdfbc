-- Logs have a cutoff, if there is a log.
use Rattle.std.proofs.Common.{◌≡◌, inl, inr, ℕ, ◌≤◌, Option, Some, None, List, [], ◌∷◌, Contains, refl, sym, ap, ◌∙◌, subst, arith}
use Rattle.std.specs.List.{flat_map, AllByRecursion}
use Rattle.std.proofs.lemmas.Bool.{cases_lt, eq-eqb}
use Rattle.std.proofs.lemmas.List.Elements.{All-from_recursion, All-contains}
use Rattle.mt_words.proofs.Elements.{no_element, head_or_tail, head_in, tail_in}
use Rattle.mt_record.specs.declared.feed.head.Segment.{Segment}
use Rattle.mt_record.specs.Logs.{LogReading, IsGreatestOf, times_of}
use Rattle.mt_scan.specs.Cutoff.{is_segment_of, files_of, IsLastOf, HasLast, IsCutoff}
use Rattle.mt_replay.proofs.Members.{of_each, all_from, in_flat_map, in_filter}

-- ---- the greatest of times

greatest_from : (t : ℕ) (ts : List ℕ) → (n : ℕ) × Contains (t ∷ ts) n × AllByRecursion (λ (time : ℕ). time ≤ n) (t ∷ ts)
greatest_from t [] = (t, head_in t [], (omega arith, tt))
greatest_from t (u ∷ us) =
    let rest = greatest_from u us in
    elim (cases_lt rest.0 t) as (λ _. (n : ℕ) × Contains (t ∷ u ∷ us) n × AllByRecursion (λ (time : ℕ). time ≤ n) (t ∷ u ∷ us)) [
      | inl lt ↦ (
        t,
        head_in t (u ∷ us),
        (
          omega arith,
          all_from (λ (time : ℕ). time ≤ t) (u ∷ us) (λ time at.
              let low : time ≤ rest.0 = of_each (λ (x : ℕ). x ≤ rest.0) (u ∷ us) time rest.2 at in omega (arith, low, lt)),
        ),
      )
      | inr le ↦ (rest.0, tail_in t rest.0 (u ∷ us) rest.1, (le, rest.2))
    ]

some_greatest : (times : List ℕ) (t : ℕ) → Contains times t → (n : ℕ) × IsGreatestOf times n
some_greatest [] t at = absurd (no_element t at)
some_greatest (x ∷ xs) t at = let found = greatest_from x xs in (found.0, (found.1, All-from_recursion (λ (time : ℕ). time ≤ found.0) (x ∷ xs) found.2))

greatest_at_most : (times : List ℕ) (a b : ℕ) → IsGreatestOf times a → IsGreatestOf times b → a ≤ b
greatest_at_most times a b is too = All-contains (λ (time : ℕ). time ≤ b) times a too.1 is.0

-- ---- last timestamps

-- a file is among the files of its log
pub own_file : (logs : List LogReading) (log : LogReading) → Contains logs log → Contains (files_of log.head.segment log logs) log
own_file logs log at = by log.head.segment refl
  where
    by : (segment : Option Segment) → segment ≡ log.head.segment → Contains (files_of segment log logs) log
    by None same = head_in log []
    by (Some segment) same =
        in_filter (λ (other : LogReading). is_segment_of segment.worker other.head.segment) logs log (ap (is_segment_of segment.worker) (sym same) ∙ eq-eqb segment.worker segment.worker refl) at

pub some_last : (logs : List LogReading) (log : LogReading) → Contains logs log → (last : ℕ) × IsLastOf logs log last
some_last logs log at =
    let files : List LogReading = files_of log.head.segment log logs in
    some_greatest (flat_map times_of files) log.head.from (in_flat_map times_of files log log.head.from (own_file logs log at) (head_in log.head.from _))

-- ---- the least of them

-- a last timestamp that is at most those of these logs
record IsLeastOf (logs these : List LogReading) (n : ℕ) : Type 0 where
  has : HasLast logs n
  least : (log : LogReading) (last : ℕ) → Contains these log → IsLastOf logs log last → n ≤ last

-- a last timestamp of one log is at most each last timestamp of this log
own_least : (logs : List LogReading) (l log : LogReading) (own last : ℕ) → IsLastOf logs l own → l ≡ log → IsLastOf logs log last → own ≤ last
own_least logs l log own last is same is_last =
    greatest_at_most (flat_map times_of (files_of l.head.segment l logs)) own last is (subst (λ (x : LogReading). IsLastOf logs x last) (sym same) is_last)

least_of : (logs : List LogReading) (l : LogReading) (ls : List LogReading) → ((log : LogReading) → Contains (l ∷ ls) log → Contains logs log) → (n : ℕ) × IsLeastOf logs (l ∷ ls) n
least_of logs l [] among =
    let own = some_last logs l (among l (head_in l [])) in (
      own.0,
      record {
        has = record { log = l; stands = among l (head_in l []); is_last = own.1 };
        least = λ log last at is. elim (head_or_tail l log [] at) as (λ _. own.0 ≤ last) [
          | inl same ↦ own_least logs l log own.0 last own.1 same is
          | inr none ↦ absurd (no_element log none)
        ];
      },
    )
least_of logs l (m ∷ ms) among =
    let own = some_last logs l (among l (head_in l (m ∷ ms))) in
    let rest = least_of logs m ms (λ log at. among log (tail_in l log (m ∷ ms) at)) in
    elim (cases_lt own.0 rest.0) as (λ _. (n : ℕ) × IsLeastOf logs (l ∷ m ∷ ms) n) [
      | inl lt ↦ (
        own.0,
        record {
          has = record { log = l; stands = among l (head_in l (m ∷ ms)); is_last = own.1 };
          least = λ log last at is. elim (head_or_tail l log (m ∷ ms) at) as (λ _. own.0 ≤ last) [
            | inl same ↦ own_least logs l log own.0 last own.1 same is
            | inr later ↦ let low : rest.0 ≤ last = rest.1.least log last later is in omega (arith, lt, low)
          ];
        },
      )
      | inr le ↦ (
        rest.0,
        record {
          has = rest.1.has;
          least = λ log last at is. elim (head_or_tail l log (m ∷ ms) at) as (λ _. rest.0 ≤ last) [
            | inl same ↦ let low : own.0 ≤ last = own_least logs l log own.0 last own.1 same is in omega (arith, le, low)
            | inr later ↦ rest.1.least log last later is
          ];
        },
      )
    ]

-- the least last timestamp of some log is the cutoff
pub some_cutoff : (l : LogReading) (ls : List LogReading) → (cutoff : ℕ) × IsCutoff (l ∷ ls) cutoff
some_cutoff l ls =
    let found = least_of (l ∷ ls) l ls (λ log at. at) in
    (found.0, record { has = found.1.has; least = λ last has. found.1.least has.log last has.stands has.is_last })
