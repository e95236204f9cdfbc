-- What a report counts, log by log and part by part.
use Rattle.std.proofs.Common.{◌≡◌, ◌∙◌, inl, inr, ℕ, suc, ◌≤◌, Bool, true, false, Option, Some, None, List, [], ◌∷◌, ◌++◌, length, map, All, Contains, refl, sym, ap, subst, arith}
use Rattle.std.specs.Prelude.{◌↔◌, IsTrue}
use Rattle.std.specs.List.{filter, flat_map, sum_by, count_by}
use Rattle.std.specs.Option.{option_map}
use Rattle.std.proofs.lemmas.List.{length-map}
use Rattle.std.proofs.lemmas.List.Concat.{length-flat_map}
use Rattle.std.proofs.lemmas.List.Elements.{filter-append, All-nil, All-append, All-contains, Contains-append_left, Contains-append_right}
use Rattle.std.proofs.lemmas.Slice.Zip.{AllZip-long}
use Rattle.std.proofs.lemmas.List.Sums.{sum_by-cons, length-filter}
use Rattle.mt_words.specs.declared.record.Change.{Change}
use Rattle.mt_words.specs.declared.update.Origin.TheVariants as origins
use Rattle.mt_words.specs.declared.update.Update.{Update}
use Rattle.mt_words.specs.Changes.{is_mark}
use Rattle.mt_words.specs.Updates.{update_at, updates_from}
use Rattle.mt_words.proofs.Elements.{no_element, head_or_tail, head_in, tail_in}
use Rattle.mt_record.specs.Logs.{LogReading, IsReading, IsGreatestOf, times_of}
use Rattle.mt_scan.specs.declared.checkpoint.Checkpoint.{Checkpoint}
use Rattle.mt_scan.specs.declared.log_scan.LogScan.{LogScan}
use Rattle.mt_record.specs.declared.front.LogFront.{LogFront}
use Rattle.mt_record.specs.declared.front.Rest.{Rest}
use Rattle.mt_record.specs.declared.front.Rest.TheVariants.{Nothing, Torn, Faulty}
use Rattle.mt_record.specs.LogTexts.{greatest, tail_rest}
use Rattle.mt_scan.specs.Scans.{last_in, HasNumbersOf, HaveNumbersOf, ShowFronts}
use Rattle.mt_scan.specs.Cutoff.{IsCutoff}
use Rattle.mt_scan.specs.PartsShown.{KeptPart, shown_by_all}
use Rattle.mt_scan.specs.Choice.{CheckpointReading}
use Rattle.mt_scan.specs.Choosing.{checkpoint_in}
use Rattle.mt_scan.specs.Steps.Checkpoints.{entries_of}
use Rattle.mt_scan.proofs.Drops.{same_kept}
use Rattle.mt_replay.specs.Survivors.{all_updates, wholes}
use Rattle.mt_replay.proofs.BatchLemmas.{one_if}
use Rattle.mt_recover.specs.Steps.LogScans.{ShowAll, kept, kept_by}
use Rattle.mt_recover.specs.Recovery.{AreReadings, records_of}
use Rattle.mt_recover.specs.Report.{all_records, end_of}
use Rattle.mt_recover.proofs.VersionLemmas.{none_above, greatest_among}

-- ---- what a filter keeps of lists

filter_flat : {A B : Type 0} (test : B → Bool) (f : A → List B) (xs : List A) → filter test (flat_map f xs) ≡ flat_map (λ x. filter test (f x)) xs
filter_flat test f [] = refl
filter_flat test f (x ∷ xs) = filter-append test (f x) (flat_map f xs) ∙ ap (λ (ys : List _). filter test (f x) ++ ys) (filter_flat test f xs)

-- what a filter keeps of all lists is counted list by list
pub length-filter_flat : {A B : Type 0} (test : B → Bool) (f : A → List B) (xs : List A) → length (filter test (flat_map f xs)) ≡ sum_by (λ x. length (filter test (f x))) xs
length-filter_flat test f xs = ap length (filter_flat test f xs) ∙ length-flat_map (λ x. filter test (f x)) xs

-- ---- entries

all_entries : (parts : List KeptPart) → entries_of (shown_by_all parts) ≡ flat_map (λ (part : KeptPart). part.entries) parts
all_entries [] = refl
all_entries (p ∷ ps) = ap (λ (es : List Change). p.entries ++ es) (all_entries ps)

-- the updates of entries are counted part by part
pub entries_counted : (parts : List KeptPart) → sum_by (λ (part : KeptPart). length part.entries) parts ≡ length (wholes (entries_of (shown_by_all parts)))
entries_counted parts =
    sym (length-flat_map (λ (part : KeptPart). part.entries) parts)
    ∙ ap length (sym (all_entries parts))
    ∙ sym (length-map (entries_of (shown_by_all parts)) (update_at origins.Checkpoint 0))

-- ---- scans and what their logs say

-- there are as many logs as scans
pub as_many : (logs : List (List ℕ)) (scans : List LogScan) (readings : List LogReading) → AreReadings logs readings → HaveNumbersOf scans readings → length scans ≡ length logs
as_many logs scans readings read numbers = sym (AllZip-long HasNumbersOf scans readings numbers) ∙ AllZip-long IsReading logs readings read

-- if a number of each scan is one of its log, the sums over all are equal
same_sums : (of_scan : LogScan → ℕ) (of_log : LogReading → ℕ) → ((scan : LogScan) (log : LogReading) → HasNumbersOf scan log → of_scan scan ≡ of_log log)
    → (scans : List LogScan) (readings : List LogReading) → HaveNumbersOf scans readings → sum_by of_scan scans ≡ sum_by of_log readings
same_sums of_scan of_log same [] [] numbers = refl
same_sums of_scan of_log same [] (l ∷ ls) numbers = absurd numbers
same_sums of_scan of_log same (s ∷ ss) [] numbers = absurd numbers
same_sums of_scan of_log same (s ∷ ss) (l ∷ ls) numbers =
    omega (arith, sum_by-cons of_scan s ss, sum_by-cons of_log l ls, same s l numbers.0, same_sums of_scan of_log same ss ls numbers.1)

pub records_counted : (scans : List LogScan) (readings : List LogReading) → HaveNumbersOf scans readings → sum_by (λ (scan : LogScan). scan.front.count) scans ≡ length (all_records readings)
records_counted scans readings numbers =
    same_sums (λ (scan : LogScan). scan.front.count) (λ (log : LogReading). length log.records) (λ s l is. is.front.count) scans readings numbers
    ∙ sym (length-flat_map (λ (log : LogReading). log.records) readings)

pub marks_counted : (scans : List LogScan) (readings : List LogReading) → HaveNumbersOf scans readings
    → sum_by (λ (scan : LogScan). scan.marks) scans ≡ length (filter is_mark (all_records readings))
marks_counted scans readings numbers =
    same_sums (λ (scan : LogScan). scan.marks) (λ (log : LogReading). length (filter is_mark log.records)) (λ s l is. is.marks) scans readings numbers
    ∙ sym (length-filter_flat is_mark (λ (log : LogReading). log.records) readings)

-- whether a torn tail is what follows the records
abbrev pub is_torn : Rest → Bool
is_torn Torn = true
is_torn rest = false

pub torn_is : (b : Bool) (rest : Rest) → (IsTrue b ↔ (rest ≡ Torn)) → b ≡ is_torn rest
torn_is true rest is = sym (ap is_torn (is.0 refl))
torn_is false Torn is = is.1 refl
torn_is false Nothing is = refl
torn_is false (Faulty what) is = refl

torn_of : (torn : Bool) → is_torn (tail_rest torn) ≡ torn
torn_of true = refl
torn_of false = refl

pub torn_counted : (scans : List LogScan) (readings : List LogReading) → HaveNumbersOf scans readings
    → count_by (λ (scan : LogScan). is_torn scan.front.rest) scans ≡ length (filter (λ (log : LogReading). log.torn) readings)
torn_counted scans readings numbers =
    same_sums (λ (scan : LogScan). one_if (is_torn scan.front.rest)) (λ (log : LogReading). one_if log.torn)
    (λ s l is. ap one_if (ap (λ (front : LogFront). is_torn front.rest) is.front.is ∙ torn_of l.torn)) scans readings numbers
    ∙ sym (length-filter (λ (log : LogReading). log.torn) readings)

pub ends_are : (scans : List LogScan) (readings : List LogReading) → HaveNumbersOf scans readings → map (λ (scan : LogScan). scan.front.bytes) scans ≡ map end_of readings
ends_are [] [] numbers = refl
ends_are [] (l ∷ ls) numbers = absurd numbers
ends_are (s ∷ ss) [] numbers = absurd numbers
ends_are (s ∷ ss) (l ∷ ls) numbers = λ i. (numbers.0.front.is i).bytes ∷ ends_are ss ls numbers.1 i

-- a last timestamp of a scan is a time of the logs
has_last : (scans : List LogScan) (readings : List LogReading) (n : ℕ) → HaveNumbersOf scans readings → Contains (map (λ (scan : LogScan). last_in scan.front) scans) n → Contains (flat_map times_of readings) n
has_last [] [] n numbers at = absurd (no_element n at)
has_last [] (l ∷ ls) n numbers at = absurd numbers
has_last (s ∷ ss) [] n numbers at = absurd numbers
has_last (s ∷ ss) (l ∷ ls) n numbers at =
    elim (head_or_tail (last_in s.front) n (map (λ (scan : LogScan). last_in scan.front) ss) at) as (λ _. Contains (times_of l ++ flat_map times_of ls) n) [
      | inl e ↦ Contains-append_left (times_of l) (flat_map times_of ls) n (subst (Contains (times_of l)) e numbers.0.front.last.0)
      | inr later ↦ Contains-append_right (times_of l) (flat_map times_of ls) n (has_last ss ls n numbers.1 later)
    ]

-- no time of the logs is above all last timestamps
bound_lasts : (scans : List LogScan) (readings : List LogReading) (n : ℕ) → HaveNumbersOf scans readings → ((t : ℕ) → Contains (map (λ (scan : LogScan). last_in scan.front) scans) t → t ≤ n) → All (λ time. time ≤ n) (flat_map times_of readings)
bound_lasts [] [] n numbers least = All-nil (λ (time : ℕ). time ≤ n)
bound_lasts [] (l ∷ ls) n numbers least = absurd numbers
bound_lasts (s ∷ ss) [] n numbers least = absurd numbers
bound_lasts (s ∷ ss) (l ∷ ls) n numbers least =
    let lasts = map (λ (scan : LogScan). last_in scan.front) ss in
    let own : last_in s.front ≤ n = least (last_in s.front) (head_in (last_in s.front) lasts) in
    All-append (λ (time : ℕ). time ≤ n) (times_of l) (flat_map times_of ls)
    (λ i d within. omega (arith, own, numbers.0.front.last.1 i d within))
    (bound_lasts ss ls n numbers.1 (λ t at. least t (tail_in (last_in s.front) t lasts at)))

-- the greatest of the last timestamps is the greatest time of the logs
greatest_is : (scans : List LogScan) (readings : List LogReading) (n : ℕ) → HaveNumbersOf scans readings → Contains (map (λ (scan : LogScan). last_in scan.front) scans) n
    → All (λ last. last ≤ n) (map (λ (scan : LogScan). last_in scan.front) scans) → IsGreatestOf (flat_map times_of readings) n
greatest_is scans readings n numbers at most =
    (has_last scans readings n numbers at, bound_lasts scans readings n numbers (λ t there. All-contains (λ (last : ℕ). last ≤ n) (map (λ (scan : LogScan). last_in scan.front) scans) t most there))

no_log : (readings : List LogReading) (log : LogReading) → HaveNumbersOf [] readings → Contains readings log → ⊥
no_log [] log numbers at = no_element log at
no_log (l ∷ ls) log numbers at = absurd numbers

-- logs that have a cutoff are some logs, so the greatest of the last timestamps is their greatest time
pub last_is : (scans : List LogScan) (readings : List LogReading) (cutoff : ℕ) → HaveNumbersOf scans readings → IsCutoff readings cutoff
    → IsGreatestOf (flat_map times_of readings) (greatest (map (λ (scan : LogScan). last_in scan.front) scans))
last_is [] readings cutoff numbers is = absurd (no_log readings is.has.log numbers is.has.stands)
last_is (s ∷ ss) readings cutoff numbers is =
    let lasts = map (λ (scan : LogScan). last_in scan.front) (s ∷ ss) in
    greatest_is (s ∷ ss) readings (greatest lasts) numbers (greatest_among (last_in s.front) (map (λ (scan : LogScan). last_in scan.front) ss)) (none_above lasts)

-- scans that show their logs have the numbers of the logs
pub numbers_of : (limit number : ℕ) (scans : List LogScan) (readings : List LogReading) → ShowAll limit number scans readings → HaveNumbersOf scans readings
numbers_of limit number [] [] show = tt
numbers_of limit number [] (l ∷ ls) show = absurd show
numbers_of limit number (s ∷ ss) [] show = absurd show
numbers_of limit number (s ∷ ss) (l ∷ ls) show = (show.0.numbers, numbers_of limit (suc number) ss ls show.1)

-- scans with the numbers of logs have fronts that show the logs
pub fronts_show : (scans : List LogScan) (readings : List LogReading) → HaveNumbersOf scans readings → ShowFronts (map (λ (scan : LogScan). scan.front) scans) readings
fronts_show [] [] numbers = tt
fronts_show [] (l ∷ ls) numbers = absurd numbers
fronts_show (s ∷ ss) [] numbers = absurd numbers
fronts_show (s ∷ ss) (l ∷ ls) numbers = (numbers.0.front, fronts_show ss ls numbers.1)

-- a filter that keeps nothing at or after the limit keeps the same updates of the scans as of their logs
pub same_updates : (keeps : Update → Bool) (limit number : ℕ) (scans : List LogScan) (readings : List LogReading) → ((update : Update) → limit ≤ update.timestamp → keeps update ≡ false) → ShowAll limit number scans readings
    → filter keeps (kept scans) ≡ filter keeps (all_updates number (records_of readings))
same_updates keeps limit number [] [] none show = refl
same_updates keeps limit number [] (l ∷ ls) none show = absurd show
same_updates keeps limit number (s ∷ ss) [] none show = absurd show
same_updates keeps limit number (s ∷ ss) (l ∷ ls) none show =
    filter-append keeps (kept_by s) (kept ss)
    ∙ (λ i. same_kept keeps number limit s l none show.0 i ++ same_updates keeps limit (suc number) ss ls none show.1 i)
    ∙ sym (filter-append keeps (updates_from number 0 l.records) (all_updates (suc number) (records_of ls)))

-- a checkpoint in memory has the number of the checkpoint that it shows
pub same_number : (chosen : Option Checkpoint) → option_map (λ (checkpoint : Checkpoint). checkpoint.number) chosen ≡ option_map (λ (checkpoint : CheckpointReading). checkpoint.number) (option_map checkpoint_in chosen)
same_number None = refl
same_number (Some checkpoint) = refl
