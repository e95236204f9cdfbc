-- Logs and parts have a store or a fault.
use Rattle.std.proofs.Common.{◌≡◌, ◌⊎◌, inl, inr, ℕ, zero, suc, Option, Some, None, List, [], ◌∷◌, map, length, filter, Contains, refl, subst}
use Rattle.std.specs.Prelude.{IfSome, All}
use Rattle.std.specs.List.{AllByRecursion}
use Rattle.std.proofs.lemmas.List.Elements.{All-contains, Contains-append_cases}
use Rattle.std.proofs.lemmas.List.Sorted.{Contains-permutation, IsPermutation-sym}
use Rattle.mt_words.specs.declared.fault.Fault.{Fault}
use Rattle.mt_words.specs.declared.fault.Fault.TheVariants as faults
use Rattle.mt_words.specs.declared.limits.Format.{Format}
use Rattle.mt_words.specs.declared.record.Change.{Change}
use Rattle.mt_words.specs.declared.update.Origin.{Origin}
use Rattle.mt_words.specs.declared.update.Origin.TheVariants as origins
use Rattle.mt_words.specs.declared.update.Update.{Update}
use Rattle.mt_words.specs.Limits.{limits_of}
use Rattle.mt_words.specs.Changes.{Logged, IsLawfulChange, IsLoggedChange, IsEntry}
use Rattle.mt_words.specs.Slices.{AreBytes}
use Rattle.mt_words.specs.Updates.{update_at, update_by, update_of, updates_from}
use Rattle.mt_words.specs.Walks.{Pair}
use Rattle.mt_words.proofs.Elements.{no_element, head_or_tail, head_in, tail_in}
use Rattle.mt_words.proofs.Formats.{change_within}
use Rattle.mt_record.specs.declared.read.FeedFault.{FeedFault}
use Rattle.mt_record.specs.declared.read.FeedFault.TheVariants as of_log
use Rattle.mt_record.specs.Logs.{LogReading, AreRecords}
use Rattle.mt_record.specs.Parts.{PartReading, IsPartReading}
use Rattle.mt_scan.specs.Choice.{CheckpointReading, belongs_to, parts_of, IsChosenOf}
use Rattle.mt_scan.specs.PartScans.{KnownPart, whole, IsKnown}
use Rattle.mt_replay.specs.declared.window.Window.{Window}
use Rattle.mt_replay.specs.Survivors.{all_updates, in_window, log_updates}
use Rattle.mt_replay.proofs.Members.{of_each, of_map, of_flat_map, of_filter, in_map}
use Rattle.mt_scan.specs.Segments.{IsDoubled, IsTornAmid, IsGap, AreWriters}
use Rattle.mt_scan.proofs.SegmentCases.{doubled_or_not, torn_or_not, gap_or_not}
use Rattle.mt_recover.specs.Recovery.{AreReadings, AreKnown, Facts, IsStoreOf, begin_of, records_of, survivors, entry_updates}
use Rattle.mt_recover.specs.Verdict.{IsFirstFault, IsVerdict}
use Rattle.mt_recover.proofs.SurvivorLemmas.{survivors_apart}
use Rattle.mt_laws.proofs.SomeReading.{ReadingOrFault, reading_or_fault}
use Rattle.mt_laws.proofs.SomePart.{known_of}
use Rattle.mt_laws.proofs.Finite.{HasFirst, has_first, within_length}
use Rattle.mt_laws.proofs.SomeCutoff.{some_cutoff}
use Rattle.mt_laws.proofs.SomeChoice.{some_choice}
use Rattle.mt_laws.proofs.SomeWalk.{IsLawfulUpdate, some_walk}

-- ---- readings of logs

-- the first fault of logs
abbrev HasFault : List (List ℕ) → Type 0
HasFault logs = (i : ℕ) × (fault : FeedFault) × IsFirstFault logs i fault

-- the readings of logs
abbrev HasReadings : List (List ℕ) → Type 0
HasReadings logs = (readings : List LogReading) × AreReadings logs readings

-- all logs have a reading, or one of them has the first fault
read_or_fault : (logs : List (List ℕ)) → ((bytes : List ℕ) → Contains logs bytes → ReadingOrFault bytes) → HasReadings logs ⊎ HasFault logs
read_or_fault [] each = inl ([], tt)
read_or_fault (l ∷ ls) each = elim (each l (head_in l ls)) as (λ _. HasReadings (l ∷ ls) ⊎ HasFault (l ∷ ls)) [
  | inr fault ↦ inr (zero, fault.0, record { readings = []; before = tt; bytes = l; stands = refl; is_fault = fault.1 })
  | inl own ↦ elim (read_or_fault ls (λ bytes at. each bytes (tail_in l bytes ls at))) as (λ _. HasReadings (l ∷ ls) ⊎ HasFault (l ∷ ls)) [
    | inl rest ↦ inl (own.0 ∷ rest.0, (own.1, rest.1))
    | inr fault ↦ inr (
      suc fault.0,
      fault.1,
      record {
        readings = own.0 ∷ fault.2.readings;
        before = (own.1, fault.2.before);
        bytes = fault.2.bytes;
        stands = fault.2.stands;
        is_fault = fault.2.is_fault;
      },
    )
  ]
]

-- what is known of parts
all_known : (parts : List (List ℕ)) → (known : List KnownPart) × AreKnown parts known
all_known [] = ([], tt)
all_known (p ∷ ps) =
    let own = known_of p in
    let rest = all_known ps in
    (own.0 ∷ rest.0, (own.1, rest.1))

-- ---- segments

first_doubled : (files : List LogReading) → HasFirst (IsDoubled files)
first_doubled files = has_first (IsDoubled files) (doubled_or_not files) (length files) (λ i is. within_length _ files i is)

first_torn : (files : List LogReading) → HasFirst (IsTornAmid files)
first_torn files = has_first (IsTornAmid files) (torn_or_not files) (length files) (λ i is. within_length _ files i is)

first_gap : (begin : ℕ) (files : List LogReading) → HasFirst (IsGap begin files)
first_gap begin files = has_first (IsGap begin files) (gap_or_not begin files) (length files) (λ i is. within_length _ files i is)

-- ---- the updates that survive are lawful

-- the update of a lawful change
lawful_change : (format : Format) (origin : Origin) (time : ℕ) (change : Change) → IsLawfulChange (limits_of format) change → IsLawfulUpdate (update_at origin time change)
lawful_change format origin time change is = let wide = change_within format change is in (wide.key, wide.kind)

lawful_from : (format : Format) (low log nth : ℕ) (records : List Logged) (u : Update) → AreRecords (limits_of format) low records
    → Contains (updates_from log nth records) u → IsLawfulUpdate u
lawful_from format low log nth [] u are at = absurd (no_element u at)
lawful_from format low log nth (r ∷ rs) u are at = elim (Contains-append_cases (update_of log nth r) (updates_from log (suc nth) rs) u at) as (λ _. IsLawfulUpdate u) [
  | inl own ↦ by r.change are.0.1 own
  | inr later ↦ lawful_from format r.timestamp log (suc nth) rs u are.2 later
]
  where
    by : (change : Option Change) → IfSome change (IsLoggedChange (limits_of format)) → Contains (update_by (origins.Log log nth) r.timestamp change) u → IsLawfulUpdate u
    by None is here = absurd (no_element u here)
    by (Some change) is here = elim (head_or_tail (update_at (origins.Log log nth) r.timestamp change) u [] here) as (λ _. IsLawfulUpdate u) [
      | inl e ↦ subst IsLawfulUpdate e (lawful_change format (origins.Log log nth) r.timestamp change is.0)
      | inr none ↦ absurd (no_element u none)
    ]

lawful_logged : (log : ℕ) (logs : List (List ℕ)) (readings : List LogReading) (u : Update) → AreReadings logs readings → Contains (all_updates log (records_of readings)) u → IsLawfulUpdate u
lawful_logged log [] [] u are at = absurd (no_element u at)
lawful_logged log [] (r ∷ rs) u are at = absurd are
lawful_logged log (l ∷ ls) [] u are at = absurd are
lawful_logged log (l ∷ ls) (r ∷ rs) u are at = elim (Contains-append_cases (updates_from log 0 r.records) (all_updates (suc log) (records_of rs)) u at) as (λ _. IsLawfulUpdate u) [
  | inl own ↦ lawful_from r.head.format 0 log 0 r.records u are.0.is_log.lawful own
  | inr later ↦ lawful_logged (suc log) ls rs u are.1 later
]

-- a complete part that is known has lawful entries
lawful_part : (parts : List (List ℕ)) (known : List KnownPart) (text : PartReading) → AreKnown parts known → Contains known (whole text)
    → (format : Format) × AllByRecursion (IsEntry (limits_of format)) text.entries
lawful_part [] [] text are at = absurd (no_element (whole text) at)
lawful_part [] (k ∷ ks) text are at = absurd are
lawful_part (p ∷ ps) [] text are at = absurd are
lawful_part (p ∷ ps) (k ∷ ks) text are at = elim (head_or_tail k (whole text) ks at) as (λ _. (format : Format) × AllByRecursion (IsEntry (limits_of format)) text.entries) [
  | inl e ↦ let is : IsPartReading p text = subst (IsKnown p) e are.0 in (is.is_part.0, is.is_part.1.lawful)
  | inr later ↦ lawful_part ps ks text are.1 later
]

lawful_entries : (parts : List (List ℕ)) (known : List KnownPart) (cutoff : ℕ) (chosen : Option CheckpointReading) (u : Update) → AreKnown parts known
    → IsChosenOf known cutoff chosen → Contains (entry_updates chosen) u → IsLawfulUpdate u
lawful_entries parts known cutoff None u are is at = absurd (no_element u at)
lawful_entries parts known cutoff (Some checkpoint) u are is at =
    let valid = is.0.valid in
    let entry = of_map (update_at origins.Checkpoint 0) checkpoint.entries u at in
    let text = of_flat_map (λ (text : PartReading). text.entries) valid.texts entry.0 (subst (λ (entries : List Change). Contains entries entry.0) valid.make_up.all entry.1) in
    let among = Contains-permutation (map whole valid.texts) (parts_of checkpoint.number known) (whole text.0)
    (IsPermutation-sym (parts_of checkpoint.number known) (map whole valid.texts) valid.are_whole) (in_map whole valid.texts text.0 text.1) in
    let lawful = lawful_part parts known text.0 are (of_filter (belongs_to checkpoint.number) known (whole text.0) among).0 in
    let is_entry : IsEntry (limits_of lawful.0) entry.0 = of_each (IsEntry (limits_of lawful.0)) text.0.entries entry.0 lawful.1 text.2 in
    subst IsLawfulUpdate entry.2 (lawful_change lawful.0 origins.Checkpoint 0 entry.0 is_entry.0)

lawful_survivors : (logs parts : List (List ℕ)) (facts : Facts logs parts) (u : Update) → Contains (survivors facts.cutoff facts.chosen (records_of facts.readings)) u → IsLawfulUpdate u
lawful_survivors logs parts facts u at =
    let window : Window = record { begin = begin_of facts.chosen; cutoff = facts.cutoff } in
    let logged : List Update = log_updates (records_of facts.readings) in
    elim (Contains-append_cases (filter (in_window window) logged) (entry_updates facts.chosen) u at) as (λ _. IsLawfulUpdate u) [
      | inl log ↦ lawful_logged 0 logs facts.readings u facts.read (of_filter (in_window window) logged u log).0
      | inr entry ↦ lawful_entries parts facts.known facts.cutoff facts.chosen u facts.are_known facts.is_chosen entry
    ]

-- ---- a store, or a fault

abbrev pub StoreOrFault : List (List ℕ) → List (List ℕ) → Type 0
StoreOrFault logs parts = ((pairs : List Pair) × IsStoreOf logs parts pairs) ⊎ ((fault : Fault) × IsVerdict logs parts fault)

-- a log with a fault
of_fault : (logs parts : List (List ℕ)) (i : ℕ) (fault : FeedFault) → IsFirstFault logs i fault → StoreOrFault logs parts
of_fault logs parts i of_log.Header is = inr (faults.Header i, is)
of_fault logs parts i (of_log.Record nth what) is = inr (faults.Record i nth what, is)
of_fault logs parts i of_log.Memory is = absurd is.is_fault

-- facts without a gap lead to a store
pub store_of : (logs parts : List (List ℕ)) (facts : Facts logs parts) → ((i : ℕ) → IsGap (begin_of facts.chosen) facts.readings i → ⊥)
    → (pairs : List Pair) × IsStoreOf logs parts pairs
store_of logs parts facts none =
    let walk = some_walk (survivors facts.cutoff facts.chosen (records_of facts.readings))
    (survivors_apart facts.known facts.cutoff facts.chosen (records_of facts.readings) facts.is_chosen) (lawful_survivors logs parts facts) in
    (walk.0, record { basis = record { facts = facts; no_gap = none }; walk = walk.1 })

of_facts : (logs parts : List (List ℕ)) → Facts logs parts → StoreOrFault logs parts
of_facts logs parts facts = elim (first_gap (begin_of facts.chosen) facts.readings) as (λ _. StoreOrFault logs parts) [
  | inl gap ↦ inr (faults.Gap gap.0, (facts, gap.1))
  | inr none ↦ inl (store_of logs parts facts none)
]

-- readings lead to facts, if the segments are sound
of_writers : (logs parts : List (List ℕ)) (readings : List LogReading) (known : List KnownPart) → (logs ≡ [] → ⊥) → AreReadings logs readings → AreWriters readings
    → AreKnown parts known → Facts logs parts
of_writers [] parts readings known some read writers are = absurd (some refl)
of_writers (l ∷ ls) parts [] known some read writers are = absurd read
of_writers (l ∷ ls) parts (r ∷ rs) known some read writers are =
    let cutoff = some_cutoff r rs in
    let choice = some_choice known cutoff.0 in
    record {
      readings = r ∷ rs;
      read = read;
      writers = writers;
      cutoff = cutoff.0;
      is_cutoff = cutoff.1;
      known = known;
      are_known = are;
      chosen = choice.0;
      is_chosen = choice.1;
    }

of_readings : (logs parts : List (List ℕ)) (readings : List LogReading) (known : List KnownPart) → (logs ≡ [] → ⊥) → AreReadings logs readings → AreKnown parts known
    → StoreOrFault logs parts
of_readings logs parts readings known some read are = elim (first_doubled readings) as (λ _. StoreOrFault logs parts) [
  | inl doubled ↦ inr (faults.Doubled doubled.0, (readings, read, doubled.1))
  | inr once ↦ elim (first_torn readings) as (λ _. StoreOrFault logs parts) [
    | inl torn ↦ inr (faults.Torn torn.0, (readings, read, once, torn.1))
    | inr sound ↦ of_facts logs parts (of_writers logs parts readings known some read (record { once = once; sound = sound }) are)
  ]
]

answered : (logs parts : List (List ℕ)) → ((bytes : List ℕ) → Contains logs bytes → ReadingOrFault bytes) → StoreOrFault logs parts
answered [] parts each = inr (faults.NoLogs, refl)
answered (l ∷ ls) parts each = elim (read_or_fault (l ∷ ls) each) as (λ _. StoreOrFault (l ∷ ls) parts) [
  | inr fault ↦ of_fault (l ∷ ls) parts fault.0 fault.1 fault.2
  | inl read ↦ let known = all_known parts in of_readings (l ∷ ls) parts read.0 known.0 (λ none. absurd cc) read.1 known.1
]

-- logs and parts have a store or a fault
pub store_or_fault : (logs parts : List (List ℕ)) → All AreBytes logs → StoreOrFault logs parts
store_or_fault logs parts are = answered logs parts (λ bytes at. reading_or_fault bytes (All-contains AreBytes logs bytes are at))
