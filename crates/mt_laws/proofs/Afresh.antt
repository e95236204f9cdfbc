-- The checkpoint of a fresh start is sound for the history below the cutoff.
use Rattle.std.proofs.Common.{◌≡◌, ◌⊎◌, ◌↔◌, inl, inr, ℕ, suc, ◌<◌, ◌≤◌, max, Option, Some, None, List, [], ◌∷◌, length, map, Contains, refl, sym, ap, ◌∙◌, subst, arith}
use Rattle.std.specs.Prelude.{IfSome}
use Rattle.std.specs.List.{AllZip}
use Rattle.std.proofs.lemmas.Bool.{cases_lt}
use Rattle.std.proofs.lemmas.List.Elements.{Contains-append_cases, Contains-append_left, Contains-append_right}
use Rattle.mt_words.specs.declared.record.Change.{Change}
use Rattle.mt_words.specs.declared.update.Origin.{Origin}
use Rattle.mt_words.specs.declared.update.Origin.TheVariants as origins
use Rattle.mt_words.specs.declared.update.Update.{Update}
use Rattle.mt_words.specs.Built.{entry_of}
use Rattle.mt_words.specs.Changes.{Logged, set}
use Rattle.mt_words.specs.Updates.{update_at, update_by, update_of, updates_from}
use Rattle.mt_words.specs.Walks.{Pair, KeysRise, IsPair, Holds}
use Rattle.mt_words.specs.Words.{IsBelow}
use Rattle.mt_words.proofs.Elements.{no_element, head_or_tail, head_in}
use Rattle.mt_record.specs.Logs.{LogReading}
use Rattle.mt_checkpoint.specs.Checkpoints.{entries_with}
use Rattle.mt_scan.specs.PartScans.{KnownPart}
use Rattle.mt_scan.specs.Choice.{CheckpointReading, IsChosenOf}
use Rattle.mt_replay.specs.declared.window.Window.{Window}
use Rattle.mt_replay.specs.KeyColumns.{HasColumn}
use Rattle.mt_replay.specs.Survivors.{all_updates, log_updates, in_window, log_survivors, wholes}
use Rattle.mt_replay.specs.Walk.{IsWalk}
use Rattle.mt_replay.proofs.Members.{of_each, of_map, in_map, in_filter}
use Rattle.mt_replay.proofs.StepLemmas.{below_itself}
use Rattle.mt_recover.specs.Recovery.{begin_of, entry_updates, survivors, records_of}
use Rattle.mt_laws.specs.Crashes.{up_to, IsSoundEntry, IsSoundAbsence, IsSound}
use Rattle.mt_laws.specs.Lives.{LogOf, there, deleted, those_there, history_of}
use Rattle.mt_laws.proofs.Windows.{within}
use Rattle.mt_laws.proofs.Agreeing.{AgreeBelow, agreeing_survive}
use Rattle.mt_laws.proofs.Moved.{version_at_most}
use Rattle.mt_laws.proofs.Entries.{entry_update}
use Rattle.mt_laws.proofs.Sound.{has_or_not, of_history, seen_column, in_up, of_up}
use Rattle.mt_laws.proofs.SoundStays.{of_same_key}
use Rattle.mt_laws.proofs.Continued.{of_record}
use Rattle.mt_laws.proofs.KeptLogs.{AllOld}

-- ---- updates of the history are among those of the logs that are there, with other origins

record IsAlike (u w : Update) : Type 0 where
  key : w.key ≡ u.key
  version : w.stamp.version ≡ u.stamp.version
  time : w.timestamp ≡ u.timestamp

alike_change : (a b : Origin) (time : ℕ) (change : Option Change) (u : Update) → Contains (update_by a time change) u
    → (w : Update) × Contains (update_by b time change) w × IsAlike u w
alike_change a b time None u at = absurd (no_element u at)
alike_change a b time (Some change) u at = elim (head_or_tail (update_at a time change) u [] at) as (λ _. (w : Update) × Contains (update_at b time change ∷ []) w × IsAlike u w) [
  | inl e ↦ (update_at b time change, head_in (update_at b time change) [], subst (λ (x : Update). IsAlike x (update_at b time change)) e (record { key = refl; version = refl; time = refl }))
  | inr none ↦ absurd (no_element u none)
]

alike_log : (log other nth : ℕ) (rs : List Logged) (u : Update) → Contains (updates_from log nth rs) u
    → (w : Update) × Contains (updates_from other nth rs) w × IsAlike u w
alike_log log other nth [] u at = absurd (no_element u at)
alike_log log other nth (r ∷ rs) u at = elim (Contains-append_cases (update_of log nth r) (updates_from log (suc nth) rs) u at) as (λ _. (w : Update) × Contains (updates_from other nth (r ∷ rs)) w × IsAlike u w) [
  | inl here ↦
      let found = alike_change (origins.Log log nth) (origins.Log other nth) r.timestamp r.change u here in
      (found.0, Contains-append_left (update_of other nth r) (updates_from other (suc nth) rs) found.0 found.1, found.2)
  | inr later ↦
      let found = alike_log log other (suc nth) rs u later in
      (found.0, Contains-append_right (update_of other nth r) (updates_from other (suc nth) rs) found.0 found.1, found.2)
]

alike_in : (begin log other : ℕ) (logs : List (LogOf (List Logged))) (u : Update) → AllOld begin logs → begin ≤ u.timestamp
    → Contains (all_updates log (history_of logs)) u → (w : Update) × Contains (all_updates other (those_there logs)) w × IsAlike u w
alike_in begin log other [] u old late at = absurd (no_element u at)
alike_in begin log other (there rs ∷ logs) u old late at = elim (Contains-append_cases (updates_from log 0 rs) (all_updates (suc log) (history_of logs)) u at) as (λ _. (w : Update) × Contains (all_updates other (rs ∷ those_there logs)) w × IsAlike u w) [
  | inl here ↦
      let found = alike_log log other 0 rs u here in
      (found.0, Contains-append_left (updates_from other 0 rs) (all_updates (suc other) (those_there logs)) found.0 found.1, found.2)
  | inr later ↦
      let found = alike_in begin (suc log) (suc other) logs u old.1 late later in
      (found.0, Contains-append_right (updates_from other 0 rs) (all_updates (suc other) (those_there logs)) found.0 found.1, found.2)
]
alike_in begin log other (deleted rs ∷ logs) u old late at = elim (Contains-append_cases (updates_from log 0 rs) (all_updates (suc log) (history_of logs)) u at) as (λ _. (w : Update) × Contains (all_updates other (those_there logs)) w × IsAlike u w) [
  | inl here ↦
      let found = of_record log 0 rs u here in
      let less : found.0.timestamp < begin = old.0.1 found.0 found.1 found.2.1 in
      let time : found.0.timestamp ≡ u.timestamp = found.2.0 in
      absurd (omega (arith, less, time, late))
  | inr later ↦ alike_in begin (suc log) other logs u old.1 late later
]

-- ---- no version of a key of the store is above that of all survivors

-- what survives of these logs
abbrev pub surviving : ℕ → Option CheckpointReading → List LogReading → List Update
surviving cutoff chosen readings = survivors cutoff chosen (records_of readings)

-- how the history stands to what recovery finds, and a version that no survivor is above
pub record AreCovered (logs : List (LogOf (List Logged))) (readings : List LogReading) (cutoff : ℕ) (chosen : Option CheckpointReading) (version : ℕ) : Type 0 where
  pub agree : AllZip (AgreeBelow cutoff) (records_of readings) (those_there logs)
  pub old : AllOld (begin_of chosen) logs
  pub sound : IfSome chosen (IsSound (log_updates (history_of logs)))
  pub most : (u : Update) → Contains (surviving cutoff chosen readings) u → u.stamp.version ≤ version

-- an update from the begin on survives
late_most : (logs : List (LogOf (List Logged))) (readings : List LogReading) (cutoff : ℕ) (chosen : Option CheckpointReading) (version : ℕ)
    → AreCovered logs readings cutoff chosen version → (u : Update) → Contains (log_updates (history_of logs)) u → u.timestamp < cutoff → begin_of chosen ≤ u.timestamp
    → u.stamp.version ≤ version
late_most logs readings cutoff chosen version covered u at less late =
    let window : Window = record { begin = begin_of chosen; cutoff = cutoff } in
    let found = alike_in (begin_of chosen) 0 0 logs u covered.old late at in
    let w = found.0 in
    let time : w.timestamp ≡ u.timestamp = found.2.time in
    let inside = within window w.timestamp (omega (arith, time, late)) (omega (arith, time, less)) in
    let same = agreeing_survive window 0 (records_of readings) (those_there logs) covered.agree in
    let survives = subst (λ (us : List Update). Contains us w) (sym same) (in_filter (in_window window) (log_updates (those_there logs)) w inside found.1) in
    let most : w.stamp.version ≤ version = covered.most w (Contains-append_left (log_survivors window (records_of readings)) (entry_updates chosen) w survives) in
    let version_is : w.stamp.version ≡ u.stamp.version = found.2.version in
    omega (arith, most, version_is)

-- so no update of a key with a column is above the version
pub key_most : (logs : List (LogOf (List Logged))) (readings : List LogReading) (known : List KnownPart) (cutoff : ℕ) (chosen : Option CheckpointReading) (version : ℕ)
    → IsChosenOf known cutoff chosen → AreCovered logs readings cutoff chosen version → (key : List ℕ) (number : ℕ) (bytes : List ℕ)
    → HasColumn (survivors cutoff None (history_of logs)) key number bytes → (u : Update) → Contains (log_updates (history_of logs)) u → u.timestamp < cutoff → u.key ≡ key
    → u.stamp.version ≤ version
key_most logs readings known cutoff None version is covered key number bytes h u at less of_key =
    late_most logs readings cutoff None version covered u at less (omega arith)
key_most logs readings known cutoff (Some chosen) version is covered key number bytes h u at less of_key = elim (cases_lt u.timestamp chosen.begin) as (λ _. u.stamp.version ≤ version) [
  | inr late ↦ late_most logs readings cutoff (Some chosen) version covered u at less late
  | inl early ↦ elim (has_or_not chosen.entries key) as (λ _. u.stamp.version ≤ version) [
    | inl has ↦
        let entry = has.entry in
        let seen = (covered.sound.entries entry has.stands).seen in
        let low : u.stamp.version ≤ entry.version = seen.before u at (of_key ∙ sym has.of_key) early in
        let high : entry.version ≤ version = covered.most (entry_update entry) (Contains-append_right (log_survivors (record { begin = chosen.begin; cutoff = cutoff }) (records_of readings)) (wholes chosen.entries) (entry_update entry)
        (in_map entry_update chosen.entries entry has.stands)) in
        omega (arith, low, high)
    | inr none ↦
        let absence = covered.sound.others key none in
        let write = of_history cutoff (history_of logs) h.write h.stands in
        elim (cases_lt h.write.timestamp chosen.begin) as (λ _. u.stamp.version ≤ version) [
          | inl too ↦ absurd (absence.no_column number bytes (seen_column cutoff chosen (history_of logs) key absence.version number bytes is.0.ends_below absence.seen h
              (absence.seen.before h.write write.0 h.of_key too)))
          | inr late ↦
              let older = absence.rise u h.write at write.0 of_key h.of_key early late in
              let low : u.stamp.version ≤ h.write.stamp.version = version_at_most u.stamp h.write.stamp (inr older) in
              let high = late_most logs readings cutoff (Some chosen) version covered h.write write.0 write.1 late in
              omega (arith, low, high)
        ]
  ]
]

-- ---- the checkpoint

-- two pairs of a store with one key have the same columns
same_columns : (pairs : List Pair) (key : List ℕ) (columns others : List (ℕ × List ℕ)) → KeysRise pairs → Contains pairs (key, columns) → Contains pairs (key, others)
    → columns ≡ others
same_columns [] key columns others rise at too = absurd (no_element (key, columns) at)
same_columns (p ∷ ps) key columns others rise at too = by (head_or_tail p (key, columns) ps at) (head_or_tail p (key, others) ps too) (same_columns ps key columns others rise.1)
  where
    apart : (cs ds : List (ℕ × List ℕ)) → p ≡ (key, cs) → Contains ps (key, ds) → ⊥
    apart cs ds is later =
        let below : IsBelow p.0 key = of_each (λ (other : Pair). IsBelow p.0 other.0) ps (key, ds) rise.0 later in
        below_itself key (subst (λ (k : List ℕ). IsBelow k key) (ap (λ (pair : Pair). pair.0) is) below)

    by : (p ≡ (key, columns)) ⊎ Contains ps (key, columns) → (p ≡ (key, others)) ⊎ Contains ps (key, others)
        → (Contains ps (key, columns) → Contains ps (key, others) → columns ≡ others) → columns ≡ others
    by (inl is) (inl also) rest = ap (λ (pair : Pair). pair.1) (sym is ∙ also)
    by (inl is) (inr later) rest = absurd (apart columns others is later)
    by (inr later) (inl is) rest = absurd (apart others columns is later)
    by (inr later) (inr also) rest = rest later also

-- what an entry of a pair writes
writes_held : (pairs : List Pair) (pair : Pair) (number : ℕ) (bytes : List ℕ) → KeysRise pairs → Contains pairs pair
    → Contains (map set pair.1) (number, Some bytes) ↔ Holds pairs pair.0 number bytes
writes_held pairs pair number bytes rise at = (to, from)
  where
    to : Contains (map set pair.1) (number, Some bytes) → Holds pairs pair.0 number bytes
    to written =
        let column = of_map set pair.1 (number, Some bytes) written in
        let number_is : column.0.0 ≡ number = ap (λ (w : ℕ × Option (List ℕ)). w.0) column.2 in
        let some_is : Some column.0.1 ≡ Some bytes = ap (λ (w : ℕ × Option (List ℕ)). w.1) column.2 in
        let bytes_are : column.0.1 ≡ bytes = cc in
        (pair.1, at, subst (λ (c : ℕ × List ℕ). Contains pair.1 c) (λ i. (number_is i, bytes_are i)) column.1)

    from : Holds pairs pair.0 number bytes → Contains (map set pair.1) (number, Some bytes)
    from holds =
        let same = same_columns pairs pair.0 holds.0 pair.1 rise holds.1 at in
        in_map set pair.1 (number, bytes) (subst (λ (cs : List (ℕ × List ℕ)). Contains cs (number, bytes)) same holds.2)

-- the updates, and a store of them, whose keys have no update above the version
pub record AreStored (us : List Update) (pairs : List Pair) (cutoff version : ℕ) : Type 0 where
  pub walk : IsWalk us pairs
  pub early : (u : Update) → Contains us u → u.timestamp < cutoff
  pub most : (key : List ℕ) (number : ℕ) (bytes : List ℕ) → HasColumn us key number bytes → (u : Update) → Contains us u → u.key ≡ key → u.stamp.version ≤ version

-- a store has a column for each pair
record HasColumnOf (us : List Update) (key : List ℕ) : Type 0 where
  number : ℕ
  bytes : List ℕ
  column : HasColumn us key number bytes

some_column : (us : List Update) (pairs : List Pair) (pair : Pair) → IsWalk us pairs → Contains pairs pair → HasColumnOf us pair.0
some_column us pairs pair walk at = by pair.1 refl (of_each IsPair pairs pair walk.map.1 at).2
  where
    by : (columns : List (ℕ × List ℕ)) → pair.1 ≡ columns → 0 < length columns → HasColumnOf us pair.0
    by [] e some = absurd (omega arith)
    by (c ∷ cs) e some = record {
      number = c.0;
      bytes = c.1;
      column = (walk.exact pair.0 c.0 c.1).0 (pair.1, at, subst (λ (columns : List (ℕ × List ℕ)). Contains columns c) (sym e) (head_in c cs));
    }

-- the greatest version of a list of updates
abbrev pub greatest : List Update → ℕ
greatest [] = 0
greatest (u ∷ us) = max u.stamp.version (greatest us)

pub below_greatest : (us : List Update) (u : Update) → Contains us u → u.stamp.version ≤ greatest us
below_greatest [] u at = absurd (no_element u at)
below_greatest (x ∷ xs) u at = elim (head_or_tail x u xs at) as (λ _. u.stamp.version ≤ greatest (x ∷ xs)) [
  | inl e ↦ let same : x.stamp.version ≡ u.stamp.version = ap (λ (w : Update). w.stamp.version) e in omega (arith, same)
  | inr later ↦ let most : u.stamp.version ≤ greatest xs = below_greatest xs u later in omega (arith, most)
]

pub fresh_sound : (us : List Update) (pairs : List Pair) (cutoff version : ℕ) (new : CheckpointReading) → AreStored us pairs cutoff version → new.begin ≡ cutoff → new.end ≡ cutoff
    → new.entries ≡ entries_with version pairs → IsSound us new
fresh_sound us pairs cutoff version new stored begin end entries = record { entries = entry_is; others = absence_is }
  where
    by_end : (u : Update) → Contains us u → u.timestamp ≤ new.end
    by_end u at = let early : u.timestamp < cutoff = stored.early u at in omega (arith, early, end)

    of_pair : (pair : Pair) → Contains pairs pair → IsSoundEntry us new (entry_of version pair.0 pair.1)
    of_pair pair at =
        let some = some_column us pairs pair stored.walk at in
        let most = stored.most pair.0 some.number some.bytes some.column in record {
          whole = tt;
          seen = record { before = λ u among of_key early. most u among of_key; by_end = λ u among of_key low. by_end u among };
          columns = λ number bytes.
              let held = writes_held pairs pair number bytes stored.walk.map.0 at in
              let exact = stored.walk.exact pair.0 number bytes in (
                λ writes. of_same_key us (up_to version us) pair.0 number bytes (λ u of_key among. in_up version us u among (most u among of_key)) (λ u of_key among. (of_up version us u among).0) (exact.0 (held.0 writes)),
                λ column. held.1 (exact.1 (of_same_key (up_to version us) us pair.0 number bytes (λ u of_key among. (of_up version us u among).0) (λ u of_key among. in_up version us u among (most u among of_key)) column)),
              );
        }

    entry_is : (entry : Change) → Contains new.entries entry → IsSoundEntry us new entry
    entry_is entry at =
        let pair = of_map (λ (pair : Pair). entry_of version pair.0 pair.1) pairs entry (subst (λ (es : List Change). Contains es entry) entries at) in
        subst (IsSoundEntry us new) pair.2 (of_pair pair.0 pair.1)

    -- a key of the store has an entry
    has_entry : (pair : Pair) → Contains pairs pair → Contains new.entries (entry_of version pair.0 pair.1)
    has_entry pair at = subst (λ (es : List Change). Contains es (entry_of version pair.0 pair.1)) (sym entries) (in_map (λ (p : Pair). entry_of version p.0 p.1) pairs pair at)

    absence_is : (key : List ℕ) → ((entry : Change) → Contains new.entries entry → entry.key ≡ key → ⊥) → IsSoundAbsence us new key
    absence_is key none =
        let top = greatest us in record {
          version = top;
          seen = record { before = λ u among of_key early. below_greatest us u among; by_end = λ u among of_key low. by_end u among };
          no_column = λ number bytes column.
              let in_all = of_same_key (up_to top us) us key number bytes (λ u of_key among. (of_up top us u among).0) (λ u of_key among. in_up top us u among (below_greatest us u among)) column in
              let holds = (stored.walk.exact key number bytes).1 in_all in
              none (entry_of version key holds.0) (has_entry (key, holds.0) holds.1) refl;
          rise = λ u w at_u at_w of_u of_w early late. let less : w.timestamp < cutoff = stored.early w at_w in absurd (omega (arith, less, late, begin));
        }
