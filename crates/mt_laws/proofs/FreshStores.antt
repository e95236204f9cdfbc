-- Recovery from a fresh start, and from the logs after it.
use Rattle.std.proofs.Common.{◌≡◌, ◌⊎◌, inl, inr, ℕ, zero, suc, ◌+◌, ◌<◌, ◌≤◌, max, true, IsTrue, Option, Some, None, List, [], ◌∷◌, ◌++◌, map, Contains, refl, sym, ap, ◌∙◌, subst, arith}
use Rattle.std.specs.Prelude.{nat_le, nat_lt}
use Rattle.std.specs.List.{filter, flat_map}
use Rattle.std.specs.Option.{option_map}
use Rattle.std.proofs.lemmas.Bool.{false≢true, and_parts}
use Rattle.std.proofs.lemmas.List.{append-nil}
use Rattle.std.proofs.lemmas.List.Elements.{All-contains, Contains-append_cases, Contains-append_left, Contains-append_right}
use Rattle.mt_words.specs.declared.fault.Fault.{Fault}
use Rattle.mt_words.specs.declared.limits.Format.TheVariants.{Two}
use Rattle.mt_words.specs.declared.update.Stamp.{Stamp}
use Rattle.mt_words.specs.declared.update.Update.{Update}
use Rattle.mt_words.specs.Limits.{limits_of}
use Rattle.mt_words.specs.Changes.{Logged, is_mark, Writes, set}
use Rattle.mt_words.specs.Stamps.{IsAtMost}
use Rattle.mt_words.specs.Walks.{Pair, IsMap, Holds}
use Rattle.mt_words.specs.Built.{mark_of, entry_of}
use Rattle.mt_words.proofs.Elements.{no_element, head_in, tail_in}
use Rattle.mt_record.specs.declared.feed.head.Segment.{Segment}
use Rattle.mt_record.specs.Encoding.{segment_head}
use Rattle.mt_record.specs.Heads.{IsHead}
use Rattle.mt_record.specs.Spelling.{spelling}
use Rattle.mt_record.specs.Logs.{AreRecords, LogReading, IsReading, IsGreatestOf, times_of}
use Rattle.mt_record.specs.LogTexts.{IsLast}
use Rattle.mt_record.proofs.Records.{last_is}
use Rattle.mt_record.proofs.Opened.{whole_reading}
use Rattle.mt_checkpoint.specs.Checkpoints.{Checkpoint, HasPairs, entries_with, log_reading}
use Rattle.mt_scan.specs.Choice.{CheckpointReading}
use Rattle.mt_scan.specs.Cutoff.{files_of, IsLastOf, IsCutoff}
use Rattle.mt_scan.specs.Segments.{IsEarlier, HasFile, IsDoubled, HasGap}
use Rattle.mt_replay.specs.KeyColumns.{HasColumn}
use Rattle.mt_replay.specs.declared.window.Window.{Window}
use Rattle.mt_replay.specs.Survivors.{wholes, in_window, log_survivors}
use Rattle.mt_replay.specs.Walk.{IsWalk}
use Rattle.mt_replay.proofs.Members.{of_map, in_map, of_filter, in_filter}
use Rattle.mt_recover.specs.Recovery.{AreReadings, entry_updates, begin_of, survivors, Facts, records_of, IsStoreOf}
use Rattle.mt_recover.specs.Report.{logged_updates, is_below, versions_below, Outcome, IsRecoveredOf}
use Rattle.mt_recover.specs.Verdict.{IsVerdict}
use Rattle.mt_recover.proofs.OneVerdict.{one_store, no_verdict, same_facts}
use Rattle.mt_writer.specs.Files.{OpenFile, file_bytes, file_reading, HasSynced, IsOpenFile}
use Rattle.mt_laws.specs.Fresh.{AreAllParts, reading_with, log_file, IsFresh, GoOnAfter, surviving, updates_after, AreAbove}
use Rattle.mt_laws.specs.Lives.{IsBehind, AreOpen, IsFreshStart}
use Rattle.mt_laws.proofs.Entries.{entry_stamp, entry_update}
use Rattle.mt_laws.proofs.Moved.{version_at_most, version_below, Decides, at_most, column_by, moved, same_walk}
use Rattle.mt_laws.proofs.LeftFiles.{none_at}
use Rattle.mt_laws.proofs.SomeCutoff.{some_cutoff}
use Rattle.mt_laws.proofs.SomeVerdict.{store_of}
use Rattle.mt_laws.proofs.SomeLife.{only_one}
use Rattle.mt_laws.proofs.FreshParts.{known_as, chooses}

-- ---- the entries of pairs

-- the updates of the entries
abbrev entry_updates_of : ℕ → List Pair → List Update
entry_updates_of version pairs = wholes (entries_with version pairs)

-- an update of an entry is that of a pair
record IsOfPair (version : ℕ) (pairs : List Pair) (u : Update) : Type 0 where
  pair : Pair
  stands : Contains pairs pair
  same : entry_update (entry_of version pair.0 pair.1) ≡ u

of_pair : (version : ℕ) (pairs : List Pair) (u : Update) → Contains (entry_updates_of version pairs) u → IsOfPair version pairs u
of_pair version pairs u at =
    let entry = of_map entry_update (entries_with version pairs) u at in
    let pair = of_map (λ (pair : Pair). entry_of version pair.0 pair.1) pairs entry.0 entry.1 in
    record { pair = pair.0; stands = pair.1; same = ap entry_update pair.2 ∙ entry.2 }

pair_in : (version : ℕ) (pairs : List Pair) (pair : Pair) → Contains pairs pair → Contains (entry_updates_of version pairs) (entry_update (entry_of version pair.0 pair.1))
pair_in version pairs pair at =
    in_map entry_update (entries_with version pairs) (entry_of version pair.0 pair.1) (in_map (λ (p : Pair). entry_of version p.0 p.1) pairs pair at)

entry_version : (version : ℕ) (pairs : List Pair) (u : Update) → IsOfPair version pairs u → u.stamp ≡ entry_stamp version
entry_version version pairs u is = ap (λ (x : Update). x.stamp) (sym is.same)

-- a column that an entry writes is one of its pair
pair_holds : (version : ℕ) (pairs : List Pair) (u : Update) (key : List ℕ) (number : ℕ) (bytes : List ℕ) → IsOfPair version pairs u → u.key ≡ key
    → Writes u.kind number (Some bytes) → Holds pairs key number bytes
pair_holds version pairs u key number bytes is of_key writes =
    let columns = is.pair.1 in
    let written : Contains (map set columns) (number, Some bytes) = subst (λ (x : Update). Writes x.kind number (Some bytes)) (sym is.same) writes in
    let column = of_map set columns (number, Some bytes) written in
    let same_number : column.0.0 ≡ number = ap (λ (w : ℕ × Option (List ℕ)). w.0) column.2 in
    let same_bytes : Some column.0.1 ≡ Some bytes = ap (λ (w : ℕ × Option (List ℕ)). w.1) column.2 in
    let bytes_are : column.0.1 ≡ bytes = cc in
    let key_is : is.pair.0 ≡ key = ap (λ (x : Update). x.key) is.same ∙ of_key in (
      columns,
      subst (λ (k : List ℕ). Contains pairs (k, columns)) key_is is.stands,
      subst (λ (c : ℕ × List ℕ). Contains columns c) (λ i. (same_number i, bytes_are i)) column.1,
    )

-- ---- the entries and newer updates

-- Updates whose walk is these pairs, and newer ones: the first have at most this version, the others a greater one.
record AreOlderAndNewer (version : ℕ) (pairs : List Pair) (older newer : List Update) : Type 0 where
  walk : IsWalk older pairs
  low : (u : Update) → Contains older u → u.stamp.version ≤ version
  high : (u : Update) → Contains newer u → version < u.stamp.version

-- what newer updates and entries leave, newer and older updates leave
from_entries : (version : ℕ) (pairs : List Pair) (older newer : List Update) (key : List ℕ) (number : ℕ) (bytes : List ℕ) → AreOlderAndNewer version pairs older newer
    → HasColumn (newer ++ entry_updates_of version pairs) key number bytes → HasColumn (older ++ newer) key number bytes
from_entries version pairs older newer key number bytes are h =
    let entries = entry_updates_of version pairs in
    elim (Contains-append_cases newer entries h.write h.stands) as (λ _. HasColumn (older ++ newer) key number bytes) [
      | inl new ↦ moved (newer ++ entries) (older ++ newer) key number bytes h (Contains-append_right older newer h.write new) (λ u at decides.
          elim (Contains-append_cases older newer u at) as (λ _. Contains (newer ++ entries) u ⊎ IsAtMost u.stamp h.write.stamp) [
            | inl old ↦
                let low : u.stamp.version ≤ version = are.low u old in
                let high : version < h.write.stamp.version = are.high h.write new in
                inr (version_below u.stamp h.write.stamp (omega (arith, low, high)))
            | inr too ↦ inl (Contains-append_left newer entries u too)
          ])
      | inr entry ↦
          let is = of_pair version pairs h.write entry in
          let same : h.write.stamp.version ≡ version = ap (λ (s : Stamp). s.version) (entry_version version pairs h.write is) in
          let column = (are.walk.exact key number bytes).0 (pair_holds version pairs h.write key number bytes is h.of_key h.writes) in
          moved older (older ++ newer) key number bytes column (Contains-append_left older newer column.write column.stands) (λ u at decides.
          elim (Contains-append_cases older newer u at) as (λ _. Contains older u ⊎ IsAtMost u.stamp column.write.stamp) [
            | inl old ↦ inl old
            | inr new ↦
                let low : u.stamp.version ≤ h.write.stamp.version =
                version_at_most u.stamp h.write.stamp (at_most (newer ++ entries) key number bytes h u (Contains-append_left newer entries u new) decides) in
                let high : version < u.stamp.version = are.high u new in
                absurd (omega (arith, low, high, same))
          ])
    ]

-- and the other way round
to_entries : (version : ℕ) (pairs : List Pair) (older newer : List Update) (key : List ℕ) (number : ℕ) (bytes : List ℕ) → AreOlderAndNewer version pairs older newer
    → HasColumn (older ++ newer) key number bytes → HasColumn (newer ++ entry_updates_of version pairs) key number bytes
to_entries version pairs older newer key number bytes are h =
    let entries = entry_updates_of version pairs in
    elim (Contains-append_cases older newer h.write h.stands) as (λ _. HasColumn (newer ++ entries) key number bytes) [
      | inl old ↦
          let low : h.write.stamp.version ≤ version = are.low h.write old in
          let none : (u : Update) → Contains newer u → Decides key number u → ⊥ = λ u new decides.
          let most : u.stamp.version ≤ h.write.stamp.version =
          version_at_most u.stamp h.write.stamp (at_most (older ++ newer) key number bytes h u (Contains-append_right older newer u new) decides) in
          let high : version < u.stamp.version = are.high u new in
          absurd (omega (arith, low, most, high)) in
          let column = moved (older ++ newer) older key number bytes h old (λ u at decides. inl (Contains-append_left older newer u at)) in
          let holds = (are.walk.exact key number bytes).1 column in
          let pair : Pair = (key, holds.0) in
          let entry = entry_update (entry_of version key holds.0) in
          column_by (newer ++ entries) key number bytes entry (Contains-append_right newer entries entry (pair_in version pairs pair holds.1)) refl
          (in_map set holds.0 (number, bytes) holds.2) (λ u at decides.
          elim (Contains-append_cases newer entries u at) as (λ _. IsAtMost u.stamp entry.stamp) [
            | inl new ↦ absurd (none u new decides)
            | inr one ↦ inl (entry_version version pairs u (of_pair version pairs u one))
          ])
      | inr new ↦ moved (older ++ newer) (newer ++ entries) key number bytes h (Contains-append_left newer entries h.write new) (λ u at decides.
          elim (Contains-append_cases newer entries u at) as (λ _. Contains (older ++ newer) u ⊎ IsAtMost u.stamp h.write.stamp) [
            | inl too ↦ inl (Contains-append_right older newer u too)
            | inr entry ↦
                let same : u.stamp.version ≡ version = ap (λ (s : Stamp). s.version) (entry_version version pairs u (of_pair version pairs u entry)) in
                let high : version < h.write.stamp.version = are.high h.write new in
                inr (version_below u.stamp h.write.stamp (omega (arith, same, high)))
          ])
    ]

-- ---- the entries alone

entries_walk : (version : ℕ) (pairs : List Pair) → IsMap pairs → IsWalk (entry_updates_of version pairs) pairs
entries_walk version pairs is_map = record {
  map = is_map;
  exact = λ key number bytes. (
    λ holds.
        let entry = entry_update (entry_of version key holds.0) in
        column_by (entry_updates_of version pairs) key number bytes entry (pair_in version pairs (key, holds.0) holds.1) refl (in_map set holds.0 (number, bytes) holds.2)
        (λ u at decides. inl (entry_version version pairs u (of_pair version pairs u at))),
    λ column. pair_holds version pairs column.write key number bytes (of_pair version pairs column.write column.stands) column.of_key column.writes,
  );
}

-- ---- what recovery finds at a fresh start

abbrev mark_above : Checkpoint → Logged
mark_above checkpoint = mark_of (checkpoint.cutoff + 1)

fresh_head : (pairs : List Pair) (checkpoint : Checkpoint) → HasPairs pairs checkpoint → IsHead (segment_head checkpoint.cutoff 0 0)
fresh_head pairs checkpoint is = record { from = omega (arith, is.cutoff); segment = (refl, omega arith, omega arith) }

fresh_records : (pairs : List Pair) (checkpoint : Checkpoint) → HasPairs pairs checkpoint → AreRecords (limits_of Two) 0 (mark_above checkpoint ∷ [])
fresh_records pairs checkpoint is = ((omega (arith, is.cutoff), tt), omega arith, tt)

-- the text is read like the file
text_is_read : (pairs : List Pair) (checkpoint : Checkpoint) → HasPairs pairs checkpoint → IsReading (file_bytes (log_file checkpoint)) (log_reading checkpoint)
text_is_read pairs checkpoint is = whole_reading (segment_head checkpoint.cutoff 0 0) (mark_above checkpoint ∷ []) (fresh_head pairs checkpoint is) (fresh_records pairs checkpoint is)

-- the mark is synced
mark_synced : (P : Logged → Type 0) (pairs : List Pair) (checkpoint : Checkpoint) → HasPairs pairs checkpoint → P (mark_above checkpoint) → HasSynced P (log_file checkpoint)
mark_synced P pairs checkpoint is holds =
    record { reading = log_reading checkpoint; is_reading = text_is_read pairs checkpoint is; at = mark_above checkpoint; stands = head_in (mark_above checkpoint) []; holds = holds }

-- no segment comes before itself
not_earlier : (segment : Option Segment) → IsEarlier segment segment → ⊥
not_earlier None before = before
not_earlier (Some segment) before = omega (arith, before.1)

-- one file that lacks no update from the timestamp on
alone_opens : (begin : ℕ) (file : OpenFile) → IsOpenFile file → file.head.from ≤ begin → AreOpen begin (file ∷ [])
alone_opens begin file is_open from = record {
  each = λ other at. subst IsOpenFile (only_one file other at) is_open;
  once = once;
  no_gap = λ i. none_at (HasGap begin readings) readings i (λ x at gap. elim gap as (λ _. ⊥) [
    | inl amid ↦
        let has = amid.0 in
        let other : LogReading = has.1 in
        not_earlier file.head.segment (subst (λ (s : Option Segment). IsEarlier s file.head.segment) (segment_is other (has.0, has.2, has.3))
        (subst (λ (s : Option Segment). IsEarlier other.head.segment s) (segment_is x at) has.4))
    | inr first ↦ let late : begin < file.head.from = subst (λ (r : LogReading). begin < r.head.from) (sym (only_one (file_reading file) x at)) first.1 in omega (arith, from, late)
  ]);
  whole = λ a b at_a at_b behind. absurd (none_behind a b at_a at_b behind);
  beyond = λ a b at_a at_b behind. absurd (none_behind a b at_a at_b behind);
}
  where
    readings : List LogReading
    readings = file_reading file ∷ []

    segment_is : (x : LogReading) → Contains readings x → x.head.segment ≡ file.head.segment
    segment_is x at = ap (λ (r : LogReading). r.head.segment) (sym (only_one (file_reading file) x at))

    once : (i : ℕ) → IsDoubled readings i → ⊥
    once zero doubled = no_element doubled.1 (doubled.0, doubled.2, doubled.3)
    once (suc i) doubled = doubled

    none_behind : (a b : OpenFile) → Contains (file ∷ []) a → Contains (file ∷ []) b → IsBehind a b → ⊥
    none_behind a b at_a at_b behind =
        not_earlier file.head.segment (subst (λ (s : Option Segment). IsEarlier s file.head.segment) (ap (λ (f : OpenFile). f.head.segment) (sym (only_one file a at_a)))
        (subst (λ (s : Option Segment). IsEarlier a.head.segment s) (ap (λ (f : OpenFile). f.head.segment) (sym (only_one file b at_b))) behind))

-- the one file is open, and lacks no update from the checkpoint's cutoff on
fresh_open : (pairs : List Pair) (checkpoint : Checkpoint) → HasPairs pairs checkpoint → AreOpen checkpoint.cutoff (log_file checkpoint ∷ [])
fresh_open pairs checkpoint is =
    let file = log_file checkpoint in
    alone_opens checkpoint.cutoff file (record {
      is_reading = text_is_read pairs checkpoint is;
      synced = record {
        lost = [];
        begins = sym (append-nil (file_bytes file));
        header = record { head = file.head; is_head = fresh_head pairs checkpoint is; more = flat_map spelling file.records; spelled = refl };
      };
      claim = mark_synced (λ r. checkpoint.cutoff ≤ r.timestamp) pairs checkpoint is (omega arith);
    }) (omega arith)

fresh_cutoff : (pairs : List Pair) (checkpoint : Checkpoint) → HasPairs pairs checkpoint → IsCutoff (log_reading checkpoint ∷ []) (checkpoint.cutoff + 1)
fresh_cutoff pairs checkpoint is =
    let log = log_reading checkpoint in
    let mark = checkpoint.cutoff + 1 in
    let times = times_of log in
    let alone : times ≡ flat_map times_of (files_of log.head.segment log (log ∷ [])) = sym (append-nil times) in
    let later : max checkpoint.cutoff mark ≡ mark = omega arith in
    let last : IsLast log mark = subst (IsLast log) later (last_is (limits_of Two) log (fresh_records pairs checkpoint is)) in
    let of_log : (other : LogReading) (n : ℕ) → log ≡ other → IsLastOf (log ∷ []) other n → IsLast log n = λ other n same is_last.
    subst (λ (ts : List ℕ). IsGreatestOf ts n) (sym alone) (subst (λ (x : LogReading). IsLastOf (log ∷ []) x n) (sym same) is_last) in record {
      has = record { log = log; stands = head_in log []; is_last = subst (λ (ts : List ℕ). IsGreatestOf ts mark) alone last };
      least = λ n other.
          let is_last = of_log other.log n (only_one log other.log other.stands) other.is_last in
          All-contains (λ (time : ℕ). time ≤ n) times mark is_last.1 (tail_in checkpoint.cutoff mark (mark ∷ []) (head_in mark []));
    }

fresh_facts : (log : List ℕ) (pairs : List Pair) (checkpoint : Checkpoint) (parts : List (List ℕ)) → IsMap pairs → HasPairs pairs checkpoint → AreAllParts checkpoint parts
    → IsReading log (log_reading checkpoint) → Facts (log ∷ []) parts
fresh_facts log pairs checkpoint parts is_map is all read =
    let reading = log_reading checkpoint in
    let files = reading ∷ [] in
    let found = known_as pairs checkpoint parts is_map is all in record {
      readings = files;
      read = (read, tt);
      writers = record {
        once = (fresh_open pairs checkpoint is).once;
        sound = λ i. none_at (λ x. IsTrue x.torn × HasFile files (IsEarlier x.head.segment)) files i (λ x at amid.
            false≢true (subst (λ (f : LogReading). IsTrue f.torn) (sym (only_one reading x at)) amid.0));
      };
      cutoff = checkpoint.cutoff + 1;
      is_cutoff = fresh_cutoff pairs checkpoint is;
      known = found.known;
      are_known = found.are_known;
      chosen = Some (reading_with checkpoint pairs);
      is_chosen = found.chosen (checkpoint.cutoff + 1) (omega arith);
    }

-- ---- the laws

pub fresh_store : (log : List ℕ) (pairs : List Pair) (checkpoint : Checkpoint) (parts : List (List ℕ)) → IsMap pairs → HasPairs pairs checkpoint → AreAllParts checkpoint parts
    → IsReading log (log_reading checkpoint) → IsStoreOf (log ∷ []) parts pairs
unfolding fresh_facts
fresh_store log pairs checkpoint parts is_map is all read = record {
  basis = record { facts = fresh_facts log pairs checkpoint parts is_map is all read; no_gap = (fresh_open pairs checkpoint is).no_gap };
  walk = entries_walk checkpoint.version pairs is_map;
}

pub fresh_recovered : (log : List ℕ) (pairs : List Pair) (checkpoint : Checkpoint) (parts : List (List ℕ)) (outcome : Outcome) → IsMap pairs → HasPairs pairs checkpoint
    → AreAllParts checkpoint parts → IsReading log (log_reading checkpoint) → IsRecoveredOf (log ∷ []) parts outcome → IsFresh pairs checkpoint outcome
unfolding fresh_facts
fresh_recovered log pairs checkpoint parts outcome is_map is all read recovered =
    let logs = log ∷ [] in
    let facts = recovered.store.basis.facts in
    let fresh = fresh_facts log pairs checkpoint parts is_map is all read in
    let same = same_facts logs parts facts fresh in
    let found = recovered.report.found in record {
      store = one_store logs parts outcome.store pairs recovered.store (fresh_store log pairs checkpoint parts is_map is all read);
      chosen = found.checkpoint ∙ ap (option_map (λ (c : CheckpointReading). c.number)) same.3;
      cutoff = found.cutoff ∙ same.1;
    }

pub fresh_no_fault : (log : List ℕ) (pairs : List Pair) (checkpoint : Checkpoint) (parts : List (List ℕ)) (fault : Fault) → IsMap pairs → HasPairs pairs checkpoint
    → AreAllParts checkpoint parts → IsReading log (log_reading checkpoint) → IsVerdict (log ∷ []) parts fault → ⊥
fresh_no_fault log pairs checkpoint parts fault is_map is all read verdict =
    no_verdict (log ∷ []) parts pairs fault (fresh_store log pairs checkpoint parts is_map is all read) verdict

-- recovery has no fault as the server goes on
pub later_store : (pairs : List Pair) (checkpoint : Checkpoint) (later files : List (List ℕ)) (readings : List LogReading) → IsMap pairs → HasPairs pairs checkpoint
    → AreAllParts checkpoint files → AreReadings later readings → GoOnAfter checkpoint readings → (others : List Pair) × IsStoreOf later files others
later_store pairs checkpoint later files [] is_map is all are on = absurd (omega (arith, on.some))
later_store pairs checkpoint later files (log ∷ logs) is_map is all are on =
    let cutoff = some_cutoff log logs in
    let found = known_as pairs checkpoint files is_map is all in
    let facts : Facts later files = record {
      readings = log ∷ logs;
      read = are;
      writers = on.writers;
      cutoff = cutoff.0;
      is_cutoff = cutoff.1;
      known = found.known;
      are_known = found.are_known;
      chosen = Some (reading_with checkpoint pairs);
      is_chosen = found.chosen cutoff.0 (on.beyond cutoff.0 cutoff.1.has);
    } in
    store_of later files facts on.no_gap

-- no survivor has a version above the report's below the cutoff
version_bound : (logs parts : List (List ℕ)) (outcome : Outcome) (is : IsRecoveredOf logs parts outcome) (u : Update)
    → Contains (surviving is.store.basis.facts) u → u.stamp.version ≤ outcome.report.version_below_cutoff
version_bound logs parts outcome is u at =
    let facts = is.store.basis.facts in
    let all = logged_updates facts.readings in
    let early = filter (is_below facts.cutoff) all in
    let entries = entry_updates facts.chosen in
    let window : Window = record { begin = begin_of facts.chosen; cutoff = facts.cutoff } in
    let there : Contains (early ++ entries) u = elim (Contains-append_cases (log_survivors window (records_of facts.readings)) entries u at) as (λ _. Contains (early ++ entries) u) [
      | inl logged ↦
          let found = of_filter (in_window window) all u logged in
          Contains-append_left early entries u (in_filter (is_below facts.cutoff) all u (and_parts (nat_le window.begin u.timestamp) (nat_lt u.timestamp facts.cutoff) found.1).1 found.0)
      | inr entry ↦ Contains-append_right early entries u entry
    ] in
    All-contains (λ (n : ℕ). n ≤ outcome.report.version_below_cutoff) (0 ∷ versions_below facts.cutoff facts.readings facts.chosen) u.stamp.version
    is.report.found.version_below_cutoff.1
    (tail_in 0 u.stamp.version (versions_below facts.cutoff facts.readings facts.chosen) (in_map (λ (x : Update). x.stamp.version) (early ++ entries) u there))

pub goes_on_afresh : (logs parts later files : List (List ℕ)) (before after : Outcome) (checkpoint : Checkpoint) (was : IsRecoveredOf logs parts before)
    → HasPairs before.store checkpoint → before.report.version_below_cutoff ≤ checkpoint.version → AreAllParts checkpoint files → (is : IsRecoveredOf later files after)
    → checkpoint.cutoff < after.report.cutoff → AreAbove checkpoint (updates_after checkpoint is.store.basis.facts)
    → IsWalk (surviving was.store.basis.facts ++ updates_after checkpoint is.store.basis.facts) after.store
goes_on_afresh logs parts later files before after checkpoint was has version all is past above =
    let facts = is.store.basis.facts in
    let older = surviving was.store.basis.facts in
    let newer = updates_after checkpoint facts in
    let below : checkpoint.cutoff < facts.cutoff = subst (λ (n : ℕ). checkpoint.cutoff < n) is.report.found.cutoff past in
    let chosen = chooses before.store checkpoint later files facts was.store.walk.map has all below in
    let are : AreOlderAndNewer checkpoint.version before.store older newer = record {
      walk = was.store.walk;
      low = λ u at. let most : u.stamp.version ≤ before.report.version_below_cutoff = version_bound logs parts before was u at in omega (arith, most, version);
      high = above;
    } in
    let walk = subst (λ (c : Option CheckpointReading). IsWalk (survivors facts.cutoff c (records_of facts.readings)) after.store) chosen is.store.walk in
    same_walk (newer ++ entry_updates_of checkpoint.version before.store) (older ++ newer) after.store (λ key number bytes. (
      λ h. from_entries checkpoint.version before.store older newer key number bytes are h,
      λ h. to_entries checkpoint.version before.store older newer key number bytes are h,
    )) walk

-- the files are a fresh start of a life
pub fresh_step : (logs parts : List (List ℕ)) (before : Outcome) (checkpoint : Checkpoint) (was : IsRecoveredOf logs parts before) → HasPairs before.store checkpoint
    → checkpoint.cutoff ≡ before.report.cutoff → before.report.version_below_cutoff ≤ checkpoint.version
    → IsFreshStart was.store.basis.facts (log_file checkpoint) (reading_with checkpoint before.store)
fresh_step logs parts before checkpoint was has at version =
    let facts = was.store.basis.facts in
    let same : checkpoint.cutoff ≡ facts.cutoff = at ∙ was.report.found.cutoff in
    let mark = mark_of (checkpoint.cutoff + 1) in record {
      pairs = before.store;
      walk = was.store.walk;
      version = checkpoint.version;
      most = λ u among. let low : u.stamp.version ≤ before.report.version_below_cutoff = version_bound logs parts before was u among in omega (arith, low, version);
      begins = same;
      ends = same;
      entries = refl;
      opens = subst (λ (n : ℕ). AreOpen n (log_file checkpoint ∷ [])) same (fresh_open before.store checkpoint has);
      marks = λ r among. subst (λ (x : Logged). is_mark x ≡ true) (only_one mark r among) refl;
      above = mark_synced (λ r. facts.cutoff < r.timestamp) before.store checkpoint has (omega (arith, same));
    }
