-- After each crash the server can restart, and go on with each log.
use Rattle.std.proofs.Common.{◌≡◌, ◌⊎◌, inl, inr, ℕ, List, [], ◌∷◌, ◌++◌, map, Contains, refl, sym, ap, ◌∙◌, subst, arith}
use Rattle.std.specs.List.{AllZip}
use Rattle.std.proofs.lemmas.List.{append-nil}
use Rattle.mt_words.specs.Changes.{Logged}
use Rattle.mt_words.proofs.Elements.{head_in, tail_in}
use Rattle.mt_replay.proofs.Members.{of_map}
use Rattle.mt_recover.specs.Recovery.{Facts}
use Rattle.mt_writer.specs.Files.{OpenFile, file_bytes}
use Rattle.mt_writer.specs.Journals.{Journal, file_of, read_back}
use Rattle.mt_laws.specs.Lives.{IsBehind, LogOf, there, deleted, those_there, as_written, IsStill, only, IsResumedAs, down, Life}
use Rattle.mt_laws.specs.Writing.{Slot, coming, writing, sealed, going, gone, log_of, logs_of, files_of, IsNewest, Server, files_there, IsCrashOf, none, AreResumed, Called, restarted}
use Rattle.mt_laws.proofs.Decided.{Decided}
use Rattle.mt_laws.proofs.Finite.{each_of}
use Rattle.mt_laws.proofs.LeftFiles.{earlier_or_not}
use Rattle.mt_laws.proofs.Paired.{partner_of}
use Rattle.mt_laws.proofs.Living.{life_has_store, life_after}
use Rattle.mt_laws.proofs.ServerCrashes.{crash_of}

-- ---- slots of resumed files

newest_or_not : (files : List OpenFile) (file : OpenFile) → Decided (IsNewest files file)
newest_or_not files file = each_of (λ other. IsBehind file other → ⊥) (λ other. by (earlier_or_not file.head.segment other.head.segment)) files
  where
    by : {P : Type 0} → Decided P → Decided (P → ⊥)
    by (inl is) = inr (λ fails. fails is)
    by (inr not) = inl not

abbrev journal_of : OpenFile → Journal
journal_of file = read_back file.head file.records

-- the newest file of a log is written, and another is sealed
abbrev slot_by : (files : List OpenFile) (file : OpenFile) → Decided (IsNewest files file) → Slot
slot_by files file (inl newest) = writing (journal_of file)
slot_by files file (inr not) = sealed (journal_of file)

abbrev slot_of : List OpenFile → LogOf OpenFile → Slot
slot_of files (there file) = slot_by files file (newest_or_not files file)
slot_of files (deleted records) = gone records

file_back : (file : OpenFile) → file.synced ≡ file_bytes file → file_of (journal_of file) ≡ file
file_back file synced = λ i. record { head = file.head; records = (append-nil (file.records ++ []) ∙ append-nil file.records) i; synced = sym synced i }

log_by : (files : List OpenFile) (file : OpenFile) (newest : Decided (IsNewest files file)) → file.synced ≡ file_bytes file
    → log_of (slot_by files file newest) ≡ there file
log_by files file (inl newest) synced = ap there (file_back file synced)
log_by files file (inr not) synced = ap there (file_back file synced)

logs_back : (files : List OpenFile) (logs : List (LogOf OpenFile)) → ((file : OpenFile) → Contains (those_there logs) file → file.synced ≡ file_bytes file)
    → logs_of (map (slot_of files) logs) ≡ logs
logs_back files [] synced = refl
logs_back files (there file ∷ logs) synced =
    let first = log_by files file (newest_or_not files file) (synced file (head_in file (those_there logs))) in
    let rest = logs_back files logs (λ x at. synced x (tail_in file x (those_there logs) at)) in
    λ i. first i ∷ rest i
logs_back files (deleted rs ∷ logs) synced = ap (λ (l : List (LogOf OpenFile)). deleted rs ∷ l) (logs_back files logs synced)

-- what holds of the slot of each file
abbrev IsSlotOf : List OpenFile → Slot → Type 0
IsSlotOf files (coming j) = ⊥
IsSlotOf files (writing j) = IsNewest files (file_of j)
IsSlotOf files (sealed j) = IsNewest files (file_of j) → ⊥
IsSlotOf files (going j) = ⊥
IsSlotOf files (gone records) = Unit {0}

of_file : (files : List OpenFile) (file : OpenFile) (newest : Decided (IsNewest files file)) → IsSlotOf files (slot_by files file newest)
of_file files file (inl newest) = newest
of_file files file (inr not) = not

of_log : (files : List OpenFile) (log : LogOf OpenFile) → IsSlotOf files (slot_of files log)
of_log files (there file) = of_file files file (newest_or_not files file)
of_log files (deleted records) = tt

-- ---- a restart

-- the server restarted with the same acknowledged updates, and the newest file of each log is written
abbrev GoesOn : Server → Type 0
GoesOn s = (after : Server) × Called after × (after.acked ≡ s.acked) × ((j : Journal) → Contains after.slots (sealed j) → IsNewest (files_there after) (file_of j) → ⊥)

pub goes_on : (s : Server) (names : List (LogOf OpenFile)) (left parts : List (List ℕ)) → Called s → IsCrashOf s names left parts → GoesOn s
goes_on s names left parts so_far crash = (
  record { clock = facts.cutoff; acked = s.acked; slots = slots; places = []; checkpoints = only facts.chosen },
  restarted s names left parts left parts facts slots facts.cutoff [] so_far crash (none left parts) resumed (omega arith),
  refl,
  λ j at newest. is_slot (sealed j) at newest,
)
  where
    now : Life (down s.acked (map as_written names) left parts)
    now = crash_of s names left parts so_far crash

    facts : Facts left parts
    facts = (life_has_store s.acked (map as_written names) left parts now).1.basis.facts

    after : List (LogOf OpenFile)
    after = (life_after s.acked (map as_written names) left parts now facts).after

    each : AllZip (IsResumedAs facts.cutoff) left (those_there after)
    each = (life_after s.acked (map as_written names) left parts now facts).resumed

    slots : List Slot
    slots = map (slot_of (those_there after)) after

    same : logs_of slots ≡ after
    same = logs_back (those_there after) after (λ file at. (partner_of (IsResumedAs facts.cutoff) left (those_there after) file each at).2.synced)

    is_slot : (slot : Slot) → Contains slots slot → IsSlotOf (files_of slots) slot
    is_slot slot at =
        let log = of_map (slot_of (those_there after)) after slot at in
        subst (λ (logs : List (LogOf OpenFile)). IsSlotOf (those_there logs) slot) (sym same) (subst (IsSlotOf (those_there after)) log.2 (of_log (those_there after) log.0))

    rest : (j : Journal) → Contains slots (coming j) ⊎ Contains slots (going j) → ⊥
    rest j (inl at) = is_slot (coming j) at
    rest j (inr at) = is_slot (going j) at

    resumed : AreResumed facts.cutoff names left slots
    resumed = record {
      still = subst (AllZip (IsStill (λ (records : List Logged) (file : OpenFile). Unit {0})) (map as_written names)) (sym same)
          (life_after s.acked (map as_written names) left parts now facts).places;
      each = subst (λ (logs : List (LogOf OpenFile)). AllZip (IsResumedAs facts.cutoff) left (those_there logs)) (sym same) each;
      rest = rest;
      newest = λ j at. is_slot (writing j) at;
    }
