-- The store after a crash is that of all updates ever written below the cutoff.
use Rattle.std.proofs.Common.{ℕ, ◌<◌, ◌≤◌, Option, Some, None, List, Contains, arith}
use Rattle.std.specs.Prelude.{IfSome}
use Rattle.mt_words.specs.declared.update.Update.{Update}
use Rattle.mt_words.specs.Changes.{Logged}
use Rattle.mt_words.specs.Walks.{Pair}
use Rattle.mt_record.specs.Logs.{LogReading}
use Rattle.mt_scan.specs.PartScans.{KnownPart}
use Rattle.mt_scan.specs.Choice.{CheckpointReading, IsChosenOf}
use Rattle.mt_replay.specs.Survivors.{log_updates}
use Rattle.mt_replay.specs.Walk.{IsWalk}
use Rattle.mt_recover.specs.Recovery.{survivors, records_of, IsStoreOf}
use Rattle.mt_laws.specs.Crashes.{IsCrash, AreSyncedBeyond, IsSound, StandFor}
use Rattle.mt_laws.proofs.Lost.{same_store}
use Rattle.mt_laws.proofs.Synced.{left_beyond}
use Rattle.mt_laws.proofs.Sound.{in_history, same_over_sound}
use Rattle.mt_laws.proofs.Renamed.{same_store_since}

pub over_chosen : (known : List KnownPart) (cutoff : ℕ) (chosen : Option CheckpointReading) (logs : List (List Logged)) (pairs : List Pair)
    → IsChosenOf known cutoff chosen → IfSome chosen (IsSound (log_updates logs)) → IsWalk (survivors cutoff chosen logs) pairs
    → IsWalk (survivors cutoff None logs) pairs
over_chosen known cutoff None logs pairs is sound walk = walk
over_chosen known cutoff (Some checkpoint) logs pairs is sound walk = (same_over_sound logs cutoff checkpoint pairs is.0.ends_below sound).0 walk

pub store_of_history : (left parts : List (List ℕ)) (kept : List LogReading) (full : List (List Logged)) (pairs : List Pair) → IsCrash left kept
    → (store : IsStoreOf left parts pairs) → StandFor store.basis.facts.chosen (records_of kept) full → IsWalk (survivors store.basis.facts.cutoff None full) pairs
store_of_history left parts kept full pairs crash store stand =
    let facts = store.basis.facts in
    over_chosen facts.known facts.cutoff facts.chosen full pairs facts.is_chosen stand.sound
    ((same_store_since (records_of kept) full facts.cutoff facts.chosen pairs stand.same).0 (same_store left parts kept pairs crash store))

pub in_the_history : (left parts : List (List ℕ)) (full : List (List Logged)) (pairs : List Pair) (time : ℕ) → (store : IsStoreOf left parts pairs)
    → AreSyncedBeyond time left → (u : Update) → Contains (log_updates full) u → u.timestamp ≤ time → Contains (survivors store.basis.facts.cutoff None full) u
in_the_history left parts full pairs time store synced u at before =
    let facts = store.basis.facts in
    let past : time < facts.cutoff = left_beyond left facts.readings time facts.read synced facts.cutoff facts.is_cutoff.has in
    in_history facts.cutoff full u at (omega (arith, past, before))
