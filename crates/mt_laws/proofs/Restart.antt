-- A server that is down can start afresh, unless the cutoff is the greatest timestamp.
use Rattle.std.proofs.Common.{◌≡◌, ℕ, ◌+◌, ◌-◌, ◌^◌, ◌<◌, ◌≤◌, Some, List, [], ◌∷◌, ◌++◌, map, Contains, refl, sym, ap, subst, arith}
use Rattle.std.specs.List.{flat_map}
use Rattle.mt_words.specs.declared.limits.Format.TheVariants.{Two}
use Rattle.mt_words.specs.declared.update.Update.{Update}
use Rattle.mt_words.specs.Built.{mark_of}
use Rattle.mt_words.specs.Changes.{Logged, is_mark}
use Rattle.mt_words.specs.Walks.{Pair}
use Rattle.mt_words.proofs.Elements.{head_in}
use Rattle.mt_record.specs.Encoding.{head_of}
use Rattle.mt_record.specs.Heads.{head_bytes}
use Rattle.mt_record.specs.Logs.{IsReading}
use Rattle.mt_record.specs.Spelling.{spelling}
use Rattle.mt_record.proofs.Opened.{whole_reading}
use Rattle.mt_checkpoint.specs.Checkpoints.{entries_with}
use Rattle.mt_scan.specs.Choice.{CheckpointReading}
use Rattle.mt_replay.specs.Walk.{IsWalk}
use Rattle.mt_recover.specs.Recovery.{Facts, survivors, records_of, IsStoreOf}
use Rattle.mt_writer.specs.Files.{OpenFile, file_bytes, file_reading, HasSynced}
use Rattle.mt_laws.specs.Lives.{LogOf, there, left_behind, IsFreshStart, only, running, down, start_afresh, Life, then}
use Rattle.mt_laws.proofs.Afresh.{greatest, below_greatest}
use Rattle.mt_laws.proofs.Living.{all_of_it}
use Rattle.mt_laws.proofs.SomeLife.{IsAloneFrom, only_one, all_alone}

-- a file from the cutoff, with a mark above it
abbrev fresh_file : ℕ → OpenFile
fresh_file cutoff =
    record { head = head_of Two cutoff; records = mark_of (cutoff + 1) ∷ []; synced = head_bytes (head_of Two cutoff) ++ flat_map spelling (mark_of (cutoff + 1) ∷ []) }

fresh_reading : (cutoff : ℕ) → cutoff < 2 ^ 64 - 1 → IsReading (file_bytes (fresh_file cutoff)) (file_reading (fresh_file cutoff))
fresh_reading cutoff fits =
    whole_reading (head_of Two cutoff) (mark_of (cutoff + 1) ∷ []) (record { from = omega (arith, fits); segment = tt }) ((omega (arith, fits), tt), omega arith, tt)

-- its mark is synced
fresh_synced : (cutoff : ℕ) → cutoff < 2 ^ 64 - 1 → (P : Logged → Type 0) → P (mark_of (cutoff + 1)) → HasSynced P (fresh_file cutoff)
fresh_synced cutoff fits P holds = record {
  reading = file_reading (fresh_file cutoff);
  is_reading = fresh_reading cutoff fits;
  at = mark_of (cutoff + 1);
  stands = head_in (mark_of (cutoff + 1)) [];
  holds = holds;
}

fresh_alone : (cutoff : ℕ) → cutoff < 2 ^ 64 - 1 → IsAloneFrom cutoff (fresh_file cutoff)
fresh_alone cutoff fits = record {
  is_open = record {
    is_reading = fresh_reading cutoff fits;
    synced = all_of_it (fresh_file cutoff) (fresh_reading cutoff fits);
    claim = fresh_synced cutoff fits (λ r. cutoff ≤ r.timestamp) (omega arith);
  };
  alone = refl;
  from = omega arith;
}

-- the checkpoint of these pairs, in which no update is above the version
abbrev fresh_checkpoint : ℕ → ℕ → List Pair → CheckpointReading
fresh_checkpoint cutoff version pairs = record { number = 0; begin = cutoff; end = cutoff; entries = entries_with version pairs }

fresh_start : (left parts : List (List ℕ)) (facts : Facts left parts) (pairs : List Pair) (us : List Update) → us ≡ survivors facts.cutoff facts.chosen (records_of facts.readings)
    → facts.cutoff < 2 ^ 64 - 1 → IsWalk us pairs → IsFreshStart facts (fresh_file facts.cutoff) (fresh_checkpoint facts.cutoff (greatest us) pairs)
fresh_start left parts facts pairs us are fits walk =
    let cutoff = facts.cutoff in record {
      pairs = pairs;
      walk = subst (λ (l : List Update). IsWalk l pairs) are walk;
      version = greatest us;
      most = λ u at. below_greatest us u (subst (λ (l : List Update). Contains l u) (sym are) at);
      begins = refl;
      ends = refl;
      entries = refl;
      opens = all_alone cutoff (fresh_file cutoff ∷ []) (λ file at. subst (IsAloneFrom cutoff) (only_one (fresh_file cutoff) file at) (fresh_alone cutoff fits));
      marks = λ r at. sym (ap is_mark (only_one (mark_of (cutoff + 1)) r at));
      above = fresh_synced cutoff fits (λ r. cutoff < r.timestamp) (omega arith);
    }

pub life_starts_afresh : (acked : List Update) (logs : List (LogOf (List Logged))) (left parts : List (List ℕ)) (pairs : List Pair) → Life (down acked logs left parts)
    → (store : IsStoreOf left parts pairs) → store.basis.facts.cutoff < 2 ^ 64 - 1
    → (file : OpenFile) × (new : CheckpointReading) × Life (running acked (map (left_behind store.basis.facts.cutoff) logs ++ there file ∷ []) (only (Some new)))
life_starts_afresh acked logs left parts pairs life store fits =
    let facts = store.basis.facts in
    let us = survivors facts.cutoff facts.chosen (records_of facts.readings) in
    let file = fresh_file facts.cutoff in
    let new = fresh_checkpoint facts.cutoff (greatest us) pairs in (
      file,
      new,
      then (down acked logs left parts) (running acked (map (left_behind facts.cutoff) logs ++ there file ∷ []) (only (Some new))) life
          (start_afresh acked logs left parts facts file new (fresh_start left parts facts pairs us refl fits store.walk)),
    )
