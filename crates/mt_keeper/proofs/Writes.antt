-- Calls of a log's writer.
use Rattle.std.proofs.Common.{◌≡◌, ℕ, ◌+◌, ◌≤◌, false, List, [], ◌∷◌, ◌++◌, slice_set, Option, None, Some, IfSome, refl, sym, ap, ◌∙◌, subst, append_assoc, arith}
use Rattle.std.specs.Prelude.{slice_get}
use Rattle.std.proofs.lemmas.List.{append-nil}
use Rattle.std.proofs.lemmas.Option.{IfSome_then}
use Rattle.mt_words.specs.Changes.{Logged}
use Rattle.mt_record.specs.Logs.{latest}
use Rattle.mt_record.proofs.Records.{latest_push}
use Rattle.mt_record.specs.declared.feed.head.Head.{Head}
use Rattle.mt_scan.specs.Choice.{CheckpointReading}
use Rattle.mt_writer.specs.Journals.{Journal, Writer, Keeps, records_of, handed_out, holding, taking, syncing}
use Rattle.mt_laws.specs.Lives.{Checkpoints}
use Rattle.mt_laws.specs.Writing.{Slot, coming, writing, sealed, going, gone, Server, with_slot, IsCall}
use Rattle.mt_keeper.specs.declared.keeper.Stage.{Stage}
use Rattle.mt_keeper.specs.declared.keeper.Stage.TheVariants.{Writing}
use Rattle.mt_keeper.specs.declared.keeper.Log.{Log}
use Rattle.mt_keeper.specs.declared.keeper.Making.{Making}
use Rattle.mt_keeper.specs.Keeping.{Keeping, Holds, AreKept, numbered, IsInStage, IsLogOf, segment_in, from_in, latest_in, is_newest, place_of, AreInPlace}
use Rattle.mt_keeper.specs.Calling.{Steps, with_log, with_changed, place_at, if_written}
use Rattle.mt_keeper.proofs.OneChanged.{slot_of, all_kept, same_of_all}

-- ---- what stays as the clock goes on

-- a log that is not changed
pub log_later : (clock later : ℕ) → clock ≤ later → (log : Log) (x : Slot) → IsLogOf clock log x → IsLogOf later log x
log_later clock later above log x is = record { stage = is.stage; segment = is.segment; from = is.from; latest = omega (arith, is.latest, above) }

-- the end of the checkpoint that the server stands on
pub base_later : (clock later : ℕ) (base : Option CheckpointReading) → clock ≤ later → IfSome base (λ base. base.end ≤ clock) → IfSome base (λ base. base.end ≤ later)
base_later clock later None above is = tt
base_later clock later (Some base) above is = omega (arith, is, above)

-- what is kept of checkpoints
pub kept_later : (clock later base : ℕ) (making : Option Making) (checkpoints : Checkpoints) → clock ≤ later → AreKept clock base making checkpoints → AreKept later base making checkpoints
kept_later clock later base making checkpoints above are = record {
  of_base = are.of_base;
  begun = IfSome_then making are.begun (λ m is. (is.0, omega (arith, is.1, above)));
  later = are.later;
}

-- ---- the slot of a writer

pub written_slot : (w : Writer) (x : Slot) → IsInStage (Writing w) x → (j : Journal) × (x ≡ writing j) × Keeps w j × (w.failed ≡ false)
written_slot w (coming j) is = absurd is
written_slot w (writing j) is = (j, refl, is.0, is.1)
written_slot w (sealed j) is = absurd is
written_slot w (going j) is = absurd is
written_slot w (gone records) is = absurd is

-- the journal of the log that a writer keeps
pub record KeptAt (w : Writer) (s : Server) (number : ℕ) : Type 0 where
  pub journal : Journal
  pub at : slice_get (numbered s) number ≡ Some (writing journal)
  pub keeps : Keeps w journal
  pub failed : w.failed ≡ false

pub kept_at : (keeper : Keeping) (s : Server) (number : ℕ) (log : Log) (w : Writer) → Holds keeper s → slice_get keeper.logs number ≡ Some log → log.stage ≡ Writing w
    → KeptAt w s number
kept_at keeper s number log w holds at is =
    let of = slot_of (IsLogOf keeper.clock) keeper.logs s number log holds.numbers holds.logs at in
    let here = written_slot w of.slot (subst (λ (stage : Stage). IsInStage stage of.slot) is of.keeps.stage) in record {
      journal = here.0;
      at = of.at ∙ ap (λ (x : Slot). Some x) here.1;
      keeps = here.2;
      failed = here.3;
    }

pub same_journal : (a b : Journal) → Some (writing a) ≡ Some (writing b) → a ≡ b
same_journal a b same = cc

-- the writer after a call, of the changed journal of the same file
pub record IsLater (clock : ℕ) (w : Writer) (before after : Journal) : Type 0 where
  pub keeps : Keeps w after
  pub failed : w.failed ≡ false
  pub head : after.head ≡ before.head
  pub latest : w.last ≤ clock + 1

-- A writer's call is a step of the server.
pub writes : (keeper : Keeping) (s : Server) (number : ℕ) (log : Log) (w later : Writer) (clock time : ℕ) (change : Journal → Journal) → Holds keeper s
    → slice_get keeper.logs number ≡ Some log → log.stage ≡ Writing w → keeper.clock ≤ clock → time ≡ clock
    → ((j : Journal) → Keeps w j → w.failed ≡ false → w.last ≤ keeper.clock + 1 → IsLater clock later j (change j))
    → ((front back : List Slot) (j : Journal) → Keeps w j → Keeps later (change j)
    → IsCall (with_slot s front (writing j) back) (record (with_slot s front (writing (change j)) back) { clock = time }))
    → Steps s (record (with_log s number (if_written change)) { clock = time })
    (record keeper { clock = clock; logs = slice_set keeper.logs number (record log { stage = Writing later }) })
writes keeper s number log w later clock time change holds at is above same more step =
    let of = slot_of (IsLogOf keeper.clock) keeper.logs s number log holds.numbers holds.logs at in
    let here = written_slot w of.slot (subst (λ (stage : Stage). IsInStage stage of.slot) is of.keeps.stage) in
    let last : w.last ≤ keeper.clock + 1 = subst (λ (stage : Stage). latest_in stage ≤ keeper.clock + 1) is of.keeps.latest in
    let now = more here.0 here.2 here.3 last in
    let before : s.slots ≡ of.front ++ writing here.0 ∷ of.back = of.split ∙ ap (λ (x : Slot). of.front ++ x ∷ of.back) here.1 in
    let after : with_changed s.slots (place_at s number) (if_written change) ≡ of.front ++ writing (change here.0) ∷ of.back =
    of.changed (if_written change) ∙ ap (λ (x : Slot). of.front ++ if_written change x ∷ of.back) here.1 in (
      subst (λ (slots : List Slot). IsCall (record s { slots = slots }) (record (with_log s number (if_written change)) { clock = time })) (sym before)
          (subst (λ (slots : List Slot). IsCall (with_slot s of.front (writing here.0) of.back) (record s { clock = time; slots = slots })) (sym after)
          (step of.front of.back here.0 here.2 now.keeps)),
      record {
        clock = same;
        acked = λ u stands. let below = holds.acked u stands in omega (arith, below, above);
        base = base_later keeper.clock clock s.checkpoints.base above holds.base;
        numbers = of.numbers (if_written change);
        logs = all_kept keeper.clock clock keeper.logs s number log new (if_written change) holds.numbers holds.logs at (log_later keeper.clock clock above) kept;
        checkpoints = kept_later keeper.clock clock keeper.base keeper.making s.checkpoints above holds.checkpoints;
        places = subst (AreInPlace keeper.workers) (sym (same_of_all place_of keeper.logs number log new at (ap (λ (stage : Stage). (is_newest stage, log.segment)) (sym is)))) holds.places;
      },
    )
  where
    new : Log
    new = record log { stage = Writing later }

    kept : (x : Slot) → IsLogOf keeper.clock log x → IsLogOf clock new (if_written change x)
    kept x of =
        let here = written_slot w x (subst (λ (stage : Stage). IsInStage stage x) is of.stage) in
        let last : w.last ≤ keeper.clock + 1 = subst (λ (stage : Stage). latest_in stage ≤ keeper.clock + 1) is of.latest in
        let now = more here.0 here.2 here.3 last in
        subst (λ (y : Slot). IsLogOf clock new (if_written change y)) (sym here.1) (record {
          stage = (now.keeps, now.failed);
          segment = of.segment ∙ ap segment_in here.1 ∙ sym (ap (λ (h : Head). h.segment) now.head);
          from = of.from ∙ ap from_in here.1 ∙ sym (ap (λ (h : Head). h.from) now.head);
          latest = now.latest;
        })

-- ---- what a writer does

-- a record is appended, at the next stamp at the latest
pub holds_more : (clock : ℕ) (w later : Writer) (j : Journal) (r : Logged) → w.failed ≡ false → later.failed ≡ w.failed → r.timestamp ≤ clock + 1 → Keeps later (holding j r)
    → IsLater clock later j (holding j r)
holds_more clock w later j r failed same below keeps = record {
  keeps = keeps;
  failed = same ∙ failed;
  head = refl;
  latest = let last = keeps.last ∙ ap (latest 0) (sym (append_assoc (handed_out j) j.held (r ∷ []))) ∙ latest_push 0 (records_of j) r in omega (arith, last, below);
}

-- no record is appended
pub same_records : (clock : ℕ) (w later : Writer) (before after : Journal) → Keeps w before → w.failed ≡ false → w.last ≤ clock + 1 → later.failed ≡ w.failed → after.head ≡ before.head
    → records_of after ≡ records_of before → Keeps later after → IsLater clock later before after
same_records clock w later before after keeps failed last same head records kept = record {
  keeps = kept;
  failed = same ∙ failed;
  head = head;
  latest = omega (arith, last, keeps.last, kept.last, ap (latest 0) records);
}

pub records_taken : (j : Journal) → records_of (taking j) ≡ records_of j
records_taken j = append-nil (handed_out (taking j)) ∙ sym (append_assoc j.synced j.taken j.held)

pub records_synced : (j : Journal) → records_of (syncing j) ≡ records_of j
records_synced j = ap (λ (rs : List Logged). rs ++ j.held) (append-nil (handed_out j))
