-- The server after each call.
use Rattle.std.specs.Prelude.{ℕ, zero, suc, ◌≡◌, ◌+◌, Some, None, List, [], ◌∷◌, length, slice_get, slice_index_or}
use Rattle.mt_words.specs.declared.update.Update.{Update}
use Rattle.mt_words.specs.Changes.{Logged}
use Rattle.mt_record.specs.Encoding.{segment_head}
use Rattle.mt_writer.specs.Journals.{Journal, records_of, holding, taking, syncing, begun, IsSealed}
use Rattle.mt_scan.specs.Choice.{CheckpointReading}
use Rattle.mt_laws.specs.Lives.{only}
use Rattle.mt_laws.specs.Writing.{Slot, coming, writing, sealed, going, gone, Server, with_more, clock_after, IsCall}
use Rattle.mt_keeper.specs.Keeping.{Keeping, Holds, numbered}

-- the slots, of which the one at this place is changed
abbrev pub with_changed : List Slot → ℕ → (Slot → Slot) → List Slot
with_changed [] place change = []
with_changed (slot ∷ slots) zero change = change slot ∷ slots
with_changed (slot ∷ slots) (suc place) change = slot ∷ with_changed slots place change

-- the place of the file with this number
abbrev pub place_at : Server → (log : ℕ) → ℕ
place_at s log = slice_index_or s.places log (length s.slots)

-- the file, if it is written, with this journal
abbrev pub if_written : (Journal → Journal) → Slot → Slot
if_written change (writing j) = writing (change j)
if_written change slot = slot

-- the file, if it was coming, may be written
abbrev pub if_coming : Slot → Slot
if_coming (coming j) = writing j
if_coming slot = slot

-- the file, if it was written, is sealed
abbrev pub if_sealing : Slot → Slot
if_sealing (writing j) = sealed j
if_sealing slot = slot

-- the file, if it was sealed, is being deleted
abbrev pub if_sealed : Slot → Slot
if_sealed (sealed j) = going j
if_sealed slot = slot

-- the file, if it was being deleted, is gone
abbrev pub if_going : Slot → Slot
if_going (going j) = gone (records_of j)
if_going slot = slot

abbrev pub with_log : Server → ℕ → (Slot → Slot) → Server
with_log s log change = record s { slots = with_changed s.slots (place_at s log) change }

-- the record is appended to the log
abbrev pub appended : Server → ℕ → Logged → Server
appended s log r = record (with_log s log (if_written (λ j. holding j r))) { clock = clock_after s.clock r }

-- all that was appended to the log is taken
abbrev pub with_taken : Server → ℕ → Server
with_taken s log = with_log s log (if_written taking)

-- all that was taken of the log is synced
abbrev pub with_synced : Server → ℕ → Server
with_synced s log = with_log s log (if_written syncing)

-- the file has its name
abbrev pub with_created : Server → ℕ → Server
with_created s log = with_log s log if_coming

-- the log is sealed
abbrev pub with_sealed : Server → ℕ → Server
with_sealed s log = with_log s log if_sealing

-- the log is being deleted
abbrev pub with_going : Server → ℕ → Server
with_going s log = with_log s log if_sealed

-- the log is gone
abbrev pub with_gone : Server → ℕ → Server
with_gone s log = with_log s log if_going

-- this segment is coming, with a mark at its `from`
abbrev pub with_segment : Server → (from worker number : ℕ) → Server
with_segment s from worker number = with_more s (coming (begun (segment_head from worker number) from))

-- the log of a new worker is coming, with a mark above the clock
abbrev pub with_new_log : Server → (worker : ℕ) → Server
with_new_log s worker = with_more s (coming (begun (segment_head 0 worker 0) (s.clock + 1)))

abbrev pub acknowledged : Server → Update → Server
acknowledged s u = record s { acked = u ∷ s.acked }

-- a server with one log, which has a mark at 1
abbrev pub first : Server
first = record { clock = 1; acked = []; slots = writing (begun (segment_head 0 0 0) 1) ∷ []; places = 0 ∷ []; checkpoints = only None }

-- a stamp was taken for no record
abbrev pub counted_up : Server → Server
counted_up s = record s { clock = suc s.clock }

-- this checkpoint was read
abbrev pub with_checkpoint : Server → CheckpointReading → Server
with_checkpoint s new = record s { checkpoints = record s.checkpoints { written = new ∷ s.checkpoints.written } }

-- the server stands on this checkpoint
abbrev pub standing_on : Server → CheckpointReading → Server
standing_on s new = record s { checkpoints = record s.checkpoints { base = Some new } }

-- A call makes the one server of the other, which the keeper holds then.
abbrev pub Steps : Server → Server → Keeping → Type 0
Steps s after keeper = IsCall s after × Holds keeper after

-- The log is sealed, by one call. By the next, the segment that follows it is coming: its `from` and its mark are the last timestamp of the sealed one.
pub record StepsToNext (s : Server) (log : ℕ) (keeper : Keeping) : Type 0 where
  pub j : Journal
  pub last : ℕ
  pub worker : ℕ
  pub number : ℕ
  pub stands : slice_get (numbered s) log ≡ Some (writing j)
  pub is_sealed : IsSealed last worker number j
  pub seals : IsCall s (with_sealed s log)
  pub begins : Steps (with_sealed s log) (with_segment (with_sealed s log) last worker (number + 1)) keeper
