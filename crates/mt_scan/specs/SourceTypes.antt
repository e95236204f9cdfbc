-- What contracts say of each kind of source, beyond what they say of every source, and of a rack.
use Rattle.std.specs.Prelude.{◌≡◌, ℕ, min, List, [], length, ◌++◌, take, drop, Option, Some, Bool, true, false, nat_eq, Result, Ok, IfSome}
use Rattle.std.specs.Io.KnownBytes.{Consumes}
use Rattle.std.specs.Borrow.{Lends, MutBor, Fml, Array}
use Rattle.mt_scan.specs.Sources.{Seen}
use Rattle.mt_scan.specs.Advancing.{Buffered}
use Rattle.mt_scan.specs.declared.source.SourceFault.{SourceFault}
use Rattle.mt_scan.specs.declared.mem_source.MemSource.{MemSource}
use Rattle.mt_scan.specs.declared.fault_source.FaultSource.{FaultSource}
use Rattle.mt_scan.specs.declared.reader_source.ReaderSource.{ReaderSource}
use Rattle.mt_scan.specs.declared.reader_source.Progress.{Progress}
use Rattle.mt_scan.specs.declared.reader_source.Progress.TheVariants.{Open, Ended, Failed}
use Rattle.mt_scan.specs.contracts.slot.Rack.{the_row}
use Rattle.mt_scan.specs.contracts.slot.Slot.{the_row as slot_row}
use Rattle.mt_scan.specs.contracts.buffer.Buffer.{the_row as buffer_row}

-- a source that never fails, with these known bytes still to come and with this buffer
abbrev pub seen_of_bytes : List ℕ → Buffered → Seen
seen_of_bytes rest buffer = record {
  told = Some rest;
  bound = length rest;
  failures = 0;
  steady = true;
  shown = buffer.shown;
  spent = false;
}

-- a source of bytes in memory
abbrev pub seen_of_memory : MemSource Buffered → Seen
seen_of_memory source = seen_of_bytes source.rest.now source.buffer

-- the size of each chunk but the last
abbrev pub piece_size : MemSource Buffered → ℕ
piece_size source = source.buffer.size

-- a source of bytes in memory that fails
abbrev pub seen_of_fault : FaultSource Buffered → Seen
seen_of_fault source = record (seen_of_bytes source.rest.now source.buffer) {
  failures = source.failures.count;
  steady = false;
  spent = nat_eq source.left 0;
}

abbrev pub fault_piece_size : FaultSource Buffered → ℕ
fault_piece_size source = source.buffer.size

-- the number of calls that will still succeed
abbrev pub calls_left : FaultSource Buffered → ℕ
calls_left source = source.left

-- if the bytes still to come are known: a chunk of this size was returned, or all of them if they are fewer
abbrev pub GivesPiece : Seen → ℕ → Result ℕ SourceFault → Type 0
GivesPiece seen size result = IfSome seen.told (λ told. result ≡ Ok (min (length told) size))

-- the bytes still to come from a reader that has come this far, if they are known
abbrev pub left_to_tell : Progress → Option (List ℕ) → Option (List ℕ)
left_to_tell Open remaining = remaining
left_to_tell Ended remaining = Some []
left_to_tell (Failed fault) remaining = remaining

abbrev pub has_ended : Progress → Bool
has_ended Open = false
has_ended Ended = true
has_ended (Failed fault) = false

abbrev pub has_failed : Progress → Bool
has_failed Open = false
has_failed Ended = false
has_failed (Failed fault) = true

-- a source of the bytes of a reader; `remaining` gives those still to come, if they are known
abbrev pub seen_of_reader : {R : Type 0} → (R → Option (List ℕ)) → ReaderSource R Buffered → Seen
seen_of_reader remaining source = record {
  told = left_to_tell source.progress (remaining source.reader);
  bound = source.left;
  failures = source.failures.count;
  steady = false;
  shown = source.buffer.shown;
  spent = has_failed source.progress;
}

-- the greatest size of a chunk
abbrev pub reader_piece_size : {R : Type 0} → ReaderSource R Buffered → ℕ
reader_piece_size source = source.buffer.size

-- all bytes that the limit allows were returned, and the reader had one more, as far as its bytes are known
pub record HasTooMany (old new : Seen) : Type 0 where
  pub at_limit : old.bound ≡ 0
  pub extra : List ℕ
  pub is_one : length extra ≡ 1
  pub given : Consumes old.told new.told extra

-- the reader has ended
abbrev pub at_its_end : {R : Type 0} → ReaderSource R Buffered → Bool
at_its_end source = has_ended source.progress

-- the slot as the drop of a source leaves it; it is the second field of each kind of source
abbrev pub slot_after : {First Rest Held : Type 0} → First × (MutBor Held × Rest) → Held
slot_after exit = exit.1.0.now

-- the slots as the borrower left them; their number stays the same
abbrev pub left_in : List (Option Buffered) → List (Option Buffered) → List (Option Buffered)
left_in slots left = take (length slots) (left ++ drop (length left) slots)

-- the rack ends with its slots as the borrower left them
abbrev pub LendsSlots : MutBor (List (Option Buffered)) → MutBor (List (Option Buffered)) → Fml
LendsSlots rack slots = Lends the_row (Array (slot_row buffer_row) 0) rack slots (left_in rack.now)
