-- What `advance` does to a source, and buffers.
use Rattle.std.specs.Prelude.{◌≡◌, ℕ, ◌+◌, ◌≤◌, ◌<◌, ◌^◌, List, [], length, Option, IsTrue, Result, is_ok, if◌then◌else◌, IfOk, OnErr, IsOk, IsErr, IsSomeAnd}
use Rattle.std.specs.Io.KnownBytes.{Consumes, IsAtEnd}
use Rattle.mt_scan.specs.Sources.{Seen}

-- a buffer: its size in bytes, and the bytes that it shows
pub record Buffered : Type 0 where
  pub size : ℕ
  pub shown : List ℕ

-- the slot has its buffer, and the buffer is of this size
abbrev pub HoldsBufferOf : ℕ → Option Buffered → Type 0
HoldsBufferOf size slot = IsSomeAnd slot (λ buffer. buffer.size ≡ size)

-- the next `count` bytes were returned and are shown; `count` is 0 only at the end
pub record HandsOut (old new : Seen) (count : ℕ) : Type 0 where
  pub shown : length new.shown ≡ count
  pub next : Consumes old.told new.told new.shown
  pub falls : new.bound + count ≤ old.bound
  pub at_end : count ≡ 0 → IsAtEnd new.told

-- what `advance` does to a source
pub record Advances {Fault : Type 0} (old new : Seen) (result : Result ℕ Fault) : Type 0 where
  pub hands_out : IfOk result (HandsOut old new)
  pub counted : new.failures ≡ (if is_ok result then old.failures else old.failures + 1)
  pub fails : OnErr result ((new.shown ≡ []) × IsTrue new.spent)
  pub again : IsTrue old.spent → IsErr result
  pub bounded : old.bound < 2 ^ 64
  pub steady : IsTrue old.steady → IsOk result × IsTrue new.steady
