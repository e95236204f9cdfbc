-- What is written to a buffer of the caller.
use Rattle.std.specs.Prelude.{◌≡◌, ◌≢◌, ℕ, ◌<◌, ◌≤◌, List, ◌++◌, length, drop}
use Rattle.mt_c.specs.declared.status.TheConstants.{DONE, SHORT}

-- the bytes stand at the beginning of the buffer, the rest of it is as before, and `count` is their number
pub record IsWritten (bytes before after : List ℕ) (count : ℕ) : Type 0 where
  pub fits : length bytes ≤ length before
  pub buffer : after ≡ bytes ++ drop (length bytes) before
  pub count_is : count ≡ length bytes

-- the buffer is too short for the bytes, and `count` is their number
pub record IsShort (bytes before : List ℕ) (count : ℕ) : Type 0 where
  pub short : length before < length bytes
  pub count_is : count ≡ length bytes

-- what a function with this status did that writes these bytes to a buffer: only if it is done, the buffer changed
pub record Writes (bytes before after : List ℕ) (count status : ℕ) : Type 0 where
  pub done : status ≡ DONE → IsWritten bytes before after count
  pub short : status ≡ SHORT → IsShort bytes before count
  pub kept : status ≢ DONE → after ≡ before
