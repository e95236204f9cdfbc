-- Segments: the files of a worker's log, and what can be wrong with them. A file that is no segment is a log by itself.
use Rattle.std.specs.Prelude.{◌≡◌, ℕ, ◌+◌, ◌<◌, ◌⊎◌, ◌==◌, ◌&&◌, nat_lt, not, Bool, false, IsTrue, Option, Some, IsSomeAnd, List, take, slice_get}
use Rattle.std.specs.List.{Any, list_any}
use Rattle.mt_record.specs.declared.feed.head.Segment.{Segment}
use Rattle.mt_record.specs.Logs.{LogReading}

-- both are segments of one worker's log, and the first has the lower number
abbrev pub IsEarlier : Option Segment → Option Segment → Type 0
IsEarlier (Some a) (Some b) = (a.worker ≡ b.worker) × (a.number < b.number)
IsEarlier a b = ⊥

-- whether both are segments of one worker's log, and the first comes directly before the second
abbrev pub is_just_before : Option Segment → Option Segment → Bool
is_just_before (Some a) (Some b) = (a.worker == b.worker) && (a.number + 1 == b.number)
is_just_before a b = false

abbrev pub IsJustBefore : Option Segment → Option Segment → Type 0
IsJustBefore a b = IsTrue (is_just_before a b)

-- both are the same segment
abbrev pub IsSame : Option Segment → Option Segment → Type 0
IsSame (Some a) (Some b) = (a.worker ≡ b.worker) × (a.number ≡ b.number)
IsSame a b = ⊥

-- `P` holds for the segment of one of the files
abbrev pub HasFile : List LogReading → (Option Segment → Type 0) → Type 0
HasFile files P = Any (λ file. P file.head.segment) files

-- file i is the same segment as a file before it
abbrev pub IsDoubled : List LogReading → ℕ → Type 0
IsDoubled files i = IsSomeAnd (slice_get files i) (λ file. HasFile (take i files) (IsSame file.head.segment))

-- file i is torn, but a later segment of its worker's log is there
abbrev pub IsTornAmid : List LogReading → ℕ → Type 0
IsTornAmid files i = IsSomeAnd (slice_get files i) (λ file. IsTrue file.torn × HasFile files (IsEarlier file.head.segment))

-- an earlier segment of this file's log is there
abbrev pub HasEarlier : List LogReading → LogReading → Type 0
HasEarlier files file = HasFile files (λ other. IsEarlier other file.head.segment)

-- the segment directly before this file is there
abbrev pub HasJustBefore : List LogReading → LogReading → Type 0
HasJustBefore files file = HasFile files (λ other. IsJustBefore other file.head.segment)

-- Updates at or after `begin` may be missing before this file: an earlier segment of its log is there, but not the one directly before it; or no earlier
-- one is there, and its `from` is above `begin`.
abbrev pub HasGap : ℕ → List LogReading → LogReading → Type 0
HasGap begin files file = (HasEarlier files file × (HasJustBefore files file → ⊥)) ⊎ ((HasEarlier files file → ⊥) × (begin < file.head.from))

-- file i has a gap
abbrev pub IsGap : ℕ → List LogReading → ℕ → Type 0
IsGap begin files i = IsSomeAnd (slice_get files i) (HasGap begin files)

-- no segment is there twice, and none but the last one of a worker's log is torn
pub record AreWriters (files : List LogReading) : Type 0 where
  pub once : (i : ℕ) → IsDoubled files i → ⊥
  pub sound : (i : ℕ) → IsTornAmid files i → ⊥

-- whether both are segments of one worker's log, and the first has the lower number
abbrev pub is_earlier : Option Segment → Option Segment → Bool
is_earlier (Some a) (Some b) = (a.worker == b.worker) && nat_lt a.number b.number
is_earlier a b = false

-- whether the file is the first of its log: no earlier segment of it is there
abbrev pub is_first_file : List LogReading → LogReading → Bool
is_first_file files file = not (list_any (λ other. is_earlier other.head.segment file.head.segment) files)

-- i is the least number for which `P` holds
abbrev pub IsFirst : (ℕ → Type 0) → ℕ → Type 0
IsFirst P i = P i × ((j : ℕ) → j < i → P j → ⊥)
