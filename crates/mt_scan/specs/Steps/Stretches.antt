-- Reading a log in stretches.
use Rattle.std.specs.Prelude.{◌≡◌, ◌⊎◌, ℕ, ◌+◌, ◌≤◌, ◌<◌, ◌^◌, Bool, true, false, IsTrue, Option, IfSome, List, [], ◌++◌, length}
use Rattle.std.specs.Io.KnownBytes.{Consumes, IsAtEnd}
use Rattle.mt_words.specs.Walks.{joined}
use Rattle.mt_record.specs.LogFeeding.{IsFedBehind}
use Rattle.mt_scan.specs.Sources.{Seen}
use Rattle.mt_scan.specs.Steps.DroppingFeeds.{IsFedBelow}
use Rattle.mt_scan.specs.Steps.Feeding.{AreFew}
use Rattle.mt_scan.specs.declared.dropping_feed.DroppingFeed.{DroppingFeed}
use Rattle.mt_scan.specs.declared.stretches.Reader.{Reader}
use Rattle.mt_scan.specs.declared.by_workers.Checked.{Checked}

-- The source, which `first` was, has returned these bytes in stretches, and then the rest that the reader has. `last` is the source as it was before it
-- failed, if it has.
pub record HasReturned {S : Type 0} (seen : S → Seen) (first : Seen) (reader : Reader S) (bytes : List ℕ) : Type 0 where
  pub last : Seen
  pub is_last : reader.failed ≡ false → last ≡ seen reader.source
  pub returned : Consumes first.told last.told (bytes ++ reader.rest.items)
  pub few : AreFew last (bytes ++ reader.rest.items)
  pub end : IsTrue reader.ended → IsAtEnd last.told × (last.bound < 2 ^ 64)
  pub steady : IsTrue first.steady → IsTrue last.steady × (reader.failed ≡ false)

-- no bytes are left: the source has ended or failed
abbrev pub IsOver : {S : Type 0} → Reader S → Type 0
IsOver reader = (reader.rest.items ≡ []) × (IsTrue reader.ended ⊎ IsTrue reader.failed)

-- the most bytes that may be left, by whether the source has failed
abbrev pub most_left : Bool → ℕ → ℕ → ℕ
most_left false bound rest = bound + rest
most_left true bound rest = rest

-- the most bytes that a reader may have left
abbrev pub left_in : {S : Type 0} → (S → Seen) → Reader S → ℕ
left_in seen reader = most_left reader.failed (seen reader.source).bound (length reader.rest.items)

-- the reader read on, and put these bytes into stretches
pub record ReadsOn {S : Type 0} (seen : S → Seen) (old new : Reader S) (bytes : List ℕ) : Type 0 where
  pub returned : (first : Seen) (before : List ℕ) → HasReturned seen first old before → HasReturned seen first new (before ++ bytes)
  pub falls : left_in seen new + length bytes ≤ left_in seen old

-- the reader read these stretches, of which none is empty; there is none only if no bytes are left
pub record IsRead {S : Type 0} (seen : S → Seen) (old new : Reader S) (stretches : List (List ℕ)) : Type 0 where
  pub reads : ReadsOn seen old new (joined stretches)
  pub some : length stretches ≤ length (joined stretches)
  pub none : stretches ≡ [] → IsOver new

-- what was read ahead of a stretch was read behind a header
abbrev pub IsAhead : Checked → Type 0
IsAhead checked = IfSome checked.ahead (λ ahead. IsFedBehind ahead checked.bytes.items)

-- the stretch was read ahead of a feed
pub record IsChecked (feed : DroppingFeed) (stretch : List ℕ) (checked : Checked) : Type 0 where
  pub same : checked.bytes.items ≡ stretch
  pub ahead : (limit : ℕ) (bytes : List ℕ) → IsFedBelow feed limit bytes → IsAhead checked
