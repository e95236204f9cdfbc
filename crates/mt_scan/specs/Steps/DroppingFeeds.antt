-- The feed of a scan that drops late records.
use Rattle.std.specs.Prelude.{◌≡◌, ℕ, ◌-◌, ◌≤◌, ◌<◌, ◌+◌, ◌^◌, min, Option, Some, None, List, [], ◌++◌, length, filter, All, IsSome}
use Rattle.mt_words.specs.Changes.{Logged, is_mark}
use Rattle.mt_record.specs.Logs.{count_of, latest}
use Rattle.mt_record.specs.LogFeeding.{IsLogFed}
use Rattle.mt_record.specs.declared.read.LogText.{LogText}
use Rattle.mt_scan.specs.declared.log_scan.LogScan.{LogScan}
use Rattle.mt_scan.specs.declared.dropping_feed.DroppingFeed.{DroppingFeed}

-- the records that were taken out of the feed to be kept: none if nothing was dropped yet
abbrev pub taken_of : Option (List Logged) → List Logged
taken_of None = []
taken_of (Some kept) = kept

-- either nothing was dropped; or the latest timestamp so far is at or past `limit`, so that all records to come are too
abbrev pub GoesOn : ℕ → Option (List Logged) → List Logged → Type 0
GoesOn limit None late = late ≡ []
GoesOn limit (Some kept) late = limit ≤ latest 0 (kept ++ late)

-- These bytes were fed. Of their records, those in `late` were dropped: all of them are at or past `limit`. The feed counts the marks and the updates
-- among them, up to the greatest u64. As long as it has no fault, `GoesOn` holds.
pub record HasDropped (feed : DroppingFeed) (limit : ℕ) (bytes : List ℕ) : Type 0 where
  pub late : List Logged
  pub fed : IsLogFed feed.feed bytes (taken_of feed.kept ++ late)
  pub past : All (λ r. limit ≤ r.timestamp) late
  pub marks : feed.marks ≡ count_of (filter is_mark late)
  pub dropped : feed.dropped ≡ min (length late - length (filter is_mark late)) (2 ^ 64 - 1)
  pub goes_on : feed.feed.fault ≡ None → GoesOn limit feed.kept late

-- all records that are kept are below `limit`: they are in the feed, or were taken out of it, and then the feed has none
abbrev pub KeepsRecords : ℕ → Option (List Logged) → List Logged → Type 0
KeepsRecords limit None ready = All (λ r. r.timestamp < limit) ready
KeepsRecords limit (Some kept) ready = (ready ≡ []) × All (λ r. r.timestamp < limit) kept

-- these bytes were fed, and exactly the records at or past `limit` were dropped, as long as the feed has no fault
pub record IsFedBelow (feed : DroppingFeed) (limit : ℕ) (bytes : List ℕ) : Type 0 where
  pub read : HasDropped feed limit bytes
  pub keeps : feed.feed.fault ≡ None → KeepsRecords limit feed.kept feed.feed.so_far.ready

-- the feed has a fault, which more bytes do not change
abbrev pub HasStopped : DroppingFeed → Type 0
HasStopped feed = IsSome feed.feed.fault

-- the records that a scan with this text keeps
abbrev pub kept_in : Option (List Logged) → LogText (List Logged) → List Logged
kept_in None text = text.records
kept_in (Some kept) text = kept

-- the scan of the log with this number and this text, after this number of updates and of marks was dropped
abbrev pub scan_from : ℕ → LogText (List Logged) → Option (List Logged) → ℕ → ℕ → LogScan
scan_from log text kept dropped marks = record {
  front = text.front;
  marks = min (count_of (filter is_mark (kept_in kept text)) + marks) (2 ^ 64 - 1);
  updates = record { log = log; records = kept_in kept text };
  dropped = dropped;
}
