-- Scans of logs that share a cutoff, and drop what is too late for it.
use Rattle.std.specs.Prelude.{◌≡◌, ℕ, ◌≤◌, ◌<◌, Option, Some, None, List, ◌∷◌, ◌++◌, length, min, All}
use Rattle.mt_words.specs.declared.update.Update.{Update}
use Rattle.mt_words.specs.Updates.{updates_from}
use Rattle.mt_words.specs.OneLog.{kept_updates}
use Rattle.mt_record.specs.declared.feed.head.Segment.{Segment}
use Rattle.mt_record.specs.Logs.{LogReading, IsReading}
use Rattle.mt_board.specs.Board.{PassView, least_of}
use Rattle.mt_scan.specs.declared.log_scan.LogScan.{LogScan}
use Rattle.mt_scan.specs.Scans.{last_in, HasNumbersOf}

-- The scan shows the log with this number: the log's numbers, and its first updates, among them all that are below `limit`. The rest was dropped: it
-- is counted, but not kept.
pub record ShowsAllBelow (limit number : ℕ) (scan : LogScan) (log : LogReading) : Type 0 where
  pub numbers : HasNumbersOf scan log
  pub lost : List Update
  pub updates : kept_updates scan.updates ++ lost ≡ updates_from number 0 log.records
  pub past : All (λ update. limit ≤ update.timestamp) lost
  pub dropped : scan.dropped ≡ length lost

-- the scan of the log with this number, encoded by these bytes, with all its updates below `limit`
pub record HasAllBelow (limit number : ℕ) (bytes : List ℕ) (scan : LogScan) : Type 0 where
  pub log : LogReading
  pub is_reading : IsReading bytes log
  pub shows : ShowsAllBelow limit number scan log

-- all updates that the scan kept are below `limit`
abbrev pub KeepsOnlyBelow : ℕ → LogScan → Type 0
KeepsOnlyBelow limit scan = All (λ update. update.timestamp < limit) (kept_updates scan.updates)

-- The pass looked at least once more, and the least number of all its looks is at most what it had noted before. Nothing else of it has changed,
-- except perhaps the number that it noted.
pub record HasLooked (before after : PassView) : Type 0 where
  pub first : ℕ
  pub more : List ℕ
  pub looks : after.looks ≡ before.looks ++ first ∷ more
  pub low : least_of after.looks ≤ before.noted
  pub rest : after ≡ record before { looks = after.looks; noted = after.noted }

-- the last timestamp of a file that is no segment
abbrev pub noted_by : Option Segment → ℕ → Option ℕ
noted_by None last = Some last
noted_by (Some segment) last = None

-- what the scan of a file notes: its last timestamp, or nothing for a segment, since the last timestamp of its log may be greater
abbrev pub noted_for : LogScan → Option ℕ
noted_for scan = noted_by scan.front.head.segment (last_in scan.front)

-- what a pass has noted, after it perhaps noted one more number
abbrev pub lowered_by : ℕ → Option ℕ → ℕ
lowered_by noted None = noted
lowered_by noted (Some number) = min noted number

-- A scan of the log with this number, during which the pass looked: the scan kept exactly the updates below the least number that the pass has then
-- seen. At the end the pass noted what the scan of this log notes.
pub record IsSharedScan (number : ℕ) (before after : PassView) (bytes : List ℕ) (scan : LogScan) : Type 0 where
  pub looked : HasLooked before after
  pub noted : after.noted ≡ lowered_by before.noted (noted_for scan)
  pub is : HasAllBelow (least_of after.looks) number bytes scan
  pub kept : KeepsOnlyBelow (least_of after.looks) scan
