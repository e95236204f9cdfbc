-- The feed of a check.
use Rattle.std.specs.Prelude.{◌≡◌, ℕ, ◌<◌, ◌^◌, List, [], length, filter}
use Rattle.mt_words.specs.Changes.{Logged, is_mark}
use Rattle.mt_record.specs.LogFeeding.{IsLogFed}
use Rattle.mt_scan.specs.declared.checking.CheckingFeed.{CheckingFeed}
use Rattle.mt_scan.specs.Checks.{is_late_record}

-- these bytes were fed, and all their records, which are fewer than 2 ^ 64, were counted
pub record HasCounted (feed : CheckingFeed) (bytes : List ℕ) : Type 0 where
  pub records : List Logged
  pub fed : IsLogFed feed.feed bytes records
  pub none : feed.feed.so_far.ready ≡ []
  pub few : length records < 2 ^ 64
  pub marks : feed.marks ≡ length (filter is_mark records)
  pub late : feed.late ≡ length (filter (is_late_record feed.limit) records)

-- since the check began with this limit, these bytes were fed
abbrev pub Counts : CheckingFeed → CheckingFeed → List ℕ → Type 0
Counts begun now bytes = (now.limit ≡ begun.limit) × HasCounted now bytes
