use Rattle.std.proofs.Common.{◌≡◌, List, ◌++◌, length}
use Rattle.std.specs.List.{flat_map}
use Rattle.mt_words.specs.Limits.{limits_of}
use Rattle.mt_words.specs.Changes.{Logged}
use Rattle.mt_record.specs.Spelling.{spelling}
use Rattle.mt_record.specs.Logs.{AreRecords, latest, count_of}
use Rattle.mt_record.specs.Steps.Splits.{IsSplitOf}
use Rattle.mt_record.proofs.resume.split_records.Given as goal

-- these records were read, and split
abbrev pub invariant-loop-timestamp : goal.invariant-loop-timestamp
invariant-loop-timestamp l = record {
  records : List Logged;
  spelled : l.bytes ≡ flat_map spelling records ++ l.rest;
  lawful : AreRecords (limits_of l.format) 0 records;
  latest : l.latest ≡ latest 0 records;
  nth : l.nth ≡ count_of records;
  is_split : IsSplitOf l.cutoff records l.split;
}

abbrev pub decreases-loop-timestamp : goal.decreases-loop-timestamp
decreases-loop-timestamp l = length l.rest
