use Rattle.std.proofs.Common.{◌≡◌, ◌<◌, ◌++◌, List, length}
use Rattle.std.specs.List.{flat_map, AllByRecursion}
use Rattle.mt_words.specs.Limits.{limits_of}
use Rattle.mt_words.specs.Changes.{Logged}
use Rattle.mt_record.specs.Spelling.{spelling}
use Rattle.mt_record.specs.Logs.{AreRecords, latest}
use Rattle.mt_record.proofs.salvage.records_below.Given as goal

-- these records were read, all below the timestamp
abbrev pub invariant-records : goal.invariant-records
invariant-records l = record {
  records : List Logged;
  spelled : l.bytes ≡ flat_map spelling records ++ l.rest;
  lawful : AreRecords (limits_of l.format) 0 records;
  below : AllByRecursion (λ r. r.timestamp < l.timestamp) records;
  last : l.last ≡ latest 0 records;
}

abbrev pub decreases-records : goal.decreases-records
decreases-records l = length l.rest
