use Rattle.std.proofs.Common.{length}
use Rattle.mt_record.proofs.feed.cutter.behind_records.Given as goal

abbrev pub decreases-records : goal.decreases-records
decreases-records l = length l.rest
