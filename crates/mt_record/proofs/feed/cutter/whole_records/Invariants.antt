use Rattle.std.proofs.Common.{◌<◌, ◌≤◌, length}
use Rattle.mt_record.proofs.feed.cutter.whole_records.Given as goal

-- no byte was added, and fewer records follow than fill a block
abbrev pub invariant-records : goal.invariant-records
invariant-records l = record {
  rest : length l.rest ≤ length l.bytes;
  behind : length l.behind ≤ length l.bytes;
  count : l.count < 512;
}

abbrev pub decreases-records : goal.decreases-records
decreases-records l = length l.rest
