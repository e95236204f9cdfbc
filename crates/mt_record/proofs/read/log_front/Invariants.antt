use Rattle.std.proofs.Common.{◌≤◌, ◌-◌, List, length, take}
use Rattle.mt_words.specs.Changes.{Logged}
use Rattle.mt_record.specs.LogFeeding.{IsLogFed}
use Rattle.mt_record.proofs.read.log_front.Given as goal

-- the feed was fed the bytes read so far
abbrev pub invariant-loop-read : goal.invariant-loop-read
invariant-loop-read l = record {
  within : l.read ≤ length l.bytes;
  taken : List Logged;
  fed : IsLogFed l.feed (take l.read l.bytes) taken;
}

abbrev pub decreases-loop-read : goal.decreases-loop-read
decreases-loop-read l = length l.bytes - l.read
