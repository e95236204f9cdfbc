use Rattle.std.proofs.Common.{◌≤◌, length}
use Rattle.mt_record.proofs.feed.cutter.behind_blocks.Given as goal

-- no byte was added
abbrev pub invariant-sealed : goal.invariant-sealed
invariant-sealed l = length l.rest ≤ length l.bytes

abbrev pub decreases-sealed : goal.decreases-sealed
decreases-sealed l = length l.rest
