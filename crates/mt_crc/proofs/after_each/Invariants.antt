use Rattle.std.proofs.Common.{◌≡◌, drop}
use Rattle.mt_crc.specs.Crc.{remainder}
use Rattle.mt_crc.proofs.after_each.Given as goal

abbrev pub invariant-loop-byte : goal.invariant-loop-byte
invariant-loop-byte l = remainder l.state (drop l.byte-index l.bytes) ≡ remainder l.fn.before l.bytes
