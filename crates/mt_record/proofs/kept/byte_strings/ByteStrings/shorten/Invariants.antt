use Rattle.std.proofs.Common.{◌≡◌, ◌≤◌, length, take}
use Rattle.mt_record.proofs.kept.byte_strings.ByteStrings.shorten.Given as goal

-- the first texts are left
abbrev pub invariant-texts : goal.invariant-texts
invariant-texts l = record {
  some : l.count ≤ length l.self;
  same : take l.count l.self ≡ take l.count l.fn.self;
}

abbrev pub decreases-texts : goal.decreases-texts
decreases-texts l = length l.self
