use Rattle.std.proofs.Common.{◌≡◌, ◌++◌, take}
use Rattle.mt_record.proofs.kept.byte_strings.ByteStrings.copy.Given as goal

-- the first texts are appended
abbrev pub invariant-loop-at : goal.invariant-loop-at
invariant-loop-at l = l.self ≡ l.fn.self ++ take l.at l.more
