use Rattle.std.proofs.Common.{◌≡◌, ◌+◌, length, map}
use Rattle.mt_record.specs.Given.{column_of}
use Rattle.mt_record.proofs.Encoding.{first_bytes}
use Rattle.mt_record.proofs.encode.given.columns_length.Given as goal

-- the length so far is that of the first columns, and one byte for the count
abbrev pub invariant-loop-column : goal.invariant-loop-column
invariant-loop-column l = l.length ≡ 1 + length (first_bytes l.column-index (map column_of l.columns))
