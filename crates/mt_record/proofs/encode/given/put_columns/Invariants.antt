use Rattle.std.proofs.Common.{◌∷◌, length, map}
use Rattle.mt_record.specs.Given.{column_of}
use Rattle.mt_record.specs.Steps.Adding.{Adds}
use Rattle.mt_record.proofs.Encoding.{first_bytes}
use Rattle.mt_record.proofs.encode.given.put_columns.Given as goal

-- the count of all columns and the first columns were appended
abbrev pub invariant-loop-column : goal.invariant-loop-column
invariant-loop-column l = Adds (length l.columns ∷ first_bytes l.column-index (map column_of l.columns)) l.fn.out l.out
