use Rattle.std.proofs.Common.{◌↔◌, map}
use Rattle.mt_words.specs.Limits.{limits_of}
use Rattle.mt_words.specs.Words.{AreColumns}
use Rattle.mt_record.specs.Given.{column_of}
use Rattle.mt_record.proofs.GivenLemmas.{AreFrom}
use Rattle.mt_record.proofs.encode.given.are_columns.Given as goal

-- all are lawful exactly if the columns that are left are
abbrev pub invariant-loop-column : goal.invariant-loop-column
invariant-loop-column l = AreColumns (limits_of l.fn.format) (map column_of l.columns) ↔ AreFrom (limits_of l.fn.format) l.least l.column-index l.columns
