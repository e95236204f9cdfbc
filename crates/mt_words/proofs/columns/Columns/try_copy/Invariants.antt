use Rattle.std.proofs.Common.{◌≡◌, take}
use Rattle.mt_words.proofs.columns.Columns.try_copy.Given as goal

-- the columns so far are copied
abbrev pub invariant-loop-column : goal.invariant-loop-column
invariant-loop-column l = l.columns.items ≡ take l.column-index l.column-items
