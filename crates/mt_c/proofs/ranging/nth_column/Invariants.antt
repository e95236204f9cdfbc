use Rattle.std.proofs.Common.{◌≡◌, ◌-◌}
use Rattle.std.specs.Prelude.{slice_get}
use Rattle.mt_c.proofs.ranging.nth_column.Given as goal

-- the rest has the column, nearer by the columns that were taken
abbrev pub invariant-loop : goal.invariant-loop
invariant-loop l = slice_get l.columns l.nth ≡ slice_get l.rest (l.nth - l.counter)
