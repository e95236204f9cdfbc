use Rattle.mt_scan.specs.Steps.Selections.{IsSelectionOf}
use Rattle.mt_scan.proofs.selection.select.Given as goal

-- what was found among the groups so far
abbrev pub invariant-loop-number : goal.invariant-loop-number
invariant-loop-number l = IsSelectionOf l.yielded l.cutoff l.selection
