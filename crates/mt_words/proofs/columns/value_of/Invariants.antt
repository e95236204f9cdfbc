use Rattle.std.proofs.Common.{◌<◌, ◌≢◌, ℕ, List, get_or}
use Rattle.mt_words.proofs.columns.value_of.Given as goal

-- no column so far has the number
abbrev pub invariant-loop-column : goal.invariant-loop-column
invariant-loop-column l = (k : ℕ) (d : ℕ × List ℕ) → k < l.column-index → (get_or l.columns k d).0 ≢ l.number
