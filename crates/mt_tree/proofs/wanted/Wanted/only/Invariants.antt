use Rattle.std.proofs.Common.{◌≡◌, ℕ, ◌≤◌, length, take, nat_eq}
use Rattle.std.specs.List.{AllByRecursion, list_any}
use Rattle.mt_words.specs.declared.limits.TheConstants.{GREATEST_COLUMN, MOST_COLUMNS}
use Rattle.mt_tree.specs.Range.{wants}
use Rattle.mt_tree.proofs.wanted.Wanted.only.Given as goal

-- the numbers so far are wanted, and no others
abbrev pub invariant-loop-number : goal.invariant-loop-number
invariant-loop-number l = record {
  room : length l.flags ≡ MOST_COLUMNS;
  accepted : AllByRecursion (λ number. number ≤ GREATEST_COLUMN) (take l.number-index l.numbers);
  value : (number : ℕ) → wants l.flags number ≡ list_any (nat_eq number) (take l.number-index l.numbers);
}
