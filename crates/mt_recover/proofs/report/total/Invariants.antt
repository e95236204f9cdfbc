use Rattle.std.proofs.Common.{◌≡◌, ◌*◌, ◌-◌, ◌^◌, ◌≤◌, ℕ, take}
use Rattle.std.specs.Fn.{FnReturnsAt}
use Rattle.std.specs.List.{sum_by}
use Rattle.mt_recover.proofs.report.total.Given as goal

-- the sum of the numbers of the first items, each at most the greatest u64
abbrev pub invariant-loop-item : goal.invariant-loop-item
invariant-loop-item g l = record {
  bounded : l.sum ≤ l.item-index * (2 ^ 64 - 1);
  sums : (of : _ → ℕ) → ((x : _) (n : ℕ) → FnReturnsAt g.F.Fn l.number x n → n ≡ of x) → l.sum ≡ sum_by of (take l.item-index l.items);
}
