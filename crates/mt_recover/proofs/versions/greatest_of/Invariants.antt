use Rattle.std.proofs.Common.{◌≡◌, ℕ, map, take}
use Rattle.std.specs.Fn.{FnReturnsAt}
use Rattle.mt_record.specs.LogTexts.{greatest}
use Rattle.mt_recover.proofs.versions.greatest_of.Given as goal

-- the greatest of the numbers of the first items
abbrev pub invariant-loop-item : goal.invariant-loop-item
invariant-loop-item g l = (of : _ → ℕ) → ((x : _) (n : ℕ) → FnReturnsAt g.F.Fn l.number x n → n ≡ of x) → l.most ≡ greatest (map of (take l.item-index l.items))
