use Rattle.std.proofs.Common.{◌≡◌, ◌++◌, ℕ, List, length}
use Rattle.mt_tree.specs.Range.{wanted_of}
use Rattle.mt_tree.proofs.hit.copy_wanted.Given as goal

-- the wanted columns among those seen are copied
abbrev pub invariant-loop-number : goal.invariant-loop-number
invariant-loop-number l = record {
  seen : List (ℕ × List ℕ);
  were : l.columns ≡ seen ++ l.rest;
  copied : l.copies ≡ wanted_of l.wanted seen;
}

abbrev pub decreases-loop-number : goal.decreases-loop-number
decreases-loop-number l = length l.rest
