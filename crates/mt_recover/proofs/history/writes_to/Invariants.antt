use Rattle.std.proofs.Common.{ℕ, Option, List, Contains, length}
use Rattle.mt_words.specs.Changes.{Write, writes_of}
use Rattle.mt_recover.proofs.history.writes_to.Given as goal

-- the writes that are left are some of all, and one to the column is still to come
abbrev pub invariant-loop-other : goal.invariant-loop-other
invariant-loop-other l = record {
  among : (write : Write) → Contains l.writes write → Contains (writes_of l.update.kind) write;
  all : (bytes : Option (List ℕ)) → Contains (writes_of l.update.kind) (l.number, bytes) → Contains l.writes (l.number, bytes);
}

abbrev pub decreases-loop-other : goal.decreases-loop-other
decreases-loop-other l = length l.writes
