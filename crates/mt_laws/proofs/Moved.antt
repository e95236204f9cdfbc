-- When a column that some updates leave to a key is left by other updates too.
use Rattle.std.proofs.Common.{◌≡◌, ◌⊎◌, ◌↔◌, inl, inr, ℕ, ◌<◌, ◌≤◌, Option, Some, List, Contains, ap, arith}
use Rattle.mt_words.specs.declared.update.Stamp.{Stamp}
use Rattle.mt_words.specs.declared.update.Update.{Update}
use Rattle.mt_words.specs.Changes.{Writes, IsReset}
use Rattle.mt_words.specs.Stamps.{IsAtMost}
use Rattle.mt_words.specs.Walks.{Pair}
use Rattle.mt_replay.specs.KeyColumns.{HasColumn}
use Rattle.mt_replay.specs.Walk.{IsWalk}

-- a stamp that is at most another has at most its version
pub version_at_most : (a b : Stamp) → IsAtMost a b → a.version ≤ b.version
version_at_most a b (inl same) = let e : a.version ≡ b.version = ap (λ (s : Stamp). s.version) same in omega arith
version_at_most a b (inr (inl less)) = omega (arith, less)
version_at_most a b (inr (inr same)) = omega (arith, same.0)

pub version_below : (a b : Stamp) → a.version < b.version → IsAtMost a b
version_below a b less = inr (inl less)

-- the update is of the key, and writes the column or resets the key
pub record Decides (key : List ℕ) (number : ℕ) (u : Update) : Type 0 where
  pub of_key : u.key ≡ key
  pub how : ((bytes : Option (List ℕ)) × Writes u.kind number bytes) ⊎ IsReset u.kind

-- no update that decides a column is greater than its write
pub at_most : (us : List Update) (key : List ℕ) (number : ℕ) (bytes : List ℕ) (h : HasColumn us key number bytes) (u : Update) → Contains us u → Decides key number u
    → IsAtMost u.stamp h.write.stamp
at_most us key number bytes h u at decides = elim decides.how as (λ _. IsAtMost u.stamp h.write.stamp) [
  | inl written ↦ h.greatest u written.0 at decides.of_key written.1
  | inr resets ↦ h.kept u at decides.of_key resets
]

-- a column, by its write and a bound on all updates that decide it
pub column_by : (us : List Update) (key : List ℕ) (number : ℕ) (bytes : List ℕ) (write : Update) → Contains us write → write.key ≡ key → Writes write.kind number (Some bytes)
    → ((u : Update) → Contains us u → Decides key number u → IsAtMost u.stamp write.stamp) → HasColumn us key number bytes
column_by us key number bytes write stands of_key writes bound = record {
  write = write;
  stands = stands;
  of_key = of_key;
  writes = writes;
  greatest = λ u other at same written. bound u at (record { of_key = same; how = inl (other, written) });
  kept = λ u at same resets. bound u at (record { of_key = same; how = inr resets });
}

-- if other updates have the column's write, and each of them that decides the column is among the first or at most the write, they leave it too
pub moved : (us vs : List Update) (key : List ℕ) (number : ℕ) (bytes : List ℕ) (h : HasColumn us key number bytes) → Contains vs h.write
    → ((u : Update) → Contains vs u → Decides key number u → Contains us u ⊎ IsAtMost u.stamp h.write.stamp) → HasColumn vs key number bytes
moved us vs key number bytes h stands each = column_by vs key number bytes h.write stands h.of_key h.writes (λ u at decides.
    elim (each u at decides) as (λ _. IsAtMost u.stamp h.write.stamp) [ inl there ↦ at_most us key number bytes h u there decides | inr low ↦ low ])

-- updates that leave the same columns have the same walks
pub same_walk : (us vs : List Update) (pairs : List Pair) → ((key : List ℕ) (number : ℕ) (bytes : List ℕ) → HasColumn us key number bytes ↔ HasColumn vs key number bytes)
    → IsWalk us pairs → IsWalk vs pairs
same_walk us vs pairs same walk = record {
  map = walk.map;
  exact = λ key number bytes. (
    λ holds. (same key number bytes).0 ((walk.exact key number bytes).0 holds),
    λ column. (walk.exact key number bytes).1 ((same key number bytes).1 column),
  );
}
