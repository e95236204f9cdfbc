-- Lemmas for callers that draw until no number is left.
use Rattle.std.proofs.Common.{ℕ, suc, ◌+◌, ◌-◌, ◌<◌, ◌≤◌, List, [], ◌∷◌, ◌++◌, arith}
use Rattle.std.specs.List.{All}
use Rattle.mt_board.specs.Board.{above}

above_le : (xs : List ℕ) (n : ℕ) → All (λ x. x < n) xs → above xs ≤ n
above_le [] n h = omega arith
above_le (x ∷ xs) n h = let first : x < n = h 0 0 (omega arith) in omega (arith, above_le xs n (λ k d lt. h (suc k) d (omega arith)))

above_push : (xs : List ℕ) (n : ℕ) → n + 1 ≤ above (xs ++ n ∷ [])
above_push [] n = omega arith
above_push (x ∷ xs) n = omega (arith, above_push xs n)

-- each draw lowers the count of numbers that a pass can still draw
pub left_falls : (xs : List ℕ) (n total : ℕ) → n < total → All (λ x. x < n) xs → total - above (xs ++ n ∷ []) < total - above xs
left_falls xs n total lt h = omega (arith, above_le xs n h, above_push xs n)
