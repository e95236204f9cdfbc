-- The values and facts that the contracts of a board and its passes speak of.
use Rattle.std.specs.Prelude.{◌≡◌, ℕ, zero, suc, ◌+◌, ◌-◌, ◌^◌, ◌<◌, ◌≤◌, ◌==◌, Bool, false, List, [], ◌∷◌, ◌++◌, map, max, min, sum_by, count_by, All, if◌then◌else◌, nat_lt}
use Rattle.atomic_table.specs.Seated.{TableId}
use Rattle.mt_board.specs.declared.board.TheConstants.{MOST_NUMBERS, MOST_PASSES}
use Rattle.mt_board.specs.declared.board.BoardFault.{BoardFault}
use Rattle.mt_board.specs.declared.board.BoardFault.TheVariants.{Total, Passes, Memory}

-- a board: which one it is, how many numbers it gives out, and how many passes it has
pub record BoardId : Type 0 where
  pub table : TableId
  pub total : ℕ
  pub passes : ℕ

-- a pass of this board: which one it is, and what it did
pub record PassView : Type 0 where
  pub board : BoardId
  pub number : ℕ
  -- the numbers that it drew, in order
  pub draws : List ℕ
  -- whether it found that no number is left
  pub done : Bool
  -- the least number that it noted
  pub noted : ℕ
  -- the numbers that its looks found, in order
  pub looks : List ℕ

-- how many numbers and passes a board may have: at most MOST_NUMBERS, and 1 to MOST_PASSES
abbrev pub IsTotal : ℕ → Type 0
IsTotal total = total ≤ MOST_NUMBERS

abbrev pub IsPassCount : ℕ → Type 0
IsPassCount passes = (1 ≤ passes) × (passes ≤ MOST_PASSES)

abbrev pub AreCounts : ℕ → ℕ → Type 0
AreCounts total passes = IsTotal total × IsPassCount passes

-- the fault is true of these counts: the total is checked first, then the passes; out of memory comes only if both are lawful
abbrev pub IsBoardFault : ℕ → ℕ → BoardFault → Type 0
IsBoardFault total passes Total = ¬ (IsTotal total)
IsBoardFault total passes Passes = IsTotal total × (¬ (IsPassCount passes))
IsBoardFault total passes Memory = AreCounts total passes

-- the value that stands for the least number noted if none was: the greatest u64
abbrev pub nothing_noted : ℕ
nothing_noted = 2 ^ 64 - 1

-- a pass that has done nothing
abbrev pub fresh_pass : BoardId → ℕ → PassView
fresh_pass board number = record { board = board; number = number; draws = []; done = false; noted = nothing_noted; looks = [] }

-- the first n passes of a new board, in order of their numbers
abbrev pub fresh_passes : BoardId → ℕ → List PassView
fresh_passes board zero = []
fresh_passes board (suc n) = fresh_passes board n ++ fresh_pass board n ∷ []

-- how often x occurs in the list
abbrev pub times : ℕ → List ℕ → ℕ
times x xs = count_by (λ y. y == x) xs

-- 1 if x is below n, else 0
abbrev pub once_below : ℕ → ℕ → ℕ
once_below x n = if nat_lt x n then 1 else 0

-- how often the passes drew x
abbrev pub times_drawn : ℕ → List PassView → ℕ
times_drawn x passes = sum_by (λ (p : PassView). times x p.draws) passes

-- together the passes drew each number below n once, and no other
abbrev pub DrewEachBelow : ℕ → List PassView → Type 0
DrewEachBelow n passes = (x : ℕ) → times_drawn x passes ≡ once_below x n

-- for some n up to the total, the passes together drew each number below n once, and no other
abbrev pub DrewFromBelow : ℕ → List PassView → Type 0
DrewFromBelow total passes = (n : ℕ) × (n ≤ total) × DrewEachBelow n passes

-- at least one of the passes found that no number is left
abbrev pub SomeIsDone : List PassView → Type 0
SomeIsDone passes = 0 < count_by (λ (p : PassView). p.done) passes

-- the least of these numbers and the greatest u64
abbrev pub least_of : List ℕ → ℕ
least_of [] = nothing_noted
least_of (n ∷ ns) = min n (least_of ns)

-- the least number that one of the passes noted
abbrev pub least_noted : List PassView → ℕ
least_noted passes = least_of (map (λ (p : PassView). p.noted) passes)

-- no look of any of the passes found a number below m
abbrev pub SawNoneBelow : ℕ → List PassView → Type 0
SawNoneBelow m passes = All (λ (p : PassView). All (λ look. m ≤ look) p.looks) passes

-- The least number above all those in the list. A pass with these draws can still draw at most the total minus this number.
abbrev pub above : List ℕ → ℕ
above [] = 0
above (x ∷ xs) = max (x + 1) (above xs)
