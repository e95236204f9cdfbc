-- Columns and their numbers in memory, and what may be appended to them.
use Rattle.std.specs.Prelude.{ℕ, ◌<◌, List}
use Rattle.std.specs.List.{AllByRecursion}
use Rattle.mt_words.specs.declared.limits.Limits.{Limits}
use Rattle.mt_words.specs.Words.{IsColumn}

-- each number is below the limit
abbrev pub AllBelow : List ℕ → ℕ → Type 0
AllBelow numbers limit = AllByRecursion (λ number. number < limit) numbers

-- the number of each column is below this one
abbrev pub NumbersBelow : List (ℕ × List ℕ) → ℕ → Type 0
NumbersBelow columns number = AllByRecursion (λ column. column.0 < number) columns

-- a lawful column that may be appended to these: its number is above theirs
abbrev pub CanFollow : Limits → List (ℕ × List ℕ) → ℕ × List ℕ → Type 0
CanFollow limits columns column = IsColumn limits column × NumbersBelow columns column.0
