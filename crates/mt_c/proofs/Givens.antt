-- How many columns a change has.
use Rattle.std.proofs.Common.{◌≡◌, ℕ, suc, ◌+◌, ◌≤◌, List, [], ◌∷◌, length, map, arith}
use Rattle.std.specs.List.{AllByRecursion}
use Rattle.mt_words.specs.Limits.{widest}
use Rattle.mt_words.specs.Words.{IsColumn, AreColumns, Rise, NumbersRise, AreNumbers}
use Rattle.mt_record.specs.declared.encode.given.Given.{Given}
use Rattle.mt_record.specs.Given.{column_of}

rising : (low : ℕ) (numbers : List ℕ) → low ≤ 64 → AllByRecursion (λ number. number ≤ 63) numbers → Rise low numbers → length numbers + low ≤ 64
rising low [] within all rise = omega (arith, within)
rising low (number ∷ numbers) within all rise = omega (arith, rise.0, rising (suc number) numbers (omega (arith, all.0)) all.1 rise.1)

rising_columns : (low : ℕ) (columns : List (ℕ × List ℕ)) → low ≤ 64 → AllByRecursion (IsColumn widest) columns → NumbersRise low columns → length columns + low ≤ 64
rising_columns low [] within all rise = omega (arith, within)
rising_columns low (column ∷ columns) within all rise = omega (arith, rise.0, rising_columns (suc column.0) columns (omega (arith, all.0.0)) all.1 rise.1)

length_map : (columns : List Given) → length (map column_of columns) ≡ length columns
length_map [] = omega arith
length_map (column ∷ columns) = omega (arith, length_map columns)

pub few_columns : (columns : List Given) → AreColumns widest (map column_of columns) → length columns ≤ 64
few_columns columns are = omega (arith, length_map columns, rising_columns 0 (map column_of columns) (omega arith) are.0 are.1)

pub few_numbers : (numbers : List ℕ) → AreNumbers widest numbers → length numbers ≤ 64
few_numbers numbers are = omega (arith, rising 0 numbers (omega arith) are.0 are.1)
