-- The limits of each format.
use Rattle.std.specs.Prelude.{ℕ, List, [], ◌∷◌, ◌++◌}
use Rattle.mt_words.specs.declared.limits.Format.{Format}
use Rattle.mt_words.specs.declared.limits.Format.TheVariants.{One, Two}
use Rattle.mt_words.specs.declared.limits.Limits.{Limits}
use Rattle.mt_words.specs.declared.limits.TheConstants.{LONGEST_KEY, GREATEST_COLUMN}

-- the limits of a format; the digits are the bytes of "1" and "2"
abbrev pub limits_of : Format → Limits
limits_of One = record { digit = 49; key = 1024; column = 15; kind = 3 }
limits_of Two = record { digit = 50; key = LONGEST_KEY; column = GREATEST_COLUMN; kind = 4 }

-- the format that allows everything that any format allows
abbrev pub widest_format : Format
widest_format = Two

-- the limits of keys and columns in memory
abbrev pub widest : Limits
widest = limits_of widest_format

-- the first bytes of a file of this format: three letters, then the digit
abbrev pub magic : List ℕ → Format → List ℕ
magic letters format = letters ++ (limits_of format).digit ∷ []
