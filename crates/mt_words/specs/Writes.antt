-- Lawful writes of columns.
use Rattle.std.specs.Prelude.{◌≤◌, List, length, map, IfSome}
use Rattle.mt_words.specs.declared.limits.Limits.{Limits}
use Rattle.std.specs.List.{AllByRecursion}
use Rattle.mt_words.specs.declared.limits.TheConstants.{LONGEST_VALUE}
use Rattle.mt_words.specs.Words.{Rise}
use Rattle.mt_words.specs.Changes.{Write}

-- a lawful write: a column number that the format allows and, if it sets bytes, at most LONGEST_VALUE of them
abbrev pub IsWrite : Limits → Write → Type 0
IsWrite limits write = (write.0 ≤ limits.column) × IfSome write.1 (λ bytes. length bytes ≤ LONGEST_VALUE)

-- lawful writes whose column numbers strictly rise, so that each column is written once
abbrev pub AreWrites : Limits → List Write → Type 0
AreWrites limits writes = AllByRecursion (IsWrite limits) writes × Rise 0 (map (λ write. write.0) writes)
