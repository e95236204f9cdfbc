-- Laws of all formats. A new format needs one more equation in `within` and `found`, and a place in `all_formats`.
use Rattle.std.proofs.Common.{◌≡◌, ℕ, ◌≤◌, Bool, true, false, Option, Some, None, List, [], ◌∷◌, refl, sym, ap, ◌∙◌, arith}
use Rattle.std.specs.Prelude.{◌==◌}
use Rattle.std.specs.List.{AllByRecursion}
use Rattle.mt_words.specs.declared.limits.Format.{Format}
use Rattle.mt_words.specs.declared.limits.Format.TheVariants.{One, Two}
use Rattle.mt_words.specs.declared.limits.Limits.{Limits}
use Rattle.mt_words.specs.declared.record.Change.{Change}
use Rattle.mt_words.specs.declared.update.Kind.{Kind}
use Rattle.mt_words.specs.declared.update.Kind.TheVariants.{Put, Remove, Whole, Erase}
use Rattle.mt_words.specs.Limits.{limits_of, widest}
use Rattle.mt_words.specs.Words.{IsColumn, AreNumbers}
use Rattle.mt_words.specs.Changes.{AllowsKind, IsLawfulChange}

-- the limits are at most the widest, and allow puts, removes and marks
pub record IsWithin (limits : Limits) : Type 0 where
  pub key : limits.key ≤ widest.key
  pub column : limits.column ≤ widest.column
  pub kinds : 3 ≤ limits.kind
  pub all_kinds : limits.kind ≤ widest.kind

pub within : (format : Format) → IsWithin (limits_of format)
within One = record { key = omega arith; column = omega arith; kinds = omega arith; all_kinds = omega arith }
within Two = record { key = omega arith; column = omega arith; kinds = omega arith; all_kinds = omega arith }

-- ---- digits

-- the format if the test is true, else the other result
abbrev either : Bool → Format → Option Format → Option Format
either true format other = Some format
either false format other = other

-- the first of these formats that has the digit
abbrev first_with : ℕ → List Format → Option Format
first_with digit [] = None
first_with digit (format ∷ formats) = either ((limits_of format).digit == digit) format (first_with digit formats)

abbrev all_formats : List Format
all_formats = One ∷ Two ∷ []

found : (format : Format) → first_with (limits_of format).digit all_formats ≡ Some format
found One = refl
found Two = refl

abbrev or_else : Format → Option Format → Format
or_else format None = format
or_else format (Some other) = other

-- two formats with the same digit are the same
pub same_format : (a b : Format) → (limits_of a).digit ≡ (limits_of b).digit → a ≡ b
same_format a b e = ap (or_else a) (sym (found a) ∙ ap (λ (digit : ℕ). first_with digit all_formats) e ∙ found b)

-- ---- kinds

-- columns that a format allows are within the widest limits
columns_within : (format : Format) (columns : List (ℕ × List ℕ)) → AllByRecursion (IsColumn (limits_of format)) columns → AllByRecursion (IsColumn widest) columns
columns_within format [] all = tt
columns_within format (c ∷ cs) all = let room = within format in ((omega (arith, all.0.0, room.column), all.0.1), columns_within format cs all.1)

numbers_within : (format : Format) (numbers : List ℕ) → AllByRecursion (λ number. number ≤ (limits_of format).column) numbers → AllByRecursion (λ number. number ≤ widest.column) numbers
numbers_within format [] all = tt
numbers_within format (n ∷ ns) all = let room = within format in (omega (arith, all.0, room.column), numbers_within format ns all.1)

pub some_numbers_within : (format : Format) (numbers : List ℕ) → AreNumbers (limits_of format) numbers → AreNumbers widest numbers
some_numbers_within format numbers are = (numbers_within format numbers are.0, are.1)

-- kinds that a format allows are within the widest limits
pub kind_within : (format : Format) (kind : Kind) → AllowsKind (limits_of format) kind → AllowsKind widest kind
kind_within format (Put columns) allows = ((columns_within format columns allows.0.0, allows.0.1), allows.1)
kind_within format Remove allows = tt
kind_within format (Whole columns) allows = ((columns_within format columns allows.0.0, allows.0.1), allows.1)
kind_within format (Erase numbers) allows = let room = within format in (omega (arith, allows.0, room.all_kinds), (numbers_within format numbers allows.1.0, allows.1.1), allows.2)

-- changes that a format allows are within the widest limits
pub change_within : (format : Format) (change : Change) → IsLawfulChange (limits_of format) change → IsLawfulChange widest change
change_within format change is =
    let room = within format in
    record { version = is.version; version_fits = is.version_fits; key = omega (arith, is.key, room.key); kind = kind_within format change.kind is.kind }
