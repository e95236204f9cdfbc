-- Changes as a server gives them.
use Rattle.std.specs.Prelude.{ℕ, List, map}
use Rattle.mt_words.specs.declared.record.Change.{Change}
use Rattle.mt_words.specs.declared.update.Kind.{Kind}
use Rattle.mt_words.specs.declared.update.Kind.TheVariants as kinds
use Rattle.mt_record.specs.declared.encode.given.Given.{Given}
use Rattle.mt_record.specs.declared.encode.given.GivenKind.{GivenKind}
use Rattle.mt_record.specs.declared.encode.given.GivenKind.TheVariants.{Put, Remove, Whole, Erase}
use Rattle.mt_record.specs.declared.encode.given.GivenChange.{GivenChange}

-- the number and the bytes of the value
abbrev pub column_of : Given → ℕ × List ℕ
column_of given = (given.number, given.bytes.now)

abbrev pub kind_of : GivenKind → Kind
kind_of (Put columns) = kinds.Put (map column_of columns.now)
kind_of Remove = kinds.Remove
kind_of (Whole columns) = kinds.Whole (map column_of columns.now)
kind_of (Erase numbers) = kinds.Erase numbers.now

abbrev pub change_of : GivenChange → Change
change_of given = record { version = given.version; key = given.key.now; kind = kind_of given.kind }
