-- The text of pairs.
use Rattle.std.specs.Prelude.{ℕ, Option, List, ◌++◌, codes, decimal}
use Rattle.std.specs.List.{flat_map}
use Rattle.std.proofs.Common.{sym, subst}
use Rattle.std.proofs.KnownBytes.{Appends-trans}
use Rattle.std.proofs.lemmas.List.Concat.{flat_map-append}
use Rattle.hex.specs.Hex.{encode_lower}
use Rattle.std.specs.Io.KnownBytes.{Appends}
use Rattle.mt_words.specs.Walks.{Pair}

-- a space, the number, an equals sign, and the bytes in lowercase hexadecimal
abbrev pub column_text : ℕ × List ℕ → List ℕ
column_text column = codes " " ++ (decimal column.0 ++ (codes "=" ++ encode_lower column.1))

-- the key in lowercase hexadecimal, a colon, the columns, and a line feed
abbrev pub pair_text : Pair → List ℕ
pair_text pair = encode_lower pair.0 ++ (codes ":" ++ (flat_map column_text pair.1 ++ codes "\n"))

abbrev pub dump_text : List Pair → List ℕ
dump_text pairs = flat_map pair_text pairs

-- two dumps printed one after the other are the dump of both lists of pairs
pub dump_both : (a b c : Option (List ℕ)) (v w : List Pair) → Appends a b (dump_text v) → Appends b c (dump_text w) → Appends a c (dump_text (v ++ w))
dump_both a b c v w first second = subst (Appends a c) (sym (flat_map-append pair_text v w)) (Appends-trans a b c (dump_text v) (dump_text w) first second)
