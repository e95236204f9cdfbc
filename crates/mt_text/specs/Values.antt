-- The text of the values of a report, in JSON or not.
use Rattle.std.specs.Prelude.{ℕ, Bool, true, false, Option, Some, None, List, [], ◌∷◌, ◌++◌, codes, decimal}
use Rattle.mt_text.specs.declared.value.Value.{Value}
use Rattle.mt_text.specs.declared.value.Value.TheVariants.{Number, Perhaps, Numbers, Positions}
use Rattle.mt_text.specs.RecordJson.{listed}

-- a number, if there is one
abbrev pub perhaps_text : Bool → Option ℕ → List ℕ
perhaps_text is_json (Some n) = decimal n
perhaps_text true None = codes "null"
perhaps_text false None = codes "none"

-- numbers with commas between them: an array in JSON, else `none` if there are none
abbrev pub numbers_text : Bool → List ℕ → List ℕ
numbers_text true numbers = codes "[" ++ (listed decimal numbers ++ codes "]")
numbers_text false [] = codes "none"
numbers_text false (n ∷ ns) = listed decimal (n ∷ ns)

abbrev pub value_text : Bool → Value → List ℕ
value_text is_json (Number n) = decimal n
value_text is_json (Perhaps number) = perhaps_text is_json number
value_text is_json (Numbers numbers) = numbers_text is_json numbers.now
value_text is_json (Positions positions) = numbers_text is_json positions.now
