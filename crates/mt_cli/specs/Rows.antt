-- The text of a line of named values.
use Rattle.std.specs.Prelude.{◌++◌, ⊤, Bool, true, false, Some, None, List, [], ◌∷◌, ℕ, decimal, filter}
use Rattle.std.specs.List.{flat_map}
use Rattle.std.specs.Borrow.{Bor}
use Rattle.mt_text.specs.Lines.{end_text, format_text, name_text, shown_text, word_text}
use Rattle.mt_text.specs.Values.{value_text}
use Rattle.mt_cli.specs.declared.row.Cell.{Cell}
use Rattle.mt_cli.specs.declared.row.Cell.TheVariants as cells

-- a name, and its value
abbrev pub Field : Type 0
Field = Bor (List ℕ) × Cell

-- whether the line has the value
abbrev pub is_there : Field → Bool
is_there (name, cells.Number None) = false
is_there (name, cells.Format None) = false
is_there (name, cells.Reason None) = false
is_there field = true

-- the text of the value is known: it is not what is wrong in a log, what the system said, or a failure
abbrev pub IsTold : Field → Type 0
IsTold (name, cells.What what) = ⊥
IsTold (name, cells.Reason (Some reason)) = ⊥
IsTold (name, cells.Failure failure) = ⊥
IsTold field = ⊤

-- a value after its name, and after what stands before both: the first value of a line, or not
abbrev pub field_text : Bool → Bool → Field → List ℕ
field_text is_json is_first (name, cells.Number (Some number)) = name_text is_json is_first name.now ++ decimal number
field_text is_json is_first (name, cells.Value value) = name_text is_json is_first name.now ++ value_text is_json value
field_text is_json is_first (name, cells.Word word) = name_text is_json is_first name.now ++ word_text is_json word.now
field_text is_json is_first (name, cells.Name text) = name_text is_json is_first name.now ++ shown_text is_json text.now
field_text is_json is_first (name, cells.Format (Some head)) = format_text is_json is_first head.now
field_text is_json is_first field = []

abbrev pub fields_text : Bool → List Field → List ℕ
fields_text is_json [] = []
fields_text is_json (field ∷ fields) = field_text is_json true field ++ flat_map (field_text is_json false) fields

-- the values that the line has, in order, and its end
abbrev pub row_text : Bool → List Field → List ℕ
row_text is_json row = fields_text is_json (filter is_there row) ++ end_text is_json
