-- The text of a report.
use Rattle.std.specs.Prelude.{ℕ, Bool, false, List, [], ◌∷◌, ◌++◌, codes, decimal}
use Rattle.std.specs.List.{flat_map}
use Rattle.std.specs.Borrow.{Bor}
use Rattle.mt_text.specs.declared.value.Value.{Value}
use Rattle.mt_text.specs.Values.{numbers_text, perhaps_text, value_text}
use Rattle.mt_recover.specs.declared.report.Report.{Report}

-- a name, and the text of the value of that name
abbrev pub Named : Type 0
Named = List ℕ × List ℕ

abbrev pub named_number : List ℕ → ℕ → Named
named_number name n = (name, decimal n)

-- what a report prints, in order: in JSON or not
abbrev pub named_values : Bool → Report → List Named
named_values is_json r =
    named_number (codes "logs") r.logs
    ∷ named_number (codes "writers") r.writers
    ∷ named_number (codes "records") r.records
    ∷ named_number (codes "marks") r.marks
    ∷ named_number (codes "torn") r.torn
    ∷ named_number (codes "cutoff") r.cutoff
    ∷ (codes "checkpoint", perhaps_text is_json r.checkpoint)
    ∷ named_number (codes "begin") r.begin
    ∷ (codes "skipped", numbers_text is_json r.skipped.items)
    ∷ (codes "nameless", numbers_text is_json r.nameless.items)
    ∷ named_number (codes "entries") r.entries
    ∷ named_number (codes "survivors") r.survivors
    ∷ named_number (codes "early") r.early
    ∷ named_number (codes "late") r.late
    ∷ named_number (codes "keys") r.keys
    ∷ named_number (codes "layers") r.layers
    ∷ []

-- a value with its name, as text
abbrev pub with_text : Bool → Bor (List ℕ) × Value → Named
with_text is_json (name, value) = (name.now, value_text is_json value)

-- a line `name=value`
abbrev pub line_text : Named → List ℕ
line_text (name, text) = name ++ (codes "=" ++ (text ++ codes "\n"))

abbrev pub report_text : Report → List ℕ
report_text r = flat_map line_text (named_values false r)
