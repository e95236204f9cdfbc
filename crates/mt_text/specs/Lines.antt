-- The text of a line of named values, as words or as a JSON object.
use Rattle.std.specs.Prelude.{◌≡◌, ℕ, Bool, true, false, Option, Some, None, List, [], ◌++◌, codes, decimal}
use Rattle.mt_record.specs.declared.feed.head.Head.{Head}
use Rattle.mt_record.specs.declared.feed.head.Segment.{Segment}
use Rattle.mt_text.specs.declared.fields.Fields.{Fields}
use Rattle.mt_text.specs.Forms.{bytes_text}
use Rattle.mt_text.specs.RecordJson.{format_number, member}

-- one more value was printed on the same line
abbrev pub GoesOn : {W : Type 0} → Fields W → Fields W → Type 0
GoesOn old new = (new.out.ghost_name ≡ old.out.ghost_name) × (new.is_json ≡ old.is_json) × (new.is_first ≡ false)

-- the name of a value, after what stands before it: of the first value `{` in JSON, else nothing
abbrev pub name_text : Bool → Bool → List ℕ → List ℕ
name_text true true name = member (codes "{") name
name_text true false name = member (codes ",") name
name_text false true name = name ++ codes "="
name_text false false name = codes " " ++ (name ++ codes "=")

-- a word, which is a string in JSON
abbrev pub word_text : Bool → List ℕ → List ℕ
word_text true word = codes "\"" ++ (word ++ codes "\"")
word_text false word = word

abbrev pub flag_text : Bool → Bool → List ℕ
flag_text true true = codes "true"
flag_text true false = codes "false"
flag_text false true = codes "yes"
flag_text false false = codes "no"

-- what ends a line
abbrev pub end_text : Bool → List ℕ
end_text true = codes "}\n"
end_text false = codes "\n"

-- text with escapes
abbrev pub shown_text : Bool → List ℕ → List ℕ
shown_text is_json text = bytes_text (record { is_json = is_json; is_text = true }) text

-- of a segment, the worker and its number
abbrev pub segment_text : Bool → Option Segment → List ℕ
segment_text is_json None = []
segment_text is_json (Some segment) = name_text is_json false (codes "worker") ++ (decimal segment.worker ++ (name_text is_json false (codes "segment") ++ decimal segment.number))

-- the format of a log, and which segment it is
abbrev pub format_text : Bool → Bool → Head → List ℕ
format_text is_json is_first head = name_text is_json is_first (codes "format") ++ (decimal (format_number head.format head.segment) ++ segment_text is_json head.segment)
