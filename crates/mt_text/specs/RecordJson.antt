-- The text of logs and parts as JSON, an object a line.
use Rattle.std.specs.Prelude.{ℕ, Option, Some, None, List, [], ◌∷◌, ◌++◌, codes, decimal}
use Rattle.std.specs.List.{flat_map}
use Rattle.hex.specs.Hex.{encode_lower}
use Rattle.mt_words.specs.declared.record.Change.{Change}
use Rattle.mt_words.specs.declared.update.Kind.{Kind}
use Rattle.mt_words.specs.declared.update.Kind.TheVariants.{Put, Remove, Whole, Erase}
use Rattle.mt_words.specs.declared.limits.Format.{Format}
use Rattle.mt_words.specs.declared.limits.Format.TheVariants.{One, Two}
use Rattle.mt_record.specs.declared.feed.head.Head.{Head}
use Rattle.mt_record.specs.declared.feed.head.Segment.{Segment}
use Rattle.mt_record.specs.declared.part_text.PartHead.{PartHead}
use Rattle.mt_text.specs.RecordText.{Item, Placed, verb}

-- ---- JSON

-- the name of a member, after this sign: `{` of the first one, a comma of a further one
unfoldable pub member : List ℕ → List ℕ → List ℕ
member sign name = sign ++ (codes "\"" ++ (name ++ codes "\":"))

-- a string of bytes in lowercase hexadecimal
abbrev pub hex_json : List ℕ → List ℕ
hex_json bytes = codes "\"" ++ (encode_lower bytes ++ codes "\"")

abbrev pub after_comma : {T : Type 0} → (T → List ℕ) → T → List ℕ
after_comma text x = codes "," ++ text x

-- the texts with commas between them
abbrev pub listed : {T : Type 0} → (T → List ℕ) → List T → List ℕ
listed text [] = []
listed text (x ∷ xs) = text x ++ flat_map (after_comma text) xs

-- ---- items

-- a column as a member: its number, and its value
abbrev pub column_json : ℕ × List ℕ → List ℕ
column_json column = codes "\"" ++ (decimal column.0 ++ (codes "\":" ++ hex_json column.1))

-- what a change does, as a string
unfoldable pub kind_json : Kind → List ℕ
kind_json kind = codes "\"" ++ (verb kind ++ codes "\"")

-- the columns that it sets, or the numbers of those that it erases
abbrev pub columns_json : Kind → List ℕ
columns_json (Put columns) = member (codes ",") (codes "columns") ++ (codes "{" ++ (listed column_json columns ++ codes "}"))
columns_json Remove = []
columns_json (Whole columns) = member (codes ",") (codes "columns") ++ (codes "{" ++ (listed column_json columns ++ codes "}"))
columns_json (Erase numbers) = member (codes ",") (codes "columns") ++ (codes "[" ++ (listed decimal numbers ++ codes "]"))

abbrev pub time_json : Option ℕ → List ℕ
time_json None = []
time_json (Some timestamp) = member (codes ",") (codes "timestamp") ++ decimal timestamp

abbrev pub change_json : Option ℕ → Change → List ℕ
change_json timestamp change = kind_json change.kind ++ (member (codes ",") (codes "key") ++ (hex_json change.key ++ (member (codes ",") (codes "version") ++ (decimal change.version
    ++ (time_json timestamp ++ columns_json change.kind)))))

abbrev pub said_json : Option ℕ → Option Change → List ℕ
said_json timestamp None = codes "\"mark\"" ++ time_json timestamp
said_json timestamp (Some change) = change_json timestamp change

abbrev pub item_json : Item → List ℕ
item_json item = said_json item.timestamp item.change

-- the line of an item: its place, and what it says
abbrev pub json_line : Placed → List ℕ
json_line p = member (codes "{") (codes "number") ++ (decimal p.number ++ (member (codes ",") (codes "byte") ++ (decimal p.at ++ (member (codes ",") (codes "kind") ++ (item_json p.item ++ codes "}\n")))))

-- ---- headers

-- the number of the format, which is 3 of a segment
abbrev pub format_number : Format → Option Segment → ℕ
format_number format (Some segment) = 3
format_number One None = 1
format_number Two None = 2

-- a segment: the worker, and its number
abbrev pub segment_json : Option Segment → List ℕ
segment_json None = []
segment_json (Some segment) = member (codes ",") (codes "worker") ++ (decimal segment.worker ++ (member (codes ",") (codes "segment") ++ decimal segment.number))

-- the format, and the segment
abbrev pub format_json : Format → Option Segment → List ℕ
format_json format segment = decimal (format_number format segment) ++ segment_json segment

-- the line of a log's header
abbrev pub log_json : Head → List ℕ
log_json head = member (codes "{") (codes "log") ++ (member (codes "{") (codes "from") ++ (decimal head.from ++ (member (codes ",") (codes "format") ++ (format_json head.format head.segment ++ codes "}}\n"))))

-- where the checkpoint ends, if the part has a footer
abbrev pub end_json : Option ℕ → List ℕ
end_json None = codes "null"
end_json (Some end) = decimal end

-- of which checkpoint a part is, and which of its parts
unfoldable pub place_json : PartHead → List ℕ
place_json head = member (codes "{") (codes "checkpoint") ++ (decimal head.number ++ (member (codes ",") (codes "place") ++ (decimal head.part ++ (member (codes ",") (codes "parts") ++ decimal head.parts))))

-- where its checkpoint begins and ends
unfoldable pub span_json : PartHead → Option ℕ → List ℕ
span_json head end = member (codes ",") (codes "begin") ++ (decimal head.begin ++ (member (codes ",") (codes "end") ++ end_json end))

-- the line of a part's header
abbrev pub part_json : PartHead → Option ℕ → List ℕ
part_json head end = member (codes "{") (codes "part") ++ (place_json head ++ (span_json head end ++ (member (codes ",") (codes "format") ++ (format_json head.format None ++ codes "}}\n"))))
