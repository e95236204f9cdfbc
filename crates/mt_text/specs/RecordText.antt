-- The text of logs and parts, in the words of case files.
use Rattle.std.specs.Prelude.{ℕ, ◌+◌, Option, Some, None, List, [], ◌∷◌, ◌++◌, codes, decimal}
use Rattle.std.specs.List.{flat_map}
use Rattle.hex.specs.Hex.{encode_lower}
use Rattle.mt_words.specs.declared.record.Change.{Change}
use Rattle.mt_words.specs.declared.update.Kind.{Kind}
use Rattle.mt_words.specs.declared.update.Kind.TheVariants.{Put, Remove, Whole, Erase}
use Rattle.mt_words.specs.declared.limits.Format.{Format}
use Rattle.mt_words.specs.declared.limits.Format.TheVariants.{One, Two}
use Rattle.mt_words.specs.Changes.{Logged}
use Rattle.mt_record.specs.declared.feed.head.Head.{Head}
use Rattle.mt_record.specs.declared.feed.head.Segment.{Segment}
use Rattle.mt_record.specs.declared.part_text.PartHead.{PartHead}

-- ---- items

-- what a line prints: a record of a log, or an entry of a part, which has no timestamp
pub record Item : Type 0 where
  pub timestamp : Option ℕ
  pub change : Option Change

abbrev pub of_record : Logged → Item
of_record r = record { timestamp = Some r.timestamp; change = r.change }

abbrev pub of_entry : Change → Item
of_entry entry = record { timestamp = None; change = Some entry }

-- an item, with its number and the byte where it begins
pub record Placed : Type 0 where
  pub number : ℕ
  pub at : ℕ
  pub item : Item

abbrev pub placed_at : ℕ → ℕ → Item → Placed
placed_at number at item = record { number = number; at = at; item = item }

-- ---- words

-- a space, and the number
abbrev pub number_word : ℕ → List ℕ
number_word n = codes " " ++ decimal n

-- a space, this word, and the number
unfoldable pub named : List ℕ → ℕ → List ℕ
named word n = codes " " ++ (word ++ number_word n)

-- bytes in lowercase hexadecimal after `0x`
abbrev pub hex_word : List ℕ → List ℕ
hex_word bytes = codes "0x" ++ encode_lower bytes

-- a space, the number of a column, an equals sign, and its value
abbrev pub set_word : ℕ × List ℕ → List ℕ
set_word column = number_word column.0 ++ (codes "=" ++ hex_word column.1)

-- what a change does
abbrev pub verb : Kind → List ℕ
verb (Put columns) = codes "put"
verb Remove = codes "remove"
verb (Whole columns) = codes "entry"
verb (Erase numbers) = codes "erase"

-- the columns that it sets or erases
abbrev pub column_words : Kind → List ℕ
column_words (Put columns) = flat_map set_word columns
column_words Remove = []
column_words (Whole columns) = flat_map set_word columns
column_words (Erase numbers) = flat_map number_word numbers

abbrev pub time_words : Option ℕ → List ℕ
time_words None = []
time_words (Some timestamp) = number_word timestamp

-- a change: what it does, its key, its version, its timestamp if there is one, and its columns
abbrev pub change_words : Option ℕ → Change → List ℕ
change_words timestamp change = verb change.kind ++ (codes " " ++ (hex_word change.key ++ (number_word change.version ++ (time_words timestamp ++ column_words change.kind))))

abbrev pub said_words : Option ℕ → Option Change → List ℕ
said_words timestamp None = codes "mark" ++ time_words timestamp
said_words timestamp (Some change) = change_words timestamp change

abbrev pub item_words : Item → List ℕ
item_words item = said_words item.timestamp item.change

-- the line of an item, with its place after the sign of a comment
abbrev pub words_line : Placed → List ℕ
words_line p = item_words p.item ++ (codes " #" ++ (number_word p.number ++ (codes " at" ++ (number_word p.at ++ codes "\n"))))

-- ---- headers

-- how a header differs from that of format 1
abbrev pub format_words : Format → Option Segment → List ℕ
format_words format (Some segment) = codes " worker" ++ (number_word segment.worker ++ (codes " segment" ++ number_word segment.number))
format_words One None = []
format_words Two None = codes " format 2"

-- the line of a log's header
abbrev pub log_words : Head → List ℕ
log_words head = codes "log from" ++ (number_word head.from ++ (format_words head.format head.segment ++ codes "\n"))

-- where the checkpoint ends, if the part has a footer
abbrev pub end_words : Option ℕ → List ℕ
end_words None = []
end_words (Some end) = named (codes "to") end

-- which part it is, and of which checkpoint
unfoldable pub place_words : PartHead → List ℕ
place_words head = codes "part" ++ (number_word head.part ++ (named (codes "of") head.parts ++ (codes " of" ++ named (codes "checkpoint") head.number)))

-- the line of a part's header
abbrev pub part_words : PartHead → Option ℕ → List ℕ
part_words head end = place_words head ++ (named (codes "from") head.begin ++ (end_words end ++ (format_words head.format None ++ codes "\n")))
