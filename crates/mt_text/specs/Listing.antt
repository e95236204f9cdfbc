-- Which records of a log, or entries of a part, are printed.
use Rattle.std.specs.Prelude.{◌≡◌, ℕ, suc, ◌+◌, ◌<◌, ◌&&◌, Bool, true, false, nat_le, nat_eq, Option, Some, None, List, [], ◌∷◌, ◌++◌, length, filter}
use Rattle.std.specs.List.{flat_map, AllByRecursion}
use Rattle.std.specs.Cmp.Lexicographic.{pointwise}
use Rattle.std.specs.Io.KnownBytes.{Appends}
use Rattle.mt_words.specs.declared.record.Change.{Change}
use Rattle.mt_words.specs.declared.limits.Limits.{Limits}
use Rattle.mt_words.specs.Changes.{IsEntry}
use Rattle.mt_record.specs.declared.feed.head.Head.{Head}
use Rattle.mt_record.specs.declared.part_text.PartHead.{PartHead}
use Rattle.mt_record.specs.Spelling.{spelling}
use Rattle.mt_record.specs.Logs.{AreRecords, latest}
use Rattle.mt_record.specs.Fronts.{Stops}
use Rattle.mt_record.specs.Parts.{entry_spelling}
use Rattle.mt_record.specs.PartFaults.{HasNoEntry}
use Rattle.mt_text.specs.declared.listing.Notation.{Notation}
use Rattle.mt_text.specs.declared.listing.Notation.TheVariants.{Words, Json}
use Rattle.mt_text.specs.declared.listing.Selection.{Selection}
use Rattle.mt_text.specs.declared.listing.Listed.{Listed}
use Rattle.mt_text.specs.RecordText.{Item, of_record, of_entry, Placed, placed_at, words_line, log_words, part_words}
use Rattle.mt_text.specs.RecordJson.{json_line, log_json, part_json}

-- ---- lines

abbrev pub line : Notation → Placed → List ℕ
line Words p = words_line p
line Json p = json_line p

abbrev pub head_line : Notation → Head → List ℕ
head_line Words head = log_words head
head_line Json head = log_json head

abbrev pub part_line : Notation → PartHead → Option ℕ → List ℕ
part_line Words head end = part_words head end
part_line Json head end = part_json head end

-- ---- what is wanted

-- the item changes this key, if a key is wanted
abbrev pub has_key : Option (List ℕ) → Option Change → Bool
has_key None change = true
has_key (Some key) None = false
has_key (Some key) (Some change) = pointwise nat_eq change.key key

-- the item is wanted
abbrev pub is_wanted : Selection → Placed → Bool
is_wanted selection p = nat_le selection.from p.number && has_key selection.key p.item.change

-- values that are items with these encodings, of which the first has this number and begins at this byte
abbrev pub placed : {T : Type 0} → (T → Item) → (T → List ℕ) → ℕ → ℕ → List T → List Placed
placed item_of encoded number at [] = []
placed item_of encoded number at (x ∷ xs) = placed_at number at (item_of x) ∷ placed item_of encoded (suc number) (at + length (encoded x)) xs

-- the wanted ones of those that follow where others are listed
abbrev pub wanted_in : {T : Type 0} → (T → Item) → (T → List ℕ) → Selection → Listed → List T → List Placed
wanted_in item_of encoded selection from values = filter (is_wanted selection) (placed item_of encoded from.number from.at values)

-- ---- what is printed

-- The bytes are the encodings of these lawful values and then `rest`. They were listed from there to here: the wanted ones were printed,
-- a line each. They stopped where no further one follows, or where as many as the limit allows were printed.
pub record AreListed {T : Type 0} (item_of : T → Item) (encoded : T → List ℕ) (Are : List T → Type 0) (NoneFollows : List ℕ → Type 0)
    (selection : Selection) (bytes : List ℕ) (from to : Listed) (old new : Option (List ℕ)) : Type 0 where
  pub values : List T
  pub rest : List ℕ
  pub spelled : bytes ≡ flat_map encoded values ++ rest
  pub lawful : Are values
  pub byte : to.at ≡ from.at + length (flat_map encoded values)
  pub number : to.number ≡ from.number + length values
  pub limit : to.left + length (wanted_in item_of encoded selection from values) ≡ from.left
  pub ends : 0 < to.left → NoneFollows rest
  pub printed : Appends old new (flat_map (line selection.notation) (wanted_in item_of encoded selection from values))

-- the records of a log were printed so
abbrev pub ArePrinted : Limits → Selection → List ℕ → Listed → Listed → Option (List ℕ) → Option (List ℕ) → Type 0
ArePrinted limits selection bytes from to =
    AreListed of_record spelling (λ records. AreRecords limits from.latest records × (to.latest ≡ latest from.latest records)) (Stops limits to.latest) selection bytes from to

-- the entries of a part were printed so
abbrev pub EntriesArePrinted : Limits → Selection → List ℕ → Listed → Listed → Option (List ℕ) → Option (List ℕ) → Type 0
EntriesArePrinted limits = AreListed of_entry entry_spelling (AllByRecursion (IsEntry limits)) (HasNoEntry limits)
