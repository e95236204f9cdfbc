-- Files of parts, as they are being written.
use Rattle.std.specs.Prelude.{◌≡◌, ◌≢◌, ◌⊎◌, ℕ, ◌<◌, ◌≤◌, ◌^◌, ◌-◌, Bool, true, false, Option, Some, None, IfSome, List, [], ◌∷◌, ◌++◌, length, map}
use Rattle.std.specs.List.{AllByRecursion}
use Rattle.mt_words.specs.declared.record.Change.{Change}
use Rattle.mt_words.specs.Limits.{widest}
use Rattle.mt_words.specs.Words.{IsBelow, AreRising}
use Rattle.mt_words.specs.Walks.{joined}
use Rattle.mt_words.specs.Changes.{IsEntry}
use Rattle.mt_block.specs.declared.part_header.PartHeader.{PartHeader}
use Rattle.mt_block.specs.Blocks.{IsBody, block}
use Rattle.mt_block.specs.Parts.{BeginsPart}
use Rattle.mt_record.specs.Parts.{PartReading, entry_spelling, footer_bytes}
use Rattle.mt_writer.specs.declared.part_writer.TheConstants.{SMALL}
use Rattle.mt_writer.specs.declared.part_fault.PartWriterFault.{PartWriterFault}
use Rattle.mt_writer.specs.declared.part_fault.PartWriterFault.TheVariants as faults

-- what a contract sees of a writer of a part
pub record Part : Type 0 where
  pub header : PartHeader
  -- the key that the next one must be above, if there is one
  pub last : Option (List ℕ)
  -- the number of entries
  pub count : ℕ
  -- the timestamp at which the checkpoint ends, once the part has ended
  pub end : Option ℕ
  -- the bytes of the entries that are in no block yet
  pub held : List ℕ
  -- the bytes that are to be appended to the file
  pub ready : List ℕ

-- the key that the next one must be above: none if any may come next
abbrev pub last_key : Bool → List ℕ → Option (List ℕ)
last_key true key = None
last_key false key = Some key

-- the keys of the entries, after the key that they must be above, if there is one
abbrev pub keys_above : Option (List ℕ) → List Change → List (List ℕ)
keys_above None entries = map (λ entry. entry.key) entries
keys_above (Some key) entries = key ∷ map (λ entry. entry.key) entries

-- the last key, if there is one
abbrev pub last_of : List (List ℕ) → Option (List ℕ)
last_of [] = None
last_of (key ∷ []) = Some key
last_of (key ∷ next ∷ keys) = last_of (next ∷ keys)

-- what stands in the blocks: the entries and, once the part has ended, its footer
abbrev pub items_of : List Change → Option ℕ → List (List ℕ)
items_of entries None = map entry_spelling entries
items_of entries (Some end) = map entry_spelling entries ++ footer_bytes end (length entries) ∷ []

-- at most `SMALL` bytes, or a single entry
abbrev pub IsSmall : List ℕ → Type 0
IsSmall body = (length body ≤ SMALL) ⊎ ((entry : Change) × (body ≡ entry_spelling entry))

-- The writer writes the part with these entries, of which these bytes were taken. The bytes are a header and blocks. Each block has whole items, and is small. The
-- keys of the entries rise, from above the key `above` if there is one. The count is their number.
pub record IsPartOf (w : Part) (above : Option (List ℕ)) (entries : List Change) (taken : List ℕ) : Type 0 where
  -- the items of each block, and those that are in no block yet
  pub blocks : List (List (List ℕ))
  pub rest : List (List ℕ)
  pub items : joined blocks ++ rest ≡ items_of entries w.end
  pub begins : BeginsPart (taken ++ w.ready) w.header (map joined blocks) []
  pub held : w.held ≡ joined rest
  pub small : AllByRecursion IsSmall (map joined blocks)
  pub small_rest : IsSmall w.held
  pub lawful : AllByRecursion (IsEntry widest) entries
  pub rising : AreRising (keys_above above entries)
  pub last : w.last ≡ last_of (keys_above above entries)
  pub count : w.count ≡ length entries
  pub few : length entries < 2 ^ 32
  pub ended : IfSome w.end (λ end. (w.header.begin ≤ end) × (end < 2 ^ 64) × (w.held ≡ []))

-- what a part with this header, these entries and this end says
abbrev pub reading_of : PartHeader → List Change → ℕ → PartReading
reading_of header entries end = record { number = header.number; begin = header.begin; part = header.part; parts = header.parts; entries = entries; end = end }

-- the part takes this entry now
pub record IsAdmitted (w : Part) (entry : Change) : Type 0 where
  pub going : w.end ≡ None
  pub lawful : IsEntry widest entry
  pub few : w.count < 2 ^ 32 - 1
  pub above : IfSome w.last (λ last. IsBelow last entry.key)

-- the part does not take this entry, by this fault
abbrev pub NoEntry : Part → Change → PartWriterFault → Type 0
NoEntry w entry faults.Ended = w.end ≢ None
NoEntry w entry faults.Lawless = IsEntry widest entry → ⊥
NoEntry w entry faults.Full = w.count ≡ 2 ^ 32 - 1
NoEntry w entry faults.Order = (last : List ℕ) × (w.last ≡ Some last) × (IsBelow last entry.key → ⊥)
NoEntry w entry faults.End = ⊥
NoEntry w entry faults.Memory = Unit {0}

-- the part does not end at this timestamp, by this fault
abbrev pub NoEnd : Part → ℕ → PartWriterFault → Type 0
NoEnd w end faults.Ended = w.end ≢ None
NoEnd w end faults.Lawless = ⊥
NoEnd w end faults.Full = ⊥
NoEnd w end faults.Order = ⊥
NoEnd w end faults.End = end < w.header.begin
NoEnd w end faults.Memory = Unit {0}

-- ---- steps

-- an entry was added to what is held, or a block was made of that, and only the entry is held
abbrev pub IsAdded : (mark : ℕ) (entry held ready new_held new_ready : List ℕ) → Type 0
IsAdded mark entry held ready new_held new_ready =
    ((new_held ≡ held ++ entry) × (new_ready ≡ ready) × ((length new_held ≤ SMALL) ⊎ (held ≡ [])))
    ⊎ ((new_held ≡ entry) × (new_ready ≡ ready ++ block mark held) × IsBody held)

-- one block was made of what is held and of the footer, or two
abbrev pub AreLast : (mark : ℕ) (held footer ready new_ready : List ℕ) → Type 0
AreLast mark held footer ready new_ready =
    ((new_ready ≡ ready ++ block mark (held ++ footer)) × (length (held ++ footer) ≤ SMALL) × IsBody (held ++ footer))
    ⊎ ((new_ready ≡ (ready ++ block mark held) ++ block mark footer) × IsBody held × IsBody footer)

abbrev pub AreEnded : (mark end count : ℕ) (held ready new_held new_ready : List ℕ) → Type 0
AreEnded mark end count held ready new_held new_ready = (new_held ≡ []) × AreLast mark held (footer_bytes end count) ready new_ready
