-- Parts in memory, and how long an entry may be.
use Rattle.std.specs.Prelude.{ℕ, ◌≤◌, List}
use Rattle.mt_words.specs.declared.record.Change.{Change}
use Rattle.mt_words.specs.declared.limits.Limits.{Limits}
use Rattle.mt_record.specs.declared.part_text.PartText.{PartText}
use Rattle.mt_record.specs.Spelling.{longest_change}
use Rattle.mt_record.specs.Parts.{PartReading, IsPartReading}

-- an entry may have this length: from that of an empty key with one empty column to that of the longest change
abbrev pub IsEntryLength : Limits → ℕ → Type 0
IsEntryLength limits n = (14 ≤ n) × (n ≤ longest_change limits)

-- what a `PartText` contains; `listed` gives the entries in the collection that was filled
abbrev pub shown_in : {E : Type 0} → (E → List Change) → PartText E → PartReading
shown_in listed text = record { number = text.number; begin = text.begin; part = text.part; parts = text.parts; entries = listed text.entries; end = text.end }

-- the bytes are a part, and the `PartText` agrees with it
abbrev pub IsPartText : {E : Type 0} → (E → List Change) → List ℕ → PartText E → Type 0
IsPartText listed bytes text = IsPartReading bytes (shown_in listed text)
