-- What the scan of a part shows.
use Rattle.std.specs.Prelude.{◌≡◌, ℕ, List, map}
use Rattle.mt_words.specs.declared.fault.Fault.{Fault}
use Rattle.mt_words.specs.declared.fault.Fault.TheVariants as faults
use Rattle.mt_words.specs.declared.record.Change.{Change}
use Rattle.mt_record.specs.declared.part_text.PartText.{PartText}
use Rattle.mt_record.specs.Parts.{PartReading}
use Rattle.mt_record.specs.PartTexts.{shown_in}
use Rattle.mt_scan.specs.declared.part_scan.PartScan.{PartScan}
use Rattle.mt_scan.specs.declared.part_scan.PartScan.TheVariants as scans
use Rattle.mt_scan.specs.PartScans.{KnownPart, whole, broken, nameless}

-- a part that was read, with the entries that were kept
abbrev pub KeptPart : Type 0
KeptPart = PartText (List Change)

-- what a part that was read says
abbrev pub shown_by : KeptPart → PartReading
shown_by text = shown_in (λ entries. entries) text

-- what each part that was read says
abbrev pub shown_by_all : List KeptPart → List PartReading
shown_by_all texts = map shown_by texts

-- what is known of a part from its scan
abbrev pub known_by : PartScan → KnownPart
known_by (scans.Whole text) = whole (shown_by text)
known_by (scans.Broken number entries) = broken number entries
known_by scans.Nameless = nameless

-- the fault of scanning the part with this number: its source failed, or out of memory
abbrev pub IsPartScanFault : ℕ → Fault → Type 0
IsPartScanFault number (faults.PartSource part) = part ≡ number
IsPartScanFault number faults.Memory = Unit {0}
IsPartScanFault number fault = ⊥
