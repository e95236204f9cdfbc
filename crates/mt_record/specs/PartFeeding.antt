-- A part in chunks: what a feed has read, and which faults the bytes so far show.
use Rattle.std.specs.Prelude.{◌≡◌, ◌≢◌, ℕ, ◌<◌, ◌≤◌, ◌^◌, ◌⊎◌, Option, Some, None, MatchOption, IfSome, Result, List, [], ◌∷◌, ◌++◌, length, codes}
use Rattle.std.specs.Borrow.{Bor}
use Rattle.std.specs.List.{flat_map, AllByRecursion}
use Rattle.byteorder.specs.Endian.{big_bytes}
use Rattle.mt_words.specs.declared.record.Change.{Change}
use Rattle.mt_words.specs.declared.limits.Limits.{Limits}
use Rattle.mt_words.specs.Limits.{limits_of}
use Rattle.mt_words.specs.Changes.{IsEntry}
use Rattle.mt_block.specs.declared.part_header.PartHeader.{PartHeader}
use Rattle.mt_block.specs.Blocks.{IsCut, IsBroken as IsBrokenBlock}
use Rattle.mt_block.specs.Parts.{part_mark, BeginsPart as BeginsPartFile}
use Rattle.mt_record.specs.declared.part_text.PartHead.{PartHead}
use Rattle.mt_record.specs.declared.part_text.PartFault.{PartFault}
use Rattle.mt_record.specs.declared.part_text.PartFault.TheVariants as faults
use Rattle.mt_record.specs.Logs.{IsUnfinished}
use Rattle.mt_record.specs.LogFaults.{HasLengthFault, HasFrame, OrMemory}
use Rattle.mt_record.specs.Parts.{part_head_bytes, IsPartHead, entry_spelling, footer_bytes, IsSealedPart, HasNoPartSeal, part_text_of}
use Rattle.mt_record.specs.PartTexts.{IsEntryLength}
use Rattle.mt_record.specs.Fronts.{bytes_of, ShowsNone, IsUnfinishedFront}
use Rattle.mt_record.specs.PartFaults.{HasNoEntry, BeginsPartOf}
use Rattle.mt_record.specs.declared.feed.part_items.PartItems.{PartItems}
use Rattle.mt_record.specs.declared.feed.part_file.PartFile.{PartFile}
use Rattle.mt_record.specs.declared.feed.file_feed.FileKind.{FileKind}
use Rattle.mt_record.specs.declared.feed.file_feed.FileKind.TheVariants as kinds
use Rattle.mt_record.specs.Feeding.{Steps, Fed, IsFedBy}

-- ---- faults that are shown

-- the bytes begin with a length that is neither zero nor allowed for an entry
abbrev pub HasWrongLength : Limits → List ℕ → Type 0
HasWrongLength limits rest = (fault : HasLengthFault (IsEntryLength limits) rest) × (0 < fault.number)

-- the bytes begin with an allowed length of an entry, that many bytes and a number, but these are not a lawful entry
abbrev pub HasWrongEntry : Limits → List ℕ → Type 0
HasWrongEntry limits rest = (frame : HasFrame (IsEntryLength limits) rest)
    × ((entry : Change) → IsEntry limits entry → big_bytes 4 (length frame.body) ++ (frame.body ++ big_bytes 4 frame.number) ≢ entry_spelling entry)

-- the bytes begin with a footer, but its number of entries is not `count`
pub record HasWrongCount (count : ℕ) (rest : List ℕ) : Type 0 where
  pub end : ℕ
  pub number : ℕ
  pub more : List ℕ
  pub fits : number < 2 ^ 32
  pub differs : number ≢ count
  pub spelled : rest ≡ footer_bytes end number ++ more

-- the bytes are a footer for `count` entries and at least one more byte
pub record HasMore (count : ℕ) (rest : List ℕ) : Type 0 where
  pub end : ℕ
  pub byte : ℕ
  pub more : List ℕ
  pub spelled : rest ≡ footer_bytes end count ++ byte ∷ more

-- the bytes show that they do not begin with an entry
abbrev pub ShowsNoEntry : Limits → List ℕ → Type 0
ShowsNoEntry limits rest = HasLengthFault (IsEntryLength limits) rest ⊎ HasWrongEntry limits rest

-- the bytes after `count` entries show that there is no part
abbrev pub ShowsNoPart : Limits → ℕ → List ℕ → Type 0
ShowsNoPart limits count rest = HasWrongLength limits rest ⊎ (HasWrongEntry limits rest ⊎ (HasWrongCount count rest ⊎ HasMore count rest))

-- the bytes show that a part of checkpoint `number` is broken after `count` entries
abbrev pub ShowsBroken : List ℕ → ℕ → ℕ → Type 0
ShowsBroken bytes number count = (front : BeginsPartOf bytes number count) × ShowsNoPart (limits_of front.head.format) count front.rest

-- a text so far shows the fault, whatever bytes follow; it never shows `Memory`
abbrev pub ShowsPartTextFault : List ℕ → PartFault → Type 0
ShowsPartTextFault text faults.Header = ShowsNone IsPartHead part_head_bytes text
ShowsPartTextFault text (faults.Broken number entries) = ShowsBroken text number entries
ShowsPartTextFault text faults.Memory = ⊥

-- the text shows the fault that a feed returned, unless it is `Memory`
abbrev pub IsPartTextShown : List ℕ → PartFault → Type 0
IsPartTextShown text = OrMemory faults.Memory (ShowsPartTextFault text)

abbrev pub ShowsNoPartTextFault : List ℕ → Type 0
ShowsNoPartTextFault text = (fault : PartFault) → ShowsPartTextFault text fault → ⊥

-- the bytes have all of a header of format 4, but none stands there
abbrev pub ShowsNoPartSeal : List ℕ → Type 0
ShowsNoPartSeal bytes = IsSealedPart bytes × (36 ≤ length bytes) × HasNoPartSeal bytes

-- the bytes are no part of format 4, whatever follows
abbrev pub IsPlainPart : List ℕ → Type 0
IsPlainPart bytes = (more : List ℕ) → IsSealedPart (bytes ++ more) → ⊥

-- neither a block nor the beginning of one stands at this place of a file
abbrev pub IsBrokenPlace : ℕ → List ℕ → Type 0
IsBrokenPlace mark rest = (behind : List ℕ) × IsBrokenBlock mark rest behind

-- the text begins with a header of checkpoint `number` and `count` entries, and no further entry
pub record HasEntries (text : List ℕ) (number count : ℕ) : Type 0 where
  pub front : BeginsPartOf text number count
  pub no_entry : HasNoEntry (limits_of front.head.format) front.rest

-- The bytes are a header of format 4, blocks, and a rest. A part of checkpoint `number` is broken after `count` entries: the text of the blocks shows it, or no block stands at the rest, whatever follows.
pub record ShowsBrokenFile (bytes : List ℕ) (number count : ℕ) : Type 0 where
  pub header : PartHeader
  pub bodies : List (List ℕ)
  pub rest : List ℕ
  pub begins : BeginsPartFile bytes header bodies rest
  pub shown : ShowsBroken (part_text_of header bodies) number count ⊎ (HasEntries (part_text_of header bodies) number count × IsBrokenPlace (part_mark header) rest)

-- The bytes so far show the fault, whatever bytes follow; they never show `Memory`. A header of format 4 is judged once all its bytes are there.
abbrev pub ShowsPartFault : List ℕ → PartFault → Type 0
ShowsPartFault bytes faults.Header = (IsPlainPart bytes × ShowsNone IsPartHead part_head_bytes bytes) ⊎ ShowsNoPartSeal bytes
ShowsPartFault bytes (faults.Broken number entries) = (IsPlainPart bytes × ShowsBroken bytes number entries) ⊎ ShowsBrokenFile bytes number entries
ShowsPartFault bytes faults.Memory = ⊥

-- the bytes show the fault that a feed returned, unless it is `Memory`
abbrev pub IsPartShown : List ℕ → PartFault → Type 0
IsPartShown bytes = OrMemory faults.Memory (ShowsPartFault bytes)

abbrev pub ShowsNoPartFault : List ℕ → Type 0
ShowsNoPartFault bytes = (fault : PartFault) → ShowsPartFault bytes fault → ⊥

-- ---- what was read

-- what was read of a part: its header, if complete; its entries so far; where its checkpoint ends, if the footer is complete
pub record PartSoFar : Type 0 where
  pub head : Option PartHead
  pub entries : List Change
  pub end : Option ℕ

-- the bytes read after the entries: a footer with the number of entries, if it is complete
abbrev pub end_bytes : PartSoFar → List ℕ
end_bytes so_far = bytes_of (λ end. footer_bytes end (length so_far.entries)) so_far.end

-- the bytes read are a header, lawful entries, and the footer if it is complete; or nothing
pub record HoldsPart (so_far : PartSoFar) (front : List ℕ) : Type 0 where
  pub spelled : front ≡ bytes_of part_head_bytes so_far.head ++ (flat_map entry_spelling so_far.entries ++ end_bytes so_far)
  pub lawful : MatchOption so_far.head ((so_far.entries ≡ []) × (so_far.end ≡ None)) (λ head. IsPartHead head × AllByRecursion (IsEntry (limits_of head.format)) so_far.entries)
  pub fits : IfSome so_far.end (λ end. (end < 2 ^ 64) × (length so_far.entries < 2 ^ 32))

-- the beginning of an entry, or of a footer; of an entry only the length is checked
abbrev pub IsCutItem : Limits → List ℕ → Type 0
IsCutItem limits rest = IsUnfinished (IsEntryLength limits) rest ⊎ ((more : List ℕ) × (length more < 12) × (rest ≡ big_bytes 4 0 ++ more))

-- nothing more can be read from the rest, and it shows no fault; if the footer is complete, the rest is empty
abbrev pub IsPartLeft : PartSoFar → List ℕ → Type 0
IsPartLeft so_far rest =
    MatchOption so_far.head (IsUnfinishedFront IsPartHead part_head_bytes rest) (λ head. (rest ≡ []) ⊎ ((so_far.end ≡ None) × IsCutItem (limits_of head.format) rest))

-- after the entries so far, and the footer if it is complete, the rest shows that the part of checkpoint `number` is broken
pub record IsBrokenBehind (so_far : PartSoFar) (number entries : ℕ) (rest : List ℕ) : Type 0 where
  pub head : PartHead
  pub begun : so_far.head ≡ Some head
  pub named : number ≡ head.number
  pub counted : entries ≡ length so_far.entries
  pub breaks : ShowsNoPart (limits_of head.format) entries (end_bytes so_far ++ rest)

-- the rest shows the fault, whatever bytes follow; after the footer any byte does; for `Memory` nothing is required
abbrev pub IsPartFaulty : PartSoFar → PartFault → List ℕ → Type 0
IsPartFaulty so_far faults.Header rest = (so_far.head ≡ None) × ShowsNone IsPartHead part_head_bytes rest
IsPartFaulty so_far (faults.Broken number entries) rest = IsBrokenBehind so_far number entries rest
IsPartFaulty so_far faults.Memory rest = Unit {0}

-- ---- items

-- what was read, as contracts see it; `listed` gives the entries in the collection that the feed fills
abbrev pub part_so_far : {E : Type 0} → (E → List Change) → PartItems E → PartSoFar
part_so_far listed items = record { head = items.head; entries = listed items.entries; end = items.end }

-- one step of reading a part; no entries are taken from it
abbrev pub StepsPart : {E : Type 0} → (E → List Change) → PartItems E → PartItems E → List ℕ → Result (Option (Bor (List ℕ))) PartFault → Type 0
StepsPart listed old new bytes answer =
    Steps {T = Unit {0}} (λ taken items. HoldsPart (part_so_far listed items)) (λ items. IsPartLeft (part_so_far listed items)) (λ items. IsPartFaulty (part_so_far listed items)) old new bytes answer

-- ---- files

-- what was read of a file: its kind, its mark if it is one of format 4, and what the feed of its text has read, held back and returned
pub record PartFileSoFar : Type 0 where
  pub kind : FileKind
  pub mark : ℕ
  pub so_far : PartSoFar
  pub held : List ℕ
  pub fault : Option PartFault

-- what contracts see of this file; `listed` gives its entries
abbrev pub part_file : {E : Type 0} → (E → List Change) → PartFile E → PartFileSoFar
part_file listed file = record { kind = file.kind; mark = file.mark; so_far = part_so_far listed file.text.items; held = file.text.held.items; fault = file.text.fault }

-- the feed of the text was fed this text
abbrev pub IsPartTextFed : PartFileSoFar → List ℕ → Type 0
IsPartTextFed file text = IsFedBy HoldsPart IsPartLeft IsPartFaulty file.so_far file.held file.fault text

-- nothing was read
pub record IsUnread (file : PartFileSoFar) : Type 0 where
  pub head : file.so_far.head ≡ None
  pub entries : file.so_far.entries ≡ []
  pub end : file.so_far.end ≡ None
  pub held : file.held ≡ []
  pub fault : file.fault ≡ None

-- the bytes are a header of format 4 and blocks, and the feed of the text was fed what stands in these
pub record HoldsPartBlocks (file : PartFileSoFar) (bytes : List ℕ) : Type 0 where
  pub header : PartHeader
  pub bodies : List (List ℕ)
  pub begins : BeginsPartFile bytes header bodies []
  pub same : file.mark ≡ part_mark header
  pub fed : IsPartTextFed file (part_text_of header bodies)

-- what was read of a file of this kind
abbrev pub HoldsPartAs : FileKind → PartFileSoFar → List ℕ → Type 0
HoldsPartAs kinds.Untold file bytes = (bytes ≡ []) × IsUnread file
HoldsPartAs kinds.Plain file bytes = IsPlainPart bytes × IsPartTextFed file bytes
HoldsPartAs kinds.Blocks file bytes = HoldsPartBlocks file bytes

-- these bytes were read of the file
abbrev pub HoldsPartFile : PartFileSoFar → List ℕ → Type 0
HoldsPartFile file bytes = HoldsPartAs file.kind file bytes

-- the bytes do not tell yet whether they are a part of format 4, or have not all of its header
abbrev pub IsUntoldPart : List ℕ → Type 0
IsUntoldPart bytes = ((more : List ℕ) × (codes "MTC4" ≡ bytes ++ more) × (0 < length more)) ⊎ (IsSealedPart bytes × (length bytes < 36))

-- nothing more can be read from the rest of a file of this kind
abbrev pub IsPartLeftAs : FileKind → ℕ → List ℕ → Type 0
IsPartLeftAs kinds.Untold mark rest = IsUntoldPart rest
IsPartLeftAs kinds.Plain mark rest = rest ≡ []
IsPartLeftAs kinds.Blocks mark rest = (rest ≡ []) ⊎ IsCut mark rest

-- nothing more can be read from the rest, and it shows no fault
abbrev pub IsPartFileLeft : PartFileSoFar → List ℕ → Type 0
IsPartFileLeft file rest = (file.fault ≡ None) × IsPartLeftAs file.kind file.mark rest

-- the fault of a part with this header that is broken after `count` entries
abbrev pub broken_at : Option PartHead → ℕ → PartFault
broken_at None count = faults.Header
broken_at (Some head) count = faults.Broken head.number count

-- the fault of a file that is broken after what was read of its text
abbrev pub broken_after : PartSoFar → PartFault
broken_after so_far = broken_at so_far.head (length so_far.entries)

-- the rest of a file of this kind, whose text shows no fault, shows the fault
abbrev pub IsPartFaultyAs : FileKind → PartFileSoFar → PartFault → List ℕ → Type 0
IsPartFaultyAs kinds.Untold file fault rest = (fault ≡ faults.Header) × ShowsNoPartSeal rest
IsPartFaultyAs kinds.Plain file fault rest = ⊥
IsPartFaultyAs kinds.Blocks file fault rest = (fault ≡ broken_after file.so_far) × IsBrokenPlace file.mark rest

-- the fault is that of the text; or the text shows none, and the rest shows it; for `Memory` nothing is required
abbrev pub IsPartFileFaulty : PartFileSoFar → PartFault → List ℕ → Type 0
IsPartFileFaulty file fault rest = (file.fault ≡ Some fault) ⊎ (((file.fault ≡ None) × IsPartFaultyAs file.kind file fault rest) ⊎ (fault ≡ faults.Memory))

-- one step of reading a file
abbrev pub StepsPartFile : {E : Type 0} → (E → List Change) → PartFile E → PartFile E → List ℕ → Result (Option (Bor (List ℕ))) PartFault → Type 0
StepsPartFile listed old new bytes answer =
    Steps {T = Unit {0}} (λ taken file. HoldsPartFile (part_file listed file)) (λ file. IsPartFileLeft (part_file listed file)) (λ file. IsPartFileFaulty (part_file listed file)) old new bytes answer

-- ---- feeds

-- what contracts see of a part's feed
abbrev pub FedPart : Type 0
FedPart = Fed PartFileSoFar PartFault

-- the feed was fed these bytes
abbrev pub IsPartFed : FedPart → List ℕ → Type 0
IsPartFed feed bytes = IsFedBy HoldsPartFile IsPartFileLeft IsPartFileFaulty feed.so_far feed.held feed.fault bytes
