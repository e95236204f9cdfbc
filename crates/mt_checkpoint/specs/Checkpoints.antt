-- A store as the parts of one checkpoint, and the log that makes it count.
use Rattle.std.specs.Prelude.{◌≡◌, ◌≢◌, ◌⊎◌, ◌≤◌, ◌<◌, ◌^◌, ◌+◌, ◌-◌, ℕ, false, List, [], ◌∷◌, ◌++◌, length, map, slice_index_or}
use Rattle.std.specs.List.{flat_map, AllByRecursion}
use Rattle.mt_block.specs.declared.header.Header.{Header}
use Rattle.mt_block.specs.declared.part_header.PartHeader.{PartHeader}
use Rattle.mt_block.specs.Blocks.{Begins}
use Rattle.mt_block.specs.Parts.{BeginsPart}
use Rattle.mt_block.specs.Sealing.{joined as joined_bodies}
use Rattle.mt_words.specs.declared.record.Change.{Change}
use Rattle.mt_words.specs.declared.limits.Format.TheVariants.{Two}
use Rattle.mt_words.specs.Walks.{Pair, joined}
use Rattle.mt_words.specs.Built.{entry_of, mark_of}
use Rattle.mt_record.specs.declared.part_text.PartHead.{PartHead}
use Rattle.mt_record.specs.Encoding.{segment_head}
use Rattle.mt_record.specs.Logs.{LogReading}
use Rattle.mt_record.specs.Spelling.{spelling}
use Rattle.mt_record.specs.Parts.{PartReading, part_head, part_bytes, entry_spelling, footer_bytes}
use Rattle.mt_checkpoint.specs.declared.checkpoint.TheConstants.{MOST_PARTS}
use Rattle.mt_checkpoint.specs.declared.plan_fault.PlanFault.{PlanFault}
use Rattle.mt_checkpoint.specs.declared.plan_fault.PlanFault.TheVariants.{Timestamp, Version, Parts, Memory}

-- a checkpoint of a store: its number, the timestamp at which it begins and ends, the version of its entries, and the pairs of each part
pub record Checkpoint : Type 0 where
  pub number : ℕ
  pub cutoff : ℕ
  pub version : ℕ
  pub parts : List (List Pair)

-- the entries of these pairs, all of this version
abbrev pub entries_with : ℕ → List Pair → List Change
entries_with version pairs = map (λ pair. entry_of version pair.0 pair.1) pairs

-- the encodings of these entries
abbrev pub entries_text : ℕ → List Pair → List ℕ
entries_text version pairs = flat_map entry_spelling (entries_with version pairs)

-- the pairs of this part
abbrev pub pairs_of : Checkpoint → ℕ → List Pair
pairs_of checkpoint part = slice_index_or checkpoint.parts part []

-- the header of the text of this part
abbrev pub head_of_part : Checkpoint → ℕ → PartHead
head_of_part checkpoint part = part_head Two checkpoint.number checkpoint.cutoff part (length checkpoint.parts)

-- the text of this part: a header of format 2, the entries of its pairs, and its footer; the checkpoint begins and ends at one timestamp
abbrev pub part_text : Checkpoint → ℕ → List ℕ
part_text checkpoint part = part_bytes (head_of_part checkpoint part) (entries_with checkpoint.version (pairs_of checkpoint part)) checkpoint.cutoff

-- what this part says
abbrev pub part_reading : Checkpoint → ℕ → PartReading
part_reading checkpoint part = record {
  number = checkpoint.number;
  begin = checkpoint.cutoff;
  part = part;
  parts = length checkpoint.parts;
  entries = entries_with checkpoint.version (pairs_of checkpoint part);
  end = checkpoint.cutoff;
}

-- the header of the file of this part, with this salt
abbrev pub part_header : ℕ → Checkpoint → ℕ → PartHeader
part_header salt checkpoint part = record { salt = salt; number = checkpoint.number; part = part; parts = length checkpoint.parts; begin = checkpoint.cutoff }

-- the bytes are a file of this part, with this salt: blocks of the entries of its pairs and of its footer
pub record IsPartFile (salt : ℕ) (checkpoint : Checkpoint) (part : ℕ) (bytes : List ℕ) : Type 0 where
  pub bodies : List (List ℕ)
  pub begins : BeginsPart bytes (part_header salt checkpoint part) bodies []
  pub joins : joined_bodies bodies ≡ entries_text checkpoint.version (pairs_of checkpoint part) ++ footer_bytes checkpoint.cutoff (length (pairs_of checkpoint part))

-- what the log that makes the checkpoint count says: it is from the checkpoint's end, and has a mark above it
abbrev pub log_reading : Checkpoint → LogReading
log_reading checkpoint = record { head = segment_head checkpoint.cutoff 0 0; records = mark_of (checkpoint.cutoff + 1) ∷ []; torn = false }

-- the header of its file, with this salt: it is the first segment of the one worker
abbrev pub log_header : ℕ → Checkpoint → Header
log_header salt checkpoint = record { salt = salt; worker = 0; segment = 0; workers = 1; from = checkpoint.cutoff }

-- the bytes are a file of this log, with this salt: its mark stands in one block
abbrev pub IsLogFile : ℕ → Checkpoint → List ℕ → Type 0
IsLogFile salt checkpoint bytes = Begins bytes (log_header salt checkpoint) (spelling (mark_of (checkpoint.cutoff + 1)) ∷ []) []

-- The checkpoint has these pairs, in order: each in exactly one part. Its numbers fit their fields, and a timestamp and a version are left above them.
pub record HasPairs (pairs : List Pair) (checkpoint : Checkpoint) : Type 0 where
  pub whole : joined checkpoint.parts ≡ pairs
  pub some : 0 < length checkpoint.parts
  pub few : length checkpoint.parts < 2 ^ 16
  pub counts : AllByRecursion (λ part. length part < 2 ^ 32) checkpoint.parts
  pub number : checkpoint.number < 2 ^ 32
  pub cutoff : checkpoint.cutoff < 2 ^ 64 - 1
  pub version : 0 < checkpoint.version
  pub newest : checkpoint.version < 2 ^ 64 - 1

-- the text of each part has at most this many bytes, or a single entry
abbrev pub ArePartsWithin : ℕ → Checkpoint → Type 0
ArePartsWithin limit checkpoint = (part : ℕ) → (length (pairs_of checkpoint part) ≤ 1) ⊎ (length (part_text checkpoint part) ≤ limit)

-- the checkpoint has these pairs, in order, in parts of at most this many bytes or a single entry
pub record IsDivided (limit : ℕ) (pairs : List Pair) (checkpoint : Checkpoint) : Type 0 where
  pub whole : joined checkpoint.parts ≡ pairs
  pub some : 0 < length checkpoint.parts
  pub counts : AllByRecursion (λ part. length part < 2 ^ 32) checkpoint.parts
  pub within : ArePartsWithin limit checkpoint

-- each checkpoint that has these pairs in such parts has at least this number of parts
abbrev pub NeedsParts : ℕ → List Pair → ℕ → Type 0
NeedsParts limit pairs least = (checkpoint : Checkpoint) → IsDivided limit pairs checkpoint → least ≤ length checkpoint.parts

-- Why there is no checkpoint. The cutoff is looked at first, then the version. Out of memory comes only if neither is the last.
abbrev pub IsPlanFault : ℕ → ℕ → ℕ → List Pair → PlanFault → Type 0
IsPlanFault limit cutoff version pairs Timestamp = cutoff ≡ 2 ^ 64 - 1
IsPlanFault limit cutoff version pairs Version = (cutoff ≢ 2 ^ 64 - 1) × (version ≡ 2 ^ 64 - 1)
IsPlanFault limit cutoff version pairs Parts = (cutoff ≢ 2 ^ 64 - 1) × (version ≢ 2 ^ 64 - 1) × NeedsParts limit pairs (MOST_PARTS + 1)
IsPlanFault limit cutoff version pairs Memory = (cutoff ≢ 2 ^ 64 - 1) × (version ≢ 2 ^ 64 - 1)
