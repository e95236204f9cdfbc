-- Salvaging a damaged log or a broken part: which of its bytes are records or entries, and which records are kept.
use Rattle.std.specs.Prelude.{◌≡◌, ℕ, zero, suc, ◌≤◌, ◌<◌, ◌⊎◌, Bool, cond, List, [], ◌∷◌, ◌++◌, length, map}
use Rattle.std.specs.List.{flat_map, AllByRecursion}
use Rattle.mt_words.specs.declared.limits.Limits.{Limits}
use Rattle.mt_words.specs.declared.record.Change.{Change}
use Rattle.mt_words.specs.Changes.{Logged, IsLawful, IsEntry}
use Rattle.mt_record.specs.declared.salvage.TheConstants.{ENOUGH_ITEMS}
use Rattle.mt_record.specs.declared.salvage.Items.{Items}
use Rattle.mt_record.specs.declared.salvage.Items.TheVariants.{Records, Entries}
use Rattle.mt_record.specs.declared.salvage.Found.{Found}
use Rattle.mt_record.specs.declared.part_text.PartHead.{PartHead}
use Rattle.mt_record.specs.Spelling.{spelling, IsRecordLength}
use Rattle.mt_record.specs.Logs.{AreRecords, latest, IsUnfinished}
use Rattle.mt_record.specs.Fronts.{IsNext}
use Rattle.mt_record.specs.Parts.{part_head_bytes, entry_spelling, footer_bytes}
use Rattle.mt_record.specs.PartTexts.{IsEntryLength}

-- ---- what is found

-- the bytes are the encoding of a lawful record with this timestamp, or of a lawful entry, whose timestamp counts as 0
abbrev pub IsItem : Items → Limits → ℕ → List ℕ → Type 0
IsItem Records limits timestamp bytes = (r : Logged) × IsLawful limits r × (timestamp ≡ r.timestamp) × (bytes ≡ spelling r)
IsItem Entries limits timestamp bytes = (entry : Change) × IsEntry limits entry × (timestamp ≡ 0) × (bytes ≡ entry_spelling entry)

-- the bytes are the encoding of some record or entry
abbrev pub IsSomeItem : Items → Limits → List ℕ → Type 0
IsSomeItem items limits bytes = (timestamp : ℕ) × IsItem items limits timestamp bytes

-- an item may have this length
abbrev pub IsItemLength : Items → Limits → ℕ → Type 0
IsItemLength Records limits n = IsRecordLength limits n
IsItemLength Entries limits n = IsEntryLength limits n

-- nothing, or the beginning of an item; only its length is checked
abbrev pub IsEnd : Items → Limits → List ℕ → Type 0
IsEnd items limits bytes = (bytes ≡ []) ⊎ IsUnfinished (IsItemLength items limits) bytes

-- Items go on at the front of the bytes: at least `enough` of them, or at least one, after which comes only the end or the beginning of an item.
pub record GoOn (items : Items) (limits : Limits) (enough : ℕ) (bytes : List ℕ) : Type 0 where
  pub row : List (List ℕ)
  pub after : List ℕ
  pub spelled : bytes ≡ flat_map (λ item. item) row ++ after
  pub are : AllByRecursion (IsSomeItem items limits) row
  pub some : 0 < length row
  pub many : (enough ≤ length row) ⊎ IsEnd items limits after

-- So many items must go on if so many bytes are skipped before them: directly behind another item, or at the beginning, one is enough.
abbrev pub enough_after : ℕ → ℕ
enough_after zero = 1
enough_after (suc n) = ENOUGH_ITEMS

-- items go on at none of the first `n` places of the bytes
abbrev pub StartsNowhere : Items → Limits → List ℕ → ℕ → Type 0
StartsNowhere items limits bytes n = (front back : List ℕ) → bytes ≡ front ++ back → length front < n → GoOn items limits (enough_after (length front)) back → ⊥

-- the first item of the bytes, behind the first of them that are skipped, and what follows it
pub record IsFirst (items : Items) (limits : Limits) (bytes : List ℕ) (found : Found) (after : List ℕ) : Type 0 where
  pub is : IsItem items limits found.timestamp found.bytes.now
  pub spelled : bytes ≡ found.skipped.now ++ (found.bytes.now ++ after)
  pub nowhere : StartsNowhere items limits bytes (length found.skipped.now)
  pub starts : GoOn items limits (enough_after (length found.skipped.now)) (found.bytes.now ++ after)

-- the items of the bytes, one after the other
abbrev pub AreFound : Items → Limits → List ℕ → List Found → Type 0
AreFound items limits bytes [] = StartsNowhere items limits bytes (length bytes)
AreFound items limits bytes (found ∷ others) = (after : List ℕ) × IsFirst items limits bytes found after × AreFound items limits after others

-- the items of these pieces, one piece after the other
abbrev pub AreFoundIn : Items → Limits → List (List ℕ) → List Found → Type 0
AreFoundIn items limits [] found = found ≡ []
AreFoundIn items limits (piece ∷ pieces) found = (first others : List Found) × (found ≡ first ++ others) × AreFound items limits piece first × AreFoundIn items limits pieces others

-- the bytes of items, one after the other
abbrev pub bytes_of : List Found → List ℕ
bytes_of found = flat_map (λ item. item.bytes.now) found

-- the bytes that are skipped before each item, and its own
abbrev pub spans : List Found → List (List ℕ × List ℕ)
spans found = map (λ item. (item.skipped.now, item.bytes.now)) found

-- ---- what is kept

-- those with a mark
abbrev pub marked : {A : Type 0} → List Bool → List A → List A
marked [] xs = []
marked (mark ∷ marks) [] = []
marked (mark ∷ marks) (x ∷ xs) = cond mark (x ∷ marked marks xs) (marked marks xs)

-- timestamps that never fall, the first of which is at least `low`
abbrev pub NeverFall : ℕ → List ℕ → Type 0
NeverFall low [] = Unit {0}
NeverFall low (time ∷ times) = (low ≤ time) × NeverFall time times

-- Of these timestamps, one mark for each: those with a mark never fall, and no marks choose more of which that is true.
pub record KeepMost (times : List ℕ) (marks : List Bool) : Type 0 where
  pub each : length marks ≡ length times
  pub rise : NeverFall 0 (marked marks times)
  pub most : (others : List Bool) → NeverFall 0 (marked others times) → length (marked others times) ≤ length (marked marks times)

-- a header, these entries, and a footer with their number
abbrev pub salvaged_part : PartHead → List Found → ℕ → List ℕ
salvaged_part head entries end = part_head_bytes head ++ (bytes_of entries ++ footer_bytes end (length entries))

-- the front is the encodings of all records at the front of the bytes whose timestamps are below this one
pub record IsFrontBelow (limits : Limits) (timestamp : ℕ) (bytes front : List ℕ) : Type 0 where
  pub records : List Logged
  pub more : List ℕ
  pub spelled : front ≡ flat_map spelling records
  pub joins : bytes ≡ front ++ more
  pub lawful : AreRecords limits 0 records
  pub below : AllByRecursion (λ r. r.timestamp < timestamp) records
  pub all : (r : Logged) (after : List ℕ) → IsNext limits (latest 0 records) more r after → timestamp ≤ r.timestamp
