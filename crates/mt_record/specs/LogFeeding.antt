-- A log in chunks: what a feed has read, and which faults the bytes so far show.
use Rattle.std.specs.Prelude.{◌≡◌, ℕ, ◌⊎◌, false, Option, Some, None, MatchOption, Result, List, [], ◌++◌}
use Rattle.std.specs.Borrow.{Bor}
use Rattle.mt_words.specs.Limits.{limits_of}
use Rattle.mt_words.specs.Changes.{Logged}
use Rattle.mt_record.specs.declared.read.FeedFault.{FeedFault}
use Rattle.mt_words.specs.declared.fault.What.{What}
use Rattle.mt_words.specs.declared.fault.What.TheVariants.{Checksum}
use Rattle.mt_words.specs.declared.fault.Memory.{Memory}
use Rattle.mt_record.specs.declared.read.FeedFault.TheVariants as faults
use Rattle.mt_record.specs.declared.feed.log_items.LogItems.{LogItems}
use Rattle.mt_record.specs.declared.front.Rest.TheVariants.{Nothing}
use Rattle.mt_record.specs.declared.front.LogFront.{LogFront}
use Rattle.mt_record.specs.Fronts.{ShowsNone, IsUnfinishedFront}
use Rattle.mt_block.specs.declared.header.Header.{Header}
use Rattle.mt_block.specs.Blocks.{IsHeader, header_bytes}
use Rattle.mt_record.specs.declared.feed.head.Head.{Head}
use Rattle.mt_record.specs.Heads.{IsHead, head_bytes}
use Rattle.mt_record.specs.Logs.{AreRecords, IsTorn, log_bytes}
use Rattle.mt_record.specs.LogTexts.{front_of}
use Rattle.mt_record.specs.LogFaults.{RestFault, IsLogFault, OrMemory}
use Rattle.mt_record.specs.Feeding.{Steps, IsFedBy}
use Rattle.mt_record.specs.declared.feed.file_feed.FileFeed.{FileFeed}
use Rattle.mt_record.specs.declared.feed.file_feed.FileKind.{FileKind}
use Rattle.mt_record.specs.declared.feed.file_feed.FileKind.TheVariants as kinds
use Rattle.mt_record.specs.Unsealing.{place_of, FileSoFar, ShowsNoSeal, IsPlain, IsFedAs}

-- ---- what was read

-- What was read of a log: how far it is one, once its header is complete, and the records not yet taken.
pub record LogSoFar : Type 0 where
  pub front : Option LogFront
  pub ready : List Logged

-- the timestamp of the last record that was read, or 0 before the first
abbrev pub latest_read : Option LogFront → ℕ
latest_read None = 0
latest_read (Some front) = front.latest

-- the bytes read are a header and these lawful records, and this is their front
pub record IsReadTo (front : LogFront) (records : List Logged) (bytes : List ℕ) : Type 0 where
  pub spelled : bytes ≡ log_bytes front.head records
  pub is_head : IsHead front.head
  pub lawful : AreRecords (limits_of front.head.format) 0 records
  pub numbers : front ≡ front_of front.head records Nothing

-- the bytes read are nothing, or reach to the front so far; the records are those taken and then those not yet taken
abbrev pub HoldsLog : List Logged → LogSoFar → List ℕ → Type 0
HoldsLog taken so_far bytes = MatchOption so_far.front ((bytes ≡ []) × (taken ++ so_far.ready ≡ [])) (λ front. IsReadTo front (taken ++ so_far.ready) bytes)

-- nothing more can be read from the rest, and it shows no fault
abbrev pub IsLogLeft : LogSoFar → List ℕ → Type 0
IsLogLeft so_far rest = MatchOption so_far.front (IsUnfinishedFront IsHead head_bytes rest) (λ front. (rest ≡ []) ⊎ IsTorn (limits_of front.head.format) rest)

-- after the records so far, `nth` of them, the rest has this fault
pub record IsFaultBehind (read : Option LogFront) (nth : ℕ) (what : What) (rest : List ℕ) : Type 0 where
  pub front : LogFront
  pub begun : read ≡ Some front
  pub number : nth ≡ front.count
  pub fault : RestFault what (limits_of front.head.format) front.latest rest

-- the rest shows the fault, whatever bytes follow; for `Memory` nothing is required
abbrev pub IsLogFaulty : LogSoFar → FeedFault → List ℕ → Type 0
IsLogFaulty so_far faults.Header rest = (so_far.front ≡ None) × ShowsNone IsHead head_bytes rest
IsLogFaulty so_far (faults.Record nth what) rest = IsFaultBehind so_far.front nth what rest
IsLogFaulty so_far faults.Memory rest = Unit {0}

-- ---- faults that are shown

-- The bytes so far show the fault, whatever bytes follow; they never show `Memory`. A header of format 4 is judged once all its bytes are there.
abbrev pub ShowsFault : List ℕ → FeedFault → Type 0
ShowsFault bytes faults.Header = (IsPlain bytes × ShowsNone IsHead head_bytes bytes) ⊎ ShowsNoSeal bytes
ShowsFault bytes (faults.Record nth what) = IsLogFault bytes (faults.Record nth what)
ShowsFault bytes faults.Memory = ⊥

-- the bytes show the fault that a feed returned, unless it is `Memory`
abbrev pub IsShown : List ℕ → FeedFault → Type 0
IsShown bytes = OrMemory faults.Memory (ShowsFault bytes)

-- the bytes show that they begin with no header, whatever follows; for `Memory` nothing is required
abbrev pub IsHeaderShown : List ℕ → FeedFault → Type 0
IsHeaderShown bytes fault = (fault ≡ faults.Memory) ⊎ ((fault ≡ faults.Header) × ShowsNoSeal bytes)

abbrev pub ShowsNoFault : List ℕ → Type 0
ShowsNoFault bytes = (fault : FeedFault) → ShowsFault bytes fault → ⊥

-- ---- items

-- what was read, as contracts see it; `listed` gives the records in the collection that the feed fills
abbrev pub log_so_far : {R : Type 0} → (R → List Logged) → LogItems R → LogSoFar
log_so_far listed items = record { front = items.front; ready = listed items.ready }

-- one step of reading a log
abbrev pub StepsLog : {R : Type 0} → (R → List Logged) → LogItems R → LogItems R → List ℕ → Result (Option (Bor (List ℕ))) FeedFault → Type 0
StepsLog listed old new bytes answer =
    Steps (λ taken items. HoldsLog taken (log_so_far listed items)) (λ items. IsLogLeft (log_so_far listed items)) (λ items. IsLogFaulty (log_so_far listed items)) old new bytes answer

-- ---- feeds

-- what contracts see of a log's feed: what was read of the text, the beginning of a record that is held back, the fault that was returned, and the file around the text
pub record FedLog : Type 0 where
  pub so_far : LogSoFar
  pub held : List ℕ
  pub fault : Option FeedFault
  pub file : FileSoFar FeedFault

-- the number of records that were read
abbrev pub count_read : Option LogFront → ℕ
count_read None = 0
count_read (Some front) = front.count

-- the fault of a file that is damaged after these records
abbrev pub damage_after : LogSoFar → FeedFault
damage_after so_far = faults.Record (count_read so_far.front) Checksum

abbrev pub IsMemory : FeedFault → Type 0
IsMemory fault = (memory : Memory) × (fault ≡ faults.Memory)

-- the feed of the text was fed this text
abbrev pub IsTextFed : List Logged → LogSoFar → List ℕ → Option FeedFault → List ℕ → Type 0
IsTextFed taken so_far held fault text = IsFedBy (HoldsLog taken) IsLogLeft IsLogFaulty so_far held fault text

-- the feed was fed these bytes, and these records were taken from it
abbrev pub IsLogFed : FedLog → List ℕ → List Logged → Type 0
IsLogFed feed bytes taken = IsFedAs feed.file.kind (IsTextFed taken feed.so_far feed.held) (damage_after feed.so_far) IsHeaderShown IsMemory feed.file feed.fault bytes

-- the bytes are a header, of a log or of a file of format 4, and nothing else
abbrev pub IsAnyHeader : List ℕ → Type 0
IsAnyHeader bytes = ((head : Head) × IsHead head × (bytes ≡ head_bytes head)) ⊎ ((header : Header) × IsHeader header × (bytes ≡ header_bytes header))

-- the feed was fed some header, and then these bytes
pub record IsFedBehind (feed : FedLog) (bytes : List ℕ) : Type 0 where
  pub header : List ℕ
  pub is_header : IsAnyHeader header
  pub fed : IsLogFed feed (header ++ bytes) []

-- the fault that was returned: that of the text in a plain file, and otherwise that of the file
abbrev pub fault_in : FileKind → Option FeedFault → Option FeedFault → Option FeedFault
fault_in kinds.Plain of_text of_file = of_text
fault_in kind of_text of_file = of_file

-- what contracts see of this feed of a file; `listed` gives its records
abbrev pub fed_log : {R : Type 0} → (R → List Logged) → FileFeed R → FedLog
fed_log listed file =
    let inner = file.blocks.items.inner in
    record {
      so_far = log_so_far listed inner.items;
      held = inner.held.items;
      fault = fault_in file.kind inner.fault file.blocks.fault;
      file = record { kind = file.kind; held = file.blocks.held.items; fault = inner.fault; place = place_of file.blocks.items };
    }

-- all bytes of the file were read
abbrev pub IsAllRead : FedLog → Type 0
IsAllRead feed = (feed.held ≡ []) × (feed.file.kind ≡ kinds.Blocks → (feed.file.held ≡ []) × (feed.file.place.searching ≡ false))
