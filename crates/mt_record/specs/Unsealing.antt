-- Reading the blocks of a file in chunks, whatever the text in them is.
use Rattle.std.specs.Prelude.{◌≡◌, ℕ, ◌≤◌, ◌<◌, ◌⊎◌, Bool, false, Option, Some, None, Result, List, [], ◌++◌, length, All, MatchBool, codes}
use Rattle.std.specs.Borrow.{Bor}
use Rattle.mt_block.specs.declared.header.Header.{Header}
use Rattle.mt_block.specs.Blocks.{IsHeader, header_bytes, mark_of, IsBody, HasNoHead, HasSomeHead, IsCut, IsBroken, IsDamage, blocks}
use Rattle.mt_record.specs.declared.feed.blocks.Blocks.{Blocks}
use Rattle.mt_record.specs.declared.feed.file_feed.FileKind.{FileKind}
use Rattle.mt_record.specs.declared.feed.file_feed.FileKind.TheVariants as kinds
use Rattle.mt_record.specs.Heads.{head_bytes}
use Rattle.mt_record.specs.Opening.{IsSealed, HasNoSeal, text_head, joined}
use Rattle.mt_record.specs.Feeding.{Steps, IsFedBy}

-- ---- blocks

-- where a reader of blocks stands: the mark of the file, whether it searches for a head behind something broken, and the last bytes that it passed over
pub record Place : Type 0 where
  pub mark : ℕ
  pub searching : Bool
  pub seam : List ℕ

abbrev pub place_of : {I F : Type 0} → Blocks I F → Place
place_of reader = record { mark = reader.mark; searching = reader.searching; seam = reader.seam.items }

-- the last bytes, all or as many as a head has but one
pub record IsSeam (bytes seam : List ℕ) : Type 0 where
  pub front : List ℕ
  pub spelled : bytes ≡ front ++ seam
  pub most : length seam ≤ 11
  pub all : length seam < 11 → front ≡ []

-- something broken was passed over, with no head behind it, up to the seam
pub record IsPassed (mark : ℕ) (skipped seam : List ℕ) : Type 0 where
  pub behind : List ℕ
  pub broken : IsBroken mark skipped behind
  pub none : HasNoHead mark behind
  pub ends : IsSeam behind seam

-- these bytes were passed over
abbrev pub HasPassed : Place → List ℕ → Type 0
HasPassed place skipped = MatchBool place.searching (IsPassed place.mark skipped place.seam) ((skipped ≡ []) × (place.seam ≡ []))

-- The bytes are blocks of this file, and what was passed over. The feed of the text was fed `text`, and then the bodies.
pub record HoldsBlocks (is_fed : List ℕ → Type 0) (place : Place) (text : List ℕ) (mark : ℕ) (bytes : List ℕ) : Type 0 where
  pub same : place.mark ≡ mark
  pub bodies : List (List ℕ)
  pub skipped : List ℕ
  pub spelled : bytes ≡ blocks place.mark bodies ++ skipped
  pub are_bodies : All IsBody bodies
  pub fed : is_fed (text ++ joined bodies)
  pub passed : HasPassed place skipped

-- nothing more can be read from the rest: it is empty or the beginning of a block, and the text has no fault
abbrev pub AreBlocksLeft : {F : Type 0} → Option F → Place → List ℕ → Type 0
AreBlocksLeft fault place rest = (fault ≡ None) × MatchBool place.searching (rest ≡ []) ((rest ≡ []) ⊎ IsCut place.mark rest)

-- the fault is that of the text; or it has none, and the rest shows that the file is damaged; for out of memory nothing is required
abbrev pub AreBlocksFaulty : {F : Type 0} → F → (F → Type 0) → Option F → Place → F → List ℕ → Type 0
AreBlocksFaulty damage IsMemory fault place answer rest =
    (fault ≡ Some answer) ⊎ (((fault ≡ None) × (answer ≡ damage) × MatchBool place.searching (HasSomeHead place.mark (place.seam ++ rest)) (IsDamage place.mark rest)) ⊎ IsMemory answer)

-- one step of reading blocks
abbrev pub StepsBlocks : {T I F : Type 0} → (T → I → List ℕ → Type 0) → (I → List ℕ → Type 0) → (I → F → List ℕ → Type 0) → (I → F) → (F → Type 0)
    → Blocks I F → Blocks I F → List ℕ → Result (Option (Bor (List ℕ))) F → Type 0
StepsBlocks {T} {I} {F} holds is_left shows damage IsMemory old new bytes answer =
    Steps {T = T × List ℕ × ℕ} {I = Blocks I F}
    (λ taken b. HoldsBlocks (IsFedBy (holds taken.0) is_left shows b.inner.items b.inner.held.items b.inner.fault) (place_of b) taken.1 taken.2)
    (λ b. AreBlocksLeft b.inner.fault (place_of b))
    (λ b. AreBlocksFaulty (damage b.inner.items) IsMemory b.inner.fault (place_of b))
    old new bytes answer

-- ---- files

-- what contracts see of a file around its text: the bytes held back, the fault of the text, and where the reader of blocks stands
pub record FileSoFar (F : Type 0) : Type 0 where
  pub kind : FileKind
  pub held : List ℕ
  pub fault : Option F
  pub place : Place

-- the bytes do not tell yet whether they are a file of format 4, or have not all of its header
abbrev pub IsUntold : List ℕ → Type 0
IsUntold bytes = ((more : List ℕ) × (codes "MTL4" ≡ bytes ++ more) × (0 < length more)) ⊎ (IsSealed bytes × (length bytes < 44))

-- the bytes have all of a header of format 4, but none stands there
abbrev pub ShowsNoSeal : List ℕ → Type 0
ShowsNoSeal bytes = IsSealed bytes × (44 ≤ length bytes) × HasNoSeal bytes

-- the bytes are no file of format 4, whatever follows
abbrev pub IsPlain : List ℕ → Type 0
IsPlain bytes = (more : List ℕ) → IsSealed (bytes ++ more) → ⊥

-- Nothing of the text was read. Without a fault, all bytes are held; a fault is out of memory, or the bytes show that no header stands there.
pub record IsFedUntold {F : Type 0} (is_fed : List ℕ → Type 0) (ShowsHeader : List ℕ → F → Type 0) (file : FileSoFar F) (fault : Option F) (bytes : List ℕ) : Type 0 where
  pub fed : is_fed []
  pub sound : file.fault ≡ None
  pub first : (file.place.searching ≡ false) × (file.place.seam ≡ [])
  pub held : fault ≡ None → (bytes ≡ file.held) × IsUntold bytes
  pub shown : (answer : F) → fault ≡ Some answer → ShowsHeader bytes answer

-- the bytes are a header, and the reader of blocks was fed those behind it
pub record IsFedBlocks {F : Type 0} (is_fed : List ℕ → Type 0) (damage : F) (IsMemory : F → Type 0) (file : FileSoFar F) (fault : Option F) (bytes : List ℕ) : Type 0 where
  pub header : Header
  pub behind : List ℕ
  pub is_header : IsHeader header
  pub spelled : bytes ≡ header_bytes header ++ behind
  pub fed : IsFedBy (λ place. HoldsBlocks is_fed place (head_bytes (text_head header)) (mark_of header)) (λ place. AreBlocksLeft file.fault place) (λ place. AreBlocksFaulty damage IsMemory file.fault place) file.place file.held fault behind

-- what kind of file the bytes are, and what was fed to the feed of their text
abbrev pub IsFedAs : {F : Type 0} → FileKind → (Option F → List ℕ → Type 0) → F → (List ℕ → F → Type 0) → (F → Type 0) → FileSoFar F → Option F → List ℕ → Type 0
IsFedAs kinds.Untold is_fed damage ShowsHeader IsMemory file fault bytes = IsFedUntold (is_fed file.fault) ShowsHeader file fault bytes
IsFedAs kinds.Plain is_fed damage ShowsHeader IsMemory file fault bytes = IsPlain bytes × is_fed fault bytes
IsFedAs kinds.Blocks is_fed damage ShowsHeader IsMemory file fault bytes = IsFedBlocks (is_fed file.fault) damage IsMemory file fault bytes
