-- How records stand in a file: in blocks, one for each write, if the file is of format 4, and else one after the other.
use Rattle.std.specs.Prelude.{◌≡◌, ℕ, ◌+◌, ◌≤◌, ◌⊎◌, Option, Some, None, List, [], ◌∷◌, ◌++◌, drop, Vec, vec_len, vec_capacity}
use Rattle.std.specs.List.{flat_map}
use Rattle.mt_words.specs.Changes.{Logged}
use Rattle.mt_block.specs.declared.block.TheConstants.{FRAME_BYTES}
use Rattle.mt_block.specs.declared.header.Header.{Header}
use Rattle.mt_block.specs.Blocks.{IsHeader, header_bytes, mark_of as mark_in, block, IsFile}
use Rattle.mt_record.specs.declared.feed.head.Head.{Head}
use Rattle.mt_record.specs.Opening.{HasNoSeal, text_head, joined}
use Rattle.mt_record.specs.Spelling.{spelling}
use Rattle.mt_record.specs.Logs.{log_bytes}

-- ---- what one write appends

-- What is appended for the bytes of records: one block, if the file has blocks with this mark. Nothing is appended for no records.
abbrev pub framed : Option ℕ → List ℕ → List ℕ
framed None bytes = bytes
framed (Some mark) [] = []
framed (Some mark) (b ∷ bs) = block mark (b ∷ bs)

-- how many bytes more than those of the records
abbrev pub frame_bytes : Option ℕ → List ℕ → ℕ
frame_bytes None bytes = 0
frame_bytes (Some mark) [] = 0
frame_bytes (Some mark) (b ∷ bs) = FRAME_BYTES

-- ---- files

-- the bytes are a file of blocks with this mark; its text has this header and these records
pub record IsFileOfBlocks (mark : ℕ) (head : Head) (records : List Logged) (bytes : List ℕ) : Type 0 where
  pub header : Header
  pub bodies : List (List ℕ)
  pub is_file : IsFile bytes header bodies []
  pub is_mark : mark ≡ mark_in header
  pub is_head : head ≡ text_head header
  pub is_text : joined bodies ≡ flat_map spelling records

-- the bytes are a file with these records: of blocks, if it has a mark
abbrev pub IsFileWith : Option ℕ → Head → List Logged → List ℕ → Type 0
IsFileWith None head records bytes = bytes ≡ log_bytes head records
IsFileWith (Some mark) head records bytes = IsFileOfBlocks mark head records bytes

-- the mark of the file, if it has blocks
abbrev pub HasMark : Option ℕ → List ℕ → Type 0
HasMark None bytes = HasNoSeal bytes
HasMark (Some mark) bytes = (header : Header) × (more : List ℕ) × IsHeader header × (bytes ≡ header_bytes header ++ more) × (mark ≡ mark_in header)

-- ---- the buffer of a writer

-- what a contract sees of held records: the mark of their file, if it has blocks, and their bytes
pub record Buffer : Type 0 where
  pub mark : Option ℕ
  pub records : List ℕ

-- how many bytes stand before the records in a buffer: room for the head of a block, if there is a mark
abbrev pub room_in : Option ℕ → ℕ
room_in None = 0
room_in (Some mark) = 12

-- the bytes of the records in a buffer: if there is a mark, room for the head of a block stands before them
abbrev pub records_in : Option ℕ → List ℕ → List ℕ
records_in None bytes = bytes
records_in (Some mark) bytes = drop 12 bytes

-- if there is a mark, the first `before` bytes have room for the head of a block, and there is room for a checksum after them
abbrev pub HasFront : {Z : Type 0} → Option ℕ → ℕ → Vec ℕ Z → Type 0
HasFront None before bytes = Unit {0}
HasFront (Some mark) before bytes = (12 ≤ before) × (before + 4 ≤ vec_capacity bytes)

-- if there is a mark, the buffer is empty, or has room for the head of a block and for the checksum
abbrev pub HasRoomAround : {Z : Type 0} → Option ℕ → Vec ℕ Z → Type 0
HasRoomAround mark bytes = (bytes.items ≡ []) ⊎ HasFront mark (vec_len bytes) bytes
