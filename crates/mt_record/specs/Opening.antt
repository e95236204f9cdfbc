-- Which text a file contains. A file of formats 1 to 3 is its own text. The text of a file of format 4 is that of a segment: its header, and the bodies of its blocks.
use Rattle.std.specs.Prelude.{◌≡◌, ℕ, ◌⊎◌, Bool, true, false, List, [], ◌++◌, codes}
use Rattle.mt_block.specs.declared.header.Header.{Header}
use Rattle.mt_block.specs.Blocks.{IsHeader, header_bytes, Begins, IsFile, IsDamaged}
pub use Rattle.mt_block.specs.Sealing.{joined}
use Rattle.mt_record.specs.declared.feed.head.Head.{Head}
use Rattle.mt_record.specs.Heads.{head_bytes}
use Rattle.mt_record.specs.Encoding.{segment_head}

-- the bytes begin with the magic of format 4
pub record IsSealed (bytes : List ℕ) : Type 0 where
  pub more : List ℕ
  pub spelled : bytes ≡ codes "MTL4" ++ more

-- the bytes do not begin with a header of format 4
abbrev pub HasNoSeal : List ℕ → Type 0
HasNoSeal bytes = (header : Header) (more : List ℕ) → IsHeader header → bytes ≡ header_bytes header ++ more → ⊥

-- the header of the text of a file with this header
abbrev pub text_head : Header → Head
text_head header = segment_head header.from header.worker header.segment

-- the text of a file with this header and these bodies
abbrev pub text_of : Header → List (List ℕ) → List ℕ
text_of header bodies = head_bytes (text_head header) ++ joined bodies

-- whether any bytes follow the blocks
abbrev pub is_torn : List ℕ → Bool
is_torn [] = false
is_torn end = true

-- the bytes are a file of format 4 with this text; `torn` says whether its end is torn
pub record IsUnsealed (bytes text : List ℕ) (torn : Bool) : Type 0 where
  pub header : Header
  pub bodies : List (List ℕ)
  pub end : List ℕ
  pub is_file : IsFile bytes header bodies end
  pub is_text : text ≡ text_of header bodies
  pub ends : torn ≡ is_torn end

-- the bytes begin with a header of format 4 and blocks, whose text this is; anything may follow
pub record IsUnsealedSoFar (bytes text : List ℕ) : Type 0 where
  pub header : Header
  pub bodies : List (List ℕ)
  pub rest : List ℕ
  pub begins : Begins bytes header bodies rest
  pub is_text : text ≡ text_of header bodies

-- the bytes are a damaged file of format 4; this is the text of the blocks before the damage
pub record IsDamagedAfter (bytes text : List ℕ) : Type 0 where
  pub header : Header
  pub bodies : List (List ℕ)
  pub is_damaged : IsDamaged bytes header bodies
  pub is_text : text ≡ text_of header bodies

-- the bytes are a file of formats 1 to 3, and so their own text
abbrev pub IsOwnText : List ℕ → List ℕ → Type 0
IsOwnText bytes text = (IsSealed bytes → ⊥) × (text ≡ bytes)

-- the bytes are a file with this text; `torn` says whether a torn block follows it
abbrev pub Opens : List ℕ → List ℕ → Bool → Type 0
Opens bytes text torn = (IsOwnText bytes text × (torn ≡ false)) ⊎ IsUnsealed bytes text torn

-- the text of the bytes so far, whatever follows what it comes from
abbrev pub OpensSoFar : List ℕ → List ℕ → Type 0
OpensSoFar bytes text = IsOwnText bytes text ⊎ IsUnsealedSoFar bytes text
