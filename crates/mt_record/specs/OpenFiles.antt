-- Files of format 4 whose bytes are all in memory: their text, and where their blocks stand.
use Rattle.std.specs.Prelude.{◌≡◌, ℕ, ◌+◌, List, [], ◌∷◌, length}
use Rattle.mt_block.specs.Blocks.{mark_of, IsTornEnd, IsDamage, Begins}
use Rattle.mt_record.specs.declared.open.FileEnd.{FileEnd}
use Rattle.mt_record.specs.declared.open.FileEnd.TheVariants.{Nothing, Torn, Damaged}
use Rattle.mt_record.specs.declared.open.BlockAt.{BlockAt}
use Rattle.mt_record.specs.declared.open.OpenedFile.{OpenedFile}
use Rattle.mt_record.specs.Opening.{text_of}

-- what the rest behind the blocks is
abbrev pub IsFileEnd : ℕ → List ℕ → FileEnd → Type 0
IsFileEnd mark rest Nothing = rest ≡ []
IsFileEnd mark rest Torn = IsTornEnd mark rest
IsFileEnd mark rest Damaged = IsDamage mark rest

-- where the blocks of these bodies stand, if the first one begins at these bytes of the file and the text
abbrev pub places : ℕ → ℕ → List (List ℕ) → List BlockAt
places file text [] = []
places file text (body ∷ bodies) = record { file = file; text = text } ∷ places (file + (length body + 16)) (text + length body) bodies

-- the bytes are a header, blocks, and what follows them; this is their text, and here the blocks stand
pub record IsOpened (bytes : List ℕ) (opened : OpenedFile) : Type 0 where
  pub bodies : List (List ℕ)
  pub rest : List ℕ
  pub begins : Begins bytes opened.header bodies rest
  pub is_text : opened.text.items ≡ text_of opened.header bodies
  pub stand : opened.blocks.items ≡ places 44 20 bodies
  pub ends : IsFileEnd (mark_of opened.header) rest opened.end
