-- Texts one after another in one buffer, each after its length.
use Rattle.std.specs.Prelude.{◌≡◌, ◌≤◌, ◌+◌, ◌^◌, ℕ, zero, suc, List, [], ◌∷◌, length, take, drop, All}
use Rattle.byteorder.specs.Endian.{big_number}
use Rattle.mt_words.specs.declared.update.Update.{Update}
use Rattle.mt_words.specs.Walks.{joined}
use Rattle.mt_record.specs.Steps.Texts.{IsUpdateText}

-- the first texts of the bytes, this many
abbrev pub texts_in : ℕ → List ℕ → List (List ℕ)
texts_in zero bytes = []
texts_in (suc n) bytes = take (big_number 4 bytes) (drop 4 bytes) ∷ texts_in n (drop (4 + big_number 4 bytes) bytes)

-- the bytes are this many texts, each after its length
abbrev pub AreTexts : ℕ → List ℕ → Type 0
AreTexts zero bytes = bytes ≡ []
AreTexts (suc n) bytes = (4 + big_number 4 bytes ≤ length bytes) × AreTexts n (drop (4 + big_number 4 bytes) bytes)

-- the bytes are this many texts of updates, each after its length
pub record AreUpdateTexts (n : ℕ) (bytes : List ℕ) : Type 0 where
  pub texts : AreTexts n bytes
  pub lawful : All IsUpdateText (texts_in n bytes)

-- `before` is the number of updates of full blocks
pub record IsCountBefore (full : List (List Update)) (before : ℕ) : Type 0 where
  pub counted : before ≡ length (joined full)
  pub few : before ≤ 2 ^ 63
