-- The walk of updates in the order of their keys.
use Rattle.std.specs.Prelude.{◌≡◌, ℕ, ◌<◌, List, [], ◌∷◌, length, Contains}
use Rattle.mt_words.specs.declared.update.Update.{Update}
use Rattle.mt_words.specs.Limits.{widest}
use Rattle.mt_words.specs.Words.{IsBelow, AreColumns}
use Rattle.mt_words.specs.Walks.{Pair}
use Rattle.mt_replay.specs.Walk.{IsWalk}
use Rattle.mt_replay.specs.Cells.{AreApart}
use Rattle.mt_replay.specs.Groups.{AreColumnsOf, IsMapOf}

-- the pair of a key, if it has any column
abbrev pub pair_of : List ℕ → List (ℕ × List ℕ) → List Pair
pair_of key [] = []
pair_of key (column ∷ columns) = (key, column ∷ columns) ∷ []

-- a map of these updates, which is their walk if they are apart
pub record IsMade (updates : List Update) (pairs : List Pair) : Type 0 where
  pub map : IsMapOf updates pairs
  pub walk : AreApart updates → IsWalk updates pairs

-- updates of one key, at least one, after updates of lower keys
pub record IsLastKey (before last : List Update) (key : List ℕ) : Type 0 where
  pub some : 0 < length last
  pub same_keys : (u : Update) → Contains last u → u.key ≡ key
  pub below : (u : Update) → Contains before u → IsBelow u.key key

-- the updates of the last key, and the columns that they leave if they are apart
pub record AreLast (before last : List Update) (key : List ℕ) (columns : List (ℕ × List ℕ)) : Type 0 where
  pub of_key : IsLastKey before last key
  pub lawful : AreColumns widest columns
  pub exact : AreApart last → AreColumnsOf last key columns
