-- What private contracts, models of types and proofs say of lent logs. No public contract names these definitions.
use Rattle.std.specs.Prelude.{◌≡◌, ℕ, ◌≤◌, ◌<◌, Some, List, [], length, slice_get}
use Rattle.atomic_table.specs.Seated.{TableId}
use Rattle.mt_shared.specs.Words.{WordsView}
use Rattle.mt_keeper.specs.declared.crew.TheConstants.{MOST_STAMPS, MOST_LOGS, LATEST_LENT}
use Rattle.mt_keeper.specs.Keeping.{Keeping}
use Rattle.mt_keeper.specs.Crews.{LentView, log_with, words_of, written_from}

-- the number is none of these
abbrev pub NotAmong : List ℕ → ℕ → Type 0
NotAmong numbers number = (i : ℕ) → slice_get numbers i ≡ Some number → ⊥

-- these are the logs of these numbers, in order
pub record AreLent (numbers : List ℕ) (lents : List LentView) : Type 0 where
  pub whole : length lents ≡ length numbers
  pub placed : (i : ℕ) (lent : LentView) → slice_get lents i ≡ Some lent → (lent.place ≡ i) × (slice_get numbers i ≡ Some lent.number)

-- the keeper, of which the logs of these numbers were lent
pub record IsParted (before : Keeping) (numbers : List ℕ) (keeper : Keeping) : Type 0 where
  pub rest : keeper ≡ record before { logs = keeper.logs }
  pub many : length keeper.logs ≡ length before.logs
  pub others : (number : ℕ) → NotAmong numbers number → slice_get keeper.logs number ≡ slice_get before.logs number

-- the keeper may lend its logs
pub record MayLend (before : Keeping) : Type 0 where
  pub clock : before.clock < LATEST_LENT
  pub few : length before.logs ≤ MOST_LOGS

-- what is made to lend the logs of these numbers: shared words, with a hand for each log
pub record IsDealt (before : Keeping) (words : WordsView) (numbers : List ℕ) : Type 0 where
  pub first : words.first ≡ words_of before
  pub many : words.hands ≡ length numbers
  pub named : numbers ≡ written_from 0 before.logs

-- a log of this keeper, just lent
pub record IsFresh (before : Keeping) (table : TableId) (numbers : List ℕ) (i : ℕ) (lent : LentView) : Type 0 where
  pub table_is : lent.table ≡ table
  pub place : lent.place ≡ i
  pub number : slice_get numbers i ≡ Some lent.number
  pub was : slice_get before.logs lent.number ≡ Some (log_with lent lent.writer)
  pub acts : lent.acts ≡ []
  pub left : lent.left ≡ MOST_STAMPS
