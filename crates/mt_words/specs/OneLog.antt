-- The records of one log in memory, and the updates that they make.
use Rattle.std.specs.Prelude.{ℕ, Option, Some, None, List, [], ◌∷◌}
use Rattle.mt_words.specs.declared.update.Update.{Update}
use Rattle.mt_words.specs.Changes.{Logged}
use Rattle.mt_words.specs.Updates.{updates_from}

-- the records of a log, with the number of the log
pub record OneLog : Type 0 where
  pub log : ℕ
  pub records : List Logged

-- the updates that these records make
abbrev pub kept_updates : OneLog → List Update
kept_updates kept = updates_from kept.log 0 kept.records

-- the update as a list, which is empty if there is none
abbrev pub as_list : Option Update → List Update
as_list None = []
as_list (Some update) = update ∷ []
