-- Shares of the updates of a log.
use Rattle.std.specs.Prelude.{ℕ, List}
use Rattle.mt_words.specs.declared.update.Update.{Update}
use Rattle.mt_words.specs.Changes.{Logged}
use Rattle.mt_words.specs.Updates.{updates_from}

-- some consecutive records of a log, with the numbers of the log and of the first record
pub record ShareView : Type 0 where
  pub log : ℕ
  pub from : ℕ
  pub records : List Logged

-- the updates that these records make
abbrev pub updates_of_share : ShareView → List Update
updates_of_share share = updates_from share.log share.from share.records
