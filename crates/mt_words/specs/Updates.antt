-- The updates that the records of a log make.
use Rattle.std.specs.Prelude.{ℕ, suc, Option, Some, None, List, [], ◌∷◌, ◌++◌}
use Rattle.mt_words.specs.declared.record.Change.{Change}
use Rattle.mt_words.specs.declared.update.Origin.{Origin}
use Rattle.mt_words.specs.declared.update.Origin.TheVariants as origins
use Rattle.mt_words.specs.declared.update.Update.{Update}
use Rattle.mt_words.specs.Changes.{Logged}

-- the update that makes this change, with this origin and timestamp
abbrev pub update_at : Origin → ℕ → Change → Update
update_at origin timestamp change =
    record { key = change.key; stamp = record { version = change.version; origin = origin }; timestamp = timestamp; kind = change.kind }

-- the updates of a record: none for a mark, else the one that makes its change
abbrev pub update_by : Origin → ℕ → Option Change → List Update
update_by origin timestamp None = []
update_by origin timestamp (Some change) = update_at origin timestamp change ∷ []

abbrev pub update_of : ℕ → ℕ → Logged → List Update
update_of log nth r = update_by (origins.Log log nth) r.timestamp r.change

-- the updates of a log's records, which are numbered from `nth` on
abbrev pub updates_from : ℕ → ℕ → List Logged → List Update
updates_from log nth [] = []
updates_from log nth (r ∷ rs) = update_of log nth r ++ updates_from log (suc nth) rs
