-- What constructors build: records and entries of these fields.
use Rattle.std.specs.Prelude.{ℕ, List, None}
use Rattle.mt_words.specs.declared.record.Change.{Change}
use Rattle.mt_words.specs.declared.update.Kind.TheVariants.{Put, Remove, Whole, Erase}
use Rattle.mt_words.specs.Changes.{Logged, changed}

abbrev pub mark_of : ℕ → Logged
mark_of timestamp = record { timestamp = timestamp; change = None }

abbrev pub put_of : ℕ → ℕ → List ℕ → List (ℕ × List ℕ) → Logged
put_of timestamp version key columns = changed timestamp (record { version = version; key = key; kind = Put columns })

abbrev pub remove_of : ℕ → ℕ → List ℕ → Logged
remove_of timestamp version key = changed timestamp (record { version = version; key = key; kind = Remove })

abbrev pub erase_of : ℕ → ℕ → List ℕ → List ℕ → Logged
erase_of timestamp version key numbers = changed timestamp (record { version = version; key = key; kind = Erase numbers })

-- the entry of a checkpoint, as a change
abbrev pub entry_of : ℕ → List ℕ → List (ℕ × List ℕ) → Change
entry_of version key columns = record { version = version; key = key; kind = Whole columns }
