-- The order of the updates of one key.
use Rattle.std.specs.Prelude.{◌≡◌, ◌<◌, ◌⊎◌}
use Rattle.mt_words.specs.declared.update.Origin.{Origin}
use Rattle.mt_words.specs.declared.update.Origin.TheVariants.{Log, Checkpoint}
use Rattle.mt_words.specs.declared.update.Stamp.{Stamp}

-- one origin comes before another: log updates by the position of their log, then by record; the checkpoint after all of them
abbrev pub IsBefore : Origin → Origin → Type 0
IsBefore (Log a n) (Log b m) = (a < b) ⊎ ((a ≡ b) × (n < m))
IsBefore (Log a n) Checkpoint = Unit {0}
IsBefore Checkpoint (Log b m) = ⊥
IsBefore Checkpoint Checkpoint = ⊥

-- one stamp is older than another: by version, then by origin
abbrev pub IsOlder : Stamp → Stamp → Type 0
IsOlder a b = (a.version < b.version) ⊎ ((a.version ≡ b.version) × IsBefore a.origin b.origin)

-- the first stamp is the same as the second, or older
abbrev pub IsAtMost : Stamp → Stamp → Type 0
IsAtMost a b = (a ≡ b) ⊎ IsOlder a b
