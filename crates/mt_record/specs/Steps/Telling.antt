-- What the first bytes of a file tell.
use Rattle.std.specs.Prelude.{◌≡◌, ℕ, ◌<◌, List, ◌++◌, length}
use Rattle.mt_block.specs.Blocks.{IsHeader, header_bytes}
use Rattle.mt_record.specs.declared.feed.file_feed.Told.{Told}
use Rattle.mt_record.specs.declared.feed.file_feed.Told.TheVariants as told
use Rattle.mt_record.specs.Unsealing.{IsUntold, IsPlain}

-- of these bytes, some are held, and the rest is left; they tell nothing, that the file is plain, or that it has this header, which is held
abbrev pub Tells : List ℕ → List ℕ → Told → Type 0
Tells bytes held told.Nothing = (held ≡ bytes) × IsUntold bytes
Tells bytes held (told.Plain rest) = (bytes ≡ held ++ rest.now) × IsPlain held
Tells bytes held (told.Blocks header rest) = (bytes ≡ held ++ rest.now) × IsHeader header × (held ≡ header_bytes header)

-- what the first bytes tell, of which this rest follows
abbrev pub IsToldBy : List ℕ → List ℕ → Told → Type 0
IsToldBy held rest told.Nothing = IsUntold held × (length held < 44)
IsToldBy held rest (told.Plain left) = IsPlain held × (left.now ≡ rest)
IsToldBy held rest (told.Blocks header left) = IsHeader header × ((more : List ℕ) × (held ≡ header_bytes header ++ more)) × (left.now ≡ rest)
