-- The encoding of a mark, in three pieces.
use Rattle.std.proofs.Common.{◌≡◌, ℕ, [], ◌∷◌, ◌++◌, refl}
use Rattle.byteorder.specs.Endian.{big_bytes}
use Rattle.mt_words.specs.Built.{mark_of}
use Rattle.mt_record.specs.Spelling.{spelling}

pub mark_joined : (time : ℕ) → (0 ∷ 0 ∷ 0 ∷ 9 ∷ 3 ∷ []) ++ (big_bytes 8 time ++ (0 ∷ 0 ∷ 0 ∷ 9 ∷ [])) ≡ spelling (mark_of time)
mark_joined time = refl
