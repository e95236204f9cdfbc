-- Whether bytes begin with an encoding, for any type of values that has one.
use Rattle.std.specs.Prelude.{◌≡◌, ◌≢◌, ◌<◌, ◌⊎◌, ℕ, Option, Some, None, Result, Ok, Err, List, [], ◌++◌, length, codes, ◌≤◌}
use Rattle.std.specs.Borrow.{Bor}
use Rattle.mt_words.specs.declared.limits.Format.{Format}
use Rattle.mt_words.specs.Limits.{magic}
use Rattle.mt_words.specs.declared.limits.Limits.{Limits}
use Rattle.mt_words.specs.Changes.{Logged, IsLawful}
use Rattle.mt_record.specs.Spelling.{spelling}
use Rattle.mt_record.specs.Heads.{NoneBegins}

-- one of the two lists of bytes is a prefix of the other
abbrev pub GoTogether : List ℕ → List ℕ → Type 0
GoTogether a b = ((more : List ℕ) × (a ≡ b ++ more)) ⊎ ((more : List ℕ) × (b ≡ a ++ more))

-- the bytes begin with the magic of some format, or are a prefix of it
abbrev pub GoesWithMagic : List ℕ → List ℕ → Type 0
GoesWithMagic letters bytes = (format : Format) × GoTogether (magic letters format) bytes

-- the encoding of the value, or no bytes if there is none
abbrev pub bytes_of : {H : Type 0} → (H → List ℕ) → Option H → List ℕ
bytes_of spelled None = []
bytes_of spelled (Some head) = spelled head

-- the bytes neither begin with the encoding of such a value nor are a prefix of one
abbrev pub ShowsNone : {H : Type 0} → (H → Type 0) → (H → List ℕ) → List ℕ → Type 0
ShowsNone {H} Is spelled bytes = NoneBegins Is spelled bytes × ((head : H) (more : List ℕ) → Is head → spelled head ≢ bytes ++ more)

-- the bytes are a proper prefix of the encoding of such a value
pub record IsUnfinishedFront {H : Type 0} (Is : H → Type 0) (spelled : H → List ℕ) (bytes : List ℕ) : Type 0 where
  pub head : H
  pub more : List ℕ
  pub is_head : Is head
  pub some : 0 < length more
  pub begun : spelled head ≡ bytes ++ more

-- What was found at the front. `Ok(None)`: a proper prefix of an encoding. `Ok(Some)`: a value, and the bytes after its encoding.
-- `Err`: there is no such value, whatever bytes follow.
abbrev pub FindsFront : {H E : Type 0} → (H → Type 0) → (H → List ℕ) → List ℕ → Result (Option (H × Bor (List ℕ))) E → Type 0
FindsFront Is spelled bytes (Ok None) = IsUnfinishedFront Is spelled bytes
FindsFront Is spelled bytes (Ok (Some x)) = Is x.0 × (bytes ≡ spelled x.0 ++ x.1.now)
FindsFront Is spelled bytes (Err error) = ShowsNone Is spelled bytes

-- the bytes begin with the magic of a log, or are a prefix of it
abbrev pub GoesWithLog : List ℕ → Type 0
GoesWithLog bytes = GoesWithMagic (codes "MTL") bytes ⊎ GoTogether (codes "MTL3") bytes

-- the bytes are the encoding of this lawful record, whose timestamp is at least `low`, and then `after`
pub record IsNext (limits : Limits) (low : ℕ) (bytes : List ℕ) (r : Logged) (after : List ℕ) : Type 0 where
  pub lawful : IsLawful limits r
  pub rises : low ≤ r.timestamp
  pub spelled : bytes ≡ spelling r ++ after

-- the bytes do not begin with a lawful record whose timestamp is at least `low`
abbrev pub Stops : Limits → ℕ → List ℕ → Type 0
Stops limits low bytes = (r : Logged) (after : List ℕ) → IsLawful limits r → low ≤ r.timestamp → bytes ≢ spelling r ++ after
