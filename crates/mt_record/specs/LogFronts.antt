-- How far bytes are a log, and what follows.
use Rattle.std.specs.Prelude.{◌≡◌, ℕ, ◌⊎◌, Bool, false, List, [], ◌++◌, IsTrue}
use Rattle.mt_words.specs.declared.fault.What.TheVariants.{Checksum}
use Rattle.mt_words.specs.declared.limits.Limits.{Limits}
use Rattle.mt_words.specs.Limits.{limits_of}
use Rattle.mt_words.specs.Changes.{Logged}
use Rattle.mt_record.specs.declared.front.Rest.{Rest}
use Rattle.mt_record.specs.declared.front.Rest.TheVariants.{Nothing, Torn, Faulty}
use Rattle.mt_record.specs.declared.front.LogFront.{LogFront}
use Rattle.mt_record.specs.Heads.{IsHead}
use Rattle.mt_record.specs.Logs.{AreRecords, latest, IsTorn, log_bytes}
pub use Rattle.mt_record.specs.LogTexts.{front_of, front_in}
use Rattle.mt_record.specs.LogFaults.{RestFault}
use Rattle.mt_record.specs.Opening.{Opens, OpensSoFar, IsDamagedAfter}

-- what follows the records of a text, of which the last has the timestamp `low`
abbrev pub IsTextRest : Limits → ℕ → List ℕ → Rest → Type 0
IsTextRest limits low rest Nothing = rest ≡ []
IsTextRest limits low rest Torn = IsTorn limits rest
IsTextRest limits low rest (Faulty what) = RestFault what limits low rest

-- The text begins with a header and these records, and what follows is no record. The front has their header and their numbers.
pub record IsTextFrontOf (text : List ℕ) (records : List Logged) (front : LogFront) : Type 0 where
  pub rest : List ℕ
  pub spelled : text ≡ log_bytes front.head records ++ rest
  pub is_head : IsHead front.head
  pub lawful : AreRecords (limits_of front.head.format) 0 records
  pub is_rest : IsTextRest (limits_of front.head.format) (latest 0 records) rest front.rest
  pub numbers : front ≡ front_of front.head records front.rest

-- nothing follows the records of a log but, maybe, a torn tail
abbrev pub IsEnd : Limits → List ℕ → Type 0
IsEnd limits rest = (rest ≡ []) ⊎ IsTorn limits rest

-- What follows the records in a file with this text, of which `rest` is what follows them, and the last record has the timestamp `low`.
abbrev pub IsRest : List ℕ → List ℕ → Limits → ℕ → List ℕ → Rest → Type 0
IsRest bytes text limits low rest Nothing = Opens bytes text false × (rest ≡ [])
IsRest bytes text limits low rest Torn = (ended : Bool) × Opens bytes text ended × IsEnd limits rest × (IsTrue ended ⊎ IsTorn limits rest)
IsRest bytes text limits low rest (Faulty what) = (OpensSoFar bytes text × RestFault what limits low rest) ⊎ ((what ≡ Checksum) × IsDamagedAfter bytes text × IsEnd limits rest)

-- The text of a file, or its beginning, is a header, these records, and what is no record. The front has their header and their numbers; `bytes` counts those of the text.
pub record IsFrontOf (bytes : List ℕ) (records : List Logged) (front : LogFront) : Type 0 where
  pub text : List ℕ
  pub rest : List ℕ
  pub spelled : text ≡ log_bytes front.head records ++ rest
  pub is_head : IsHead front.head
  pub lawful : AreRecords (limits_of front.head.format) 0 records
  pub is_rest : IsRest bytes text (limits_of front.head.format) (latest 0 records) rest front.rest
  pub numbers : front ≡ front_of front.head records front.rest
