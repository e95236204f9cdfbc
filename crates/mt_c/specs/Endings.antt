-- Where a log ends, in the words that C gets.
use Rattle.std.specs.Prelude.{◌≡◌, ℕ, Bool, true, false, List, ◌++◌, length}
use Rattle.mt_words.specs.declared.limits.Format.{Format}
use Rattle.mt_words.specs.Limits.{limits_of}
use Rattle.mt_record.specs.declared.salvage.Items.TheVariants.{Records}
use Rattle.mt_record.specs.Opening.{IsSealed}
use Rattle.mt_record.specs.Logs.{LogReading, IsReading, log_bytes}
use Rattle.mt_record.specs.LogTexts.{IsLast}
use Rattle.mt_record.specs.Salvage.{GoOn, StartsNowhere, enough_after}
use Rattle.mt_c.specs.declared.ending.LogEnding.{LogEnding}

-- records go on somewhere in what follows the complete records of a log of this format
pub record GoOnBehind (format : Format) (rest : List ℕ) : Type 0 where
  pub skipped : List ℕ
  pub more : List ℕ
  pub spelled : rest ≡ skipped ++ more
  pub go_on : GoOn Records (limits_of format) (enough_after (length skipped)) more

-- whether records go on behind the complete records of a log; of format 4 none do, or the file is damaged, and so no log
pub record GoesOn (bytes : List ℕ) (log : LogReading) (told : Bool) : Type 0 where
  pub sealed : IsSealed bytes → told ≡ false
  pub on : (rest : List ℕ) → (IsSealed bytes → ⊥) → bytes ≡ log_bytes log.head log.records ++ rest → told ≡ true → GoOnBehind log.head.format rest
  pub nowhere : (rest : List ℕ) → (IsSealed bytes → ⊥) → bytes ≡ log_bytes log.head log.records ++ rest → told ≡ false → StartsNowhere Records (limits_of log.head.format) rest (length rest)

-- the bytes are a log that ends so
pub record EndsSo (bytes : List ℕ) (told : LogEnding) : Type 0 where
  pub log : LogReading
  pub is_reading : IsReading bytes log
  pub from : told.from ≡ log.head.from
  pub last : IsLast log told.last
  pub torn : told.torn ≡ log.torn
  pub goes_on : GoesOn bytes log told.goes_on
