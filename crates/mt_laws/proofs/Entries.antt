-- The stamps of records and of entries.
use Rattle.std.proofs.Common.{◌≡◌, inl, inr, ℕ, ◌<◌, ◌≤◌, List, Contains, ap, ◌∙◌, subst, arith}
use Rattle.std.proofs.lemmas.Bool.{cases_lt}
use Rattle.mt_words.specs.declared.record.Change.{Change}
use Rattle.mt_words.specs.declared.update.Kind.{Kind}
use Rattle.mt_words.specs.declared.update.Kind.TheVariants.{Put, Remove, Whole, Erase}
use Rattle.mt_words.specs.declared.update.Origin.{Origin}
use Rattle.mt_words.specs.declared.update.Origin.TheVariants as origins
use Rattle.mt_words.specs.declared.update.Stamp.{Stamp}
use Rattle.mt_words.specs.declared.update.Update.{Update}
use Rattle.mt_words.specs.Changes.{Logged, IsReset, IsWhole}
use Rattle.mt_words.specs.Stamps.{IsAtMost, IsBefore}
use Rattle.mt_words.specs.Updates.{update_at}
use Rattle.mt_replay.specs.Survivors.{log_updates}
use Rattle.mt_recover.proofs.Apart.{of_logs}

-- ---- stamps of logs and of entries

-- the stamp of an entry of this version
abbrev pub entry_stamp : ℕ → Stamp
entry_stamp version = record { version = version; origin = origins.Checkpoint }

-- the stamp is of a record of a log
abbrev pub IsOfLog : Stamp → Type 0
IsOfLog stamp = (log : ℕ) × (nth : ℕ) × (stamp.origin ≡ origins.Log log nth)

log_before_entry : (origin : Origin) (log nth : ℕ) → origin ≡ origins.Log log nth → IsBefore origin origins.Checkpoint
log_before_entry (origins.Log a n) log nth e = tt
log_before_entry origins.Checkpoint log nth e = absurd cc

-- a record's stamp is at most an entry's of no lesser version
pub below_entry : (stamp : Stamp) (version : ℕ) → IsOfLog stamp → stamp.version ≤ version → IsAtMost stamp (entry_stamp version)
below_entry stamp version is most = elim (cases_lt stamp.version version) as (λ _. IsAtMost stamp (entry_stamp version)) [
  | inl less ↦ inr (inl less)
  | inr no_less ↦ inr (inr (omega (arith, most, no_less), log_before_entry stamp.origin is.0 is.1 is.2))
]

-- and an entry's is at most a record's only if the record's version is greater
pub above_entry : (stamp : Stamp) (version : ℕ) → IsOfLog stamp → IsAtMost (entry_stamp version) stamp → version < stamp.version
above_entry stamp version is (inl same) = let e : origins.Checkpoint ≡ origins.Log is.0 is.1 = ap (λ (s : Stamp). s.origin) same ∙ is.2 in absurd cc
above_entry stamp version is (inr (inl less)) = less
above_entry stamp version is (inr (inr same)) = absurd (subst (IsBefore origins.Checkpoint) is.2 same.1)

pub whole_resets : (kind : Kind) → IsWhole kind → IsReset kind
whole_resets (Put columns) is = absurd is
whole_resets Remove is = absurd is
whole_resets (Whole columns) is = tt
whole_resets (Erase numbers) is = absurd is

pub of_a_log : (logs : List (List Logged)) (u : Update) → Contains (log_updates logs) u → IsOfLog u.stamp
of_a_log logs u at = let is = of_logs 0 logs u at in (is.0, is.1, is.2)

abbrev pub entry_update : Change → Update
entry_update entry = update_at origins.Checkpoint 0 entry
