-- Why a call of a log's writer is refused.
use Rattle.std.proofs.Common.{◌≡◌, ◌⊎◌, ℕ, Some, refl, sym, ap, ◌∙◌, subst}
use Rattle.std.specs.Prelude.{slice_get}
use Rattle.std.proofs.lemmas.Option.{same_Some}
use Rattle.mt_words.specs.declared.record.Change.{Change}
use Rattle.mt_writer.specs.declared.writer_fault.WriterFault.{WriterFault}
use Rattle.mt_writer.specs.Journals.{Writer}
use Rattle.mt_keeper.specs.declared.keeper.Stage.{Stage}
use Rattle.mt_keeper.specs.declared.keeper.Stage.TheVariants.{Writing}
use Rattle.mt_keeper.specs.declared.keeper.Log.{Log}
use Rattle.mt_keeper.specs.declared.keeper_fault.KeeperFault.TheVariants as faults
use Rattle.mt_keeper.specs.Keeping.{Keeping}
use Rattle.mt_keeper.specs.Refusals.{IsAt, IsNotWritten, HasRefused, NoMark, NoChange}

-- a log in another stage is not in this one
pub not_in : (keeper : Keeping) (number : ℕ) (x : Log) (stage : Stage) → slice_get keeper.logs number ≡ Some x → (x.stage ≡ stage → ⊥) → IsAt keeper number stage → ⊥
not_in keeper number x stage stands not at = not (ap (λ (log : Log). log.stage) (same_Some x at.log (sym stands ∙ at.stands)) ∙ at.is)

-- the log is not written
pub not_written : (inside keeper : Keeping) (number : ℕ) (x : Log) → inside ≡ keeper → slice_get inside.logs number ≡ Some x → ((w : Writer) → x.stage ≡ Writing w → ⊥)
    → IsNotWritten keeper number faults.Log
not_written inside keeper number x is stands not =
    subst (λ (k : Keeping). IsNotWritten k number faults.Log) is (refl, λ w at. not_in inside number x (Writing w) stands (not w) at)

-- the log is written, and its writer refuses
pub refused : (inside keeper : Keeping) (number : ℕ) (x : Log) (w : Writer) (Refuses : Writer → WriterFault → Type 0) (reason : WriterFault) → inside ≡ keeper
    → slice_get inside.logs number ≡ Some x → x.stage ≡ Writing w → Refuses w reason → HasRefused keeper number Refuses (faults.Writer reason)
refused inside keeper number x w Refuses reason is stands stage refuses =
    (w, reason, subst (λ (k : Keeping). IsAt k number (Writing w)) is (record { log = x; stands = stands; is = stage }), refl, refuses)

-- why a change is refused at this time
pub refused_at : (version stamp : ℕ) (change : ℕ → Change) (w : Writer) (reason : WriterFault) → version ≡ stamp
    → NoChange version (change version) w reason → NoChange stamp (change stamp) w reason
refused_at version stamp change w reason is why = subst (λ (v : ℕ). NoChange v (change v) w reason) is why

pub refused_mark_at : (version stamp : ℕ) (w : Writer) (reason : WriterFault) → version ≡ stamp → NoMark version w reason → NoMark stamp w reason
refused_mark_at version stamp w reason is why = subst (λ (v : ℕ). NoMark v w reason) is why
