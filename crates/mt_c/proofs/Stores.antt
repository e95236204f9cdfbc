-- From what was fed to the store of its bytes.
use Rattle.std.proofs.Common.{◌≡◌, ℕ, List, [], ◌∷◌, map, Option, Some, None, refl, sym, true≢false}
use Rattle.std.specs.Prelude.{IsSome}
use Rattle.std.specs.List.{All}
use Rattle.std.proofs.lemmas.List.Elements.{All-head, All-tail}
use Rattle.mt_recover.specs.Fed.{Input, seen_fed}
use Rattle.mt_recover.specs.Inputs.{MayHave, OfSources}
use Rattle.mt_recover.specs.Report.{Outcome, IsRecoveredOf}
use Rattle.mt_recover.specs.Tasks.{DividingView, IsDividingOf}
use Rattle.mt_c.specs.declared.held.Held.{Held}
use Rattle.mt_c.specs.declared.held.Held.TheVariants as held
use Rattle.mt_c.specs.declared.job.Step.TheVariants as steps
use Rattle.mt_c.specs.Jobs.{IsStepOf, JobView}
use Rattle.mt_c.specs.Holding.{HoldsJobOf, HoldsOutcome, HoldsStoreOf}

-- inputs that were fed whole have only their bytes
bytes_of : (inputs : List Input) (all : List (List ℕ)) → All IsSome inputs → MayHave seen_fed inputs all → inputs ≡ map Some all
bytes_of [] [] whole may = refl
bytes_of [] (b ∷ bs) whole may = absurd may
bytes_of (i ∷ is) [] whole may = absurd may
bytes_of (Some bytes ∷ is) (b ∷ bs) whole may = let rest = bytes_of is bs (All-tail IsSome (Some bytes) is whole) may.1 in (λ k. Some (may.0 k) ∷ rest k)
bytes_of (None ∷ is) (b ∷ bs) whole may = absurd (true≢false (sym (All-head IsSome None is whole)))

-- the place holds the store of what was fed
pub store_held : (logs parts : List Input) (place : Option Held) (outcome : Outcome) → OfSources seen_fed logs parts (λ ls ps. IsRecoveredOf ls ps outcome) → All IsSome logs × All IsSome parts → HoldsOutcome outcome place
    → HoldsStoreOf logs parts place
store_held logs parts place outcome of whole held = record {
  log_bytes = of.logs;
  logs_are = bytes_of logs of.logs whole.0 of.logs_may;
  part_bytes = of.parts;
  parts_are = bytes_of parts of.parts whole.1 of.parts_may;
  outcome = outcome;
  held = held;
  recovered = of.holds;
}

-- the place holds a job for what was fed
pub job_held : (logs parts : List Input) (place : Option Held) (dividing : DividingView) (job : JobView) → OfSources seen_fed logs parts (λ ls ps. IsDividingOf ls ps dividing) → All IsSome logs × All IsSome parts → place ≡ Some (held.Job job)
    → job.step ≡ steps.Dividing dividing → HoldsJobOf logs parts place
job_held logs parts place dividing job of whole is step = record {
  log_bytes = of.logs;
  logs_are = bytes_of logs of.logs whole.0 of.logs_may;
  part_bytes = of.parts;
  parts_are = bytes_of parts of.parts whole.1 of.parts_may;
  held = rw is (rw step of.holds);
}

-- and after a call that keeps its step, the same
pub job_kept : (logs parts : List Input) (old new : Option Held) (before after : JobView) → old ≡ Some (held.Job before) → new ≡ Some (held.Job after) → ((ls ps : List (List ℕ)) → IsStepOf ls ps before.step → IsStepOf ls ps after.step)
    → HoldsJobOf logs parts old → HoldsJobOf logs parts new
job_kept logs parts old new before after was is step holds = record {
  log_bytes = holds.log_bytes;
  logs_are = holds.logs_are;
  part_bytes = holds.part_bytes;
  parts_are = holds.parts_are;
  held = rw is (step holds.log_bytes holds.part_bytes (rw was at holds.held));
}
