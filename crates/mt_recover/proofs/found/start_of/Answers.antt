use Rattle.std.proofs.Common.{ℕ, refl, subst}
use Rattle.std.proofs.lemmas.Result.{err_from_is_err_and}
use Rattle.mt_words.specs.declared.fault.Fault.TheVariants as faults
use Rattle.mt_scan.specs.Segments.{IsFirst, IsGap}
use Rattle.mt_recover.specs.Check.{ArePartOutcomes, IsStartOf}
use Rattle.mt_recover.specs.Verdict.{IsAnsweredFrom}
use Rattle.mt_recover.specs.Steps.Preparing.{AreBases, StartsFrom}
use Rattle.mt_recover.specs.declared.found.Start.{Start}
use Rattle.mt_recover.proofs.SourceLemmas.{has_logs, writers_refused, part_refused, none_refused, memory_refused, or_memory}
use Rattle.mt_recover.proofs.FoundLemmas.{facts_of, of_fronts, start_is}
use Rattle.mt_recover.proofs.found.start_of.Goals as goal

pub returns-in_default-clause-fault : goal.returns-in_default-clause-fault
returns-in_default-clause-fault c = λ logs parts seen are. none_refused logs parts c.args.fronts.now seen c.in_default.ensures.none

pub returns-in_err-check_writers-clause-fault : goal.returns-in_err-check_writers-clause-fault
returns-in_err-check_writers-clause-fault c = λ logs parts seen are.
    let p = err_from_is_err_and c.from_residual.result c.from_residual.ensures.1 in
    rw (p.1, p.2) (writers_refused logs parts c.args.fronts.now c.in_err-check_writers.field-0.0 seen c.in_err-check_writers.ensures.fault)

pub returns-in_err-known-clause-fault : goal.returns-in_err-known-clause-fault
returns-in_err-known-clause-fault c = λ logs parts seen are.
    let p = err_from_is_err_and c.from_residual-in_err-known.result c.from_residual-in_err-known.ensures.1 in
    let some = has_logs c.in-Some.cutoff logs c.args.fronts.now seen c.in-Some.ensures.found in
    rw (p.1, p.2) (or_memory logs parts c.in_err-known.field-0.0 (part_refused logs parts c.args.fronts.now c.args.parts.items c.in_err-known.field-0.0 some seen are c.in_ok-check_writers.ensures.ok) c.in_err-known.ensures.fault)

pub returns-in_err-choice-clause-fault : goal.returns-in_err-choice-clause-fault
returns-in_err-choice-clause-fault c = λ logs parts seen are.
    let p = err_from_is_err_and c.from_residual-in_err-choice.result c.from_residual-in_err-choice.ensures.1 in
    rw (p.1, p.2) (memory_refused logs parts faults.Memory refl)

pub returns-in-Some-first_gap-clause-fault : goal.returns-in-Some-first_gap-clause-fault
returns-in-Some-first_gap-clause-fault c = λ logs parts seen are.
    let fronts = c.args.fronts.now in
    let known = c.in_ok-known.known.items in
    let choice = c.in_ok-choice.choice in
    let bases : AreBases fronts known c.in-Some.cutoff choice = record { writers = c.in_ok-check_writers.ensures.ok; is_cutoff = c.in-Some.ensures.found; choice_is = c.in_ok-choice.ensures } in
    let some = has_logs c.in-Some.cutoff logs fronts seen c.in-Some.ensures.found in (
      of_fronts logs parts fronts known (λ ls ps. IsAnsweredFrom ls ps (faults.Gap c.in-Some-first_gap.log)) some seen (subst (ArePartOutcomes logs parts) c.in_ok-known.ensures.done are) (λ ls ps readings read show are_known other. (
        facts_of ls ps readings fronts known c.in-Some.cutoff choice read show are_known bases,
        subst (λ (n : ℕ). IsFirst (IsGap n readings) c.in-Some-first_gap.log) c.begin_of-begin.ensures (c.in-Some-first_gap.ensures readings show),
      )),
      tt,
    )

pub returns-clause-facts : goal.returns-clause-facts
returns-clause-facts c = record {
  known = c.in_ok-known.known.items;
  parts_are = c.in_ok-known.ensures.done;
  bases = record { writers = c.in_ok-check_writers.ensures.ok; is_cutoff = c.in-Some.ensures.found; choice_is = c.in_ok-choice.ensures };
  begin = c.begin_of-begin.ensures;
  no_gap = c.in_default-first_gap.ensures;
}

pub returns-clause-start : goal.returns-clause-start
unfolding returns-clause-facts
returns-clause-start c = λ logs parts seen are.
    let fronts = c.args.fronts.now in
    let start : Start = record { window = record { begin = c.begin_of-begin.result; cutoff = c.in-Some.cutoff }; choice = c.in_ok-choice.choice } in
    let starts : StartsFrom fronts c.args.parts.items start = returns-clause-facts c in
    of_fronts logs parts fronts starts.known (λ ls ps. IsStartOf ls ps start) (has_logs c.in-Some.cutoff logs fronts seen c.in-Some.ensures.found) seen (subst (ArePartOutcomes logs parts) c.in_ok-known.ensures.done are)
    (λ ls ps readings read show are_known. start_is ls ps readings fronts c.args.parts.items start read show starts are_known)
