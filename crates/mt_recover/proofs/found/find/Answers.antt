use Rattle.std.proofs.Common.{◌∙◌, map, rules, refl, sym, ap, subst}
use Rattle.std.specs.List.{AllZip}
use Rattle.std.proofs.lemmas.Result.{err_from_is_err_and}
use Rattle.mt_words.specs.declared.fault.Fault.TheVariants as faults
use Rattle.mt_scan.specs.declared.log_scan.LogScan.{LogScan}
use Rattle.mt_recover.specs.Steps.Outcomes.{AllFrom, IsFrontSeen, IsLogOutcome}
use Rattle.mt_recover.proofs.SourceLemmas.{all_seen, log_refused, memory_refused, or_memory, scan_says}
use Rattle.mt_recover.proofs.FoundLemmas.{found_of, outcomes_read}
use Rattle.mt_recover.proofs.found.find.Goals as goal

pub returns-in_err-scans-clause-fault : goal.returns-in_err-scans-clause-fault
returns-in_err-scans-clause-fault c = λ limit logs parts are.
    let p = err_from_is_err_and c.from_residual.result c.from_residual.ensures.1 in
    rw (p.1, p.2) (or_memory logs parts c.in_err-scans.field-0.0 (log_refused (scan_says limit) logs parts c.args.outcomes.logs.items c.in_err-scans.field-0.0 are.logs_are) c.in_err-scans.ensures.fault)

pub returns-in_err-fronts-clause-fault : goal.returns-in_err-fronts-clause-fault
returns-in_err-fronts-clause-fault c = λ limit logs parts are.
    let p = err_from_is_err_and c.from_residual-in_err-fronts.result c.from_residual-in_err-fronts.ensures.1 in
    rw (p.1, p.2) (memory_refused logs parts faults.Memory refl)

pub returns-in_err-start-clause-fault : goal.returns-in_err-start-clause-fault
returns-in_err-start-clause-fault c = λ limit logs parts are.
    let p = err_from_is_err_and c.from_residual-in_err-start.result c.from_residual-in_err-start.ensures.1 in
    let scanned = subst (AllFrom (IsLogOutcome limit) 0 logs) c.in_ok-scans.ensures.done are.logs_are in
    let seen = subst (AllZip IsFrontSeen logs) (sym (c.deref-2.ensures.value ∙ c.in_ok-fronts.ensures ∙ ap (map (λ (scan : LogScan). scan.front)) c.deref.ensures.value)) (all_seen (scan_says limit) 0 logs c.in_ok-scans.scans.items scanned) in
    rw (p.1, p.2) (c.in_err-start.ensures.fault logs parts seen (outcomes_read logs parts c.args.outcomes.parts.items are.parts_are))

pub returns-clause-found : goal.returns-clause-found
returns-clause-found c = λ logs parts are.
    found_of logs parts c.args.outcomes (record { scans = c.in_ok-scans.scans; fronts = c.in_ok-fronts.fronts; start = c.in_ok-start.start }) are (search rules) c.in_ok-scans.ensures.done
    (c.in_ok-fronts.ensures ∙ ap (map (λ (scan : LogScan). scan.front)) c.deref.ensures.value) (rw c.deref-2.ensures.value at c.in_ok-start.ensures.facts)

pub returns-clause-whole : goal.returns-clause-whole
returns-clause-whole c = record {
  scans = c.in_ok-scans.scans.items;
  logs = c.in_ok-scans.ensures.done;
  known = c.in_ok-start.ensures.facts.known;
  parts = c.in_ok-start.ensures.facts.parts_are;
}
