use Rattle.std.proofs.Common.{◌≡◌, ◌∙◌, ℕ, List, length, arith}
use Rattle.std.proofs.lemmas.List.Sorted.{length_permutation}
use Rattle.mt_recover.specs.Steps.Preparing.{IsDivisionOf}
use Rattle.mt_recover.proofs.CountLemmas.{survivors_in, late_in, AddsUp, adds_up, report_is}
use Rattle.mt_recover.proofs.Preparing.{apart_left}
use Rattle.mt_recover.proofs.prepared.Prepared.of.Goals as goal
use Rattle.mt_recover.proofs.prepared.Prepared.of.Goals.{After-len-survivors}

-- what survives is counted
many : (c : After-len-survivors) (logs parts : List (List ℕ)) (is : IsDivisionOf logs parts c.args.report c.args.division) → c.len-survivors.result ≡ length (survivors_in is.basis.facts)
many c logs parts is = c.len-survivors.ensures ∙ length_permutation (survivors_in is.basis.facts) c.args.division.0.updates is.updates

-- so the report has room for it
adds : (c : After-len-survivors) → (late : ℕ) × AddsUp c.args.report c.args.division.1 c.len-survivors.result late
adds c =
    let of = c.requires in
    let facts = of.2.basis.facts in
    (length (late_in facts), rw (of.2.early, many c of.0 of.1 of.2) (adds_up facts c.args.report of.2.found))

pub overflow_sub-late : goal.overflow_sub-late
overflow_sub-late c = (adds c.before).1.marks

pub overflow_sub-late-2 : goal.overflow_sub-late-2
overflow_sub-late-2 c = let a = (adds c.before).1 in omega (arith, a.marks, a.entries, a.all)

pub overflow_sub-late-3 : goal.overflow_sub-late-3
overflow_sub-late-3 c = (adds c.before.before).1.entries

pub overflow_sub-late-4 : goal.overflow_sub-late-4
overflow_sub-late-4 c = let a = (adds c.before.before).1 in omega (arith, a.marks, a.entries, a.all)

pub invariant_of-result : goal.invariant_of-result
invariant_of-result c = record {
  apart = apart_left c.requires.2.basis.facts c.args.division.0.updates c.requires.2.updates;
  survivors = c.len-survivors.ensures;
  few = c.len-survivors.type_inv;
}

pub returns-clause-prepared : goal.returns-clause-prepared
returns-clause-prepared c = λ logs parts is. record {
  basis = is.basis;
  updates = is.updates;
  report = λ pairs layers count. report_is is.basis.facts c.args.report pairs c.len-survivors.result c.args.division.1 layers is.found (many c.before.before logs parts is) is.early count;
}
