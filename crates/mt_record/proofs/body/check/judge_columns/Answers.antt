use Rattle.std.proofs.Common.{◌&&◌, leb, ◌+◌, ◌-◌, ◌<◌, ◌++◌, ◌∷◌, [], List, ℕ, length, refl, sym, ap, subst, ◌∙◌, rules, arith}
use Rattle.std.proofs.lemmas.List.{nil_from_length}
use Rattle.std.proofs.lemmas.Bool.{false≢true, eqb-true}
use Rattle.std.proofs.lemmas.Bool.Decides.{nat_tests}
use Rattle.mt_words.specs.declared.limits.Limits.{Limits}
use Rattle.mt_words.specs.Limits.{limits_of}
use Rattle.mt_words.proofs.ColumnBytes.{no_columns}
use Rattle.mt_record.specs.Steps.Bodies.{HasColumns}
use Rattle.mt_record.proofs.Checked.{AreSoFar, one_more, judged_all}
use Rattle.mt_record.proofs.Columns.{step_left, step_joins}
use Rattle.mt_record.proofs.body.check.judge_columns.Goals as goal

pub returns-in_err-number-clause-none : goal.returns-in_err-number-clause-none
returns-in_err-number-clause-none c =
    let none : HasColumns c.args.count c.args.bytes.now → ⊥ =
    λ h. let left = c.loop.invariant.left h in no_columns (c.args.count - c.loop.counter) c.loop.rest.now left.0 c.in_err-number.ensures.none (omega arith) left.1 in
    search (rules, none)

pub loop-preserved : goal.loop-preserved
loop-preserved c =
    let limits = limits_of c.args.format in
    let column : ℕ × List ℕ = (c.in_ok-number.number, c.in_ok-number.field-0-1.now) in
    let found = c.in_ok-number.ensures.found in
    let front = c.loop.invariant.front in
    let greatest = ap (λ (l : Limits). l.column) c.limits.ensures in
    record {
      front = front ++ column ∷ [];
      left = λ h. step_left c.args.count c.loop.counter c.loop.rest.now c.in_ok-number.after.now column c.loop-test.true found.0 found.1 (c.loop.invariant.left h);
      joins = step_joins c.args.count c.loop.counter c.args.count c.args.bytes.now c.loop.rest.now c.in_ok-number.after.now front (front ++ column ∷ []) column c.loop-test.true found.0 found.1 c.loop.invariant.joins refl;
      so_far = subst (λ (n : ℕ). AreSoFar limits (front ++ column ∷ []) ((c.loop.allowed && leb c.loop.least n) && leb n c.from-greatest.result) (n + 1)) (sym c.from-number.ensures)
          (one_more limits front c.loop.allowed c.loop.least c.from-greatest.result column c.loop.invariant.so_far (c.from-greatest.ensures ∙ greatest) found.0.1);
    }

pub returns-then-allowed-clause-found : goal.returns-then-allowed-clause-found
returns-then-allowed-clause-found c =
    judged_all (limits_of c.args.format) c.args.count c.loop.counter c.args.bytes.now c.loop.rest.now c.loop.invariant.front c.loop.allowed _ c.loop.least c.loop-test.false (nil_from_length c.loop.rest.now (eqb-true (length c.loop.rest.now) 0 (sym c.if-not-is_empty.ensures))) c.loop.invariant.joins c.loop.invariant.so_far
    (λ t. (c.if-allowed.true, grind (arith, nat_tests)), λ h. let some : 0 < c.args.count = h.1 in grind (arith, nat_tests))

pub returns-else-allowed-clause-found : goal.returns-else-allowed-clause-found
returns-else-allowed-clause-found c =
    judged_all (limits_of c.args.format) c.args.count c.loop.counter c.args.bytes.now c.loop.rest.now c.loop.invariant.front c.loop.allowed c.loop.allowed c.loop.least c.loop-test.false (nil_from_length c.loop.rest.now (eqb-true (length c.loop.rest.now) 0 (sym c.if-not-is_empty.ensures))) c.loop.invariant.joins c.loop.invariant.so_far
    (λ t. absurd (false≢true (sym c.if-allowed.false ∙ t)), λ h. h.0)
