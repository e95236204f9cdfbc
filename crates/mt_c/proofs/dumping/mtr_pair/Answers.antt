use Rattle.std.proofs.Common.{◌≡◌, ◌∙◌, List, Some, sym, ap, subst}
use Rattle.std.specs.Prelude.{Contains}
use Rattle.std.specs.Arc.{arc_value}
use Rattle.mt_words.specs.Walks.{Pair}
use Rattle.mt_recover.specs.Report.{Outcome}
use Rattle.mt_c.specs.declared.held.Held.TheVariants as held
use Rattle.mt_c.specs.Holding.{HoldsOutcome}
use Rattle.mt_c.proofs.dumping.mtr_pair.Goals as goal

pub returns-in-None-clause-absent : goal.returns-in-None-clause-absent
returns-in-None-clause-absent c = λ outcome holds absent columns has.
    let value = c.in-Some-Store.ensures.value in
    let is = c.in-Some-Store.field-0-is in
    let was : c.args.store.now.handle.value ≡ Some (held.Store c.in-Some-Store.recovered) = cc in
    let same : arc_value c.in-Some-Store.recovered ≡ outcome = subst (HoldsOutcome outcome) was holds in
    let pairs : c.store-store.result.now ≡ outcome.store = c.store-store.ensures ∙ ap (λ (found : Outcome). found.store) (c.deref.ensures ∙ same) in
    c.in-None.ensures columns (subst (λ (pairs : List Pair). Contains pairs (c.args.key.now, columns)) (sym pairs) has)
