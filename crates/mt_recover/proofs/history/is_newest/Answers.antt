use Rattle.std.proofs.Common.{◌∙◌, List, take_all, Contains, refl, sym, subst}
use Rattle.std.proofs.lemmas.Bool.{false≢true}
use Rattle.std.proofs.lemmas.List.Elements.{Contains-get_or}
use Rattle.mt_words.specs.declared.update.Update.{Update}
use Rattle.mt_words.proofs.Elements.{no_element}
use Rattle.mt_recover.specs.Steps.Fates.{IsUndoneBy}
use Rattle.mt_recover.proofs.HistoryLemmas.{none_more, newest_if, not_newest}
use Rattle.mt_recover.proofs.history.is_newest.Goals as goal
use Rattle.mt_recover.proofs.history.is_newest.Goals.{else-survives-via-then-survives+else-undoes, else-survives-via-else-survives}

pub loop-other-init : goal.loop-other-init
loop-other-init c = λ v at by. no_element v at

pub loop-other-preserved : goal.loop-other-preserved
loop-other-preserved c = none_more (IsUndoneBy c.args.window c.args.number c.args.update.now) c.args.updates.now c.loop-other.other-index c.other-item.result c.loop-other-test.true c.other-item.is c.loop-other.invariant (λ by. elim c.else-survives.branch as (λ _. ⊥) [
  | else-survives-via-then-survives+else-undoes w ↦ false≢true (sym w.if-undoes.false ∙ w.undoes.ensures.1 by.undoes)
  | else-survives-via-else-survives w ↦ false≢true (sym w.if-survives.false ∙ c.survives.ensures ∙ by.survives)
])

pub returns-then-undoes : goal.returns-then-undoes
returns-then-undoes c =
    let updates = c.args.updates.now in
    let other = c.other-item.result in
    let at = subst (λ (v : Update). Contains updates v) (sym c.other-item.is) (Contains-get_or updates c.loop-other.other-index other c.loop-other-test.true) in
    (λ no. absurd (false≢true no), λ newest. absurd (not_newest c.args.window c.args.number updates c.args.update.now other at (record { survives = sym c.survives.ensures ∙ c.if-survives.true; undoes = c.undoes.ensures.0 c.if-undoes.true }) newest))

pub returns : goal.returns
returns c =
    let updates = c.args.updates.now in
    (λ _. newest_if c.args.window c.args.number updates c.args.update.now (λ v at. c.loop-other.invariant v (subst (λ (us : List Update). Contains us v) (sym (take_all c.loop-other.other-index updates c.loop-other-test.false)) at)), λ _. refl)
