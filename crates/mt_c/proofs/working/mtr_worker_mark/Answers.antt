use Rattle.std.proofs.Common.{◌≡◌, ◌∙◌, ◌++◌, ◌∷◌, [], refl, sym, subst}
use Rattle.std.specs.Prelude.{IsSome}
use Rattle.std.specs.Arc.{arc_value}
use Rattle.mt_keeper.specs.Crews.{CrewView, HasDone, marked}
use Rattle.mt_c.specs.Borrowing.{BorrowerView}
use Rattle.mt_c.specs.Loans.{Did}
use Rattle.mt_c.specs.Keepers.{HoldsDeeds}
use Rattle.mt_c.proofs.working.mtr_worker_mark.Goals as goal

pub returns-in-Ok-clause-done : goal.returns-in-Ok-clause-done
returns-in-Ok-clause-done c = λ crew number deeds holds done.
    let inside = c.borrower.inside in
    let did = subst (Did crew number deeds) (sym c.borrower.view_is) (subst (HoldsDeeds crew number deeds) c.in-Some.ensures.value holds) in
    let own : c.deref.result.now ≡ crew = c.deref.ensures ∙ did.0 in
    let ok = c.in-Ok.ensures.ok deeds (subst (λ (x : CrewView). HasDone x.before inside.log deeds) (sym own) did.2) in
    let after : BorrowerView = record { crew = arc_value inside.crew; number = inside.number; log = c.mark.new.log } in
    let is = c.borrower_mut.follows.holds after (subst IsSome (sym c.in-Some.is) refl) in
    (ok.0, rw is (did.0, did.1, subst (λ (x : CrewView). HasDone x.before c.mark.new.log (deeds ++ marked ok.0 ∷ [])) own ok.1))
