use Rattle.std.proofs.Common.{◌≡◌, ◌∙◌, ℕ, Some, refl, sym, ap, subst}
use Rattle.std.specs.Prelude.{IsSome}
use Rattle.std.specs.Arc.{arc_value}
use Rattle.mt_words.specs.declared.update.Kind.TheVariants as kinds
use Rattle.mt_keeper.specs.Crews.{CrewView, LentView, HasDone}
use Rattle.mt_keeper.specs.Refusals.{LentTakesNot}
use Rattle.mt_c.specs.Borrowing.{BorrowerView}
use Rattle.mt_c.specs.Loans.{Did}
use Rattle.mt_c.specs.Keepers.{HoldsBorrower, HoldsDeeds}
use Rattle.mt_c.proofs.Workers.{did_at_most}
use Rattle.mt_c.proofs.working.mtr_worker_erase.Goals as goal

pub returns-in-Err-clause-why : goal.returns-in-Err-clause-why
returns-in-Err-clause-why c = λ b holds not_done.
    let same : c.in-Some.borrower.now ≡ b = subst (HoldsBorrower (λ x. x ≡ b)) c.in-Some.ensures.value holds in
    let after : BorrowerView = record { crew = arc_value c.borrower.inside.crew; number = c.borrower.inside.number; log = c.erase.new.log } in
    let is = c.borrower_mut.follows.holds after (subst IsSome (sym c.in-Some.is) refl) in
    let log : c.borrower.inside.log ≡ b.log = ap (λ (x : BorrowerView). x.log) (c.borrower.view_is ∙ same) in
    rw is (
      c.in-Err.fault,
      subst (λ (l : LentView). LentTakesNot (λ (stamp : ℕ). record { version = stamp; key = c.args.key.now; kind = kinds.Erase c.args.numbers.now }) l c.erase.new.log c.in-Err.fault) log c.in-Err.ensures.fault,
      c.fault_status.ensures.value,
    )

pub returns-in-Err-clause-kept : goal.returns-in-Err-clause-kept
returns-in-Err-clause-kept c = λ crew number deeds holds not_done.
    let inside = c.borrower.inside in
    let did = subst (Did crew number deeds) (sym c.borrower.view_is) (subst (HoldsDeeds crew number deeds) c.in-Some.ensures.value holds) in
    let own : c.deref.result.now ≡ crew = c.deref.ensures ∙ did.0 in
    let err = c.in-Err.ensures.err deeds (subst (λ (x : CrewView). HasDone x.before inside.log deeds) (sym own) did.2) in
    let after : BorrowerView = record { crew = arc_value inside.crew; number = inside.number; log = c.erase.new.log } in
    let is = c.borrower_mut.follows.holds after (subst IsSome (sym c.in-Some.is) refl) in
    rw is (did_at_most c.deref.result.now crew number deeds after did.0 did.1 own err)
