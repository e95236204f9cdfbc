use Rattle.std.proofs.Common.{◌≡◌, Some, refl, subst}
use Rattle.mt_c.specs.declared.held.Held.TheVariants as held
use Rattle.mt_c.specs.Keepers.{HoldsLoan}
use Rattle.mt_c.specs.Loans.{Hires, LoanView}
use Rattle.mt_c.proofs.crewing.mtr_crew_hire.Goals as goal

pub returns-in-Ok-Some-clause-done : goal.returns-in-Ok-Some-clause-done
returns-in-Ok-Some-clause-done c = λ before holds done.
    let value = c.in-Some.ensures.value in
    let ready = c.ready.ensures in
    let kind = c.in-Loan.is in
    let was : c.args.crew.now.handle.value ≡ Some (held.Loan c.in-Loan.lending) = cc in
    let same : c.in-Loan.lending ≡ before = subst (HoldsLoan (λ l. l ≡ before)) was holds in
    let put = c.put.ensures in
    let back = c.deref_mut.ensures.writes_back in
    let is : c.put.new.self.handle.value ≡ Some (held.Borrower c.in-Ok-Some.borrower) = cc in record {
      after = c.hire.new.self;
      loan_is = refl;
      hired = c.in-Ok-Some.borrower;
      worker_is = rw is refl;
      hires = subst (λ (l : LoanView). Hires l c.hire.new.self c.in-Ok-Some.borrower) same (rw c.in-Ok-Some.field-0-is at c.in-Ok-Some.ensures.done);
    }
