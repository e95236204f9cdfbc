-- Keepers that lent their logs, and what threads of C do with these.
use Rattle.std.specs.Prelude.{◌≡◌, ◌≤◌, ℕ, true, List, [], ◌∷◌, ◌++◌, All, length, map}
use Rattle.std.specs.Arc.{arc_value}
use Rattle.mt_keeper.specs.Keeping.{Keeping}
use Rattle.mt_keeper.specs.Crews.{CrewView, LentView, Deed, HasDone, written_from}
use Rattle.mt_c.specs.Borrowing.{BorrowerView}
use Rattle.mt_c.specs.declared.loan.Shared.{Shared}
use Rattle.mt_c.specs.declared.loan.Shared.TheVariants.{Whole, Among}

-- what contracts see of a loan: its crew, and the logs that are not handed out
pub record LoanView : Type 0 where
  pub crew : CrewView
  pub logs : List LentView

-- the crew, shared or not
abbrev pub crew_in : Shared → CrewView
crew_in (Whole crew) = crew
crew_in (Among crew) = arc_value crew

-- all logs are of this crew
abbrev pub AreOf : CrewView → List LentView → Type 0
AreOf crew logs = All (λ log. log.table ≡ crew.table) logs

-- the logs that are not handed out are of the crew, and no more than it lent
pub record IsLoan (loan : LoanView) : Type 0 where
  pub own : AreOf loan.crew loan.logs
  pub few : length loan.logs ≤ length loan.crew.numbers

-- the keeper has just lent its logs: nothing is done with them, and none is handed out
pub record IsFresh (before : Keeping) (loan : LoanView) : Type 0 where
  pub before_is : loan.crew.before ≡ before
  pub numbers : loan.crew.numbers ≡ written_from 0 before.logs
  pub logs : map (λ (log : LentView). log.number) loan.logs ≡ written_from 0 before.logs
  pub fresh : All (λ log. HasDone before log []) loan.logs

-- the borrower has the last log, by the number of those before it, and the loan has these
pub record Hires (before after : LoanView) (borrower : BorrowerView) : Type 0 where
  pub crew : borrower.crew ≡ before.crew
  pub number : borrower.number ≡ length after.logs
  pub logs : before.logs ≡ after.logs ++ borrower.log ∷ []
  pub rest : after ≡ record before { logs = after.logs }

-- the borrower is the last one that was handed out and is not back
abbrev pub Awaits : LoanView → BorrowerView → Type 0
Awaits loan borrower = borrower.number ≡ length loan.logs

-- the loan once the borrower is back
abbrev pub joined : LoanView → BorrowerView → LoanView
joined loan borrower = record loan { logs = loan.logs ++ borrower.log ∷ [] }

-- no log is handed out
abbrev pub HasAll : LoanView → Type 0
HasAll loan = length loan.logs ≡ length loan.crew.numbers

-- the borrower is of this crew and has this number, and its thread has done these deeds with its log
abbrev pub Did : CrewView → (number : ℕ) → List Deed → BorrowerView → Type 0
Did crew number deeds borrower = (borrower.crew ≡ crew) × (borrower.number ≡ number) × HasDone crew.before borrower.log deeds

-- the same borrower, once a write or a sync of its log failed
pub record HasFailed (before after : BorrowerView) : Type 0 where
  pub crew : after.crew ≡ before.crew
  pub number : after.number ≡ before.number
  pub log : after.log ≡ record before.log { failed = true }
