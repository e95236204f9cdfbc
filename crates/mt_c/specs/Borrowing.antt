-- A log that a keeper lent to a thread of C.
use Rattle.std.specs.Prelude.{◌≡◌, ◌<◌, ℕ, length}
use Rattle.mt_keeper.specs.Crews.{CrewView, LentView}

-- what contracts see of a borrower: its crew, how many of the crew's logs come before its own, and that
pub record BorrowerView : Type 0 where
  pub crew : CrewView
  pub number : ℕ
  pub log : LentView

-- its log is one of its crew
pub record IsBorrower (borrower : BorrowerView) : Type 0 where
  pub own : borrower.log.table ≡ borrower.crew.table
  pub below : borrower.number < length borrower.crew.numbers
