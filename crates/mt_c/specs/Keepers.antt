-- The keeper that a place holds, and what a call makes of it.
use Rattle.std.specs.Prelude.{◌≡◌, ◌≤◌, ℕ, Option, Some, None, IfSome, All, List, [], ◌∷◌, length}
use Rattle.std.specs.Arc.{arc_value}
use Rattle.std_alloc.specs.Vec.{vec_ptr}
use Rattle.mt_writer.specs.declared.writer_fault.WriterFault.{WriterFault}
use Rattle.mt_writer.specs.declared.writer_fault.WriterFault.TheVariants as writer_faults
use Rattle.mt_laws.specs.Writing.{Server, Stands}
use Rattle.mt_keeper.specs.declared.keeper.Stage.TheVariants.{Coming}
use Rattle.mt_keeper.specs.declared.keeper_fault.KeeperFault.{KeeperFault}
use Rattle.mt_keeper.specs.declared.keeper_fault.KeeperFault.TheVariants as faults
use Rattle.mt_keeper.specs.Keeping.{Keeping, Holds}
use Rattle.mt_keeper.specs.Calling.{Steps}
use Rattle.mt_keeper.specs.declared.resuming.Found.{Found}
use Rattle.mt_keeper.specs.Restarting.{Resuming}
use Rattle.mt_recover.specs.declared.report.Report.{Report}
use Rattle.mt_keeper.specs.Refusals.{IsAt}
use Rattle.mt_writer.specs.Journals.{NewFile}
use Rattle.mt_keeper.specs.Crews.{CrewView, Deed}
use Rattle.mt_c.specs.Loans.{LoanView, Awaits, Hires, Did}
use Rattle.mt_c.specs.Borrowing.{BorrowerView}
use Rattle.mt_c.specs.declared.held.Held.{Held}
use Rattle.mt_c.specs.declared.held.Held.TheVariants as held
use Rattle.mt_c.specs.declared.lent.Lent.{Lent}
use Rattle.mt_c.specs.declared.status.TheConstants.{DONE, MEMORY, WRONG, EARLY, FULL, FAILED}

-- the place holds a keeper for which P is true
abbrev pub HoldsKeeper : (Keeping → Type 0) → Option Held → Type 0
HoldsKeeper P (Some (held.Keeper keeper)) = P keeper
HoldsKeeper P place = ⊥

-- the place holds the keeper of this server, where all stands for a call, as it does after any calls, crashes and restarts
abbrev pub HoldsServer : Server → Option Held → Type 0
HoldsServer s place = Stands s × HoldsKeeper (λ keeper. Holds keeper s) place

-- a call made the second server of the first, and the place holds its keeper
abbrev pub HoldsAfter : Server → Server → Option Held → Type 0
HoldsAfter s after place = HoldsKeeper (Steps s after) place

-- the place holds any keeper
abbrev pub IsKeeper : Held → Type 0
IsKeeper (held.Keeper keeper) = Unit {0}
IsKeeper other = ⊥

-- the place holds the first log of an empty folder
abbrev pub IsFirst : Held → Type 0
IsFirst (held.First first) = Unit {0}
IsFirst other = ⊥

-- the place holds it, with this new file
abbrev pub HoldsFirst : NewFile → Option Held → Type 0
HoldsFirst new (Some (held.First first)) = first.new ≡ new
HoldsFirst new place = ⊥

-- what a restart takes of a report
abbrev pub found_in : Report → Found
found_in report = record { logs = report.logs; cutoff = report.cutoff; version = report.version; begin = report.begin }

-- no checkpoint that recovery chose or skipped has a greater number
pub record IsGreatestNumber (number : ℕ) (report : Report) : Type 0 where
  pub chosen : IfSome report.checkpoint (λ chosen. chosen ≤ number)
  pub skipped : All (λ skipped. skipped ≤ number) report.skipped.items

-- the place holds a store with a report for which P is true
abbrev pub HoldsReport : (Report → Type 0) → Option Held → Type 0
HoldsReport P (Some (held.Store shared)) = P (arc_value shared).report
HoldsReport P place = ⊥

-- the place holds the logs of a keeper that goes on, for which P is true
abbrev pub HoldsRestart : (Resuming → Type 0) → Option Held → Type 0
HoldsRestart P (Some (held.Restart restart)) = P restart
HoldsRestart P place = ⊥

abbrev pub IsRestart : Held → Type 0
IsRestart (held.Restart restart) = Unit {0}
IsRestart other = ⊥

-- the status that tells why a writer refuses
abbrev pub writer_status : WriterFault → ℕ
writer_status writer_faults.Failed = FAILED
writer_status writer_faults.Ended = FULL
writer_status writer_faults.Full = FULL
writer_status writer_faults.Untaken = EARLY
writer_status writer_faults.Version = WRONG
writer_status writer_faults.Key = WRONG
writer_status writer_faults.Columns = WRONG
writer_status writer_faults.Memory = MEMORY

-- the status that tells why a keeper refuses
abbrev pub fault_status : KeeperFault → ℕ
fault_status faults.Log = WRONG
fault_status faults.Early = EARLY
fault_status (faults.Writer fault) = writer_status fault

-- what a call may answer that a keeper may refuse
abbrev pub keeper_answers : List ℕ
keeper_answers = DONE ∷ MEMORY ∷ WRONG ∷ EARLY ∷ FULL ∷ FAILED ∷ []

-- Why a call is not done: the place holds no keeper, or its keeper refuses.
abbrev pub IsRefusal : (Keeping → KeeperFault → Type 0) → Option Held → ℕ → Type 0
IsRefusal Refuses (Some (held.Keeper keeper)) status = (fault : KeeperFault) × Refuses keeper fault × (status ≡ fault_status fault)
IsRefusal Refuses place status = status ≡ WRONG

abbrev pub IsRestartRefusal : (Resuming → KeeperFault → Type 0) → Option Held → ℕ → Type 0
IsRestartRefusal Refuses (Some (held.Restart restart)) status = (fault : KeeperFault) × Refuses restart fault × (status ≡ fault_status fault)
IsRestartRefusal Refuses place status = status ≡ WRONG

-- the log of this number is to be created
abbrev pub HoldsComing : ℕ → Option Held → Type 0
HoldsComing log (Some (held.Keeper keeper)) = (new : NewFile) × IsAt keeper log (Coming new)
HoldsComing log (Some (held.First first)) = log ≡ 0
HoldsComing log place = ⊥

-- the place holds bytes for which P is true, and they are lent
abbrev pub HoldsLent : Lent → (List ℕ → Type 0) → Option Held → Type 0
HoldsLent lent P (Some (held.Bytes bytes)) = P bytes.items × (lent.at ≡ vec_ptr bytes) × (lent.length ≡ length bytes.items)
HoldsLent lent P place = ⊥

-- the place is empty, or holds bytes
abbrev pub HoldsSomeBytes : Option Held → Type 0
HoldsSomeBytes None = Unit {0}
HoldsSomeBytes (Some (held.Bytes bytes)) = Unit {0}
HoldsSomeBytes (Some other) = ⊥

-- ---- loans

-- the place holds a loan for which P is true
abbrev pub HoldsLoan : (LoanView → Type 0) → Option Held → Type 0
HoldsLoan P (Some (held.Loan loan)) = P loan
HoldsLoan P place = ⊥

-- the place holds a borrower for which P is true
abbrev pub HoldsBorrower : (BorrowerView → Type 0) → Option Held → Type 0
HoldsBorrower P (Some (held.Borrower borrower)) = P borrower
HoldsBorrower P place = ⊥

abbrev pub IsAnyLoan : Held → Type 0
IsAnyLoan (held.Loan loan) = Unit {0}
IsAnyLoan other = ⊥

abbrev pub IsAnyBorrower : Held → Type 0
IsAnyBorrower (held.Borrower borrower) = Unit {0}
IsAnyBorrower other = ⊥

-- the place holds the borrower of this crew with this number, whose thread has done these deeds with its log
abbrev pub HoldsDeeds : CrewView → (number : ℕ) → List Deed → Option Held → Type 0
HoldsDeeds crew number deeds place = HoldsBorrower (Did crew number deeds) place

-- a loan has handed out a log, which the other place holds
pub record IsHired (before : LoanView) (loan worker : Option Held) : Type 0 where
  pub after : LoanView
  pub loan_is : HoldsLoan (λ held. held ≡ after) loan
  pub hired : BorrowerView
  pub worker_is : HoldsBorrower (λ held. held ≡ hired) worker
  pub hires : Hires before after hired

-- the first place holds a loan that waits for the borrower in the second
abbrev pub HoldsNext : Option Held → Option Held → Type 0
HoldsNext loan worker = HoldsLoan (λ l. HoldsBorrower (Awaits l) worker) loan

-- a lent log refuses a call, by this reason
abbrev pub IsLentRefusal : (KeeperFault → Type 0) → ℕ → Type 0
IsLentRefusal Refuses status = (fault : KeeperFault) × Refuses fault × (status ≡ fault_status fault)
