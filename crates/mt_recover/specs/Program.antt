-- What the program prints, and its exit statuses.
use Rattle.std.specs.Prelude.{◌≡◌, ℕ, Option, List, [], length}
use Rattle.std.specs.List.{All}
use Rattle.std.specs.Io.KnownBytes.{Appends}
use Rattle.mt_words.specs.Walks.{Pair}
use Rattle.mt_scan.specs.Sources.{Agrees}
use Rattle.mt_text.specs.Pairs.{dump_text}
use Rattle.mt_recover.specs.Recovery.{IsStoreOf}
use Rattle.mt_recover.specs.declared.failure.Failure.{Failure}
use Rattle.mt_recover.specs.declared.failure.Failure.TheVariants as failures
use Rattle.mt_text.specs.declared.print_fault.PrintFault.{PrintFault}
use Rattle.mt_text.specs.declared.print_fault.PrintFault.TheVariants as print_faults
use Rattle.mt_words.specs.declared.fault.Fault.TheVariants as faults

-- the bytes are those of some file, if it tells them
abbrev pub AreOfSomeFile : {F : Type 0} → (F → Option (List ℕ)) → List ℕ → Type 0
AreOfSomeFile {F} remaining bytes = (file : F) × Agrees (remaining file) bytes

-- the pairs are the store of `count` logs and no parts, each log with the bytes of some file
pub record IsStoreOfFiles {F : Type 0} (remaining : F → Option (List ℕ)) (count : ℕ) (pairs : List Pair) : Type 0 where
  pub logs : List (List ℕ)
  pub number : length logs ≡ count
  pub read : All (AreOfSomeFile remaining) logs
  pub is_store : IsStoreOf logs [] pairs

-- the text of the store of `count` logs was appended, each with the bytes of some file; no contract can say which file, since it is opened by its name
pub record IsPrinted {F : Type 0} (remaining : F → Option (List ℕ)) (count : ℕ) (old new : Option (List ℕ)) : Type 0 where
  pub pairs : List Pair
  pub is_store : IsStoreOfFiles remaining count pairs
  pub appended : Appends old new (dump_text pairs)

-- the exit status of a failure
abbrev pub status_of : Failure → ℕ
status_of (failures.Recovery fault) = 1
status_of failures.Words = 2
status_of failures.NoFiles = 2
status_of failures.Key = 2
status_of (failures.List name) = 3
status_of failures.TooManyFiles = 3
status_of (failures.Open name) = 3
status_of failures.Output = 3

-- the failure of a program that could not print all
abbrev pub failure_of : PrintFault → Failure
failure_of (print_faults.Output error) = failures.Output
failure_of print_faults.Memory = failures.Recovery faults.Memory
