use Rattle.std.proofs.Common.{◌≡◌, vec_len}
use Rattle.std.specs.List.{All}
use Rattle.mt_recover.specs.Program.{AreOfSomeFile}
use Rattle.mt_recover.proofs.program.read_files.Given as goal

-- there are bytes of each file so far
abbrev pub invariant-loop-log : goal.invariant-loop-log
invariant-loop-log g l = record {
  many : vec_len l.files ≡ l.log;
  read : All (λ bytes. AreOfSomeFile g.R.File.Read.remaining bytes.items) l.files.items;
}
