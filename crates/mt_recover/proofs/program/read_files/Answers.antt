use Rattle.std.proofs.Common.{sym, subst, arith}
use Rattle.std.specs.List.{All}
use Rattle.std.proofs.lemmas.List.Elements.{All-push}
use Rattle.mt_recover.specs.Program.{AreOfSomeFile}
use Rattle.mt_recover.proofs.program.read_files.Goals as goal

pub loop-log-preserved : goal.loop-log-preserved
loop-log-preserved g c = record {
  many = omega (arith, c.in_ok-push.ensures.len, c.loop-log.invariant.many);
  read = subst (All (λ bytes. AreOfSomeFile g.R.File.Read.remaining bytes.items)) (sym c.in_ok-push.ensures.items)
      (All-push (λ bytes. AreOfSomeFile g.R.File.Read.remaining bytes.items) c.loop-log.files.items c.in_ok-read_log.field-0 c.loop-log.invariant.read c.in_ok-read_log.ensures.read);
}
