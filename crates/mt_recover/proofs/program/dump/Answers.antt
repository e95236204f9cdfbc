use Rattle.std.proofs.Common.{length, sym, subst}
use Rattle.std.proofs.lemmas.Result.{IfOk-weaker}
use Rattle.mt_recover.specs.Program.{IsStoreOfFiles}
use Rattle.mt_recover.proofs.program.dump.Goals as goal

pub returns-clause-printed : goal.returns-clause-printed
returns-clause-printed g c = IfOk-weaker c.print.result _ _ (λ _ appended. record {
  pairs = c.store.result.now;
  is_store = subst (IsStoreOfFiles g.R.File.Read.remaining (length c.args.names.now)) (sym c.store.ensures) c.in_ok-recovered.ensures.store;
  appended = appended;
}) c.print.ensures.printed
