use Rattle.std.proofs.Common.{inr, List, refl, sym, ap, ◌∙◌, subst, arith}
use Rattle.std.proofs.lemmas.Bool.{false≢true}
use Rattle.mt_writer.specs.Journals.{syncing}
use Rattle.mt_laws.specs.Writing.{told_synced}
use Rattle.mt_keeper.specs.declared.keeper.Log.{Log}
use Rattle.mt_keeper.specs.contracts.keeper.Keeper.{the_view}
use Rattle.mt_keeper.specs.Keeping.{Keeping, Holds}
use Rattle.mt_keeper.proofs.OneChanged.{reads, put_back}
use Rattle.mt_keeper.proofs.Writes.{writes, same_records, records_synced}
use Rattle.mt_keeper.proofs.Refused.{not_written}
use Rattle.mt_keeper.proofs.keeper.Keeper.synced.Goals as goal

pub returns-in_default-stage : goal.returns-in_default-stage
returns-in_default-stage c =
    let k = the_view c.self.inside in
    let x = c.in-Some.log.now in record {
      step = λ s holds. tt;
      err = ap (λ (logs : List Log). record k { logs = logs }) (put_back k.logs c.args.log x c.in-Some.ensures.value) ∙ c.self.view_is;
      failed = λ is. absurd (false≢true (sym c.if-self.false ∙ ap (λ (y : Keeping). y.failed) c.self.view_is ∙ is));
      fault = inr (not_written k c.args.self.now c.args.log x c.self.view_is (reads k.logs c.args.log x c.in-Some.ensures.item.3.0 c.in-Some.ensures.value) c.in_default-stage.not-Writing);
    }

pub returns-clause-step : goal.returns-clause-step
returns-clause-step c = λ s holds.
    let k = the_view c.self.inside in
    let here = subst (λ (x : Keeping). Holds x s) (sym c.self.view_is) holds in
    let x = c.in-Some.log.now in
    let w = c.in-Writing.writer in
    let later = c.synced.new.self in
    writes k s c.args.log x w later k.clock s.clock syncing here (reads k.logs c.args.log x c.in-Some.ensures.item.3.0 c.in-Some.ensures.value) c.in-Writing.is (omega arith) here.clock
    (λ j keeps failed last. same_records k.clock w later j (syncing j) keeps failed last c.synced.ensures.same refl (records_synced j) (c.synced.ensures.synced j keeps failed))
    (λ front back j keeps kept. told_synced s front back w later j keeps kept)
