use Rattle.std.proofs.Common.{inr, List, slice_set, refl, sym, ap, ◌∙◌, subst}
use Rattle.std.proofs.lemmas.Bool.{false≢true}
use Rattle.mt_writer.specs.Journals.{NewFile, Begins, begun, IsFileOf}
use Rattle.mt_keeper.specs.declared.keeper.Stage.{Stage}
use Rattle.mt_keeper.specs.declared.keeper.Stage.TheVariants.{Writing}
use Rattle.mt_keeper.specs.declared.keeper.Log.{Log}
use Rattle.mt_keeper.specs.contracts.keeper.Keeper.{the_view}
use Rattle.mt_keeper.specs.Keeping.{Keeping, Holds}
use Rattle.mt_keeper.proofs.OneChanged.{reads, put_back}
use Rattle.mt_keeper.proofs.NewLogs.{is_created, not_coming}
use Rattle.mt_keeper.proofs.Files.{set_there, same_new}
use Rattle.mt_keeper.proofs.keeper.Keeper.created.Goals as goal

pub returns-in_default-stage : goal.returns-in_default-stage
returns-in_default-stage c =
    let k = the_view c.self.inside in
    let x = c.in-Some.log.now in record {
      step = λ s holds. tt;
      file = λ new head at begins. tt;
      err = ap (λ (stage : Stage). record k { logs = slice_set k.logs c.args.log (record x { stage = stage }) }) c.replace-stage.ensures.value
          ∙ (ap (λ (logs : List Log). record k { logs = logs }) (put_back k.logs c.args.log x c.in-Some.ensures.value) ∙ c.self.view_is);
      failed = λ is. absurd (false≢true (sym c.if-self.false ∙ ap (λ (y : Keeping). y.failed) c.self.view_is ∙ is));
      fault = inr (not_coming k c.args.self.now c.args.log x c.self.view_is (reads k.logs c.args.log x c.in-Some.ensures.item.3.0 c.in-Some.ensures.value)
          (λ new is. c.in_default-stage.not-Coming new (c.replace-stage.ensures.value ∙ is)));
    }

pub returns-clause-step : goal.returns-clause-step
returns-clause-step c = λ s holds.
    let k = the_view c.self.inside in
    let x = c.in-Some.log.now in
    is_created k s c.args.log x c.in-Coming.new c.created.result (subst (λ (y : Keeping). Holds y s) (sym c.self.view_is) holds)
    (reads k.logs c.args.log x c.in-Some.ensures.item.3.0 c.in-Some.ensures.value) (sym c.replace-stage.ensures.value ∙ c.in-Coming.is) c.created.ensures.keeps c.created.ensures.failed

pub returns-clause-file : goal.returns-clause-file
returns-clause-file c = λ new head at begins.
    let k = the_view c.self.inside in
    let x = c.in-Some.log.now in
    let stands = reads k.logs c.args.log x c.in-Some.ensures.item.3.0 c.in-Some.ensures.value in
    let same = same_new k c.args.self.now c.args.log x c.in-Coming.new new c.self.view_is stands (sym c.replace-stage.ensures.value ∙ c.in-Coming.is) at in
    record {
      writer = c.created.result;
      stands = record { log = record x { stage = Writing c.created.result }; stands = set_there k.logs c.args.log x _ stands; is = refl };
      is_file = subst (λ (n : NewFile). IsFileOf c.created.result (begun head n.mark) n.bytes) same (c.created.ensures.file head (subst (λ (n : NewFile). Begins n head) (sym same) begins));
    }
