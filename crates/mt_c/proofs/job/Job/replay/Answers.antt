use Rattle.std.proofs.Common.{◌≡◌, ◌∙◌, sym, subst, rules, tests}
use Rattle.std.specs.Prelude.{IsSome}
use Rattle.std.specs.List.{All, AllZip}
use Rattle.std.proofs.lemmas.Iterator.{items_from_collect}
use Rattle.std.proofs.lemmas.Iterator.Consumers.{YieldsList-at, YieldsList-from_filter_map}
use Rattle.std.proofs.lemmas.Iterator.Adapters.{YieldsList-from_vec}
use Rattle.std.proofs.lemmas.Result.{IfOk-at_ok, IfOk-weaker}
use Rattle.mt_recover.specs.Tasks.{divide_tasks}
use Rattle.mt_c.specs.declared.job.Step.{Step}
use Rattle.mt_c.specs.declared.job.Step.TheVariants as steps
use Rattle.mt_c.specs.Jobs.{IsStepOf, JobView, tasks_of}
use Rattle.mt_c.specs.Steps.{IsBackIn, divided}
use Rattle.mt_c.proofs.JobLemmas.{all_divided}
use Rattle.mt_c.proofs.job.Job.replay.Goals as goal

pub replay-requires : goal.replay-requires
replay-requires c =
    let back = c.self.inside.back.items in
    let zip = subst (λ (s : Step). AllZip IsBackIn (tasks_of s) back) c.in-Dividing.is c.self.invariant.back in
    let all = subst (λ (j : JobView). All IsSome j.back) (sym c.self.view_is) c.requires.1 in
    let made = items_from_collect c.collect.result c.collect.ensures.ran (YieldsList-from_filter_map _ divided (YieldsList-at c.filter_map.ensures.source (YieldsList-from_vec back (cc) (cc))) c.filter_map.ensures.closure (λ x r q k. search (rules, tests))) in
    IfOk-at_ok _ c.in_ok-done.was made ∙ all_divided (divide_tasks c.in-Dividing.dividing) back zip all

pub returns-clause-step : goal.returns-clause-step
returns-clause-step c = λ logs parts is.
    let step = subst (λ (j : JobView). IsStepOf logs parts j.step) (sym c.self.view_is) is in
    let dividing = subst (IsStepOf logs parts) c.in-Dividing.is step in
    let next = steps.Replaying c.in_ok-replaying.replaying in
    IfOk-weaker c.of.result (λ job. job.step ≡ next) (λ job. IsStepOf logs parts job.step) (λ job same. subst (IsStepOf logs parts) (sym same) (c.in_ok-replaying.ensures.prepared logs parts dividing)) c.of.ensures.step
