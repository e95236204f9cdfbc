use Rattle.std.proofs.Common.{◌∙◌, sym, subst, rules, tests}
use Rattle.std.specs.Prelude.{IsSome}
use Rattle.std.specs.List.{All, AllZip}
use Rattle.std.proofs.lemmas.Iterator.{items_from_collect}
use Rattle.std.proofs.lemmas.Iterator.Consumers.{YieldsList-at, YieldsList-from_filter_map}
use Rattle.std.proofs.lemmas.Iterator.Adapters.{YieldsList-from_vec}
use Rattle.std.proofs.lemmas.Result.{IfOk-at_ok}
use Rattle.mt_recover.specs.Tasks.{replay_tasks}
use Rattle.mt_c.specs.declared.job.Step.{Step}
use Rattle.mt_c.specs.Jobs.{JobView, tasks_of}
use Rattle.mt_c.specs.Steps.{IsBackIn, replayed}
use Rattle.mt_c.proofs.JobLemmas.{all_replayed}
use Rattle.mt_c.proofs.job.Job.finish.Goals as goal

pub finish-requires : goal.finish-requires
finish-requires c =
    let back = c.self.inside.back.items in
    let zip = subst (λ (s : Step). AllZip IsBackIn (tasks_of s) back) c.in-Replaying.is c.self.invariant.back in
    let all = subst (λ (j : JobView). All IsSome j.back) (sym c.self.view_is) c.requires.1 in
    let made = items_from_collect c.collect.result c.collect.ensures.ran (YieldsList-from_filter_map _ replayed (YieldsList-at c.filter_map.ensures.source (YieldsList-from_vec back (cc) (cc))) c.filter_map.ensures.closure (λ x r q k. search (rules, tests))) in
    IfOk-at_ok _ c.in_ok-done.was made ∙ all_replayed (replay_tasks c.in-Replaying.replaying) back zip all
