use Rattle.std.proofs.Common.{sym, subst}
use Rattle.mt_c.specs.Jobs.{IsOfJob, JobView, tasks_of}
use Rattle.mt_c.proofs.JobLemmas.{done_stays, one_back}
use Rattle.mt_c.proofs.job.Job.join.Goals as goal

pub invariant_of-self : goal.invariant_of-self
invariant_of-self c =
    let I = c.self.invariant in
    let inside = c.self.inside in
    let worker = c.args.worker in record {
      handed = I.handed;
      all = I.all;
      back = one_back (tasks_of inside.step) inside.back.items worker.number worker.task I.back (done_stays c.args.self.now.step worker.task c.requires.awaits.done) (subst (λ (j : JobView). IsOfJob j worker) (sym c.self.view_is) c.requires.own);
    }
