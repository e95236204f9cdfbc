use Rattle.std.proofs.Common.{◌≡◌, Some, refl, subst}
use Rattle.mt_c.specs.declared.held.Held.TheVariants as held
use Rattle.mt_c.specs.Holding.{HoldsJob}
use Rattle.mt_c.specs.Jobs.{Hires, JobView}
use Rattle.mt_c.proofs.hosting.mtr_hire.Goals as goal

pub returns-clause-done : goal.returns-clause-done
returns-clause-done c = λ before holds done.
    let value = c.in-Some.ensures.value in
    let kind = c.in-Job.is in
    let was : c.args.job.now.handle.value ≡ Some (held.Job c.in-Job.hiring) = cc in
    let same : c.in-Job.hiring ≡ before = subst (HoldsJob (λ j. j ≡ before)) was holds in
    let put = c.put.ensures in
    let back = c.deref_mut.ensures.writes_back in
    let is : c.put.new.self.handle.value ≡ Some (held.Worker c.in-Some-hire.task) = cc in record {
      after = c.hire.new.self;
      job_is = refl;
      hired = c.in-Some-hire.task;
      worker_is = rw is refl;
      hires = subst (λ (j : JobView). Hires j c.hire.new.self c.in-Some-hire.task) same c.in-Some-hire.ensures;
    }
