use Rattle.std.proofs.Common.{◌≡◌, Some, sym, ◌∙◌}
use Rattle.mt_c.specs.declared.held.Held.TheVariants as held
use Rattle.mt_c.proofs.Stores.{job_kept}
use Rattle.mt_c.proofs.hosting.mtr_replay.Goals as goal

pub returns-in-Ok-clause-same : goal.returns-in-Ok-clause-same
returns-in-Ok-clause-same c = λ logs parts holds done.
    let was : c.args.job.now.handle.value ≡ Some (held.Job c.in-Some.ready) = sym c.held.follows.holds-at-none ∙ c.in-Some.ensures.taken in
    job_kept logs parts c.args.job.now.handle.value c.begin.new.self.handle.value c.in-Some.ready c.in-Ok.next was (c.begin.ensures.done done) c.in-Ok.ensures.step holds
