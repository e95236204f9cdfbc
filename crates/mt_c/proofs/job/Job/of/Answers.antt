use Rattle.std.proofs.Common.{◌≡◌, ℕ, None, length, [], replicate, sym, ap, subst, arith}
use Rattle.std.specs.List.{AllZip}
use Rattle.mt_c.specs.Jobs.{tasks_of}
use Rattle.mt_c.specs.Steps.{IsBackIn}
use Rattle.mt_c.proofs.JobLemmas.{none_back}
use Rattle.mt_c.proofs.job.Job.of.Goals as goal

pub invariant_of-result : goal.invariant_of-result
invariant_of-result c =
    let long : length (tasks_of c.args.step) ≡ c.len.result = omega (arith, c.len.ensures, c.args.todo.ok.0, ap length c.requires) in record {
      handed = [];
      all = sym c.requires;
      back = rw c.in_ok-back.ensures (subst (λ (n : ℕ). AllZip IsBackIn (tasks_of c.args.step) (replicate n None)) long (none_back (tasks_of c.args.step)));
    }
