use Rattle.std.proofs.Common.{sym, append_assoc, arith}
use Rattle.std.specs.Vec.Iter.{into_iter_items}
use Rattle.std.proofs.lemmas.Slice.Zip.{all_zipped_more}
use Rattle.mt_recover.proofs.SharingLemmas.{all_yielded}
use Rattle.mt_recover.proofs.by_workers.in_turn.Goals as goal

pub loop-job-preserved : goal.loop-job-preserved
loop-job-preserved g c = record {
  rest = rw append_assoc (rw c.in-Some.ensures.steps.0 at c.loop-job.invariant.rest);
  done = rw c.in_ok-push.ensures.items (all_zipped_more _ c.loop-job.yielded c.loop-job.answers.items c.in-Some.job c.work.result c.loop-job.invariant.done c.work.ensures);
}

pub returns : goal.returns
returns g c =
    let rest = c.loop-job.job-iterator in
    let I = c.loop-job.invariant in
    rw (sym (all_yielded c.args.jobs.items c.loop-job.yielded (into_iter_items rest) I.rest (omega (arith, rest.rest.ok.0, c.in-None.ensures.steps.0)))) I.done
