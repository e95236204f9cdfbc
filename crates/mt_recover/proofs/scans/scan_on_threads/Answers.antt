use Rattle.std.proofs.Common.{append_assoc}
use Rattle.mt_recover.proofs.ScanLemmas.{scanned_next}
use Rattle.mt_recover.proofs.scans.scan_on_threads.Goals as goal

pub loop-job-preserved : goal.loop-job-preserved
loop-job-preserved g c =
    let I = c.loop-job.invariant in
    record {
      rest = rw append_assoc (rw c.in-Some.ensures.steps.0 at I.rest);
      has = rw c.in_ok-push.ensures.items (scanned_next g.S.Source.seen c.loop-job.yielded c.in-Some.job c.loop-job.answers.items c.scan_by_threads.result c.args.share.1 c.loop-job.pass c.scan_by_threads.new.pass I.has c.scan_by_threads.ensures);
    }
