use Rattle.std.proofs.Common.{arith}
use Rattle.mt_scan.proofs.Stretched.{zip_of_jobs}
use Rattle.mt_recover.proofs.by_workers.on_threads.Goals as goal

pub returns : goal.returns
returns g c =
    let answers = c.in_ok-map_vec.field-0 in
    zip_of_jobs (λ job answer. goal.F-post g c.args.work.now job answer) _ _ c.args.jobs.items answers.items (omega (arith, c.in_ok-map_vec.ensures.len, answers.ok.0, c.args.jobs.ok.0)) c.in_ok-map_vec.ensures.each (λ job answer post. post)
