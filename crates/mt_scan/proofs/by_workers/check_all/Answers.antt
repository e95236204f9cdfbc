use Rattle.std.proofs.Common.{arith, rules}
use Rattle.mt_scan.specs.Steps.Stretches.{IsChecked}
use Rattle.mt_scan.proofs.Stretched.{zip_of_jobs}
use Rattle.mt_scan.proofs.by_workers.check_all.Goals as goal

pub returns : goal.returns
returns g c =
    let checked = c.in_ok-map_vec.field-0 in
    zip_of_jobs (λ stretch one. IsChecked c.args.feed.now stretch.items one) _ _ c.args.stretches.items checked.items (omega (arith, c.in_ok-map_vec.ensures.len, checked.ok.0, c.args.stretches.ok.0)) c.in_ok-map_vec.ensures.each (λ stretch one post. search rules)
