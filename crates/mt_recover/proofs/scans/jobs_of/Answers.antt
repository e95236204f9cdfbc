use Rattle.std.proofs.Common.{◌∙◌, ◌++◌, sym, ap, rules, tests}
use Rattle.std.proofs.lemmas.Iterator.{items_from_collect, YieldsList-from_map}
use Rattle.std.proofs.lemmas.Iterator.Consumers.{YieldsList-at, YieldsList-from_chain, YieldsList-from_enumerate}
use Rattle.std.proofs.lemmas.Iterator.Adapters.{YieldsList-from_vec}
use Rattle.std.proofs.lemmas.Result.{IfOk-at_ok}
use Rattle.mt_record.proofs.Feeds.{some_if_not}
use Rattle.mt_recover.specs.declared.scans.ScanJob.TheVariants as jobs
use Rattle.mt_recover.specs.Steps.Scanning.{log_jobs, part_jobs}
use Rattle.mt_recover.proofs.ScanLemmas.{read_all}
use Rattle.mt_recover.proofs.scans.jobs_of.Goals as goal

pub returns : goal.returns
returns g c =
    let logs = c.args.inputs.logs.items in
    let parts = c.args.inputs.parts.items in
    let made = items_from_collect c.collect.result c.collect.ensures.ran
    (YieldsList-from_chain
    (YieldsList-at c.chain.ensures.first (YieldsList-from_map _ (λ numbered. jobs.Log numbered.0 numbered.1) (YieldsList-at c.map-logs.ensures.source (YieldsList-from_enumerate (YieldsList-from_vec logs (cc) (cc)) (cc))) c.map-logs.ensures.closure (λ x r q k. search (rules, tests))))
    (YieldsList-at c.chain.ensures.second (YieldsList-from_map _ (λ numbered. jobs.Part numbered.0 numbered.1) (YieldsList-at c.map-parts.ensures.source (YieldsList-from_enumerate (YieldsList-from_vec parts (cc) (cc)) (cc))) c.map-parts.ensures.closure (λ x r q k. search (rules, tests))))
    (cc) (cc)) in
    IfOk-at_ok _ c.in_ok-collect.was made
    ∙ ap (λ ps. log_jobs 0 logs ++ part_jobs 0 ps) (sym (read_all logs parts (some_if_not logs _ c.is_empty.result c.args.inputs.logs.ok.0 c.is_empty.ensures c.if-is_empty.false)))
