use Rattle.std.proofs.Common.{◌+◌, ◌++◌, ◌∙◌, List, [], take, take_all, refl, ap}
use Rattle.std.specs.List.{filter}
use Rattle.std.specs.Option.{option_map}
use Rattle.mt_words.specs.OneLog.{kept_updates}
use Rattle.mt_scan.specs.declared.log_scan.LogScan.{LogScan}
use Rattle.mt_scan.specs.Choosing.{checkpoint_in}
use Rattle.mt_recover.specs.Recovery.{entry_updates}
use Rattle.mt_recover.specs.History.{is_of}
use Rattle.mt_recover.specs.Steps.Fates.{updates_in}
use Rattle.mt_recover.proofs.HistoryLemmas.{added, scans_step}
use Rattle.mt_recover.proofs.history.updates_of.Goals as goal

pub loop-scan-preserved : goal.loop-scan-preserved
loop-scan-preserved c =
    let scans = c.args.scans.now in
    let i = c.loop-scan.scan-index in
    let scan = c.scan-item.result in
    added (is_of c.args.key.now) [] c.loop-scan.updates.items c.add_log.new.updates.items (updates_in (take i scans)) (kept_updates scan.updates) (updates_in (take (i + 1) scans)) (scans_step scans i scan c.loop-scan-test.true c.scan-item.is) c.loop-scan.invariant c.in_ok-add_log.ensures

pub returns : goal.returns
returns c =
    let scans = c.args.scans.now in
    let entered = entry_updates (option_map checkpoint_in c.args.chosen.now) in
    let all = ap (λ (ss : List LogScan). filter (is_of c.args.key.now) (updates_in ss)) (take_all c.loop-scan.scan-index scans c.loop-scan-test.false) in
    added (is_of c.args.key.now) [] c.loop-scan.updates.items c.add_checkpoint.new.updates.items (updates_in scans) entered (updates_in scans ++ entered) refl (c.loop-scan.invariant ∙ all) c.in_ok-add_checkpoint.ensures
