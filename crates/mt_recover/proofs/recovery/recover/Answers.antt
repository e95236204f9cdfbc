use Rattle.mt_recover.specs.Report.{IsRecoveredOf}
use Rattle.mt_recover.proofs.Preparing.{made_is}
use Rattle.mt_recover.proofs.SourceLemmas.{answer_made}
use Rattle.mt_recover.proofs.recovery.recover.Goals as goal

pub returns : goal.returns
returns g c =
    let of = c.in_ok-prepared.ensures.prepared in
    answer_made g.S.Source.seen c.args.inputs.logs.items c.args.inputs.parts.items IsRecoveredOf _ of (made_is of.logs of.parts c.in_ok-prepared.prepared c.in_ok-replay_by_workers.field-0 of.holds c.in_ok-replay_by_workers.ensures) tt
