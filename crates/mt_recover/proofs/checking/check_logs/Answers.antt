use Rattle.std.proofs.lemmas.Result.{IfOk-weaker}
use Rattle.mt_recover.specs.Check.{IsLogChecked}
use Rattle.mt_recover.proofs.CheckLemmas.{all_numbered}
use Rattle.mt_recover.proofs.checking.check_logs.Goals as goal

pub returns : goal.returns
returns g c =
    IfOk-weaker c.by_workers.result _ _ (λ answers all. all_numbered (IsLogChecked c.args.limit) g.S.Source.seen 0 c.args.logs.items answers.items (rw c.in_ok-numbered.ensures at all)) c.by_workers.ensures
