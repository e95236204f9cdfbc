use Rattle.std.proofs.lemmas.Result.{on_ok_weaker}
use Rattle.mt_checkpoint.proofs.entries.Rest.seal_full.Goals as goal

pub returns : goal.returns
returns g c = on_ok_weaker c.seal.result (λ both. both.0) c.seal.ensures
