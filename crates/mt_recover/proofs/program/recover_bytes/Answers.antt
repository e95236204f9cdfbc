use Rattle.std.proofs.Common.{List, ℕ, subst}
use Rattle.std.specs.Prelude.{[]}
use Rattle.std.proofs.lemmas.Result.{IfOk-weaker}
use Rattle.mt_recover.specs.Recovery.{IsStoreOf}
use Rattle.mt_recover.proofs.program.recover_bytes.Goals as goal

pub returns : goal.returns
returns c = IfOk-weaker c.recover_logs.result _ _ (λ recovered is. subst (λ (logs : List (List ℕ)). IsStoreOf logs [] recovered.store) (rw (← c.deref.ensures.value) at c.in_ok-logs.ensures) is.store) c.recover_logs.ensures.recovered
