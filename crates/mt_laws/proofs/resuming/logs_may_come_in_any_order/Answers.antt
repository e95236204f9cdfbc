use Rattle.mt_laws.proofs.AnyOrder.{in_any_order}
use Rattle.mt_laws.proofs.resuming.logs_may_come_in_any_order.Goals as goal

pub returns : goal.returns
returns c = λ logs others parts facts after order. in_any_order logs others parts facts after order
