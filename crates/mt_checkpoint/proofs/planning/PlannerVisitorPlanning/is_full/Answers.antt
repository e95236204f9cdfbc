use Rattle.mt_checkpoint.proofs.Plans.{still_over}
use Rattle.mt_checkpoint.proofs.planning.PlannerVisitorPlanning.is_full.Goals as goal

pub returns : goal.returns
returns c = λ full pairs limit seen planned. still_over limit c.args.plan.now seen pairs (c.is_over.ensures.0 full) planned
