use Rattle.std.proofs.lemmas.Bool.{eqb-true}
use Rattle.mt_cli.specs.Steps.Showing.{full_shown}
use Rattle.mt_cli.proofs.ranges.WithinVisitorRest.is_full.Goals as goal

pub returns : goal.returns
returns g c = λ full pairs. full_shown g.V.Visitor.shown g.met.V.Visitor.none c.args.rest.now (eqb-true c.args.rest.now.left 0 full) pairs
