use Rattle.std.proofs.lemmas.Bool.{eqb-true}
use Rattle.mt_checkpoint.specs.Steps.Writing.{full_written}
use Rattle.mt_checkpoint.proofs.entries.EntriesVisitorRest.is_full.Goals as goal

pub returns : goal.returns
returns g c = λ full pairs. full_written g.W.Write.contents c.args.rest.now (eqb-true c.args.rest.now.left 0 full) pairs
