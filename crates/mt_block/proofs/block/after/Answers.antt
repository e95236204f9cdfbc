use Rattle.std.proofs.lemmas.Bool.Decides.{Decides-eqb}
use Rattle.std.proofs.lemmas.Slice.Eq.{strip_prefix_is}
use Rattle.mt_block.proofs.Places.{stripped}
use Rattle.mt_block.proofs.block.after.Goals as goal

pub returns-clause-found : goal.returns-clause-found
returns-clause-found c = (stripped c.args.bytes.now c.args.front.now c.strip_prefix.result (strip_prefix_is Decides-eqb c.args.bytes.now c.args.front.now c.strip_prefix.result c.strip_prefix.ensures.cases)).0

pub returns-clause-none : goal.returns-clause-none
returns-clause-none c = (stripped c.args.bytes.now c.args.front.now c.strip_prefix.result (strip_prefix_is Decides-eqb c.args.bytes.now c.args.front.now c.strip_prefix.result c.strip_prefix.ensures.cases)).1
