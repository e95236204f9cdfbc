use Rattle.std.proofs.lemmas.Bool.Decides.{Decides-eqb}
use Rattle.std.proofs.lemmas.Slice.Eq.{starts_is}
use Rattle.std.specs.Prelude.{codes}
use Rattle.mt_record.proofs.Opened.{sealed_told}
use Rattle.mt_record.proofs.feed.head.is_sealed.Goals as goal

pub returns : goal.returns
returns c = sealed_told c.args.bytes.now c.starts_with.result (starts_is Decides-eqb c.args.bytes.now (codes "MTL4") c.starts_with.result c.starts_with.ensures.value)
