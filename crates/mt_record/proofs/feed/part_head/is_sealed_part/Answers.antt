use Rattle.std.proofs.lemmas.Bool.Decides.{Decides-eqb}
use Rattle.std.proofs.lemmas.Slice.Eq.{starts_is}
use Rattle.std.specs.Prelude.{codes}
use Rattle.mt_record.proofs.PartFiles.{part_sealed_told}
use Rattle.mt_record.proofs.feed.part_head.is_sealed_part.Goals as goal

pub returns : goal.returns
returns c = part_sealed_told c.args.bytes.now c.starts_with.result (starts_is Decides-eqb c.args.bytes.now (codes "MTC4") c.starts_with.result c.starts_with.ensures.value)
