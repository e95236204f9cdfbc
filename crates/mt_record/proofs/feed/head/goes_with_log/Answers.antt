use Rattle.std.proofs.lemmas.Bool.Decides.{Decides-eqb}
use Rattle.std.proofs.lemmas.Slice.Eq.{starts_is}
use Rattle.std.specs.Prelude.{codes}
use Rattle.mt_record.proofs.Beginnings.{segments_left}
use Rattle.mt_record.proofs.feed.head.goes_with_log.Goals as goal

pub returns-else-goes_with_magic : goal.returns-else-goes_with_magic
returns-else-goes_with_magic c =
    let none = rw c.if-goes_with_magic.false at c.goes_with_magic.ensures in
    let starts = starts_is Decides-eqb c.args.bytes.now (codes "MTL3") c.starts_with.result c.starts_with.ensures.value in
    segments_left c.args.bytes.now c.starts_with.result none starts
