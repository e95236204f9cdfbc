use Rattle.std.proofs.lemmas.Bool.Decides.{Decides-eqb}
use Rattle.std.proofs.lemmas.Slice.Eq.{starts_is}
use Rattle.mt_record.proofs.Beginnings.{letters_left}
use Rattle.mt_record.proofs.feed.magic.goes_with_magic.Goals as goal

pub returns-else-is_some : goal.returns-else-is_some
returns-else-is_some c =
    let starts = starts_is Decides-eqb c.args.letters.now c.args.bytes.now c.starts_with.result c.starts_with.ensures.value in
    letters_left c.args.letters.now c.args.bytes.now c.format_at.result c.starts_with.result c.if-is_some.ensures c.format_at.ensures.none starts
