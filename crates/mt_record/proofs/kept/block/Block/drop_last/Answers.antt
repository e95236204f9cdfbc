use Rattle.std.proofs.Common.{rules, ◌∙◌, sym}
use Rattle.mt_record.proofs.TextLemmas.{text_gone}
use Rattle.mt_record.proofs.kept.block.Block.drop_last.Goals as goal

pub invariant_of-self : goal.invariant_of-self
invariant_of-self c =
    (text_gone c.self.inside.bytes.items c.truncate.new.self.items c.drop_last.new.self c.self.inside.ends c.drop_last.ensures.0 c.start_of-size.result c.drop_last.ensures.1 c.self.invariant (search rules) c.truncate.ensures.items).2

pub returns : goal.returns
returns c =
    let gone = text_gone c.self.inside.bytes.items c.truncate.new.self.items c.drop_last.new.self c.self.inside.ends c.drop_last.ensures.0 c.start_of-size.result c.drop_last.ensures.1 c.self.invariant (search rules) c.truncate.ensures.items in
    (gone.0, sym c.self.view_is ∙ gone.1)
