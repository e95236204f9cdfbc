use Rattle.std.proofs.Common.{[], sym, ap, subst, ◌∙◌}
use Rattle.mt_record.specs.Decoding.{IsChangeBody}
use Rattle.mt_record.proofs.KeptBodies.{within, change_at}
use Rattle.mt_record.proofs.kept.part.KeptEntries.key.Goals as goal

pub change-requires : goal.change-requires
change-requires c =
    let below = within c.self.inside.bodies c.args.self.now c.args.number c.self.view_is c.requires in
    subst IsChangeBody (sym (c.get.ensures [])) (c.self.invariant.lawful c.args.number [] below).change

pub returns : goal.returns
returns c = λ d. c.change.ensures.key ∙ ap (λ (change : _). change.key) (change_at c.self.inside.bodies c.args.self.now c.get.result.now c.args.number d c.self.view_is c.requires (c.get.ensures []))
