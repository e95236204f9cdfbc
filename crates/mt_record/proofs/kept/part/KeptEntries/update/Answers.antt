use Rattle.std.proofs.Common.{[], ap, sym, subst, ◌∙◌}
use Rattle.mt_words.specs.declared.update.Origin.TheVariants as origins
use Rattle.mt_words.specs.Updates.{update_at}
use Rattle.mt_record.specs.Decoding.{time_in, IsChangeBody}
use Rattle.mt_record.proofs.KeptBodies.{within, change_at}
use Rattle.mt_record.proofs.kept.part.KeptEntries.update.Goals as goal

pub of-requires : goal.of-requires
of-requires c =
    let below = within c.self.inside.bodies c.args.self.now c.args.number c.self.view_is c.requires in
    subst IsChangeBody (sym (c.get.ensures [])) (c.self.invariant.lawful c.args.number [] below).change

pub returns : goal.returns
returns c = λ d.
    let below = within c.self.inside.bodies c.args.self.now c.args.number c.self.view_is c.requires in
    let time = ap time_in (c.get.ensures []) ∙ (c.self.invariant.lawful c.args.number [] below).no_time in
    let change = change_at c.self.inside.bodies c.args.self.now c.get.result.now c.args.number d c.self.view_is c.requires (c.get.ensures []) in
    c.of.ensures ∙ (λ i. update_at origins.Checkpoint (time i) (change i))
