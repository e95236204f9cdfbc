use Rattle.std.proofs.Common.{[], sym, ap, ◌∙◌, subst}
use Rattle.mt_record.specs.Shares.{ShareView}
use Rattle.mt_record.specs.Steps.Bodies.{IsLawfulBody}
use Rattle.mt_record.specs.Decoding.{decode}
use Rattle.mt_record.proofs.Decodes.{body_says}
use Rattle.mt_record.proofs.RecordLemmas.{within, record_at}
use Rattle.mt_record.proofs.kept.share.Share.body.Goals as goal

pub returns-clause-lawful : goal.returns-clause-lawful
returns-clause-lawful c =
    let records = ap (λ (share : ShareView). share.records) c.self.view_is in
    let below = within c.self.inside.bodies c.args.self.now.records c.args.number records c.requires in
    subst IsLawfulBody (sym (c.get.ensures [])) (c.self.invariant.lawful c.args.number [] below)

pub returns-clause-body : goal.returns-clause-body
returns-clause-body c =
    let records = ap (λ (share : ShareView). share.records) c.self.view_is in
    let below = within c.self.inside.bodies c.args.self.now.records c.args.number records c.requires in
    let is = c.self.invariant.lawful c.args.number [] below in
    (body_says c.get.result.now is.0 is.1.lawful (c.get.ensures [] ∙ is.1.spelled)).1

pub returns-clause-says : goal.returns-clause-says
returns-clause-says c = λ d.
    let records = ap (λ (share : ShareView). share.records) c.self.view_is in
    ap decode (c.get.ensures []) ∙ record_at c.self.inside.bodies c.args.self.now.records c.args.number d records c.requires
