use Rattle.std.proofs.Common.{◌≡◌, sym, subst, ◌∙◌}
use Rattle.mt_words.specs.Limits.{widest}
use Rattle.mt_words.specs.Changes.{IsLoggedChange}
use Rattle.mt_record.specs.Decoding.{kind_from, change_in}
use Rattle.mt_record.proofs.Decodes.{carried_is}
use Rattle.mt_record.proofs.Copying.{lawful_body, lawful_change}
use Rattle.mt_record.proofs.body.copy.copy_record.Goals as goal

pub timestamp-timestamp-requires : goal.timestamp-timestamp-requires
timestamp-timestamp-requires c = lawful_body c.args.body.now c.requires

pub is_mark-requires : goal.is_mark-requires
is_mark-requires c = lawful_body c.args.body.now c.requires

pub code-requires : goal.code-requires
code-requires c = (lawful_change c.args.body.now c.requires (sym c.is_mark.ensures ∙ c.if-is_mark.false)).0

pub change-requires : goal.change-requires
change-requires c = (lawful_change c.args.body.now c.requires (sym c.is_mark.ensures ∙ c.if-is_mark.false)).0

pub copy_change-requires-clause-key : goal.copy_change-requires-clause-key
copy_change-requires-clause-key c = rw c.change.ensures.key (lawful_change c.args.body.now c.requires (sym c.is_mark.ensures ∙ c.if-is_mark.false)).1.0.key

pub copy_change-requires-clause-carried : goal.copy_change-requires-clause-carried
copy_change-requires-clause-carried c =
    rw (c.change.ensures.carried, c.code.ensures) (carried_is c.args.body.now (lawful_change c.args.body.now c.requires (sym c.is_mark.ensures ∙ c.if-is_mark.false)).0)

pub copy_change-requires-clause-lawful : goal.copy_change-requires-clause-lawful
copy_change-requires-clause-lawful c =
    rw (c.change.ensures.carried, c.code.ensures) (lawful_change c.args.body.now c.requires (sym c.is_mark.ensures ∙ c.if-is_mark.false)).1.0.kind

pub of_change-requires : goal.of_change-requires
of_change-requires c =
    let same : c.in_ok-change.change ≡ change_in c.args.body.now =
    c.in_ok-change.ensures ∙ (λ i. record { version = c.change.ensures.version i; key = c.change.ensures.key i; kind = kind_from (c.code.ensures i) (c.change.ensures.carried i) }) in
    subst (IsLoggedChange widest) (sym same) (lawful_change c.args.body.now c.requires (sym c.is_mark.ensures ∙ c.if-is_mark.false)).1
