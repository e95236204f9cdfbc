use Rattle.std.proofs.Common.{sym, subst, ◌∙◌}
use Rattle.mt_words.specs.Limits.{widest, widest_format}
use Rattle.mt_words.specs.Changes.{IsEntry}
use Rattle.mt_record.specs.Steps.Bodies.{AreFieldsOf}
use Rattle.mt_record.proofs.EntryTexts.{entry_fits}
use Rattle.mt_record.proofs.Copying.{read_entry}
use Rattle.mt_record.proofs.body.copy.copy_entry.Goals as goal

pub fields_of-requires : goal.fields_of-requires
fields_of-requires c = (c.requires.0, entry_fits widest_format c.requires.0 c.requires.1.lawful, c.requires.1.spelled)

pub copy_change-requires-clause-key : goal.copy_change-requires-clause-key
copy_change-requires-clause-key c = (read_entry c.args.bytes.now c.requires.0 c.fields_of.result c.requires.1 c.fields_of.ensures).key

pub copy_change-requires-clause-carried : goal.copy_change-requires-clause-carried
copy_change-requires-clause-carried c = (read_entry c.args.bytes.now c.requires.0 c.fields_of.result c.requires.1 c.fields_of.ensures).carried

pub copy_change-requires-clause-lawful : goal.copy_change-requires-clause-lawful
copy_change-requires-clause-lawful c = (read_entry c.args.bytes.now c.requires.0 c.fields_of.result c.requires.1 c.fields_of.ensures).lawful

pub of_change-requires : goal.of_change-requires
of_change-requires c =
    let same = c.in_ok-change.ensures ∙ (read_entry c.args.bytes.now c.requires.0 c.fields_of.result c.requires.1 c.fields_of.ensures).is in
    subst (IsEntry widest) (sym same) c.requires.1.lawful

pub returns : goal.returns
returns c =
    let same = c.in_ok-change.ensures ∙ (read_entry c.args.bytes.now c.requires.0 c.fields_of.result c.requires.1 c.fields_of.ensures).is in
    subst (AreFieldsOf widest c.args.bytes.now) (sym (c.of_change.ensures ∙ same)) c.requires.1
