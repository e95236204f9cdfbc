use Rattle.std.proofs.Common.{◌∙◌, sym}
use Rattle.std.proofs.lemmas.List.{take_rest}
use Rattle.mt_record.specs.Decoding.{change_in}
use Rattle.mt_record.proofs.Decodes.{fields_there, carried_spelled}
use Rattle.mt_record.proofs.body.spelled.change.Goals as goal

pub fields_of-requires : goal.fields_of-requires
fields_of-requires c =
    let there = fields_there c.args.body.now c.requires in
    (change_in c.args.body.now, there.0, take_rest c.args.body.now 9 ∙ there.1)

pub returns-clause-version : goal.returns-clause-version
returns-clause-version c =
    let there = fields_there c.args.body.now c.requires in
    (c.fields_of.ensures (change_in c.args.body.now) there.0 (take_rest c.args.body.now 9 ∙ there.1)).version

pub returns-clause-key : goal.returns-clause-key
returns-clause-key c =
    let there = fields_there c.args.body.now c.requires in
    (c.fields_of.ensures (change_in c.args.body.now) there.0 (take_rest c.args.body.now 9 ∙ there.1)).key

pub returns-clause-carried : goal.returns-clause-carried
returns-clause-carried c =
    let there = fields_there c.args.body.now c.requires in
    (c.fields_of.ensures (change_in c.args.body.now) there.0 (take_rest c.args.body.now 9 ∙ there.1)).carried ∙ sym (carried_spelled c.args.body.now c.requires).0
