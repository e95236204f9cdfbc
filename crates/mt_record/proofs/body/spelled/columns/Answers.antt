use Rattle.std.proofs.Common.{ap, sym, ◌∙◌}
use Rattle.mt_words.specs.Codes.{payload_of}
use Rattle.mt_record.proofs.Decodes.{carried_packed}
use Rattle.mt_record.proofs.body.spelled.columns.Goals as goal

pub returns-in-Columns-clause-some : goal.returns-in-Columns-clause-some
returns-in-Columns-clause-some c =
    let payload = sym (c.payload.ensures ∙ ap payload_of c.code.ensures) ∙ c.in-Columns.is in
    rw c.change.ensures.carried (carried_packed c.args.body.now c.requires payload)
