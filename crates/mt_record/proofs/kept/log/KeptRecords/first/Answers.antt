use Rattle.std.proofs.Common.{◌∙◌, ap, arith}
use Rattle.mt_words.specs.Changes.{Logged}
use Rattle.mt_words.specs.Built.{mark_of}
use Rattle.mt_record.proofs.Cuts.{first_is}
use Rattle.mt_record.proofs.kept.log.KeptRecords.first.Goals as goal

pub returns : goal.returns
returns c =
    first_is c.args.self.now c.timestamp.result (mark_of 0) (omega (arith, c.len.ensures, c.if-len-eq0.false)) (c.timestamp.ensures ∙ ap (λ (r : Logged). r.timestamp) (c.body.ensures.says (mark_of 0)))
