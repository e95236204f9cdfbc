use Rattle.std.proofs.Common.{length, ap, arith}
use Rattle.mt_words.specs.OneLog.{OneLog, kept_updates}
use Rattle.mt_record.proofs.RecordLemmas.{marks_and_updates}
use Rattle.mt_record.proofs.kept.updates.Updates.len.Goals as goal

pub overflow_sub-result : goal.overflow_sub-result
overflow_sub-result c =
    omega (arith, c.len.ensures, c.marks.ensures, marks_and_updates c.self.inside.log 0 c.self.inside.records)

pub returns : goal.returns
returns c =
    omega (
      arith,
      c.len.ensures,
      c.len.type_inv,
      c.marks.ensures,
      marks_and_updates c.self.inside.log 0 c.self.inside.records,
      ap (λ (k : OneLog). length (kept_updates k)) c.self.view_is,
    )
