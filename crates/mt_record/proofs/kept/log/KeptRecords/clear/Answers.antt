use Rattle.std.proofs.Common.{◌≡◌, List, length, ap, arith}
use Rattle.std.specs.List.{filter}
use Rattle.mt_words.specs.Changes.{Logged, is_mark}
use Rattle.mt_record.proofs.RecordLemmas.{marks_and_updates}
use Rattle.mt_record.proofs.kept.log.KeptRecords.clear.Goals as goal

-- the marks are counted exactly
marks_are : (c : goal.After-len) → c.self.inside.marks ≡ length (filter is_mark c.args.self.now)
marks_are c =
    let view = ap (λ (rs : List Logged). length (filter is_mark rs)) c.self.view_is in
    omega (arith, c.self.invariant.marked, view, c.len.ensures, c.len.type_inv, marks_and_updates 0 0 c.args.self.now)

pub overflow_sub-updates : goal.overflow_sub-updates
overflow_sub-updates c = omega (arith, marks_are c, c.len.ensures, marks_and_updates 0 0 c.args.self.now)

pub returns-clause-gone : goal.returns-clause-gone
returns-clause-gone c =
    let marks = marks_are c.before.before.before in
    record { marks = marks; count = omega (arith, marks, c.len.ensures, marks_and_updates 0 0 c.args.self.now) }
