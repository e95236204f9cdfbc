use Rattle.std.proofs.Common.{sym, ◌∙◌, arith}
use Rattle.mt_record.proofs.Decodes.{body_says}
use Rattle.mt_record.proofs.RecordLemmas.{said_push, mark_kept, change_kept}
use Rattle.mt_record.proofs.kept.log.KeptRecordsRecords.put_record.Goals as goal

pub is_mark-requires : goal.is_mark-requires
is_mark-requires c = (body_says c.args.body.now c.requires.0 c.requires.1.lawful c.requires.1.spelled).1

pub invariant_of-self-then-is_mark : goal.invariant_of-self-then-is_mark
invariant_of-self-then-is_mark c =
    let mark = sym c.is_mark.ensures ∙ c.if-is_mark.true in
    mark_kept c.self.inside.bodies c.push.new.self c.self.inside.marks c.saturating_add-self-inside.result c.args.body.now c.self.invariant c.requires c.in_ok-push.ensures.ok mark
    (omega (arith, c.saturating_add-self-inside.ensures))

pub invariant_of-self-else-is_mark : goal.invariant_of-self-else-is_mark
invariant_of-self-else-is_mark c =
    let change = sym c.is_mark.ensures ∙ c.if-is_mark.false in
    change_kept c.self.inside.bodies c.push.new.self c.self.inside.marks c.args.body.now c.self.invariant c.requires c.in_ok-push.ensures.ok change

pub returns-then-is_mark-clause-ok : goal.returns-then-is_mark-clause-ok
returns-then-is_mark-clause-ok c = λ r is.
    said_push c.self.inside.bodies c.push.new.self c.args.self.now c.args.body.now r c.in_ok-push.ensures.ok c.self.view_is (body_says c.args.body.now r is.lawful is.spelled).0

pub returns-else-is_mark-clause-ok : goal.returns-else-is_mark-clause-ok
returns-else-is_mark-clause-ok c = λ r is.
    said_push c.self.inside.bodies c.push.new.self c.args.self.now c.args.body.now r c.in_ok-push.ensures.ok c.self.view_is (body_says c.args.body.now r is.lawful is.spelled).0
