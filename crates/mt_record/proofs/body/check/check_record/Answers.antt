use Rattle.std.proofs.Common.{refl, ap, arith}
use Rattle.std.proofs.lemmas.Grind.{common_steps}
use Rattle.mt_words.specs.declared.limits.Limits.{Limits}
use Rattle.mt_words.specs.Limits.{limits_of}
use Rattle.mt_words.specs.Changes.{changed}
use Rattle.mt_words.specs.Built.{mark_of}
use Rattle.mt_record.specs.Steps.Bodies.{IsBodyOf}
use Rattle.mt_record.proofs.Checked.{mark_byte}
use Rattle.mt_record.proofs.body.check.check_record.Goals as goal

pub returns-in-None-empty-clause-found : goal.returns-in-None-empty-clause-found
returns-in-None-empty-clause-found c =
    let kind = ap (λ (l : Limits). l.kind) c.limits.ensures in
    let byte = mark_byte c.args.format _ c.in-None-empty.ensures.none (omega (arith, c.if-byte-limits.false, kind)) in
    let is : IsBodyOf (limits_of c.args.format) 0 c.args.bytes.now (mark_of c.in-Some.timestamp) = grind (arith, common_steps, c.in-Some.ensures.found, byte) in
    (mark_of c.in-Some.timestamp, is, refl)

pub returns-in_ok-check_change-in-Some-default-clause-found : goal.returns-in_ok-check_change-in-Some-default-clause-found
returns-in_ok-check_change-in-Some-default-clause-found c =
    let found = c.in_ok-check_change-in-Some-default.ensures.found in
    let is : IsBodyOf (limits_of c.args.format) 0 c.args.bytes.now (changed c.in-Some.timestamp c.in_ok-check_change-in-Some-default.ensures.found.0) = grind (arith, common_steps, c.in-Some.ensures.found, c.in_ok-check_change-in-Some-default.ensures.found.1) in
    (changed c.in-Some.timestamp c.in_ok-check_change-in-Some-default.ensures.found.0, is, refl)
