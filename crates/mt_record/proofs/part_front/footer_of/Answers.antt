use Rattle.std.proofs.Common.{sym, ◌∙◌, arith}
use Rattle.std.proofs.lemmas.Grind.{common_steps}
use Rattle.std.proofs.lemmas.List.{take_rest}
use Rattle.mt_record.proofs.PartFrontLemmas.{footer_found}
use Rattle.mt_record.proofs.part_front.footer_of.Goals as goal

pub returns-clause-found : goal.returns-clause-found
returns-clause-found c =
    let length = c.in_ok-length.ensures.found in
    let end = c.in_ok-end.ensures.found in
    let count = c.in_ok-count.ensures.found in
    footer_found c.args.bytes.now c.in_ok-length.rest.now c.in_ok-end.rest.now c.in_ok-count.field-0-1.now c.in_ok-start.start c.in_ok-length.length c.in_ok-end.end c.in_ok-count.count
    (grind (arith, common_steps, c.in_ok-start.ensures)) (grind (arith, common_steps, c.if-length-ne0.false))
    (sym (take_rest c.args.bytes.now c.in_ok-start.start) ∙ length.1) end.1 count.1 end.0 count.0
