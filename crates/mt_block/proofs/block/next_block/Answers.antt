use Rattle.std.proofs.Common.{◌<◌, length, ap, ◌∙◌, arith}
use Rattle.mt_crc.specs.Crc.{crc32c_append}
use Rattle.mt_block.proofs.Places.{too_short, no_check, block_there, no_block_there}
use Rattle.mt_block.proofs.block.next_block.Goals as goal

pub returns-in_default-split-clause-found : goal.returns-in_default-split-clause-found
returns-in_default-split-clause-found c =
    let short : length c.in-Some.rest.now < c.in-Some.number = c.in_default-split.ensures.none in
    too_short c.args.mark c.in-Some.number c.args.bytes.now c.in-Some.rest.now c.in-Some.ensures.found (omega arith)

pub returns-in_default-split-2-clause-found : goal.returns-in_default-split-2-clause-found
returns-in_default-split-2-clause-found c =
    no_check c.args.mark c.in-Some.number c.args.bytes.now c.in-Some.rest.now c.in-Some.ensures.found c.in-Some-split.body.now c.in-Some-split.rest.now c.in-Some-split.ensures.found
    c.in_default-split-2.ensures.none

pub returns-in-Some-after_crc-clause-found : goal.returns-in-Some-after_crc-clause-found
returns-in-Some-after_crc-clause-found c =
    block_there c.args.mark c.in-Some.number c.args.bytes.now c.in-Some.rest.now c.in-Some.ensures.found c.in-Some-split.body.now c.in-Some-split.rest.now c.in-Some-split.ensures.found
    c.crc32c_append-crc.result (c.crc32c_append-crc.ensures ∙ ap (λ s. crc32c_append s c.in-Some-split.body.now) c.head_crc.ensures)
    c.in-Some-after_crc.after.now c.in-Some-after_crc.ensures.found (λ i. (c.type_inv.bytes i).fits)

pub returns-in-None-clause-broken : goal.returns-in-None-clause-broken
returns-in-None-clause-broken c =
    no_block_there c.args.mark c.in-Some.number c.args.bytes.now c.in-Some.rest.now c.in-Some.ensures.found c.in-Some-split.body.now c.in-Some-split.rest.now c.in-Some-split.ensures.found
    c.crc32c_append-crc.result (c.crc32c_append-crc.ensures ∙ ap (λ s. crc32c_append s c.in-Some-split.body.now) c.head_crc.ensures)
    c.in-Some-split-2.field-0-0.now c.in-Some-split-2.behind.now c.in-Some-split-2.ensures.found c.in-None.ensures.none
