use Rattle.std.proofs.Common.{arith}
use Rattle.mt_record.specs.Steps.Bodies.{IsWithin}
use Rattle.mt_record.proofs.Frames.{trailer_fault, parts}
use Rattle.mt_record.proofs.feed.frame.next_frame.Goals as goal

pub returns-then-trailer-length-clause-fault : goal.returns-then-trailer-length-clause-fault
returns-then-trailer-length-clause-fault c =
    let split = c.in-Some-split_at_checked.ensures.cases in
    let body = c.in-Some-split_at_checked.body.now in
    let after = c.in-Some-split_at_checked.rest.now in
    let behind = c.in-Some-u32_at in
    trailer_fault (IsWithin c.args.shortest c.args.longest) c.args.bytes.now c.in-Some.rest.now after behind.rest.now body c.in-Some.length behind.trailer
    (omega arith, omega arith) c.in-Some.ensures.found.1 (parts c.in-Some.length c.in-Some.rest.now body after split.1 split.2)
    behind.ensures.found.1 split.3 behind.ensures.found.0 c.if-trailer-length.true
