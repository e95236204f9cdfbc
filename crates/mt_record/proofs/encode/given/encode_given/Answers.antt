use Rattle.std.proofs.Common.{arith}
use Rattle.mt_record.specs.Given.{change_of}
use Rattle.mt_record.proofs.Encoding.{adds_record}
use Rattle.mt_record.proofs.encode.given.encode_given.Goals as goal

pub returns-clause-ok : goal.returns-clause-ok
returns-clause-ok c =
    let head = rw (c.byte-kind.ensures, c.code.ensures) at (rw c.head_of.ensures at c.put_bytes.ensures) in
    let last = rw c.to_be_bytes.ensures at c.put_bytes-3.ensures in
    adds_record c.args.timestamp (change_of c.args.given) (omega (arith, c.length.ensures.value)) c.in_ok-reserve.ensures.items head c.put_bytes-2.ensures c.put.ensures last
