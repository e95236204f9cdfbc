use Rattle.mt_record.proofs.Encoding.{adds_framed}
use Rattle.mt_record.proofs.encode.given.encode_given_entry.Goals as goal

pub returns-clause-ok : goal.returns-clause-ok
returns-clause-ok c =
    let first = rw c.to_be_bytes.ensures at c.put_bytes.ensures in
    let last = rw c.to_be_bytes-2.ensures at c.put_bytes-2.ensures in
    adds_framed c.length-length.ensures.value c.in_ok-reserve.ensures.items first c.put.ensures last
