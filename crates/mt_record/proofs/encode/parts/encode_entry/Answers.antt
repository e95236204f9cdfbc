use Rattle.mt_record.proofs.Encoding.{adds_framed}
use Rattle.mt_record.proofs.encode.parts.encode_entry.Goals as goal

pub returns-clause-ok : goal.returns-clause-ok
returns-clause-ok c =
    let body = rw c.change.ensures.value at c.put_change.ensures in
    let first = rw c.to_be_bytes.ensures at c.put_bytes.ensures in
    let last = rw c.to_be_bytes-2.ensures at c.put_bytes-2.ensures in
    adds_framed c.entry_length-length.ensures.value c.in_ok-reserve.ensures.items first body last
