use Rattle.mt_record.proofs.Encoding.{adds_both}
use Rattle.mt_record.proofs.encode.parts.encode_part_header.Goals as goal

pub returns-clause-ok : goal.returns-clause-ok
returns-clause-ok c =
    let numbers = adds_both c.put_bytes.ensures (adds_both c.put_bytes-2.ensures (adds_both c.put_bytes-3.ensures c.put_bytes-4.ensures)) in
    let spelled = rw (c.to_be_bytes.ensures, c.to_be_bytes-2.ensures, c.to_be_bytes-3.ensures, c.to_be_bytes-4.ensures) at numbers in
    rw (← c.in_ok-reserve.ensures.items) (adds_both c.put_magic.ensures spelled).items
