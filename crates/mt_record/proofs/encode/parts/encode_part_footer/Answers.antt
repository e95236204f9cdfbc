use Rattle.mt_record.proofs.Encoding.{adds_both}
use Rattle.mt_record.proofs.encode.parts.encode_part_footer.Goals as goal

pub returns-clause-ok : goal.returns-clause-ok
returns-clause-ok c =
    let numbers = rw (c.to_be_bytes.ensures, c.to_be_bytes-2.ensures) at (adds_both c.put_bytes-2.ensures c.put_bytes-3.ensures) in
    rw (← c.in_ok-reserve.ensures.items) (adds_both c.put_bytes.ensures numbers).items
