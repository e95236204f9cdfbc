use Rattle.mt_record.proofs.Encoding.{adds_both}
use Rattle.mt_record.proofs.encode.put_body.Goals as goal

pub returns-in-Some : goal.returns-in-Some
returns-in-Some c =
    let byte = rw (c.byte.ensures, c.code.ensures) at c.put_bytes-in-Some.ensures in
    let time = rw (c.to_be_bytes-in-Some.ensures, c.timestamp-in-Some.ensures.value) at c.put_bytes-in-Some-2.ensures in
    rw c.in-Some.ensures.value (adds_both (adds_both byte time) c.put_change.ensures)
