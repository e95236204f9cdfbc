use Rattle.mt_record.proofs.Encoding.{adds_both}
use Rattle.mt_record.proofs.encode.append_header.Goals as goal

pub returns-clause-ok : goal.returns-clause-ok
returns-clause-ok c = rw (← c.in_ok-reserve.ensures.items) (adds_both c.put_magic.ensures (rw c.to_be_bytes.ensures at c.put_bytes.ensures)).items
