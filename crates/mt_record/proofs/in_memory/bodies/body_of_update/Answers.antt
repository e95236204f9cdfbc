use Rattle.std.proofs.Common.{◌≡◌, ◌++◌, ◌∷◌, List, ap, ◌∙◌, arith}
use Rattle.mt_record.specs.Spelling.{kind_byte, change_bytes}
use Rattle.byteorder.specs.Endian.{big_bytes}
use Rattle.mt_record.specs.Decoding.{IsSoundChange}
use Rattle.mt_words.specs.declared.record.Change.{Change}
use Rattle.mt_record.proofs.Encoding.{adds_both}
use Rattle.mt_record.proofs.Decodes.{update_says}
use Rattle.mt_record.proofs.in_memory.bodies.body_of_update.Goals as goal

pub returns : goal.returns
returns c =
    let update = c.args.update.now in
    let change : Change = record { version = update.stamp.version; key = update.key; kind = update.kind } in
    let byte = rw (c.byte.ensures, c.code.ensures) at c.put_bytes.ensures in
    let time = rw c.to_be_bytes.ensures at c.put_bytes-2.ensures in
    let version = rw c.to_be_bytes-2.ensures at c.put_bytes-3.ensures in
    let key = rw c.as_bytes-key.ensures.value at c.put_counted.ensures in
    let all = adds_both (adds_both (adds_both (adds_both byte time) version) key) c.put_kind.ensures.added in
    let spelled : c.put_kind.new.out.items ≡ kind_byte update.kind ∷ (big_bytes 8 update.timestamp ++ change_bytes change) =
    all.items ∙ ap (λ (x : List _). x ++ kind_byte update.kind ∷ (big_bytes 8 update.timestamp ++ change_bytes change)) c.in_ok-body.ensures.items in
    let sound : IsSoundChange change = record { version = omega arith; key = c.as_bytes-key.ensures.lawful; writes = c.put_kind.ensures.lawful } in
    let is = update_says c.put_kind.new.out.items update (omega arith) sound spelled in
    record { lawful = is.0; says = is.1 }
