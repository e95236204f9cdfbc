use Rattle.std.proofs.KnownBytes.{Appends-trans}
use Rattle.std.proofs.lemmas.Result.{on_ok_weaker}
use Rattle.mt_checkpoint.proofs.encode.write_entry.Goals as goal

pub returns : goal.returns
returns g c =
    let length = c.entry_length-length.ensures.value c.args.version in
    on_ok_weaker c.write_u32-2.result
    (λ last.
    let fields = Appends-trans _ _ _ _ _ c.in_ok-write_fields.ensures (rw length at last) in
    Appends-trans _ _ _ _ _ (rw length at c.in_ok-write_u32.ensures.bytes) fields)
    c.write_u32-2.ensures.bytes
