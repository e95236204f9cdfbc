use Rattle.std.proofs.Common.{sym, ap, ◌∙◌, bit_xor}
use Rattle.mt_crc.specs.Crc.{shifts}
use Rattle.mt_crc.proofs.Eights.{after_pair_is}
use Rattle.mt_crc.proofs.after_pair.Goals as goal

pub returns : goal.returns
returns c =
    let n = c.from_le_bytes.result in
    let m = c.from_le_bytes-2.result in
    (λ i. bit_xor (c.shifted_out.ensures i) (c.shifted_out-2.ensures i))
    ∙ ap (λ state. bit_xor (shifts 128 (bit_xor state n)) (shifts 64 m)) c.from.ensures
    ∙ sym (after_pair_is c.args.state c.args.first.now c.args.second.now n m c.told-first c.fits-first c.from_le_bytes.type_inv c.from_le_bytes.ensures
    c.told-second c.fits-second c.from_le_bytes-2.type_inv c.from_le_bytes-2.ensures)
