use Rattle.std.proofs.Common.{◌≡◌, sym, ap, ◌∙◌, ◌%◌, ◌/◌, ◌^◌, bit_xor, get_or}
use Rattle.mt_crc.specs.Crc.{shifts}
use Rattle.mt_crc.proofs.Eights.{one_look}
use Rattle.mt_crc.proofs.after_byte.Goals as goal

pub returns : goal.returns
returns c =
    let sum = bit_xor c.args.state c.from.result in
    let low : c.looked_up.result ≡ shifts 8 (sum % 2 ^ 8) = c.looked_up.ensures ∙ ap (λ bs. shifts 8 (get_or bs 0 0)) c.to_le_bytes.ensures in
    ap (bit_xor (sum / 2 ^ 8)) low ∙ sym (one_look sum) ∙ ap (λ b. shifts 8 (bit_xor c.args.state b)) c.from.ensures
