use Rattle.std.proofs.Common.{sym, ap, ◌∙◌}
use Rattle.byteorder.specs.Endian.{big_bytes}
use Rattle.mt_crc.specs.Crc.{crc32c, crc32c_append, crc_bytes}
use Rattle.mt_crc.proofs.Numbers.{crc-append}
use Rattle.mt_block.proofs.block.head_crc.Goals as goal

pub returns : goal.returns
returns c =
    c.crc32c_append.ensures
    ∙ (λ i. crc32c_append ((c.crc32c.ensures ∙ ap crc32c c.to_le_bytes.ensures) i) (c.to_be_bytes.ensures i))
    ∙ sym (crc-append 0 (crc_bytes c.args.mark) (big_bytes 4 c.args.number))
