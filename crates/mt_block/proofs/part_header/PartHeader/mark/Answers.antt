use Rattle.std.proofs.Common.{◌∙◌, codes}
use Rattle.byteorder.specs.Endian.{big_bytes}
use Rattle.mt_crc.specs.Crc.{crc32c_append}
use Rattle.mt_block.proofs.PartHeaders.{crc_of_seven}
use Rattle.mt_block.proofs.part_header.PartHeader.mark.Goals as goal

pub returns : goal.returns
returns c =
    let header = c.args.self.now in
    let k2 = c.crc32c_append-crc.ensures ∙ (λ i. crc32c_append (c.crc32c.ensures i) (c.to_be_bytes.ensures i)) in
    let k3 = c.crc32c_append-crc-2.ensures ∙ (λ i. crc32c_append (k2 i) (c.to_be_bytes-2.ensures i)) in
    let k4 = c.crc32c_append-crc-3.ensures ∙ (λ i. crc32c_append (k3 i) (c.to_be_bytes-3.ensures i)) in
    let k5 = c.crc32c_append-crc-4.ensures ∙ (λ i. crc32c_append (k4 i) (c.to_be_bytes-4.ensures i)) in
    let k6 = c.crc32c_append.ensures ∙ (λ i. crc32c_append (k5 i) (big_bytes 4 1)) in
    let k7 = c.crc32c_append-2.ensures ∙ (λ i. crc32c_append (k6 i) (c.to_be_bytes-5.ensures i)) in
    k7 ∙ crc_of_seven (codes "MTC4") (big_bytes 8 header.salt) (big_bytes 4 header.number) (big_bytes 2 header.part) (big_bytes 2 header.parts) (big_bytes 4 1) (big_bytes 8 header.begin)
