-- Parts of format 4: a header, and blocks as those of a log. No end follows them.
use Rattle.std.specs.Prelude.{◌≡◌, ℕ, ◌<◌, ◌^◌, List, ◌++◌, All, codes}
use Rattle.byteorder.specs.Endian.{big_bytes}
use Rattle.mt_crc.specs.Crc.{crc32c, codeword}
use Rattle.mt_block.specs.declared.part_header.PartHeader.{PartHeader}
use Rattle.mt_block.specs.Blocks.{IsBody, blocks}

-- the numbers fit their fields
pub record IsPartHeader (header : PartHeader) : Type 0 where
  pub salt : header.salt < 2 ^ 64
  pub number : header.number < 2 ^ 32
  pub part : header.part < 2 ^ 16
  pub parts : header.parts < 2 ^ 16
  pub begin : header.begin < 2 ^ 64

-- The fields. Where older formats have the first length stands 1, which no entry has, so that no damage of the magic makes a part of an older format.
abbrev pub part_header_fields : PartHeader → List ℕ
part_header_fields header =
    codes "MTC4" ++ (big_bytes 8 header.salt ++ (big_bytes 4 header.number ++ (big_bytes 2 header.part ++ (big_bytes 2 header.parts
    ++ (big_bytes 4 1 ++ big_bytes 8 header.begin)))))

-- the fields and their checksum
abbrev pub part_header_bytes : PartHeader → List ℕ
part_header_bytes header = codeword 0 (part_header_fields header)

-- the mark of a file, with which each of its blocks begins: the checksum of the header
abbrev pub part_mark : PartHeader → ℕ
part_mark header = crc32c (part_header_fields header)

-- a header, the blocks of these bodies, and what follows
pub record BeginsPart (bytes : List ℕ) (header : PartHeader) (bodies : List (List ℕ)) (rest : List ℕ) : Type 0 where
  pub spelled : bytes ≡ part_header_bytes header ++ (blocks (part_mark header) bodies ++ rest)
  pub is_header : IsPartHeader header
  pub are_bodies : All IsBody bodies
