-- Bytes begin with the header of a part of format 4 or with none.
use Rattle.std.proofs.Common.{◌≡◌, ◌⊎◌, inl, inr, ◌^◌, ℕ, List, ◌++◌, take, drop, codes, sym, ap, ◌∙◌}
use Rattle.std.proofs.lemmas.List.{take-append-drop}
use Rattle.byteorder.specs.Endian.{big_bytes, big_from}
use Rattle.byteorder.specs.Numbers.{big_number-reads_back}
use Rattle.mt_crc.specs.Crc.{crc_bytes}
use Rattle.mt_block.specs.declared.part_header.PartHeader.{PartHeader}
use Rattle.mt_block.specs.Parts.{IsPartHeader, part_header_bytes, part_mark}
use Rattle.mt_record.specs.Parts.{IsSealedPart, HasNoPartSeal}
use Rattle.mt_laws.proofs.Decided.{Decided, below, same_bytes, both, alike, three}
use Rattle.mt_laws.proofs.Items.{Begins, begins_or_none}

-- ---- the magic

pub sealed_part_or_not : (bytes : List ℕ) → Decided (IsSealedPart bytes)
sealed_part_or_not bytes = elim (same_bytes (take 4 bytes) (codes "MTC4")) as (λ _. Decided (IsSealedPart bytes)) [
  | inl same ↦ inl (record { more = drop 4 bytes; spelled = sym (take-append-drop 4 bytes) ∙ ap (λ (x : List ℕ). x ++ drop 4 bytes) same })
  | inr differs ↦ inr (λ is. differs (ap (take 4) is.spelled))
]

-- ---- the header

-- the header that bytes can begin with
abbrev read_header : List ℕ → PartHeader
read_header bytes = record {
  salt = big_from 0 8 (drop 4 bytes);
  number = big_from 0 4 (drop 12 bytes);
  part = big_from 0 2 (drop 16 bytes);
  parts = big_from 0 2 (drop 18 bytes);
  begin = big_from 0 8 (drop 24 bytes);
}

is_header : (header : PartHeader) → Decided (IsPartHeader header)
is_header header =
    alike (λ is. record { salt = is.0; number = is.1.0; part = is.1.1.0; parts = is.1.1.1; begin = is.1.1.2 })
    (λ (is : IsPartHeader header). (is.salt, (is.number, (is.part, is.parts, is.begin))))
    (both (below header.salt (2 ^ 64)) (both (below header.number (2 ^ 32)) (three (below header.part (2 ^ 16)) (below header.parts (2 ^ 16)) (below header.begin (2 ^ 64)))))

header_back : (header : PartHeader) (more : List ℕ) → IsPartHeader header → read_header (part_header_bytes header ++ more) ≡ header
header_back header more is =
    let check = crc_bytes (part_mark header) ++ more in
    let begin = big_bytes 4 1 ++ (big_bytes 8 header.begin ++ check) in
    let parts = big_bytes 2 header.parts ++ begin in
    let part = big_bytes 2 header.part ++ parts in λ i. record {
      salt = big_number-reads_back 8 header.salt (big_bytes 4 header.number ++ part) is.salt i;
      number = big_number-reads_back 4 header.number part is.number i;
      part = big_number-reads_back 2 header.part parts is.part i;
      parts = big_number-reads_back 2 header.parts begin is.parts i;
      begin = big_number-reads_back 8 header.begin check is.begin i;
    }

pub part_seal_or_none : (bytes : List ℕ) → Begins IsPartHeader part_header_bytes bytes ⊎ HasNoPartSeal bytes
part_seal_or_none bytes =
    begins_or_none IsPartHeader part_header_bytes bytes (read_header bytes) (λ header more is e. ap read_header e ∙ header_back header more is) (is_header (read_header bytes))
