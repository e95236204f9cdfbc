-- Headers at the front of bytes, in the numbers that C gets.
use Rattle.std.proofs.Common.{◌≡◌, ◌∙◌, ℕ, ◌-◌, List, ◌++◌, length, ap, arith, length-append}
use Rattle.mt_block.specs.declared.header.Header.{Header}
use Rattle.mt_block.specs.Blocks.{IsHeader, header_bytes}
use Rattle.mt_block.specs.declared.part_header.PartHeader.{PartHeader}
use Rattle.mt_block.specs.Parts.{IsPartHeader, part_header_bytes}
use Rattle.mt_record.specs.declared.part_text.PartHead.{PartHead}
use Rattle.mt_record.specs.Parts.{IsPartHead, part_head_bytes}
use Rattle.mt_c.specs.Fronts.{Tells, c_header, part_number, c_part_head, c_part_header}

-- the front has as many bytes as all without those behind it
front_length : (bytes front after : List ℕ) → bytes ≡ front ++ after → length bytes - length after ≡ length front
front_length bytes front after e = omega (arith, ap length e ∙ length-append front after)

pub tells_sealed : (header : Header) (bytes after : List ℕ) → IsHeader header → bytes ≡ header_bytes header ++ after
    → Tells IsHeader header_bytes c_header bytes (record { format = 4; worker = header.worker; segment = header.segment; workers = header.workers; from = header.from; salt = header.salt; length = length bytes - length after })
tells_sealed header bytes after is e = record {
  head = header;
  after = after;
  lawful = is;
  is_front = e;
  is_told = ap (λ n. record { format = 4; worker = header.worker; segment = header.segment; workers = header.workers; from = header.from; salt = header.salt; length = n }) (front_length bytes (header_bytes header) after e);
}

pub tells_sealed_part : (header : PartHeader) (bytes after : List ℕ) (part parts : ℕ) → part ≡ header.part → parts ≡ header.parts → IsPartHeader header → bytes ≡ part_header_bytes header ++ after
    → Tells IsPartHeader part_header_bytes c_part_header bytes (record { format = 4; number = header.number; part = part; parts = parts; begin = header.begin; salt = header.salt; length = length bytes - length after })
tells_sealed_part header bytes after part parts same_part same_parts is e = rw (same_part, same_parts) record {
  head = header;
  after = after;
  lawful = is;
  is_front = e;
  is_told = ap (λ n. record { format = 4; number = header.number; part = header.part; parts = header.parts; begin = header.begin; salt = header.salt; length = n }) (front_length bytes (part_header_bytes header) after e);
}

pub tells_part : (head : PartHead) (bytes after : List ℕ) (format part parts : ℕ) → format ≡ part_number head.format → part ≡ head.part → parts ≡ head.parts → IsPartHead head → bytes ≡ part_head_bytes head ++ after
    → Tells IsPartHead part_head_bytes c_part_head bytes (record { format = format; number = head.number; part = part; parts = parts; begin = head.begin; salt = 0; length = length bytes - length after })
tells_part head bytes after format part parts same_format same_part same_parts is e = rw (same_format, same_part, same_parts) record {
  head = head;
  after = after;
  lawful = is;
  is_front = e;
  is_told = ap (λ n. record { format = part_number head.format; number = head.number; part = head.part; parts = head.parts; begin = head.begin; salt = 0; length = n }) (front_length bytes (part_head_bytes head) after e);
}
