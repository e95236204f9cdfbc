-- Headers of parts.
use Rattle.std.proofs.Common.{◌≡◌, ◌≢◌, ℕ, ◌^◌, ◌<◌, List, ◌++◌, length, codes, refl, sym, ap, ◌∙◌, arith}
use Rattle.byteorder.specs.Endian.{big_bytes, big_from}
use Rattle.mt_crc.specs.Crc.{crc32c, crc32c_append, crc_bytes}
use Rattle.mt_crc.proofs.Numbers.{crc-append}
use Rattle.mt_block.specs.declared.part_header.PartHeader.{PartHeader}
use Rattle.mt_block.specs.Parts.{IsPartHeader, part_header_fields, part_header_bytes, part_mark}
use Rattle.mt_block.proofs.Heads.{same_split, codeword-length, same_codeword}
use Rattle.mt_block.proofs.Headers.{same_number}

pub part_header-length : (header : PartHeader) → length (part_header_bytes header) ≡ 36
part_header-length header = codeword-length 0 (part_header_fields header)

same_part_fields : (header new : PartHeader) → IsPartHeader header → IsPartHeader new → part_header_fields header ≡ part_header_fields new → header ≡ new
same_part_fields header new is other e =
    let magic = (same_split (codes "MTC4") (codes "MTC4") _ _ refl e).1 in
    let salt = same_number 8 header.salt new.salt _ _ is.salt other.salt magic in
    let number = same_number 4 header.number new.number _ _ is.number other.number salt.1 in
    let part = same_number 2 header.part new.part _ _ is.part other.part number.1 in
    let parts = same_number 2 header.parts new.parts _ _ is.parts other.parts part.1 in
    let one = same_number 4 1 1 _ _ (omega arith) (omega arith) parts.1 in
    let begin : header.begin ≡ new.begin = sym (big_from_all header.begin is.begin) ∙ ap (big_from 0 8) one.1 ∙ big_from_all new.begin other.begin in
    λ i. record { salt = salt.0 i; number = number.0 i; part = part.0 i; parts = parts.0 i; begin = begin i }
  where
    big_from_all : (n : ℕ) → n < 2 ^ 64 → big_from 0 8 (big_bytes 8 n) ≡ n
    big_from_all n fits = omega arith

-- bytes begin with only one header
pub same_part_header : (header new : PartHeader) (x y : List ℕ) → IsPartHeader header → IsPartHeader new → part_header_bytes header ++ x ≡ part_header_bytes new ++ y → (header ≡ new) × (x ≡ y)
same_part_header header new x y is other e =
    let s = same_split (part_header_bytes header) (part_header_bytes new) x y (part_header-length header ∙ sym (part_header-length new)) e in
    (same_part_fields header new is other (same_codeword 0 0 (part_header_fields header) (part_header_fields new) refl s.0), s.1)

-- ---- what is read of a header

-- the checksum of seven lists, one after the other
pub crc_of_seven : (a b c d e f g : List ℕ)
    → crc32c_append (crc32c_append (crc32c_append (crc32c_append (crc32c_append (crc32c_append (crc32c a) b) c) d) e) f) g
    ≡ crc32c (a ++ (b ++ (c ++ (d ++ (e ++ (f ++ g))))))
crc_of_seven a b c d e f g =
    let k1 = crc32c a in
    let k2 = crc32c_append k1 b in
    let k3 = crc32c_append k2 c in
    let k4 = crc32c_append k3 d in
    let k5 = crc32c_append k4 e in
    sym (crc-append 0 a (b ++ (c ++ (d ++ (e ++ (f ++ g)))))
    ∙ crc-append k1 b (c ++ (d ++ (e ++ (f ++ g))))
    ∙ crc-append k2 c (d ++ (e ++ (f ++ g)))
    ∙ crc-append k3 d (e ++ (f ++ g))
    ∙ crc-append k4 e (f ++ g)
    ∙ crc-append k5 f g)

-- the fields of a header, read one after the other, before `rest`
pub record ArePartFields (header : PartHeader) (bytes rest : List ℕ) : Type 0 where
  pub r1 : List ℕ
  pub r2 : List ℕ
  pub r3 : List ℕ
  pub r4 : List ℕ
  pub r5 : List ℕ
  pub r6 : List ℕ
  pub magic : bytes ≡ codes "MTC4" ++ r1
  pub salt : (header.salt < 2 ^ 64) × (r1 ≡ big_bytes 8 header.salt ++ r2)
  pub number : (header.number < 2 ^ 32) × (r2 ≡ big_bytes 4 header.number ++ r3)
  pub part : (header.part < 2 ^ 16) × (r3 ≡ big_bytes 2 header.part ++ r4)
  pub parts : (header.parts < 2 ^ 16) × (r4 ≡ big_bytes 2 header.parts ++ r5)
  pub one : r5 ≡ big_bytes 4 1 ++ r6
  pub begin : (header.begin < 2 ^ 64) × (r6 ≡ big_bytes 8 header.begin ++ rest)

pub is_part_header : (header : PartHeader) (bytes rest : List ℕ) → ArePartFields header bytes rest → IsPartHeader header
is_part_header header bytes rest are = record { salt = are.salt.0; number = are.number.0; part = are.part.0; parts = are.parts.0; begin = are.begin.0 }

part_fields_there : (header : PartHeader) (bytes rest : List ℕ) → ArePartFields header bytes rest → bytes ≡ part_header_fields header ++ rest
part_fields_there header bytes rest are =
    are.magic
    ∙ ap (λ (l : List ℕ). codes "MTC4" ++ l) (are.salt.1
    ∙ ap (λ (l : List ℕ). big_bytes 8 header.salt ++ l) (are.number.1
    ∙ ap (λ (l : List ℕ). big_bytes 4 header.number ++ l) (are.part.1
    ∙ ap (λ (l : List ℕ). big_bytes 2 header.part ++ l) (are.parts.1
    ∙ ap (λ (l : List ℕ). big_bytes 2 header.parts ++ l) (are.one
    ∙ ap (λ (l : List ℕ). big_bytes 4 1 ++ l) are.begin.1)))))

pub part_header_found : (header : PartHeader) (bytes rest after : List ℕ) (crc : ℕ) → ArePartFields header bytes rest → rest ≡ crc_bytes crc ++ after → crc ≡ part_mark header → bytes ≡ part_header_bytes header ++ after
part_header_found header bytes rest after crc are check same = part_fields_there header bytes rest are ∙ ap (λ (l : List ℕ). part_header_fields header ++ l) (check ∙ ap (λ (k : ℕ). crc_bytes k ++ after) same)

pub part_header_none : (header new : PartHeader) (bytes rest after : List ℕ) (crc : ℕ) → ArePartFields header bytes rest → crc ≡ part_mark header → ((more : List ℕ) → rest ≢ crc_bytes crc ++ more) → IsPartHeader new
    → bytes ≢ part_header_bytes new ++ after
part_header_none header new bytes rest after crc are same none is e =
    let s = same_split (part_header_fields header) (part_header_fields new) rest (crc_bytes (part_mark new) ++ after) refl (sym (part_fields_there header bytes rest are) ∙ e) in
    let headers : header ≡ new = same_part_fields header new (is_part_header header bytes rest are) is s.0 in
    none after (s.1 ∙ ap (λ (k : ℕ). crc_bytes k ++ after) (ap (λ (x : PartHeader). part_mark x) (sym headers) ∙ sym same))
