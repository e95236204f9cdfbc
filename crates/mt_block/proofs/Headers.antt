-- Headers of files.
use Rattle.std.proofs.Common.{◌≡◌, ◌≢◌, ℕ, zero, suc, ◌/◌, ◌%◌, ◌^◌, ◌<◌, List, ◌++◌, length, codes, refl, sym, ap, ◌∙◌, arith}
use Rattle.std.proofs.lemmas.List.Elements.{All-append, All-cons, All-nil}
use Rattle.std.specs.Int.{byte_at}
use Rattle.byteorder.specs.Endian.{big_bytes, big_from}
use Rattle.byteorder.specs.Numbers.{length-bytes_high_first, big_number-reads_back}
use Rattle.mt_crc.specs.Crc.{crc32c, crc32c_append, crc_bytes, AreBytes}
use Rattle.mt_crc.proofs.Numbers.{crc-append}
use Rattle.mt_crc.proofs.Codewords.{four_bytes}
use Rattle.mt_block.specs.declared.header.Header.{Header}
use Rattle.mt_block.specs.Blocks.{IsHeader, header_fields, header_bytes, mark_of}
use Rattle.mt_block.proofs.Heads.{same_split, codeword-length, same_codeword}

byte_low : (k n : ℕ) → byte_at k n < 2 ^ 8
byte_low zero n = omega arith
byte_low (suc k) n = let p : n / 256 ^ suc k % 256 < 256 = omega arith in p

pub are_big : (k n : ℕ) → AreBytes (big_bytes k n)
are_big zero n = All-nil (λ b. b < 2 ^ 8)
are_big (suc k) n = All-cons (λ b. b < 2 ^ 8) (byte_at k n) (big_bytes k n) (byte_low k n) (are_big k n)

pub both : (xs ys : List ℕ) → AreBytes xs → AreBytes ys → AreBytes (xs ++ ys)
both xs ys = All-append (λ b. b < 2 ^ 8) xs ys

pub same_number : (n a b : ℕ) (x y : List ℕ) → a < 256 ^ n → b < 256 ^ n → big_bytes n a ++ x ≡ big_bytes n b ++ y → (a ≡ b) × (x ≡ y)
same_number n a b x y fits_a fits_b e = (
  sym (big_number-reads_back n a x fits_a) ∙ ap (big_from 0 n) e ∙ big_number-reads_back n b y fits_b,
  (same_split (big_bytes n a) (big_bytes n b) x y (length-bytes_high_first n a ∙ sym (length-bytes_high_first n b)) e).1,
)

pub are_header : (header : Header) → AreBytes (header_fields header)
are_header header =
    let from : List ℕ = big_bytes 8 header.from in
    let workers : List ℕ = big_bytes 4 header.workers ++ from in
    let segment : List ℕ = big_bytes 4 header.segment ++ workers in
    let second : List ℕ = big_bytes 4 0 ++ segment in
    let worker : List ℕ = big_bytes 4 header.worker ++ second in
    let first : List ℕ = big_bytes 4 0 ++ worker in
    let salt : List ℕ = big_bytes 8 header.salt ++ first in
    both (codes "MTL4") salt (four_bytes 77 84 76 52 (omega arith) (omega arith) (omega arith) (omega arith))
    (both (big_bytes 8 header.salt) first (are_big 8 header.salt)
    (both (big_bytes 4 0) worker (are_big 4 0)
    (both (big_bytes 4 header.worker) second (are_big 4 header.worker)
    (both (big_bytes 4 0) segment (are_big 4 0)
    (both (big_bytes 4 header.segment) workers (are_big 4 header.segment)
    (both (big_bytes 4 header.workers) from (are_big 4 header.workers) (are_big 8 header.from)))))))

pub same_size : (header new : Header) → length (header_bytes header) ≡ length (header_bytes new)
same_size header new = codeword-length 0 (header_fields header) ∙ sym (codeword-length 0 (header_fields new))

same_fields : (header new : Header) → IsHeader header → IsHeader new → header_fields header ≡ header_fields new → header ≡ new
same_fields header new is other e =
    let magic = (same_split (codes "MTL4") (codes "MTL4") _ _ refl e).1 in
    let salt = same_number 8 header.salt new.salt _ _ is.salt other.salt magic in
    let first = same_number 4 0 0 _ _ (omega arith) (omega arith) salt.1 in
    let worker = same_number 4 header.worker new.worker _ _ is.worker other.worker first.1 in
    let second = same_number 4 0 0 _ _ (omega arith) (omega arith) worker.1 in
    let segment = same_number 4 header.segment new.segment _ _ is.segment other.segment second.1 in
    let workers = same_number 4 header.workers new.workers _ _ is.workers other.workers segment.1 in
    let from : header.from ≡ new.from = sym (big_from_all header.from is.from) ∙ ap (big_from 0 8) workers.1 ∙ big_from_all new.from other.from in
    λ i. record { salt = salt.0 i; worker = worker.0 i; segment = segment.0 i; workers = workers.0 i; from = from i }
  where
    big_from_all : (n : ℕ) → n < 2 ^ 64 → big_from 0 8 (big_bytes 8 n) ≡ n
    big_from_all n fits = omega arith

pub same_header : (header new : Header) → IsHeader header → IsHeader new → header_bytes header ≡ header_bytes new → header ≡ new
same_header header new is other e = same_fields header new is other (same_codeword 0 0 (header_fields header) (header_fields new) refl e)

-- ---- what is read of a header

-- the checksum of eight lists, one after the other
pub crc_of_eight : (a b c d e f g h : List ℕ)
    → crc32c_append (crc32c_append (crc32c_append (crc32c_append (crc32c_append (crc32c_append (crc32c_append (crc32c a) b) c) d) e) f) g) h
    ≡ crc32c (a ++ (b ++ (c ++ (d ++ (e ++ (f ++ (g ++ h)))))))
crc_of_eight a b c d e f g h =
    let k1 = crc32c a in
    let k2 = crc32c_append k1 b in
    let k3 = crc32c_append k2 c in
    let k4 = crc32c_append k3 d in
    let k5 = crc32c_append k4 e in
    let k6 = crc32c_append k5 f in
    sym (crc-append 0 a (b ++ (c ++ (d ++ (e ++ (f ++ (g ++ h))))))
    ∙ crc-append k1 b (c ++ (d ++ (e ++ (f ++ (g ++ h)))))
    ∙ crc-append k2 c (d ++ (e ++ (f ++ (g ++ h))))
    ∙ crc-append k3 d (e ++ (f ++ (g ++ h)))
    ∙ crc-append k4 e (f ++ (g ++ h))
    ∙ crc-append k5 f (g ++ h)
    ∙ crc-append k6 g h)

-- the fields of a header, read one after the other, before `rest`
pub record AreFields (header : Header) (bytes rest : List ℕ) : Type 0 where
  pub r1 : List ℕ
  pub r2 : List ℕ
  pub r3 : List ℕ
  pub r4 : List ℕ
  pub r5 : List ℕ
  pub r6 : List ℕ
  pub r7 : List ℕ
  pub magic : bytes ≡ codes "MTL4" ++ r1
  pub salt : (header.salt < 2 ^ 64) × (r1 ≡ big_bytes 8 header.salt ++ r2)
  pub first : r2 ≡ big_bytes 4 0 ++ r3
  pub worker : (header.worker < 2 ^ 32) × (r3 ≡ big_bytes 4 header.worker ++ r4)
  pub second : r4 ≡ big_bytes 4 0 ++ r5
  pub segment : (header.segment < 2 ^ 32) × (r5 ≡ big_bytes 4 header.segment ++ r6)
  pub workers : (header.workers < 2 ^ 32) × (r6 ≡ big_bytes 4 header.workers ++ r7)
  pub from : (header.from < 2 ^ 64) × (r7 ≡ big_bytes 8 header.from ++ rest)

pub is_header : (header : Header) (bytes rest : List ℕ) → AreFields header bytes rest → IsHeader header
is_header header bytes rest are = record { salt = are.salt.0; worker = are.worker.0; segment = are.segment.0; workers = are.workers.0; from = are.from.0 }

fields_there : (header : Header) (bytes rest : List ℕ) → AreFields header bytes rest → bytes ≡ header_fields header ++ rest
fields_there header bytes rest are =
    are.magic
    ∙ ap (λ (l : List ℕ). codes "MTL4" ++ l) (are.salt.1
    ∙ ap (λ (l : List ℕ). big_bytes 8 header.salt ++ l) (are.first
    ∙ ap (λ (l : List ℕ). big_bytes 4 0 ++ l) (are.worker.1
    ∙ ap (λ (l : List ℕ). big_bytes 4 header.worker ++ l) (are.second
    ∙ ap (λ (l : List ℕ). big_bytes 4 0 ++ l) (are.segment.1
    ∙ ap (λ (l : List ℕ). big_bytes 4 header.segment ++ l) (are.workers.1
    ∙ ap (λ (l : List ℕ). big_bytes 4 header.workers ++ l) are.from.1))))))

pub header_found : (header : Header) (bytes rest after : List ℕ) (crc : ℕ) → AreFields header bytes rest → rest ≡ crc_bytes crc ++ after → crc ≡ mark_of header → bytes ≡ header_bytes header ++ after
header_found header bytes rest after crc are check same = fields_there header bytes rest are ∙ ap (λ (l : List ℕ). header_fields header ++ l) (check ∙ ap (λ (k : ℕ). crc_bytes k ++ after) same)

pub header_none : (header new : Header) (bytes rest after : List ℕ) (crc : ℕ) → AreFields header bytes rest → crc ≡ mark_of header → ((more : List ℕ) → rest ≢ crc_bytes crc ++ more) → IsHeader new → bytes ≢ header_bytes new ++ after
header_none header new bytes rest after crc are same none is e =
    let s = same_split (header_fields header) (header_fields new) rest (crc_bytes (mark_of new) ++ after) refl (sym (fields_there header bytes rest are) ∙ e) in
    let headers : header ≡ new = same_fields header new (is_header header bytes rest are) is s.0 in
    none after (s.1 ∙ ap (λ (k : ℕ). crc_bytes k ++ after) (ap (λ (x : Header). mark_of x) (sym headers) ∙ sym same))
