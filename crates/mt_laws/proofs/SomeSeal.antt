-- Bytes begin with a header of format 4 or with none; and the bytes of bodies.
use Rattle.std.proofs.Common.{◌≡◌, ◌⊎◌, inl, inr, ℕ, ◌^◌, ◌<◌, List, [], ◌∷◌, ◌++◌, take, drop, codes, sym, ap, ◌∙◌}
use Rattle.std.specs.List.{All}
use Rattle.std.proofs.lemmas.List.{take-append-drop}
use Rattle.std.proofs.lemmas.List.Elements.{All-append, All-nil, All-head, All-tail}
use Rattle.byteorder.specs.Endian.{big_bytes, big_from}
use Rattle.byteorder.specs.Numbers.{big_number-reads_back}
use Rattle.mt_crc.specs.Crc.{crc_bytes, AreBytes}
use Rattle.mt_block.specs.declared.header.Header.{Header}
use Rattle.mt_block.specs.Blocks.{IsHeader, header_bytes, mark_of, IsBody}
use Rattle.mt_record.specs.Opening.{IsSealed, HasNoSeal, joined}
use Rattle.mt_laws.proofs.Decided.{Decided, below, same_bytes, both, alike, three}
use Rattle.mt_laws.proofs.Items.{Begins, begins_or_none}

-- ---- the magic

pub sealed_or_not : (bytes : List ℕ) → Decided (IsSealed bytes)
sealed_or_not bytes = elim (same_bytes (take 4 bytes) (codes "MTL4")) as (λ _. Decided (IsSealed bytes)) [
  | inl same ↦ inl (record { more = drop 4 bytes; spelled = sym (take-append-drop 4 bytes) ∙ ap (λ (x : List ℕ). x ++ drop 4 bytes) same })
  | inr differs ↦ inr (λ is. differs (ap (take 4) is.spelled))
]

-- ---- the header

-- the header that bytes can begin with
abbrev read_header : List ℕ → Header
read_header bytes = record {
  salt = big_from 0 8 (drop 4 bytes);
  worker = big_from 0 4 (drop 16 bytes);
  segment = big_from 0 4 (drop 24 bytes);
  workers = big_from 0 4 (drop 28 bytes);
  from = big_from 0 8 (drop 32 bytes);
}

is_header : (header : Header) → Decided (IsHeader header)
is_header header =
    alike (λ is. record { salt = is.0; worker = is.1.0; segment = is.1.1.0; workers = is.1.1.1; from = is.1.1.2 })
    (λ (is : IsHeader header). (is.salt, (is.worker, (is.segment, is.workers, is.from))))
    (both (below header.salt (2 ^ 64)) (both (below header.worker (2 ^ 32)) (three (below header.segment (2 ^ 32)) (below header.workers (2 ^ 32)) (below header.from (2 ^ 64)))))

header_back : (header : Header) (more : List ℕ) → IsHeader header → read_header (header_bytes header ++ more) ≡ header
header_back header more is =
    let check = crc_bytes (mark_of header) ++ more in
    let from = big_bytes 8 header.from ++ check in
    let workers = big_bytes 4 header.workers ++ from in
    let segment = big_bytes 4 header.segment ++ workers in
    let worker = big_bytes 4 header.worker ++ (big_bytes 4 0 ++ segment) in λ i. record {
      salt = big_number-reads_back 8 header.salt (big_bytes 4 0 ++ worker) is.salt i;
      worker = big_number-reads_back 4 header.worker (big_bytes 4 0 ++ segment) is.worker i;
      segment = big_number-reads_back 4 header.segment workers is.segment i;
      workers = big_number-reads_back 4 header.workers from is.workers i;
      from = big_number-reads_back 8 header.from check is.from i;
    }

pub seal_or_none : (bytes : List ℕ) → Begins IsHeader header_bytes bytes ⊎ HasNoSeal bytes
seal_or_none bytes = begins_or_none IsHeader header_bytes bytes (read_header bytes) (λ header more is e. ap read_header e ∙ header_back header more is) (is_header (read_header bytes))

-- ---- bodies

pub joined_bytes : (bodies : List (List ℕ)) → All IsBody bodies → AreBytes (joined bodies)
joined_bytes [] are = All-nil (λ (b : ℕ). b < 2 ^ 8)
joined_bytes (body ∷ bodies) are = All-append (λ (b : ℕ). b < 2 ^ 8) body (joined bodies) (All-head IsBody body bodies are).0 (joined_bytes bodies (All-tail IsBody body bodies are))
