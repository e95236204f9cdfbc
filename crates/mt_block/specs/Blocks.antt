-- Files of format 4: a header, blocks with checksums, and an end. What stands in the blocks is not said here.
use Rattle.std.specs.Prelude.{◌≡◌, ◌≢◌, ℕ, ◌+◌, ◌≤◌, ◌<◌, ◌^◌, ◌⊎◌, List, [], ◌∷◌, ◌++◌, length, All, codes}
use Rattle.std.specs.List.{flat_map}
use Rattle.byteorder.specs.Endian.{big_bytes}
use Rattle.mt_crc.specs.Crc.{crc32c, crc32c_append, crc_bytes, codeword, AreBytes}
use Rattle.mt_block.specs.declared.block.TheConstants.{MOST_BODY}
use Rattle.mt_block.specs.declared.header.Header.{Header}

-- ---- the header

-- the numbers fit their fields
pub record IsHeader (header : Header) : Type 0 where
  pub salt : header.salt < 2 ^ 64
  pub worker : header.worker < 2 ^ 32
  pub segment : header.segment < 2 ^ 32
  pub workers : header.workers < 2 ^ 32
  pub from : header.from < 2 ^ 64

-- The fields. Where older formats have the first length stand zeros, so that no damage of the magic makes a log of an older format.
abbrev pub header_fields : Header → List ℕ
header_fields header =
    codes "MTL4" ++ (big_bytes 8 header.salt ++ (big_bytes 4 0 ++ (big_bytes 4 header.worker ++ (big_bytes 4 0
    ++ (big_bytes 4 header.segment ++ (big_bytes 4 header.workers ++ big_bytes 8 header.from))))))

-- the fields and their checksum
abbrev pub header_bytes : Header → List ℕ
header_bytes header = codeword 0 (header_fields header)

-- the mark of a file, with which each of its blocks begins: the checksum of the header
abbrev pub mark_of : Header → ℕ
mark_of header = crc32c (header_fields header)

-- ---- blocks

-- the mark, and how many bytes the body has
abbrev pub head_fields : ℕ → ℕ → List ℕ
head_fields mark number = crc_bytes mark ++ big_bytes 4 number

-- the head of a block: these and their checksum
abbrev pub head_bytes : ℕ → ℕ → List ℕ
head_bytes mark number = codeword 0 (head_fields mark number)

-- the checksum of a head, from which that of the body goes on
abbrev pub head_crc : ℕ → ℕ → ℕ
head_crc mark number = crc32c (head_fields mark number)

-- the body and the checksum of head and body
abbrev pub body_bytes : ℕ → List ℕ → List ℕ
body_bytes mark body = codeword (head_crc mark (length body)) body

abbrev pub block : ℕ → List ℕ → List ℕ
block mark body = head_bytes mark (length body) ++ body_bytes mark body

abbrev pub IsBody : List ℕ → Type 0
IsBody body = AreBytes body × (length body ≤ MOST_BODY)

-- a head stands at the front of the bytes
pub record HasHead (mark : ℕ) (bytes : List ℕ) : Type 0 where
  pub number : ℕ
  pub after : List ℕ
  pub fits : number ≤ MOST_BODY
  pub spelled : bytes ≡ head_bytes mark number ++ after

-- no head stands anywhere in the bytes
abbrev pub HasNoHead : ℕ → List ℕ → Type 0
HasNoHead mark bytes = (front back : List ℕ) → bytes ≡ front ++ back → ¬ (HasHead mark back)

-- no head stands at the first `n` places of the bytes
abbrev pub HasNoHeadIn : ℕ → List ℕ → ℕ → Type 0
HasNoHeadIn mark bytes n = (front back : List ℕ) → bytes ≡ front ++ back → length front < n → HasHead mark back → ⊥

-- a head stands somewhere in the bytes
abbrev pub HasSomeHead : ℕ → List ℕ → Type 0
HasSomeHead mark bytes = (front : List ℕ) × (back : List ℕ) × (bytes ≡ front ++ back) × HasHead mark back

-- ---- what stands at a place of a file

-- the block of this body, and then `after`
pub record IsNext (mark : ℕ) (bytes body after : List ℕ) : Type 0 where
  pub spelled : bytes ≡ block mark body ++ after
  pub is_body : IsBody body

-- a head, and fewer bytes than its body and the checksum have
pub record IsShort (mark : ℕ) (bytes : List ℕ) : Type 0 where
  pub head : HasHead mark bytes
  pub short : length head.after < head.number + 4

-- the beginning of a block: fewer bytes than a head has, or a head and too few bytes after it
abbrev pub IsCut : ℕ → List ℕ → Type 0
IsCut mark bytes = ((0 < length bytes) × (length bytes < 12)) ⊎ IsShort mark bytes

-- no head stands there; `behind` are the bytes after the first one
pub record LacksHead (mark : ℕ) (bytes behind : List ℕ) : Type 0 where
  pub byte : ℕ
  pub spelled : bytes ≡ byte ∷ behind
  pub long : 12 ≤ length bytes
  pub none : ¬ (HasHead mark bytes)

-- a head, its body, and a number that is not their checksum; `behind` are the bytes after these
pub record LacksBody (mark : ℕ) (bytes behind : List ℕ) : Type 0 where
  pub head : HasHead mark bytes
  pub body : List ℕ
  pub check : List ℕ
  pub spelled : head.after ≡ body ++ (check ++ behind)
  pub size : length body ≡ head.number
  pub four : length check ≡ 4
  pub wrong : check ≢ crc_bytes (crc32c_append (head_crc mark head.number) body)

-- neither a block nor the beginning of one stands there
abbrev pub IsBroken : ℕ → List ℕ → List ℕ → Type 0
IsBroken mark bytes behind = LacksHead mark bytes behind ⊎ LacksBody mark bytes behind

-- ---- files

-- the end of a log: a beginning of a block, or something broken with no head after it. So it is whatever a crash leaves there.
abbrev pub IsTornEnd : ℕ → List ℕ → Type 0
IsTornEnd mark bytes = IsCut mark bytes ⊎ ((behind : List ℕ) × IsBroken mark bytes behind × HasNoHead mark behind)

-- something broken with a head after it, so that the log goes on
abbrev pub IsDamage : ℕ → List ℕ → Type 0
IsDamage mark bytes = (behind : List ℕ) × IsBroken mark bytes behind × HasSomeHead mark behind

abbrev pub blocks : ℕ → List (List ℕ) → List ℕ
blocks mark bodies = flat_map (block mark) bodies

-- a header, the blocks of these bodies, and what follows
pub record Begins (bytes : List ℕ) (header : Header) (bodies : List (List ℕ)) (rest : List ℕ) : Type 0 where
  pub spelled : bytes ≡ header_bytes header ++ (blocks (mark_of header) bodies ++ rest)
  pub is_header : IsHeader header
  pub are_bodies : All IsBody bodies

-- a file with these bodies: the end is empty or torn
pub record IsFile (bytes : List ℕ) (header : Header) (bodies : List (List ℕ)) (end : List ℕ) : Type 0 where
  pub begins : Begins bytes header bodies end
  pub ends : (end ≡ []) ⊎ IsTornEnd (mark_of header) end

-- a damaged file: after these blocks stands no block, but the log goes on
pub record IsDamaged (bytes : List ℕ) (header : Header) (bodies : List (List ℕ)) : Type 0 where
  pub rest : List ℕ
  pub begins : Begins bytes header bodies rest
  pub damage : IsDamage (mark_of header) rest

-- the same but for the last ones, at most two
abbrev pub LosesFew : List (List ℕ) → List (List ℕ) → Type 0
LosesFew bodies others = (lost : List (List ℕ)) × (bodies ≡ others ++ lost) × (length lost ≤ 2)
