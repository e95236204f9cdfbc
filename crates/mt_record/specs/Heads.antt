-- Headers of logs.
use Rattle.std.specs.Prelude.{◌≡◌, ℕ, ◌<◌, ◌^◌, Option, Some, None, IfSome, List, [], ◌++◌, codes, ◌≢◌}
use Rattle.byteorder.specs.Endian.{big_bytes}
use Rattle.mt_words.specs.declared.limits.Format.{Format}
use Rattle.mt_words.specs.declared.limits.Format.TheVariants.{Two}
use Rattle.mt_words.specs.Limits.{magic}
use Rattle.mt_record.specs.declared.feed.head.Segment.{Segment}
use Rattle.mt_record.specs.declared.feed.head.Head.{Head}

-- the bytes do not begin with the encoding of any value that satisfies `Is`
abbrev pub NoneBegins : {H : Type 0} → (H → Type 0) → (H → List ℕ) → List ℕ → Type 0
NoneBegins {H} Is spelled bytes = (head : H) (more : List ℕ) → Is head → bytes ≢ spelled head ++ more

-- the magic of a log: that of its format, or the magic of segments
abbrev pub log_magic : Format → Option Segment → List ℕ
log_magic format None = magic (codes "MTL") format
log_magic format (Some segment) = codes "MTL3"

-- the worker and the number of the segment, if the log is one
abbrev pub segment_bytes : Option Segment → List ℕ
segment_bytes None = []
segment_bytes (Some segment) = big_bytes 4 segment.worker ++ big_bytes 4 segment.number

abbrev pub head_bytes : Head → List ℕ
head_bytes head = log_magic head.format head.segment ++ (big_bytes 8 head.from ++ segment_bytes head.segment)

-- the numbers fit their fields, and segments have the records of format 2
pub record IsHead (head : Head) : Type 0 where
  pub from : head.from < 2 ^ 64
  pub segment : IfSome head.segment (λ segment. (head.format ≡ Two) × (segment.worker < 2 ^ 32) × (segment.number < 2 ^ 32))

-- the bytes do not begin with a header
abbrev pub HasNoHeader : List ℕ → Type 0
HasNoHeader bytes = NoneBegins IsHead head_bytes bytes
