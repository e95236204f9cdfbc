-- Bytes split in only one way into a header, records and the rest.
use Rattle.std.proofs.Common.{◌≡◌, ℕ, List, [], ◌∷◌, ◌++◌, length, drop, refl, sym, ap, ◌∙◌, subst, append_assoc}
use Rattle.std.specs.Prelude.{slice_index, Option, Some, None}
use Rattle.std.specs.List.{flat_map}
use Rattle.byteorder.specs.Endian.{big_bytes}
use Rattle.mt_words.specs.declared.limits.Format.{Format}
use Rattle.mt_words.specs.Limits.{limits_of}
use Rattle.mt_words.proofs.Formats.{same_format}
use Rattle.mt_words.specs.Changes.{Logged}
use Rattle.mt_words.proofs.ColumnBytes.{same_number}
use Rattle.mt_record.specs.Spelling.{body, spelling}
use Rattle.mt_record.specs.declared.feed.head.Head.{Head}
use Rattle.mt_record.specs.declared.feed.head.Segment.{Segment}
use Rattle.mt_record.specs.Heads.{IsHead, log_magic, segment_bytes, head_bytes}
use Rattle.mt_record.specs.Logs.{AreRecords, latest}
use Rattle.mt_record.proofs.Beginnings.{no_digit}
use Rattle.mt_record.proofs.Unique.{same_body, same_framed}
use Rattle.mt_record.proofs.Lawful.{length_fits, lawful_fits, lawful_length}
use Rattle.mt_record.specs.Fronts.{Stops}

abbrev head_from : Format → ℕ → Option Segment → Head
head_from format from segment = record { format = format; from = from; segment = segment }

-- bytes begin with only one header
pub same_head : (a b : Head) (x y : List ℕ) → IsHead a → IsHead b → head_bytes a ++ x ≡ head_bytes b ++ y → (a ≡ b) × (x ≡ y)
same_head a b x y = by a.format b.format a.segment b.segment
  where
    -- the bytes after the magic
    behind : (v w : Option Segment) → (big_bytes 8 a.from ++ segment_bytes v) ++ x ≡ (big_bytes 8 b.from ++ segment_bytes w) ++ y → big_bytes 8 a.from ++ (segment_bytes v ++ x) ≡ big_bytes 8 b.from ++ (segment_bytes w ++ y)
    behind v w e = sym (append_assoc (big_bytes 8 a.from) (segment_bytes v) x) ∙ e ∙ append_assoc (big_bytes 8 b.from) (segment_bytes w) y

    by : (f g : Format) (v w : Option Segment) → IsHead (record { format = f; from = a.from; segment = v }) → IsHead (record { format = g; from = b.from; segment = w })
        → (log_magic f v ++ (big_bytes 8 a.from ++ segment_bytes v)) ++ x ≡ (log_magic g w ++ (big_bytes 8 b.from ++ segment_bytes w)) ++ y
        → (head_from f a.from v ≡ head_from g b.from w) × (x ≡ y)
    by f g None None is_a is_b e =
        let format = same_format f g (ap (λ (bytes : List ℕ). slice_index bytes 3) e) in
        let from = same_number 8 a.from b.from x y is_a.from is_b.from (behind None None (ap (drop 4) e)) in
        (λ i. head_from (format i) (from.0 i) None, from.1)
    by f g None (Some w) is_a is_b e = absurd (no_digit f (ap (λ (bytes : List ℕ). slice_index bytes 3) e))
    by f g (Some v) None is_a is_b e = absurd (no_digit g (sym (ap (λ (bytes : List ℕ). slice_index bytes 3) e)))
    by f g (Some v) (Some w) is_a is_b e =
        let format = is_a.segment.0 ∙ sym is_b.segment.0 in
        let from = same_number 8 a.from b.from (segment_bytes (Some v) ++ x) (segment_bytes (Some w) ++ y) is_a.from is_b.from (behind (Some v) (Some w) (ap (drop 4) e)) in
        let numbers = sym (append_assoc (big_bytes 4 v.worker) (big_bytes 4 v.number) x) ∙ from.1 ∙ append_assoc (big_bytes 4 w.worker) (big_bytes 4 w.number) y in
        let worker = same_number 4 v.worker w.worker (big_bytes 4 v.number ++ x) (big_bytes 4 w.number ++ y) is_a.segment.1 is_b.segment.1 numbers in
        let number = same_number 4 v.number w.number x y is_a.segment.2 is_b.segment.2 worker.1 in
        (λ i. head_from (format i) (from.0 i) (Some (record { worker = worker.0 i; number = number.0 i })), number.1)

-- bytes begin with only one list of records, if no further record follows
same_records : (format : Format) (low : ℕ) (rs ss : List Logged) (x y : List ℕ) → AreRecords (limits_of format) low rs → AreRecords (limits_of format) low ss
    → flat_map spelling rs ++ x ≡ flat_map spelling ss ++ y → Stops (limits_of format) (latest low rs) x → Stops (limits_of format) (latest low ss) y
    → (rs ≡ ss) × (x ≡ y)
same_records format low [] [] x y are_r are_s e stop_x stop_y = (refl, e)
same_records format low [] (s ∷ ss) x y are_r are_s e stop_x stop_y =
    absurd (stop_x s (flat_map spelling ss ++ y) are_s.0 are_s.1 (e ∙ append_assoc (spelling s) (flat_map spelling ss) y))
same_records format low (r ∷ rs) [] x y are_r are_s e stop_x stop_y =
    absurd (stop_y r (flat_map spelling rs ++ x) are_r.0 are_r.1 (sym e ∙ append_assoc (spelling r) (flat_map spelling rs) x))
same_records format low (r ∷ rs) (s ∷ ss) x y are_r are_s e stop_x stop_y =
    let apart = sym (append_assoc (spelling r) (flat_map spelling rs) x) ∙ e ∙ append_assoc (spelling s) (flat_map spelling ss) y in
    let short_r = length_fits format (length (body r)) (lawful_length (limits_of format) r are_r.0) in
    let short_s = length_fits format (length (body s)) (lawful_length (limits_of format) s are_s.0) in
    let same = same_framed (body r) (body s) (flat_map spelling rs ++ x) (flat_map spelling ss ++ y) short_r short_s apart in
    let first = same_body r s (lawful_fits format r are_r.0) (lawful_fits format s are_s.0) same.0 in
    let time : s.timestamp ≡ r.timestamp = ap (λ (l : Logged). l.timestamp) (sym first) in
    let are = subst (λ (t : ℕ). AreRecords (limits_of format) t ss) time are_s.2 in
    let stop = subst (λ (t : ℕ). Stops (limits_of format) (latest t ss) y) time stop_y in
    let rest = same_records format r.timestamp rs ss x y are_r.2 are same.1 stop_x stop in
    (λ i. first i ∷ rest.0 i, rest.1)

-- bytes begin with only one header and one list of records, if no further record follows
pub same_log : (a b : Head) (rs ss : List Logged) (x y : List ℕ) → IsHead a → IsHead b → AreRecords (limits_of a.format) 0 rs → AreRecords (limits_of b.format) 0 ss
    → head_bytes a ++ (flat_map spelling rs ++ x) ≡ head_bytes b ++ (flat_map spelling ss ++ y) → Stops (limits_of a.format) (latest 0 rs) x
    → Stops (limits_of b.format) (latest 0 ss) y → (a ≡ b) × (rs ≡ ss) × (x ≡ y)
same_log a b rs ss x y is_a is_b are_r are_s e stop_x stop_y =
    let front = same_head a b (flat_map spelling rs ++ x) (flat_map spelling ss ++ y) is_a is_b e in
    let are = subst (λ (head : Head). AreRecords (limits_of head.format) 0 rs) front.0 are_r in
    let stop = subst (λ (head : Head). Stops (limits_of head.format) (latest 0 rs) x) front.0 stop_x in
    let rest = same_records b.format 0 rs ss x y are are_s front.1 stop stop_y in
    (front.0, rest.0, rest.1)
