-- Bytes are at most one log, have at most one fault, and never both; no record's encoding begins another's.
use Rattle.std.proofs.Common.{◌≡◌, ◌↔◌, ◌⊎◌, inl, inr, ℕ, Bool, true, false, List, [], ◌++◌, length, refl, sym, ap, ◌∙◌, subst, append_assoc}
use Rattle.std.proofs.lemmas.Bool.{false≢true}
use Rattle.std.proofs.lemmas.List.{append-nil}
use Rattle.std.specs.Prelude.{IsTrue}
use Rattle.std.specs.List.{flat_map}
use Rattle.mt_words.specs.declared.fault.What.{What}
use Rattle.mt_words.specs.declared.limits.Format.{Format}
use Rattle.mt_words.specs.declared.fault.What.TheVariants.{Length, Trailer}
use Rattle.mt_words.specs.declared.limits.Limits.{Limits}
use Rattle.mt_words.specs.Limits.{limits_of}
use Rattle.mt_words.specs.Changes.{Logged, IsLawful}
use Rattle.mt_record.specs.declared.read.FeedFault.{FeedFault}
use Rattle.mt_record.specs.declared.read.FeedFault.TheVariants.{Header, Record, Memory}
use Rattle.mt_record.specs.Spelling.{body, framed, spelling, IsRecordLength}
use Rattle.mt_record.specs.declared.feed.head.Head.{Head}
use Rattle.mt_record.specs.Heads.{head_bytes, HasNoHeader}
use Rattle.mt_record.specs.Fronts.{GoTogether}
use Rattle.mt_record.specs.Opening.{text_of, IsDamagedAfter, Opens, OpensSoFar}
use Rattle.mt_record.specs.Logs.{latest, IsTorn, IsLog, LogReading, IsReading, count_of}
use Rattle.mt_record.specs.LogFaults.{RestFault, HasFault, IsRecordFault, IsTextFault, HasTextFault, IsDamagedLog, IsLogFault}
use Rattle.mt_block.specs.Blocks.{mark_of, blocks}
use Rattle.mt_block.proofs.Places.{next_not_broken}
use Rattle.mt_block.proofs.Files.{one_damage_of, not_both_of}
use Rattle.mt_record.proofs.Frames.{length_fault_on, frame_on}
use Rattle.mt_record.proofs.Feeds.{behind_on}
use Rattle.mt_record.proofs.Opened.{begins_sealed, one_text, begins_text, along, no_next}
use Rattle.mt_record.proofs.Unique.{same_body, same_framed}
use Rattle.mt_record.proofs.Lawful.{length_fits, lawful_fits, lawful_length}
use Rattle.mt_record.proofs.OneFault.{one_rest, end_stops, fault_stops, fault_no_end}
use Rattle.mt_record.proofs.OneLog.{same_log}

-- ---- one log

-- bytes are a log in only one way: with one header, one list of records and one tail
pub one_log : (bytes : List ℕ) (head other : Head) (records others : List Logged) (tail rest : List ℕ) → IsLog bytes head records tail
    → IsLog bytes other others rest → (head ≡ other) × (records ≡ others) × (tail ≡ rest)
one_log bytes head other records others tail rest a b =
    same_log head other records others tail rest a.is_head b.is_head a.lawful b.lawful (sym a.spelled ∙ b.spelled)
    (end_stops head.format (latest 0 records) tail a.ends) (end_stops other.format (latest 0 others) rest b.ends)

-- two truth values of the same statement are equal
same_bool : (p q : Bool) (P : Type 0) → IsTrue p ↔ P → IsTrue q ↔ P → p ≡ q
same_bool false false P a b = refl
same_bool true true P a b = refl
same_bool false true P a b = absurd (false≢true (a.1 (b.0 refl)))
same_bool true false P a b = absurd (false≢true (b.1 (a.0 refl)))

-- a file has only one reading as a log
pub one_reading_of : (bytes : List ℕ) (a b : LogReading) → IsReading bytes a → IsReading bytes b → a ≡ b
one_reading_of bytes a b h k =
    let opened = one_text bytes h.text k.text h.ended k.ended h.opens k.opens in
    let same = one_log k.text a.head b.head a.records b.records h.tail k.tail (subst (λ (text : List ℕ). IsLog text a.head a.records h.tail) opened.0 h.is_log) k.is_log in
    let tells = subst (λ (p : Bool × Head × List ℕ). IsTrue a.torn ↔ (IsTrue p.0 ⊎ IsTorn (limits_of p.1.format) p.2)) (λ i. (opened.1 i, same.0 i, same.2 i)) h.torn in
    let torn = same_bool a.torn b.torn (IsTrue k.ended ⊎ IsTorn (limits_of b.head.format) k.tail) tells k.torn in
    λ i. record { head = same.0 i; records = same.1 i; torn = torn i }

-- ---- one fault

-- bytes have only one list of records before a fault, and only one fault after it
one_record_fault : (bytes : List ℕ) (rs ss : List Logged) (a b : What) → HasFault bytes rs a → HasFault bytes ss b → (rs ≡ ss) × (a ≡ b)
one_record_fault bytes rs ss a b h k =
    let same = same_log h.head k.head rs ss h.rest k.rest h.is_head k.is_head h.lawful k.lawful (sym h.spelled ∙ k.spelled)
    (fault_stops h.head.format (latest 0 rs) h.rest a h.fault) (fault_stops k.head.format (latest 0 ss) k.rest b k.fault) in
    let there = subst (λ (p : Head × List Logged × List ℕ). RestFault a (limits_of p.0.format) (latest 0 p.1) p.2) (λ i. (same.0 i, same.1 i, same.2 i)) h.fault in
    (same.1, one_rest k.head.format (latest 0 ss) k.rest a b there k.fault)

-- if bytes have a fault after records, they begin with a header
no_header_record : (bytes : List ℕ) (rs : List Logged) (a : What) → HasFault bytes rs a → HasNoHeader bytes → ⊥
no_header_record bytes rs a h none = none h.head (flat_map spelling rs ++ h.rest) h.is_head h.spelled

-- a text has at most one fault
pub one_text_fault : (bytes : List ℕ) (fault other : FeedFault) → IsTextFault bytes fault → IsTextFault bytes other → fault ≡ other
one_text_fault bytes Memory other h k = absurd h
one_text_fault bytes Header Memory h k = absurd k
one_text_fault bytes (Record n a) Memory h k = absurd k
one_text_fault bytes Header Header h k = refl
one_text_fault bytes Header (Record n a) h k = absurd (no_header_record bytes k.records a k.fault h)
one_text_fault bytes (Record n a) Header h k = absurd (no_header_record bytes h.records a h.fault k)
one_text_fault bytes (Record n a) (Record m b) h k =
    let same = one_record_fault bytes h.records k.records a b h.fault k.fault in
    let number : n ≡ m = h.number ∙ ap count_of same.0 ∙ sym k.number in
    λ i. Record (number i) (same.1 i)

-- ---- not both

-- bytes with a fault after records are not a log
no_record_fault : (bytes : List ℕ) (head : Head) (rs ss : List Logged) (tail : List ℕ) (a : What) → IsLog bytes head rs tail → HasFault bytes ss a → ⊥
no_record_fault bytes head rs ss tail a log k =
    let same = same_log head k.head rs ss tail k.rest log.is_head k.is_head log.lawful k.lawful (sym log.spelled ∙ k.spelled)
    (end_stops head.format (latest 0 rs) tail log.ends) (fault_stops k.head.format (latest 0 ss) k.rest a k.fault) in
    let there = subst (λ (p : Head × List Logged × List ℕ). RestFault a (limits_of p.0.format) (latest 0 p.1) p.2)
    (λ i. (sym same.0 i, sym same.1 i, sym same.2 i)) k.fault in
    fault_no_end head.format (latest 0 rs) tail a there log.ends

-- a text that is a log has no fault
pub text_not_both : (bytes : List ℕ) (head : Head) (records : List Logged) (tail : List ℕ) (fault : FeedFault) → IsLog bytes head records tail
    → IsTextFault bytes fault → ⊥
text_not_both bytes head records tail Memory log k = k
text_not_both bytes head records tail Header log k = k head (flat_map spelling records ++ tail) log.is_head log.spelled
text_not_both bytes head records tail (Record n a) log k = no_record_fault bytes head records k.records tail a log k.fault

-- ---- one record

-- no record's encoding begins another's
pub prefix_free : (format : Format) (r s : Logged) (more : List ℕ) → IsLawful (limits_of format) r → IsLawful (limits_of format) s
    → spelling s ≡ spelling r ++ more → (r ≡ s) × (more ≡ [])
prefix_free format r s more is_r is_s e =
    let short_r = length_fits format (length (body r)) (lawful_length (limits_of format) r is_r) in
    let short_s = length_fits format (length (body s)) (lawful_length (limits_of format) s is_s) in
    let same = same_framed (body r) (body s) more [] short_r short_s (sym e ∙ sym (append-nil (spelling s))) in
    (same_body r s (lawful_fits format r is_r) (lawful_fits format s is_s) same.0, same.1)

-- ---- when more bytes follow

-- a fault of the rest stays its fault when more bytes follow
pub rest_fault_on : (what : What) (limits : Limits) (low : ℕ) (rest more : List ℕ) → RestFault what limits low rest → RestFault what limits low (rest ++ more)
rest_fault_on Length limits low rest more h = length_fault_on (IsRecordLength limits) rest more h
rest_fault_on Trailer limits low rest more h = (frame_on (IsRecordLength limits) rest more h.0, h.1)
rest_fault_on what limits low rest more h = record {
  body = h.body;
  more = h.more ++ more;
  is_length = h.is_length;
  spelled = behind_on (framed h.body) rest h.more more h.spelled;
  fault = h.fault;
}

-- a fault of a text stays its fault when more bytes follow
record_fault_on : (text more : List ℕ) (n : ℕ) (what : What) → IsRecordFault text n what → IsRecordFault (text ++ more) n what
record_fault_on text more n what h = record {
  records = h.records;
  fault = record {
    head = h.fault.head;
    rest = h.fault.rest ++ more;
    spelled = ap (λ (l : List ℕ). l ++ more) h.fault.spelled ∙ append_assoc (head_bytes h.fault.head) (flat_map spelling h.records ++ h.fault.rest) more
        ∙ ap (λ (l : List ℕ). head_bytes h.fault.head ++ l) (append_assoc (flat_map spelling h.records) h.fault.rest more);
    is_head = h.fault.is_head;
    lawful = h.fault.lawful;
    fault = rest_fault_on what (limits_of h.fault.head.format) (latest 0 h.records) h.fault.rest more h.fault.fault;
  };
  number = h.number;
}

-- a text that begins with another has its fault
with_more : (part text : List ℕ) (n : ℕ) (what : What) → (more : List ℕ) × (text ≡ part ++ more) → IsRecordFault part n what → IsRecordFault text n what
with_more part text n what (more, e) h = subst (λ (l : List ℕ). IsRecordFault l n what) (sym e) (record_fault_on part more n what h)

-- ---- files

-- of two texts of a file so far, one begins the other
both_so_far : (bytes a b : List ℕ) → OpensSoFar bytes a → OpensSoFar bytes b → GoTogether a b
both_so_far bytes a b (inl x) (inl y) = inl ([], x.1 ∙ sym y.1 ∙ sym (append-nil b))
both_so_far bytes a b (inl x) (inr y) = absurd (x.0 (begins_sealed bytes y.header y.bodies y.rest y.begins))
both_so_far bytes a b (inr x) (inl y) = absurd (y.0 (begins_sealed bytes x.header x.bodies x.rest x.begins))
both_so_far bytes a b (inr x) (inr y) = along bytes a b x y

-- two faults of texts of a file so far are one
one_of_texts : (bytes : List ℕ) (n m : ℕ) (a b : What) (h : HasTextFault bytes n a) (k : HasTextFault bytes m b) → GoTogether h.text k.text → Record n a ≡ Record m b
one_of_texts bytes n m a b h k (inl longer) = one_text_fault h.text (Record n a) (Record m b) h.fault (with_more k.text h.text m b longer k.fault)
one_of_texts bytes n m a b h k (inr longer) = one_text_fault k.text (Record n a) (Record m b) (with_more h.text k.text n a longer h.fault) k.fault

-- a text so far of a damaged file whose text is a log has no fault
not_damaged : (bytes : List ℕ) (n m : ℕ) (what : What) → HasTextFault bytes n what → IsDamagedLog bytes m → ⊥
not_damaged bytes n m what h k = by h.opens
  where
    by : OpensSoFar bytes h.text → ⊥
    by (inl own) = let d = k.is_damaged in own.0 (begins_sealed bytes d.header d.bodies d.is_damaged.rest d.is_damaged.begins)
    by (inr so_far) =
        let d = k.is_damaged in
        let more = begins_text bytes d.header d.bodies d.is_damaged.rest h.text d.is_damaged.begins (λ body after next. next_not_broken (mark_of d.header) d.is_damaged.rest body after d.is_damaged.damage.0 next d.is_damaged.damage.1) so_far in
        text_not_both k.text k.head k.records k.tail (Record n what) k.is_log (with_more h.text k.text n what (more.0, d.is_text ∙ more.1) h.fault)

-- a damaged file has one number
one_damaged : (bytes : List ℕ) (n m : ℕ) → IsDamagedLog bytes n → IsDamagedLog bytes m → n ≡ m
one_damaged bytes n m h k =
    let one = one_damage_of bytes h.is_damaged.header k.is_damaged.header h.is_damaged.bodies k.is_damaged.bodies h.is_damaged.is_damaged k.is_damaged.is_damaged in
    let same : h.text ≡ k.text = h.is_damaged.is_text ∙ (λ i. text_of (one.0 i) (one.1 i)) ∙ sym k.is_damaged.is_text in
    let log = one_log k.text h.head k.head h.records k.records h.tail k.tail (subst (λ (text : List ℕ). IsLog text h.head h.records h.tail) same h.is_log) k.is_log in
    h.number ∙ ap count_of log.1 ∙ sym k.number

-- a file with a fault after records begins with a header
fault_has_header : (bytes : List ℕ) (n : ℕ) (what : What) → IsLogFault bytes (Record n what) → IsLogFault bytes Header → ⊥
fault_has_header bytes n what (inl h) (none, no_seal) = by h.opens
  where
    by : OpensSoFar bytes h.text → ⊥
    by (inl own) = no_header_record bytes h.fault.records what (subst (λ (text : List ℕ). HasFault text h.fault.records what) own.1 h.fault.fault) none
    by (inr so_far) = no_seal so_far.header (blocks (mark_of so_far.header) so_far.bodies ++ so_far.rest) so_far.begins.is_header so_far.begins.spelled
fault_has_header bytes n what (inr (same, h)) (none, no_seal) =
    let d = h.is_damaged in
    no_seal d.header (blocks (mark_of d.header) d.bodies ++ d.is_damaged.rest) d.is_damaged.begins.is_header d.is_damaged.begins.spelled

one_after : (bytes : List ℕ) (n m : ℕ) (a b : What) → IsLogFault bytes (Record n a) → IsLogFault bytes (Record m b) → Record n a ≡ Record m b
one_after bytes n m a b (inl h) (inl k) = one_of_texts bytes n m a b h k (both_so_far bytes h.text k.text h.opens k.opens)
one_after bytes n m a b (inl h) (inr k) = absurd (not_damaged bytes n m a h k.1)
one_after bytes n m a b (inr h) (inl k) = absurd (not_damaged bytes m n b k h.1)
one_after bytes n m a b (inr h) (inr k) = let number = one_damaged bytes n m h.1 k.1 in λ i. Record (number i) ((h.0 ∙ sym k.0) i)

-- a file has at most one fault
pub one_fault : (bytes : List ℕ) (fault other : FeedFault) → IsLogFault bytes fault → IsLogFault bytes other → fault ≡ other
one_fault bytes Memory other h k = absurd h
one_fault bytes Header Memory h k = absurd k
one_fault bytes (Record n a) Memory h k = absurd k
one_fault bytes Header Header h k = refl
one_fault bytes Header (Record n a) h k = absurd (fault_has_header bytes n a k h)
one_fault bytes (Record n a) Header h k = absurd (fault_has_header bytes n a h k)
one_fault bytes (Record n a) (Record m b) h k = one_after bytes n m a b h k

no_header_not_log : (bytes text : List ℕ) (log : LogReading) (ended : Bool) (tail : List ℕ) → IsLog text log.head log.records tail → Opens bytes text ended → IsLogFault bytes Header → ⊥
no_header_not_log bytes text log ended tail is (inl own) k = k.0 log.head (flat_map spelling log.records ++ tail) is.is_head (sym own.0.1 ∙ is.spelled)
no_header_not_log bytes text log ended tail is (inr file) k = k.1 file.header (blocks (mark_of file.header) file.bodies ++ file.end) file.is_file.begins.is_header file.is_file.begins.spelled

pub damage_not_log : (bytes text part : List ℕ) (ended : Bool) → Opens bytes text ended → IsDamagedAfter bytes part → ⊥
damage_not_log bytes text part ended (inl own) d = own.0.0 (begins_sealed bytes d.header d.bodies d.is_damaged.rest d.is_damaged.begins)
damage_not_log bytes text part ended (inr file) d = not_both_of bytes file.header d.header file.bodies d.bodies file.end file.is_file d.is_damaged

-- any text of a file so far begins its text
part_begins : (bytes text part : List ℕ) (ended : Bool) → Opens bytes text ended → OpensSoFar bytes part → (more : List ℕ) × (text ≡ part ++ more)
part_begins bytes text part ended (inl own) (inl so_far) = ([], own.0.1 ∙ sym so_far.1 ∙ sym (append-nil part))
part_begins bytes text part ended (inl own) (inr so_far) = absurd (own.0.0 (begins_sealed bytes so_far.header so_far.bodies so_far.rest so_far.begins))
part_begins bytes text part ended (inr file) (inl so_far) = absurd (so_far.0 (begins_sealed bytes file.header file.bodies file.end file.is_file.begins))
part_begins bytes text part ended (inr file) (inr so_far) =
    let more = begins_text bytes file.header file.bodies file.end part file.is_file.begins (no_next (mark_of file.header) file.end file.is_file.ends) so_far in
    (more.0, file.is_text ∙ more.1)

-- a file that is a log has no fault
pub not_both : (bytes : List ℕ) (log : LogReading) (fault : FeedFault) → IsReading bytes log → IsLogFault bytes fault → ⊥
not_both bytes log Memory is k = k
not_both bytes log Header is k = no_header_not_log bytes is.text log is.ended is.tail is.is_log is.opens k
not_both bytes log (Record n what) is (inl h) =
    text_not_both is.text log.head log.records is.tail (Record n what) is.is_log (with_more h.text is.text n what (part_begins bytes is.text h.text is.ended is.opens h.opens) h.fault)
not_both bytes log (Record n what) is (inr (same, h)) = damage_not_log bytes is.text h.text is.ended is.opens h.is_damaged
