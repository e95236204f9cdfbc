-- Bytes are a log or have a fault.
use Rattle.std.proofs.Common.{◌≡◌, ◌⊎◌, inl, inr, ℕ, zero, suc, eqb, ◌+◌, ◌^◌, ◌<◌, ◌≤◌, List, [], ◌∷◌, ◌++◌, length, take, drop, Option, Some, None, Bool, true, false, refl, sym, ap, subst, ◌∙◌, arith}
use Rattle.std.proofs.lemmas.Bool.{cases_lt, cases_eq}
use Rattle.std.proofs.lemmas.List.{length-drop, length-take-le, take-append-drop, nil_from_length}
use Rattle.std.specs.Prelude.{◌==◌, ◌||◌, not, IfSome, slice_index}
use Rattle.std.proofs.lemmas.List.Elements.{All-from_recursion, recursion_from_All}
use Rattle.std.specs.List.{All, flat_map}
use Rattle.byteorder.specs.Endian.{big_bytes, big_from}
use Rattle.byteorder.specs.Numbers.{big_number-reads_back}
use Rattle.mt_words.specs.declared.record.Change.{Change}
use Rattle.mt_words.specs.declared.fault.What.{What}
use Rattle.mt_words.specs.declared.fault.What.TheVariants.{Length, Trailer, Kind, Frame, Version, Key, Columns, Clock, Checksum}
use Rattle.mt_words.specs.declared.limits.Format.{Format}
use Rattle.mt_words.specs.declared.limits.Format.TheVariants.{One, Two}
use Rattle.mt_words.specs.declared.limits.Limits.{Limits}
use Rattle.mt_words.specs.Limits.{limits_of}
use Rattle.mt_words.specs.Slices as words
use Rattle.mt_words.specs.Words.{IsKey}
use Rattle.mt_words.specs.Changes.{Logged, IsLawful, AllowsKind}
use Rattle.mt_record.specs.declared.feed.head.Segment.{Segment}
use Rattle.mt_record.specs.declared.read.FeedFault.{FeedFault}
use Rattle.mt_record.specs.declared.read.FeedFault.TheVariants as faults
use Rattle.mt_record.specs.declared.feed.head.Head.{Head}
use Rattle.mt_record.specs.Heads.{IsHead, head_bytes, HasNoHeader}
use Rattle.mt_record.specs.Encoding.{head_of, segment_head}
use Rattle.mt_record.specs.Spelling.{body, body_of, framed, spelling, FitsLogged, IsRecordLength, longest_record}
use Rattle.mt_record.specs.Logs.{AreRecords, latest, IsTorn, IsLog, LogReading, IsReading, count_of}
use Rattle.mt_record.specs.Opening.{IsSealed, text_head, joined as joined_bodies, text_of, is_torn, Opens, OpensSoFar}
use Rattle.mt_block.specs.declared.header.Header.{Header}
use Rattle.mt_block.specs.Blocks.{IsHeader, header_bytes, IsBody, Begins as BeginsBlocks, IsFile, IsDamaged}
use Rattle.mt_block.proofs.Deciding.{some_of}
use Rattle.mt_record.specs.Fronts.{IsNext}
use Rattle.mt_record.specs.LogFaults.{IsKindByte, HasVersionFault, HasKeyFault, HasColumnsFault, IsBodyOfChange, BodyFault, HasBodyFault, RestFault, IsRecordFault, IsLogFault}
use Rattle.mt_record.proofs.Frames.{trailer_fault}
use Rattle.mt_record.proofs.Numbers.{AreBytes, bytes_back, four, number_front}
use Rattle.mt_record.proofs.Records.{records_push, tells_torn}
use Rattle.mt_record.proofs.Unique.{framed_apart}
use Rattle.mt_laws.proofs.CutLogs.{torn_of}
use Rattle.mt_laws.proofs.Decided.{Decided, at_most, below, both, alike, three, if_some}
use Rattle.mt_laws.proofs.Items.{Begins, begins_or_none, joined, fewer_left}
use Rattle.mt_laws.proofs.Fitting.{Spells, body_or_none, kind_allowed}
use Rattle.mt_record.proofs.FileFeeds.{text_is_head}
use Rattle.mt_record.proofs.Opened.{head_not_sealed, header_sealed}
use Rattle.mt_laws.proofs.SomeSeal.{sealed_or_not, seal_or_none, joined_bytes}

-- ---- the header

-- the header that bytes can begin with
abbrev read_head : List ℕ → Head
read_head bytes = by (eqb (slice_index bytes 3) 51) (eqb (slice_index bytes 3) 49)
  where
    by : Bool → Bool → Head
    by true one = segment_head (big_from 0 8 (drop 4 bytes)) (big_from 0 4 (drop 12 bytes)) (big_from 0 4 (drop 16 bytes))
    by false true = head_of One (big_from 0 8 (drop 4 bytes))
    by false false = head_of Two (big_from 0 8 (drop 4 bytes))

not_two : One ≡ Two → ⊥
not_two e = absurd cc

is_two : (format : Format) → Decided (format ≡ Two)
is_two One = inr not_two
is_two Two = inl refl

is_header : (head : Head) → Decided (IsHead head)
is_header head =
    alike (λ is. record { from = is.0; segment = is.1 }) (λ (is : IsHead head). (is.from, is.segment))
    (both (below head.from (2 ^ 64)) (if_some (λ segment. (head.format ≡ Two) × (segment.worker < 2 ^ 32) × (segment.number < 2 ^ 32)) (λ segment. three (is_two head.format) (below segment.worker (2 ^ 32)) (below segment.number (2 ^ 32))) head.segment))

head_back : (head : Head) (more : List ℕ) → IsHead head → read_head (head_bytes head ++ more) ≡ head
head_back head more is = by head.format head.segment is.segment
  where
    with : Format → Option Segment → Head
    with format segment = record { format = format; from = head.from; segment = segment }

    by : (format : Format) (segment : Option Segment) → IfSome segment (λ s. (format ≡ Two) × (s.worker < 2 ^ 32) × (s.number < 2 ^ 32)) → read_head (head_bytes (with format segment) ++ more) ≡ with format segment
    by One None fits = λ i. head_of One (big_number-reads_back 8 head.from more is.from i)
    by Two None fits = λ i. head_of Two (big_number-reads_back 8 head.from more is.from i)
    by One (Some segment) fits = absurd (not_two fits.0)
    by Two (Some segment) fits =
        let number = big_bytes 4 segment.number ++ more in
        let worker = big_bytes 4 segment.worker ++ number in
        λ i. segment_head (big_number-reads_back 8 head.from worker is.from i) (big_number-reads_back 4 segment.worker number fits.1 i) (big_number-reads_back 4 segment.number more fits.2 i)

header_or_none : (bytes : List ℕ) → Begins IsHead head_bytes bytes ⊎ HasNoHeader bytes
header_or_none bytes = begins_or_none IsHead head_bytes bytes (read_head bytes) (λ head more is e. ap read_head e ∙ head_back head more is) (is_header (read_head bytes))

-- ---- a body

-- a body of this format after a record with timestamp `low`: of a lawful record that does not fall, or one with a fault
abbrev BodyOrFault : Limits → ℕ → List ℕ → Type 0
BodyOrFault limits low bytes = ((r : Logged) × IsLawful limits r × (low ≤ r.timestamp) × (bytes ≡ body r)) ⊎ ((what : What) × BodyFault what limits low bytes)

-- the fields of a record, lawful or not
fields_or_fault : (limits : Limits) (low : ℕ) (bytes : List ℕ) (t : ℕ) (change : Option Change) → IsKindByte limits (slice_index bytes 0) → t < 2 ^ 64 → IfSome change FitsLogged
    → bytes ≡ body_of t change → IsLawful limits (record { timestamp = t; change = change }) ⊎ ((what : What) × BodyFault what limits low bytes)
fields_or_fault limits low bytes t None byte fits_t fits e = inl (fits_t, tt)
fields_or_fault limits low bytes t (Some change) byte fits_t fits e = by_version (cases_eq change.version 0)
  where
    Found : Type 0
    Found = IsLawful limits (record { timestamp = t; change = Some change }) ⊎ ((what : What) × BodyFault what limits low bytes)

    body_with : (P : Change → Type 0) → P change → IsBodyOfChange bytes P
    body_with P holds = record { timestamp = t; change = change; fits = (fits_t, fits); spelled = e; holds = holds }

    by_kind : 0 < change.version → IsKey limits change.key → Decided (AllowsKind limits change.kind) → Found
    by_kind some key (inl kind) = inl (fits_t, (record { version = some; version_fits = fits.0.version; key = key; kind = kind }, fits.1))
    by_kind some key (inr refused) = inr (Columns, (byte, body_with (HasColumnsFault limits) (record { version = some; key = key; refused = refused })))

    by_key : 0 < change.version → Decided (IsKey limits change.key) → Found
    by_key some (inl key) = by_kind some key (kind_allowed limits change.kind)
    by_key some (inr refused) = inr (Key, (byte, body_with (HasKeyFault limits) (some, refused)))

    by_version : Decided (change.version ≡ 0) → Found
    by_version (inl none) = inr (Version, (byte, body_with HasVersionFault none))
    by_version (inr some) = by_key (omega (arith, some)) (at_most (length change.key) limits.key)

body_or_fault : (limits : Limits) (low : ℕ) (bytes : List ℕ) → BodyOrFault limits low bytes
body_or_fault limits low bytes = by_byte (both (at_most 1 (slice_index bytes 0)) (at_most (slice_index bytes 0) limits.kind))
  where
    by_time : (r : Logged) → IsKindByte limits (slice_index bytes 0) → bytes ≡ body r → IsLawful limits r → (r.timestamp < low) ⊎ (low ≤ r.timestamp) → BodyOrFault limits low bytes
    by_time r byte e lawful (inl earlier) = inr (Clock, (byte, record { logged = r; lawful = lawful; spelled = e; earlier = earlier }))
    by_time r byte e lawful (inr rises) = inl (r, lawful, rises, e)

    by_fields : (r : Logged) → IsKindByte limits (slice_index bytes 0) → bytes ≡ body r → IsLawful limits r ⊎ ((what : What) × BodyFault what limits low bytes) → BodyOrFault limits low bytes
    by_fields r byte e (inl lawful) = by_time r byte e lawful (cases_lt r.timestamp low)
    by_fields r byte e (inr fault) = inr fault

    by_form : IsKindByte limits (slice_index bytes 0) → ((r : Logged) × Spells bytes r) ⊎ ((r : Logged) → Spells bytes r → ⊥) → BodyOrFault limits low bytes
    by_form byte (inl (r, is)) = by_fields r byte is.1 (fields_or_fault limits low bytes r.timestamp r.change byte is.0.0 is.0.1 is.1)
    by_form byte (inr none) = inr (Frame, (byte, λ r fits e. none r (fits, e)))

    by_byte : Decided (IsKindByte limits (slice_index bytes 0)) → BodyOrFault limits low bytes
    by_byte (inl byte) = by_form byte (body_or_none bytes)
    by_byte (inr other) = inr (Kind, other)

-- ---- the bytes after records

-- what follows records, of which the last has timestamp `low`: nothing more that is whole, a further record, or a fault
data Rest (limits : Limits) (low : ℕ) (rest : List ℕ) : Type 0 where
  ends : (rest ≡ []) ⊎ IsTorn limits rest → Rest limits low rest
  record_at : (r : Logged) (after : List ℕ) → IsNext limits low rest r after → Rest limits low rest
  fault_at : (what : What) → RestFault what limits low rest → Rest limits low rest

fault_of_body : (what : What) (limits : Limits) (low : ℕ) (rest : List ℕ) → HasBodyFault what limits low rest → RestFault what limits low rest
fault_of_body Length limits low rest h = absurd h.fault
fault_of_body Trailer limits low rest h = absurd h.fault
fault_of_body Checksum limits low rest h = absurd h.fault
fault_of_body what limits low rest h = h

framed_rest : (limits : Limits) (low : ℕ) (rest bytes after : List ℕ) → IsRecordLength limits (length bytes) → rest ≡ framed bytes ++ after → BodyOrFault limits low bytes → Rest limits low rest
framed_rest limits low rest bytes after is e (inl (r, lawful, rises, same)) =
    record_at r after (record { lawful = lawful; rises = rises; spelled = e ∙ ap (λ (b : List ℕ). framed b ++ after) same })
framed_rest limits low rest bytes after is e (inr (what, fault)) =
    fault_at what (fault_of_body what limits low rest (record { body = bytes; more = after; is_length = is; spelled = e; fault = fault }))

-- a body between two copies of its length
frame_of : (rest a b c bytes : List ℕ) (n trailer : ℕ) → rest ≡ big_bytes 4 n ++ a → a ≡ bytes ++ b → b ≡ big_bytes 4 trailer ++ c → length bytes ≡ n → trailer ≡ n → rest ≡ framed bytes ++ c
frame_of rest a b c bytes n trailer ea eb ec long same =
    ea ∙ ap (λ (x : List ℕ). big_bytes 4 n ++ x) (eb ∙ ap (λ (x : List ℕ). bytes ++ x) ec)
    ∙ (λ i. big_bytes 4 (sym long i) ++ (bytes ++ (big_bytes 4 ((same ∙ sym long) i) ++ c))) ∙ sym (framed_apart bytes c)

-- an allowed length, and enough bytes after it
long_rest : (limits : Limits) (low : ℕ) (rest more : List ℕ) (n : ℕ) → IsRecordLength limits n → rest ≡ big_bytes 4 n ++ more → n + 4 ≤ length more → AreBytes more → Rest limits low rest
long_rest limits low rest more n is e enough small =
    let bytes = take n more in
    let behind = drop n more in
    let joins : more ≡ bytes ++ behind = sym (take-append-drop n more) in
    let long : length bytes ≡ n = length-take-le n more (omega (arith, enough)) in
    let trailer = number_front 4 behind four (omega (arith, length-drop n more, enough)) (bytes_back bytes behind (subst AreBytes joins small)) in
    elim (cases_eq (big_from 0 4 behind) n) as (λ _. Rest limits low rest) [
      | inl same ↦ framed_rest limits low rest bytes (drop 4 behind) (subst (IsRecordLength limits) (sym long) is)
          (frame_of rest more behind (drop 4 behind) bytes n (big_from 0 4 behind) e joins trailer.1 long same) (body_or_fault limits low bytes)
      | inr differs ↦ fault_at Trailer (trailer_fault (IsRecordLength limits) rest more behind (drop 4 behind) bytes n (big_from 0 4 behind) is e joins trailer.1 long trailer.0 differs)
    ]

rest_of : (limits : Limits) (low : ℕ) (rest : List ℕ) → AreBytes rest → Rest limits low rest
rest_of limits low rest small = by_size (cases_lt (length rest) 4)
  where
    n : ℕ
    n = big_from 0 4 rest

    more : List ℕ
    more = drop 4 rest

    by_more : n < 2 ^ 32 → rest ≡ big_bytes 4 n ++ more → AreBytes more → IsRecordLength limits n → (length more < n + 4) ⊎ (n + 4 ≤ length more) → Rest limits low rest
    by_more fits e small_more is (inl short) = ends (inr (inr (record { number = n; more = more; is_length = is; spelled = e; short = short })))
    by_more fits e small_more is (inr enough) = long_rest limits low rest more n is e enough small_more

    by_length : n < 2 ^ 32 → rest ≡ big_bytes 4 n ++ more → AreBytes more → Decided (IsRecordLength limits n) → Rest limits low rest
    by_length fits e small_more (inl is) = by_more fits e small_more is (cases_lt (length more) (n + 4))
    by_length fits e small_more (inr wrong) = fault_at Length (record { number = n; more = more; fits = fits; spelled = e; wrong = wrong })

    by_size : (length rest < 4) ⊎ (4 ≤ length rest) → Rest limits low rest
    by_size (inl short) = elim (cases_lt 0 (length rest)) as (λ _. Rest limits low rest) [
      | inl some ↦ ends (inr (inl (some, short)))
      | inr none ↦ ends (inl (nil_from_length rest (omega (arith, none))))
    ]
    by_size (inr enough) =
        let front = number_front 4 rest four enough small in
        by_length front.0 front.1 front.2 (both (at_most 9 n) (at_most n (longest_record limits)))

-- ---- the text

-- bytes that are a header and lawful records, and then the rest
record BeginsLog (bytes : List ℕ) (head : Head) (records : List Logged) (rest : List ℕ) : Type 0 where
  spelled : bytes ≡ head_bytes head ++ (flat_map spelling records ++ rest)
  is_head : IsHead head
  lawful : AreRecords (limits_of head.format) 0 records

-- a further record joins the others
one_more : (bytes rest after : List ℕ) (head : Head) (records : List Logged) (r : Logged) → BeginsLog bytes head records rest → IsNext (limits_of head.format) (latest 0 records) rest r after
    → BeginsLog bytes head (records ++ r ∷ []) after
one_more bytes rest after head records r begins next = record {
  spelled = joined spelling bytes (head_bytes head) rest after records r begins.spelled next.spelled;
  is_head = begins.is_head;
  lawful = records_push (limits_of head.format) 0 records r begins.lawful next.lawful next.rises;
}

-- the text is a log
record IsTextLog (text : List ℕ) : Type 0 where
  head : Head
  records : List Logged
  tail : List ℕ
  is_log : IsLog text head records tail

-- a text that has a header is a log, or has a fault after some records
abbrev LogOrFault : List ℕ → Type 0
LogOrFault text = IsTextLog text ⊎ ((nth : ℕ) × (what : What) × IsRecordFault text nth what)

-- the rest decides, if it decides after each further record
by_rest : (bytes rest : List ℕ) (head : Head) (records : List Logged) → BeginsLog bytes head records rest
    → ((r : Logged) (after : List ℕ) → IsNext (limits_of head.format) (latest 0 records) rest r after → LogOrFault bytes)
    → Rest (limits_of head.format) (latest 0 records) rest → LogOrFault bytes
by_rest bytes rest head records begins further (ends end) =
    inl (record { head = head; records = records; tail = rest; is_log = record { spelled = begins.spelled; is_head = begins.is_head; lawful = begins.lawful; ends = end } })
by_rest bytes rest head records begins further (fault_at what fault) = inr (
  count_of records,
  what,
  record {
    records = records;
    fault = record { head = head; rest = rest; spelled = begins.spelled; is_head = begins.is_head; lawful = begins.lawful; fault = fault };
    number = refl;
  },
)
by_rest bytes rest head records begins further (record_at r after next) = further r after next

-- `n` bounds the number of bytes left
after_records : (n : ℕ) (bytes rest : List ℕ) (head : Head) (records : List Logged) → length rest < n → BeginsLog bytes head records rest → AreBytes rest → LogOrFault bytes
after_records zero bytes rest head records fewer begins small = absurd (omega (arith, fewer))
after_records (suc n) bytes rest head records fewer begins small =
    let further : (r : Logged) (after : List ℕ) → IsNext (limits_of head.format) (latest 0 records) rest r after → LogOrFault bytes = λ r after next.
    after_records n bytes after head (records ++ r ∷ []) (fewer_left n rest (body r) after fewer next.spelled) (one_more bytes rest after head records r begins next)
    (bytes_back (spelling r) after (subst AreBytes next.spelled small)) in
    by_rest bytes rest head records begins further (rest_of (limits_of head.format) (latest 0 records) rest small)

-- bytes as the lemmas on numbers take them
each_is_byte : (xs : List ℕ) → words.AreBytes xs → AreBytes xs
each_is_byte [] all i = omega arith
each_is_byte (x ∷ xs) all zero = all.0
each_is_byte (x ∷ xs) all (suc i) = each_is_byte xs all.1 i

log_or_fault : (bytes more : List ℕ) (head : Head) → IsHead head → bytes ≡ head_bytes head ++ more → words.AreBytes more → LogOrFault bytes
log_or_fault bytes more head is e are = after_records (suc (length more)) bytes more head [] (omega arith) (record { spelled = e; is_head = is; lawful = tt }) (each_is_byte more are)

-- ---- the file

abbrev pub ReadingOrFault : List ℕ → Type 0
ReadingOrFault bytes = ((log : LogReading) × IsReading bytes log) ⊎ ((fault : FeedFault) × IsLogFault bytes fault)

-- a file whose text is a log
file_reading : (bytes text : List ℕ) (ended : Bool) → Opens bytes text ended → IsTextLog text → (log : LogReading) × IsReading bytes log
file_reading bytes text ended opens is = (
  record { head = is.head; records = is.records; torn = ended || not (length is.tail == 0) },
  record {
    text = text;
    ended = ended;
    opens = opens;
    tail = is.tail;
    is_log = is.is_log;
    torn = torn_of (limits_of is.head.format) is.tail ended (not (length is.tail == 0)) (tells_torn (limits_of is.head.format) is.tail (length is.tail == 0) refl is.is_log.ends);
  },
)

-- a file whose text has a fault
file_fault : (bytes text : List ℕ) (nth : ℕ) (what : What) → OpensSoFar bytes text → IsRecordFault text nth what → ReadingOrFault bytes
file_fault bytes text nth what opens fault = inr (faults.Record nth what, inl (record { text = text; opens = opens; fault = fault }))

-- the bytes behind others
back : (xs ys : List ℕ) → words.AreBytes (xs ++ ys) → words.AreBytes ys
back [] ys are = are
back (x ∷ xs) ys are = back xs ys are.1

plain_file : (bytes : List ℕ) → (IsSealed bytes → ⊥) → words.AreBytes bytes → ReadingOrFault bytes
plain_file bytes plain are = elim (header_or_none bytes) as (λ _. ReadingOrFault bytes) [
  | inl begins ↦ by (log_or_fault bytes begins.more begins.head begins.is_head begins.joins (back (head_bytes begins.head) begins.more (subst words.AreBytes begins.joins are)))
  | inr none ↦ inr (faults.Header, (none, λ header more is e. plain (header_sealed bytes header more e)))
]
  where
    by : LogOrFault bytes → ReadingOrFault bytes
    by (inl is) = inl (file_reading bytes bytes false (inl ((plain, refl), refl)) is)
    by (inr (nth, what, fault)) = file_fault bytes bytes nth what (inl (plain, refl)) fault

sealed_file : (bytes rest : List ℕ) (header : Header) → IsHeader header → bytes ≡ header_bytes header ++ rest → words.AreBytes bytes → ReadingOrFault bytes
sealed_file bytes rest header is e are = elim (some_of bytes header rest (All-from_recursion (λ (b : ℕ). b < 2 ^ 8) bytes are) is e) as (λ _. ReadingOrFault bytes) [
  | inl (bodies, end, file) ↦ of_file bodies end file (log_or_fault (text_of header bodies) (joined_bodies bodies) (text_head header) (text_is_head header is) refl (small bodies file.begins.are_bodies))
  | inr (bodies, damaged) ↦ of_damaged bodies damaged (log_or_fault (text_of header bodies) (joined_bodies bodies) (text_head header) (text_is_head header is) refl (small bodies damaged.begins.are_bodies))
]
  where
    small : (bodies : List (List ℕ)) → All IsBody bodies → words.AreBytes (joined_bodies bodies)
    small bodies are_bodies = recursion_from_All (λ (b : ℕ). b < 2 ^ 8) (joined_bodies bodies) (joined_bytes bodies are_bodies)

    so_far : (bodies : List (List ℕ)) (end : List ℕ) → BeginsBlocks bytes header bodies end → OpensSoFar bytes (text_of header bodies)
    so_far bodies end begins = inr (record { header = header; bodies = bodies; rest = end; begins = begins; is_text = refl })

    of_file : (bodies : List (List ℕ)) (end : List ℕ) → IsFile bytes header bodies end → LogOrFault (text_of header bodies) → ReadingOrFault bytes
    of_file bodies end file (inl log) =
        inl (file_reading bytes (text_of header bodies) (is_torn end) (inr (record { header = header; bodies = bodies; end = end; is_file = file; is_text = refl; ends = refl })) log)
    of_file bodies end file (inr (nth, what, fault)) = file_fault bytes (text_of header bodies) nth what (so_far bodies end file.begins) fault

    of_damaged : (bodies : List (List ℕ)) → IsDamaged bytes header bodies → LogOrFault (text_of header bodies) → ReadingOrFault bytes
    of_damaged bodies damaged (inl log) = inr (
      faults.Record (count_of log.records) Checksum,
      inr (
        refl,
        record {
          text = text_of header bodies;
          is_damaged = record { header = header; bodies = bodies; is_damaged = damaged; is_text = refl };
          head = log.head;
          records = log.records;
          tail = log.tail;
          is_log = log.is_log;
          number = refl;
        },
      ),
    )
    of_damaged bodies damaged (inr (nth, what, fault)) = file_fault bytes (text_of header bodies) nth what (so_far bodies damaged.rest damaged.begins) fault

pub reading_or_fault : (bytes : List ℕ) → words.AreBytes bytes → ReadingOrFault bytes
reading_or_fault bytes are = elim (sealed_or_not bytes) as (λ _. ReadingOrFault bytes) [
  | inl sealed ↦ elim (seal_or_none bytes) as (λ _. ReadingOrFault bytes) [
    | inl begins ↦ sealed_file bytes begins.more begins.head begins.is_head begins.joins are
    | inr none ↦ inr (faults.Header, (λ head more is e. head_not_sealed bytes head more e sealed, none))
  ]
  | inr plain ↦ plain_file bytes plain are
]
