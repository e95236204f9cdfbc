-- Files and the texts that they contain.
use Rattle.std.proofs.Common.{◌≡◌, ◌↔◌, ◌⊎◌, inl, inr, ℕ, ◌≤◌, Bool, true, false, Option, Some, None, List, [], ◌∷◌, ◌++◌, length, drop, refl, sym, ap, ◌∙◌, subst, append_assoc, arith}
use Rattle.std.specs.Prelude.{IsTrue, MatchBool, codes, slice_index}
use Rattle.std.specs.List.{flat_map, All}
use Rattle.std.proofs.lemmas.Bool.{false≢true}
use Rattle.std.proofs.lemmas.List.{length-append, append-nil}
use Rattle.std.proofs.lemmas.List.Elements.{All-head, All-tail}
use Rattle.byteorder.specs.Endian.{big_bytes}
use Rattle.mt_words.specs.declared.limits.Format.{Format}
use Rattle.mt_words.specs.declared.limits.Format.TheVariants.{One, Two}
use Rattle.mt_words.specs.Limits.{limits_of}
use Rattle.mt_words.specs.Changes.{Logged}
use Rattle.mt_block.specs.declared.header.Header.{Header}
use Rattle.mt_block.specs.Blocks.{header_bytes, header_fields, mark_of, block, IsBody, IsNext, IsTornEnd, blocks, Begins}
use Rattle.mt_block.proofs.Heads.{same_split, block-length, codeword-length}
use Rattle.mt_block.proofs.Headers.{same_size, same_header}
use Rattle.mt_block.proofs.Places.{next_not_cut, next_not_broken}
use Rattle.mt_block.proofs.Files.{flat, same_block, one_file_of}
use Rattle.mt_record.proofs.Seals.{joined-append}
use Rattle.mt_record.specs.declared.feed.head.Head.{Head}
use Rattle.mt_record.specs.declared.feed.head.Segment.{Segment}
use Rattle.mt_record.specs.declared.read.FeedFault.{FeedFault}
use Rattle.mt_record.specs.declared.read.FeedFault.TheVariants as faults
use Rattle.mt_record.specs.declared.front.LogFront.{LogFront}
use Rattle.mt_record.specs.declared.front.Rest.{Rest}
use Rattle.mt_record.specs.declared.front.Rest.TheVariants.{Nothing, Torn, Faulty}
use Rattle.mt_record.specs.Spelling.{spelling}
use Rattle.mt_record.specs.Fronts.{GoTogether}
use Rattle.mt_record.specs.Heads.{IsHead, log_magic, segment_bytes, head_bytes}
use Rattle.mt_record.specs.Opening.{IsSealed, text_head, joined, text_of, is_torn, IsUnsealedSoFar, IsOwnText, Opens, OpensSoFar}
use Rattle.mt_record.specs.Logs.{AreRecords, latest, IsTorn, IsLog, LogReading, IsReading, log_bytes}
use Rattle.mt_record.specs.LogTexts.{tail_rest}
use Rattle.mt_record.specs.LogFronts.{IsEnd, IsTextRest, IsRest, IsTextFrontOf, IsFrontOf}
use Rattle.mt_record.specs.LogFaults.{IsRecordFault, IsTextFault, IsLogFault}
use Rattle.mt_record.proofs.Records.{torn_some}

-- ---- which magic

pub not_four : (format : Format) → (limits_of format).digit ≡ 52 → ⊥
not_four One e = omega (arith, e)
not_four Two e = omega (arith, e)

-- bytes that begin with a header of formats 1 to 3 do not begin with the magic of format 4
pub head_not_sealed : (bytes : List ℕ) (head : Head) (more : List ℕ) → bytes ≡ head_bytes head ++ more → IsSealed bytes → ⊥
head_not_sealed bytes head more e sealed = by head.format head.segment (ap (λ (x : List ℕ). slice_index x 3) (sym e ∙ sealed.spelled))
  where
    by : (f : Format) (v : Option Segment) → slice_index ((log_magic f v ++ (big_bytes 8 head.from ++ segment_bytes v)) ++ more) 3 ≡ slice_index (codes "MTL4" ++ sealed.more) 3 → ⊥
    by f None digit = not_four f digit
    by f (Some v) digit = omega (arith, digit)

-- bytes that begin with a header of format 4 begin with its magic
pub header_sealed : (bytes : List ℕ) (header : Header) (rest : List ℕ) → bytes ≡ header_bytes header ++ rest → IsSealed bytes
header_sealed bytes header rest e = record { more = drop 4 (header_bytes header ++ rest); spelled = e }

pub header-length : (header : Header) → length (header_bytes header) ≡ 44
header-length header = codeword-length 0 (header_fields header)

pub begins_sealed : (bytes : List ℕ) (header : Header) (bodies : List (List ℕ)) (rest : List ℕ) → Begins bytes header bodies rest → IsSealed bytes
begins_sealed bytes header bodies rest begins = header_sealed bytes header (blocks (mark_of header) bodies ++ rest) begins.spelled

-- whether bytes begin with the magic of format 4
pub sealed_told : (bytes : List ℕ) (starts : Bool) → (starts ≡ true → bytes ≡ codes "MTL4" ++ drop 4 bytes) × ((rest : List ℕ) → bytes ≡ codes "MTL4" ++ rest → starts ≡ true) → MatchBool starts (IsSealed bytes) (IsSealed bytes → ⊥)
sealed_told bytes true tells = record { more = drop 4 bytes; spelled = tells.0 refl }
sealed_told bytes false tells = λ sealed. false≢true (tells.1 sealed.more sealed.spelled)

-- ---- plain files

-- bytes that begin with a header of formats 1 to 3 are their own text
pub plain_own : (bytes : List ℕ) (head : Head) (more : List ℕ) → bytes ≡ head_bytes head ++ more → IsOwnText bytes bytes
plain_own bytes head more e = (head_not_sealed bytes head more e, refl)

-- they have no other
pub plain_text : (bytes text : List ℕ) (torn : Bool) (head : Head) (more : List ℕ) → bytes ≡ head_bytes head ++ more → Opens bytes text torn → (text ≡ bytes) × (torn ≡ false)
plain_text bytes text torn head more e (inl own) = (own.0.1, own.1)
plain_text bytes text torn head more e (inr is) = absurd (head_not_sealed bytes head more e (begins_sealed bytes is.header is.bodies is.end is.is_file.begins))

-- a log whose bytes begin with such a header is the bytes themselves
pub plain_log : (bytes : List ℕ) (log : LogReading) (is : IsReading bytes log) (head : Head) (more : List ℕ) → bytes ≡ head_bytes head ++ more → IsLog bytes log.head log.records is.tail
plain_log bytes log is head more e = subst (λ (text : List ℕ). IsLog text log.head log.records is.tail) (plain_text bytes is.text is.ended head more e is.opens).0 is.is_log

-- bytes that are a log by themselves are read as this log
pub plain_reading : (bytes : List ℕ) (log : LogReading) (tail : List ℕ) → IsLog bytes log.head log.records tail → IsTrue log.torn ↔ IsTorn (limits_of log.head.format) tail → IsReading bytes log
plain_reading bytes log tail is tells = record {
  text = bytes;
  ended = false;
  opens = inl (plain_own bytes log.head (flat_map spelling log.records ++ tail) is.spelled, refl);
  tail = tail;
  is_log = is;
  torn = (λ t. inr (tells.0 t), by);
}
  where
    by : IsTrue false ⊎ IsTorn (limits_of log.head.format) tail → IsTrue log.torn
    by (inl not) = absurd (false≢true not)
    by (inr torn) = tells.1 torn

-- a header and records are read as a log with no torn tail
pub whole_reading : (head : Head) (rs : List Logged) → IsHead head → AreRecords (limits_of head.format) 0 rs → IsReading (log_bytes head rs) (record { head = head; records = rs; torn = false })
whole_reading head rs is_head lawful =
    plain_reading (log_bytes head rs) (record { head = head; records = rs; torn = false }) [] (record {
      spelled = ap (λ (x : List ℕ). head_bytes head ++ x) (sym (append-nil (flat_map spelling rs)));
      is_head = is_head;
      lawful = lawful;
      ends = inl refl;
    }) (λ not. absurd (false≢true not), λ torn. absurd (omega (arith, torn_some (limits_of head.format) [] torn)))

-- ---- sizes

joined_short : (mark : ℕ) (bodies : List (List ℕ)) → length (joined bodies) ≤ length (blocks mark bodies)
joined_short mark [] = omega arith
joined_short mark (b ∷ bs) =
    let rest = joined_short mark bs in
    omega (arith, rest, length-append b (joined bs), length-append (block mark b) (blocks mark bs), block-length mark b)

-- the text of blocks is no longer than the file
pub blocks_long : (bytes : List ℕ) (header : Header) (bodies : List (List ℕ)) (rest : List ℕ) → Begins bytes header bodies rest → length (text_of header bodies) ≤ length bytes
blocks_long bytes header bodies rest begins =
    omega (
      arith,
      ap length begins.spelled,
      length-append (header_bytes header) (blocks (mark_of header) bodies ++ rest),
      length-append (blocks (mark_of header) bodies) rest,
      header-length header,
      joined_short (mark_of header) bodies,
      length-append (head_bytes (text_head header)) (joined bodies),
    )

-- a text is no longer than its file
pub text_long : (bytes text : List ℕ) (torn : Bool) → Opens bytes text torn → length text ≤ length bytes
text_long bytes text torn (inl own) = omega (arith, ap length own.0.1)
text_long bytes text torn (inr is) = let long = blocks_long bytes is.header is.bodies is.end is.is_file.begins in omega (arith, ap length is.is_text, long)

-- ---- one text

-- a file has only one text
pub one_text : (bytes text other : List ℕ) (torn too : Bool) → Opens bytes text torn → Opens bytes other too → (text ≡ other) × (torn ≡ too)
one_text bytes text other torn too (inl a) (inl b) = (a.0.1 ∙ sym b.0.1, a.1 ∙ sym b.1)
one_text bytes text other torn too (inl a) (inr b) = absurd (a.0.0 (begins_sealed bytes b.header b.bodies b.end b.is_file.begins))
one_text bytes text other torn too (inr a) (inl b) = absurd (b.0.0 (begins_sealed bytes a.header a.bodies a.end a.is_file.begins))
one_text bytes text other torn too (inr a) (inr b) =
    let one = one_file_of bytes a.header b.header a.bodies b.bodies a.end b.end a.is_file b.is_file in
    (a.is_text ∙ (λ i. text_of (one.0 i) (one.1 i)) ∙ sym b.is_text, a.ends ∙ ap is_torn one.2 ∙ sym b.ends)

-- ---- texts so far

-- the bodies begin with the others, or the others with them, and then a block stands behind them
data GoAlong (mark : ℕ) (bodies others : List (List ℕ)) (rest : List ℕ) : Type 0 where
  longer : (more : List (List ℕ)) → bodies ≡ others ++ more → GoAlong mark bodies others rest
  shorter : (more : List (List ℕ)) (body after : List ℕ) → others ≡ bodies ++ more → IsNext mark rest body after → GoAlong mark bodies others rest

go_along : (mark : ℕ) (bodies others : List (List ℕ)) (rest end : List ℕ) → All IsBody bodies → All IsBody others → blocks mark bodies ++ rest ≡ blocks mark others ++ end → GoAlong mark bodies others rest
go_along mark bodies [] rest end are is e = longer bodies refl
go_along mark [] (c ∷ cs) rest end are is e = shorter (c ∷ cs) c (blocks mark cs ++ end) refl (record { spelled = e ∙ flat mark c cs end; is_body = All-head IsBody c cs is })
go_along mark (b ∷ bs) (c ∷ cs) rest end are is e =
    let s = same_block mark b c (blocks mark bs ++ rest) (blocks mark cs ++ end) (All-head IsBody b bs are) (All-head IsBody c cs is) (sym (flat mark b bs rest) ∙ e ∙ flat mark c cs end) in
    elim (go_along mark bs cs rest end (All-tail IsBody b bs are) (All-tail IsBody c cs is) s.1) as (λ _. GoAlong mark (b ∷ bs) (c ∷ cs) rest) [
      | longer more same ↦ longer more (λ i. s.0 i ∷ same i)
      | shorter more body after same next ↦ shorter more body after (λ i. sym s.0 i ∷ same i) next
    ]

-- no block stands at the end of a file
pub no_next : (mark : ℕ) (end : List ℕ) → (end ≡ []) ⊎ IsTornEnd mark end → (body after : List ℕ) → IsNext mark end body after → ⊥
no_next mark end (inl none) body after next = next_not_cut mark end body after next (inl none)
no_next mark end (inr (inl cut)) body after next = next_not_cut mark end body after next (inr cut)
no_next mark end (inr (inr broken)) body after next = next_not_broken mark end body after broken.0 next broken.1

-- two beginnings of one file have one header
same_begin : (bytes : List ℕ) (header other : Header) (bodies others : List (List ℕ)) (rest end : List ℕ) → Begins bytes header bodies rest → Begins bytes other others end
    → (header ≡ other) × (blocks (mark_of header) bodies ++ rest ≡ blocks (mark_of header) others ++ end)
same_begin bytes header other bodies others rest end is too =
    let s = same_split (header_bytes header) (header_bytes other) (blocks (mark_of header) bodies ++ rest) (blocks (mark_of other) others ++ end) (same_size header other) (sym is.spelled ∙ too.spelled) in
    let headers : header ≡ other = same_header header other is.is_header too.is_header s.0 in
    (headers, s.1 ∙ ap (λ (x : Header). blocks (mark_of x) others ++ end) (sym headers))

-- more bodies make a longer text
longer_text : (header other : Header) (bodies others more : List (List ℕ)) (text part : List ℕ) → text ≡ text_of header bodies → part ≡ text_of other others → header ≡ other → bodies ≡ others ++ more
    → text ≡ part ++ joined more
longer_text header other bodies others more text part is_text is_part headers same =
    is_text
    ∙ (λ i. head_bytes (text_head (headers i)) ++ (ap joined same ∙ joined-append others more) i)
    ∙ sym (append_assoc (head_bytes (text_head other)) (joined others) (joined more))
    ∙ ap (λ (l : List ℕ). l ++ joined more) (sym is_part)

-- of two texts of a file so far, one begins the other
pub along : (bytes a b : List ℕ) → IsUnsealedSoFar bytes a → IsUnsealedSoFar bytes b → GoTogether a b
along bytes a b x y =
    let s = same_begin bytes x.header y.header x.bodies y.bodies x.rest y.rest x.begins y.begins in
    elim (go_along (mark_of x.header) x.bodies y.bodies x.rest y.rest x.begins.are_bodies y.begins.are_bodies s.1) as (λ _. GoTogether a b) [
      | longer more same ↦ inl (joined more, longer_text x.header y.header x.bodies y.bodies more a b x.is_text y.is_text s.0 same)
      | shorter more body after same next ↦ inr (joined more, longer_text y.header x.header y.bodies x.bodies more b a y.is_text x.is_text (sym s.0) same)
    ]

-- if no block stands behind the blocks of a file, any text so far begins its text
pub begins_text : (bytes : List ℕ) (header : Header) (bodies : List (List ℕ)) (rest part : List ℕ) → Begins bytes header bodies rest → ((body after : List ℕ) → IsNext (mark_of header) rest body after → ⊥)
    → IsUnsealedSoFar bytes part → (more : List ℕ) × (text_of header bodies ≡ part ++ more)
begins_text bytes header bodies rest part begins last so_far =
    let s = same_begin bytes header so_far.header bodies so_far.bodies rest so_far.rest begins so_far.begins in
    elim (go_along (mark_of header) bodies so_far.bodies rest so_far.rest begins.are_bodies so_far.begins.are_bodies s.1) as (λ _. (more : List ℕ) × (text_of header bodies ≡ part ++ more)) [
      | longer more same ↦ (joined more, longer_text header so_far.header bodies so_far.bodies more (text_of header bodies) part refl so_far.is_text s.0 same)
      | shorter more body after same next ↦ absurd (last body after next)
    ]

-- ---- fronts

-- a front with no fault behind its records is a log
pub reading_of_front : (bytes : List ℕ) (records : List Logged) (front : LogFront) (torn : Bool) → (is : IsFrontOf bytes records front) → front.rest ≡ tail_rest torn
    → IsReading bytes (record { head = front.head; records = records; torn = torn })
reading_of_front bytes records front torn is e = by torn (rw e at is.is_rest)
  where
    ending : (ended told : Bool) → Opens bytes is.text ended → IsEnd (limits_of front.head.format) is.rest → IsTrue told ↔ (IsTrue ended ⊎ IsTorn (limits_of front.head.format) is.rest)
        → IsReading bytes (record { head = front.head; records = records; torn = told })
    ending ended told opens ends tells = record {
      text = is.text;
      ended = ended;
      opens = opens;
      tail = is.rest;
      is_log = record { spelled = is.spelled ∙ append_assoc (head_bytes front.head) (flat_map spelling records) is.rest; is_head = is.is_head; lawful = is.lawful; ends = ends };
      torn = tells;
    }

    neither : is.rest ≡ [] → IsTrue false ⊎ IsTorn (limits_of front.head.format) is.rest → IsTrue false
    neither none (inl not) = not
    neither none (inr torn) = absurd (omega (arith, ap length none, torn_some (limits_of front.head.format) is.rest torn))

    by : (torn : Bool) → IsRest bytes is.text (limits_of front.head.format) (latest 0 records) is.rest (tail_rest torn) → IsReading bytes (record { head = front.head; records = records; torn = torn })
    by false (opens, none) = ending false false opens (inl none) (λ not. absurd (false≢true not), neither none)
    by true (ended, opens, ends, told) = ending ended true opens ends (λ _. told, λ _. refl)

-- a front of a plain text is one of its file
pub plain_front : (bytes : List ℕ) (records : List Logged) (front : LogFront) → IsOwnText bytes bytes → IsTextFrontOf bytes records front → IsFrontOf bytes records front
plain_front bytes records front own is =
    record { text = bytes; rest = is.rest; spelled = is.spelled; is_head = is.is_head; lawful = is.lawful; is_rest = by front.rest is.is_rest; numbers = is.numbers }
  where
    by : (rest : Rest) → IsTextRest (limits_of front.head.format) (latest 0 records) is.rest rest → IsRest bytes bytes (limits_of front.head.format) (latest 0 records) is.rest rest
    by Nothing none = (inl (own, refl), none)
    by Torn torn = (false, inl (own, refl), inr torn, inr torn)
    by (Faulty what) fault = inl (inl own, fault)

-- a front of a file that is no file of format 4 is one of a text
pub text_front : (bytes : List ℕ) (records : List Logged) (front : LogFront) → (IsSealed bytes → ⊥) → IsFrontOf bytes records front → IsTextFrontOf bytes records front
text_front bytes records front plain is = record {
  rest = is.rest;
  spelled = sym (own front.rest is.is_rest).0 ∙ is.spelled;
  is_head = is.is_head;
  lawful = is.lawful;
  is_rest = (own front.rest is.is_rest).1;
  numbers = is.numbers;
}
  where
    opened : (torn : Bool) → Opens bytes is.text torn → (is.text ≡ bytes) × (torn ≡ false)
    opened torn (inl own) = (own.0.1, own.1)
    opened torn (inr sealed) = absurd (plain (begins_sealed bytes sealed.header sealed.bodies sealed.end sealed.is_file.begins))

    own : (rest : Rest) → IsRest bytes is.text (limits_of front.head.format) (latest 0 records) is.rest rest → (is.text ≡ bytes) × IsTextRest (limits_of front.head.format) (latest 0 records) is.rest rest
    own Nothing (opens, none) = ((opened false opens).0, none)
    own Torn (ended, opens, ends, inl broken) = absurd (false≢true (sym (opened ended opens).1 ∙ broken))
    own Torn (ended, opens, ends, inr torn) = ((opened ended opens).0, torn)
    own (Faulty what) (inl (inl so_far, fault)) = (so_far.1, fault)
    own (Faulty what) (inl (inr sealed, fault)) = absurd (plain (begins_sealed bytes sealed.header sealed.bodies sealed.rest sealed.begins))
    own (Faulty what) (inr (same, damaged, ends)) = absurd (plain (begins_sealed bytes damaged.header damaged.bodies damaged.is_damaged.rest damaged.is_damaged.begins))

-- the fault of a file that is no file of format 4 is one of its text
pub text_fault_of : (bytes : List ℕ) (fault : FeedFault) → (IsSealed bytes → ⊥) → IsLogFault bytes fault → IsTextFault bytes fault
text_fault_of bytes faults.Header plain h = h.0
text_fault_of bytes faults.Memory plain h = h
text_fault_of bytes (faults.Record nth what) plain (inr (same, h)) =
    let d = h.is_damaged in absurd (plain (begins_sealed bytes d.header d.bodies d.is_damaged.rest d.is_damaged.begins))
text_fault_of bytes (faults.Record nth what) plain (inl h) = by h.opens
  where
    by : OpensSoFar bytes h.text → IsRecordFault bytes nth what
    by (inl own) = subst (λ (text : List ℕ). IsRecordFault text nth what) own.1 h.fault
    by (inr so_far) = absurd (plain (begins_sealed bytes so_far.header so_far.bodies so_far.rest so_far.begins))
