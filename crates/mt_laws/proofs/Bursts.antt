-- What a burst of errors makes of a log of format 4.
use Rattle.std.proofs.Common.{◌≡◌, ◌⊎◌, inl, inr, ℕ, ◌+◌, ◌≤◌, ◌<◌, ◌^◌, Bool, Option, Some, None, List, [], ◌∷◌, ◌++◌, length, drop, refl, sym, ap, ◌∙◌, subst, append_assoc, arith}
use Rattle.std.specs.List.{flat_map}
use Rattle.std.proofs.lemmas.List.{length-append, append-nil, take-append-drop}
use Rattle.std.proofs.lemmas.List.Concat.{flat_map-append}
use Rattle.std.proofs.lemmas.List.Elements.{recursion_from_All}
use Rattle.byteorder.specs.Endian.{big_bytes, big_from}
use Rattle.byteorder.specs.Numbers.{big_number-reads_back}
use Rattle.mt_words.specs.declared.limits.Format.{Format}
use Rattle.mt_words.specs.declared.limits.Limits.{Limits}
use Rattle.mt_words.specs.Limits.{limits_of}
use Rattle.mt_words.specs.Changes.{Logged}
use Rattle.mt_crc.specs.Crc.{IsBurst}
use Rattle.mt_block.specs.declared.header.Header.{Header}
use Rattle.mt_block.specs.Blocks.{header_bytes, mark_of, blocks, IsFile, LosesFew}
use Rattle.mt_block.proofs.Errors.{seen_of}
use Rattle.mt_block.proofs.Older.{no_older}
use Rattle.mt_record.specs.declared.feed.head.Head.{Head}
use Rattle.mt_record.specs.declared.feed.head.Segment.{Segment}
use Rattle.mt_record.specs.declared.read.FeedFault.{FeedFault}
use Rattle.mt_record.specs.Spelling.{body, spelling, IsRecordLength}
use Rattle.mt_record.specs.Heads.{log_magic, segment_bytes, head_bytes}
use Rattle.mt_record.specs.Opening.{IsSealed, text_head, joined, text_of, is_torn, IsUnsealed, Opens}
use Rattle.mt_record.specs.Logs.{AreRecords, IsTorn, IsLog, LogReading, IsReading}
use Rattle.mt_record.specs.LogFaults.{IsLogFault}
use Rattle.mt_record.proofs.Lawful.{length_fits, lawful_length}
use Rattle.mt_record.proofs.OneReading.{one_reading_of}
use Rattle.mt_record.proofs.FileFeeds.{text_is_head}
use Rattle.mt_record.proofs.Opened.{header-length}
use Rattle.mt_writer.specs.Files.{IsCutFileOf}
use Rattle.mt_laws.specs.Crashes.{IsBeginningOf}
use Rattle.mt_laws.specs.Damage.{DifferAtTheEnd}
use Rattle.mt_laws.proofs.CutLogs.{cut_file}
use Rattle.mt_laws.proofs.SomeReading.{reading_or_fault}

-- ---- no log of an older format

-- an allowed length, and what follows it
record HasLength (limits : Limits) (bytes : List ℕ) : Type 0 where
  number : ℕ
  more : List ℕ
  is_length : IsRecordLength limits number
  spelled : bytes ≡ big_bytes 4 number ++ more

-- four or more bytes after a header begin with a length
first_length : (limits : Limits) (rs : List Logged) (tail : List ℕ) → AreRecords limits 0 rs → (tail ≡ []) ⊎ IsTorn limits tail → 4 ≤ length (flat_map spelling rs ++ tail)
    → HasLength limits (flat_map spelling rs ++ tail)
first_length limits (r ∷ rs) tail are ends long = record {
  number = length (body r);
  more = ((body r ++ big_bytes 4 (length (body r))) ++ flat_map spelling rs) ++ tail;
  is_length = lawful_length limits r are.0;
  spelled = refl;
}
first_length limits [] tail are (inl none) long = absurd (omega (arith, ap length none, long))
first_length limits [] tail are (inr (inl few)) long = absurd (omega (arith, few.1, long))
first_length limits [] tail are (inr (inr cut)) long = record { number = cut.number; more = cut.more; is_length = cut.is_length; spelled = cut.spelled }

-- no number of a length stands where a burst leaves zeros
not_zero : (format : Format) (from : ℕ) (segment : Option Segment) (rest bytes : List ℕ) → HasLength (limits_of format) rest
    → bytes ≡ (log_magic format segment ++ (big_bytes 8 from ++ segment_bytes segment)) ++ rest → (big_from 12 4 bytes ≡ 0) × (big_from 20 4 bytes ≡ 0) → ⊥
not_zero format from None rest bytes has e zeros =
    let n = has.number in
    let back : big_from 12 4 bytes ≡ n = ap (big_from 12 4) e ∙ ap (big_from 0 4) has.spelled ∙ big_number-reads_back 4 n has.more (length_fits format n has.is_length) in
    omega (arith, back, zeros.0, has.is_length.0)
not_zero format from (Some segment) rest bytes has e zeros =
    let n = has.number in
    let back : big_from 20 4 bytes ≡ n = ap (big_from 20 4) e ∙ ap (big_from 0 4) has.spelled ∙ big_number-reads_back 4 n has.more (length_fits format n has.is_length) in
    omega (arith, back, zeros.1, has.is_length.0)

head_short : (format : Format) (from : ℕ) (segment : Option Segment) → length (log_magic format segment ++ (big_bytes 8 from ++ segment_bytes segment)) ≤ 20
head_short format from None = omega arith
head_short format from (Some segment) = omega arith

-- a burst makes no log of an older format of a file of format 4
not_plain : (before after : List ℕ) (header : Header) (more : List ℕ) (head : Head) (records : List Logged) (tail : List ℕ) → before ≡ header_bytes header ++ more → IsBurst before after
    → (IsSealed after → ⊥) → IsLog after head records tail → ⊥
not_plain before after header more head records tail e burst plain log =
    elim (no_older before after header more e burst) as (λ _. ⊥) [
      | inl same ↦ plain (record { more = drop 4 after; spelled = sym (take-append-drop 4 after) ∙ ap (λ (x : List ℕ). x ++ drop 4 after) same })
      | inr zeros ↦ not_zero head.format head.from head.segment rest after (first_length (limits_of head.format) records tail log.lawful log.ends long) log.spelled zeros
    ]
  where
    rest : List ℕ
    rest = flat_map spelling records ++ tail

    long : 4 ≤ length rest
    long = omega (
      arith,
      head_short head.format head.from head.segment,
      ap length log.spelled,
      length-append (head_bytes head) rest,
      burst.sizes,
      ap length e,
      length-append (header_bytes header) more,
      header-length header,
    )

-- ---- the log

-- the file opens to the same text
same_text : (before after text : List ℕ) (ended : Bool) (header new : Header) (bodies others : List (List ℕ)) (end rest : List ℕ) → header ≡ new → bodies ≡ others → length before ≡ length after
    → IsFile before header bodies end → IsFile after new others rest → text ≡ text_of header bodies → ended ≡ is_torn end → Opens after text ended
same_text before after text ended header new bodies others end rest headers same sizes is changed is_text ends = inr (record {
  header = new;
  bodies = others;
  end = rest;
  is_file = changed;
  is_text = is_text ∙ (λ i. text_of (headers i) (same i));
  ends = ends ∙ as_torn end rest long;
})
  where
    front : Header → List (List ℕ) → List ℕ
    front h bs = header_bytes h ++ blocks (mark_of h) bs

    size : (file e : List ℕ) (h : Header) (bs : List (List ℕ)) → IsFile file h bs e → length file ≡ length (front h bs) + length e
    size file e h bs f = ap length (f.begins.spelled ∙ sym (append_assoc (header_bytes h) (blocks (mark_of h) bs) e)) ∙ length-append (front h bs) e

    long : length end ≡ length rest
    long =
        let a = size before end header bodies is in
        let b = size after rest new others changed in
        let c : length (front header bodies) ≡ length (front new others) = λ i. length (front (headers i) (same i)) in
        omega (arith, a, b, c, sizes)

    as_torn : (xs ys : List ℕ) → length xs ≡ length ys → is_torn xs ≡ is_torn ys
    as_torn [] [] e = refl
    as_torn [] (y ∷ ys) e = absurd (omega (arith, e))
    as_torn (x ∷ xs) [] e = absurd (omega (arith, e))
    as_torn (x ∷ xs) (y ∷ ys) e = refl

-- a fault, the same log, or another end
abbrev pub Seen : List ℕ → List ℕ → LogReading → Type 0
Seen before after log = ((fault : FeedFault) × IsLogFault after fault) ⊎ (IsReading after log ⊎ DifferAtTheEnd before after)

pub seen_in_log : (before after : List ℕ) (log : LogReading) → IsSealed before → IsReading before log → IsBurst before after → Seen before after log
seen_in_log before after log sealed is burst = by is.opens (reading_or_fault after (recursion_from_All (λ (b : ℕ). b < 2 ^ 8) after burst.others))
  where
    of_files : (was : IsUnsealed before is.text is.ended) (text : List ℕ) (ended : Bool) (now : IsUnsealed after text ended) → Seen before after log
    of_files was text ended now =
        let seen = seen_of before after was.header now.header was.bodies now.bodies was.end now.end was.is_file now.is_file burst in
        few seen.0 seen.1
      where
        ended_apart : was.header ≡ now.header → LosesFew was.bodies now.bodies ⊎ LosesFew now.bodies was.bodies → Seen before after log
        ended_apart headers lost = inr (inr (record {
          header = was.header;
          bodies = was.bodies;
          others = now.bodies;
          end = was.end;
          rest = now.end;
          is_file = was.is_file;
          is_other = subst (λ (h : Header). IsFile after h now.bodies now.end) (sym headers) now.is_file;
          few = lost;
        }))

        same : was.header ≡ now.header → was.bodies ≡ now.bodies → Seen before after log
        same headers bodies = inr (inl (record {
          text = is.text;
          ended = is.ended;
          opens = same_text before after is.text is.ended was.header now.header was.bodies now.bodies was.end now.end headers bodies burst.sizes was.is_file now.is_file was.is_text was.ends;
          tail = is.tail;
          is_log = is.is_log;
          torn = is.torn;
        }))

        few : was.header ≡ now.header → LosesFew was.bodies now.bodies ⊎ LosesFew now.bodies was.bodies → Seen before after log
        few headers (inl ([], e, short)) = same headers (e ∙ append-nil now.bodies)
        few headers (inr ([], e, short)) = same headers (sym (e ∙ append-nil was.bodies))
        few headers lost = ended_apart headers lost

    by : Opens before is.text is.ended → ((new : LogReading) × IsReading after new) ⊎ ((fault : FeedFault) × IsLogFault after fault) → Seen before after log
    by (inl own) some = absurd (own.0.0 sealed)
    by (inr was) (inr fault) = inl fault
    by (inr was) (inl (new, now)) = changed now.opens
      where
        changed : Opens after now.text now.ended → Seen before after log
        changed (inl own) =
            absurd (not_plain before after was.header (blocks (mark_of was.header) was.bodies ++ was.end) new.head new.records now.tail was.is_file.begins.spelled burst own.0.0
            (subst (λ (text : List ℕ). IsLog text new.head new.records now.tail) own.0.1 now.is_log))
        changed (inr other) = of_files was now.text now.ended other

-- ---- another end

-- a file with fewer of the blocks says a beginning of what the other says
fewer_say : (file less : List ℕ) (log other : LogReading) (header : Header) (bodies others : List (List ℕ)) (end rest : List ℕ) → IsFile file header bodies end → IsFile less header others rest
    → LosesFew bodies others → IsReading file log → IsReading less other → IsBeginningOf other log
fewer_say file less log other header bodies others end rest is fewer lost says said =
    let front = head_bytes (text_head header) in
    let cut : IsCutFileOf less file = record {
      text = text_of header others;
      torn = is_torn rest;
      opens = inr (record { header = header; bodies = others; end = rest; is_file = fewer; is_text = refl; ends = refl });
      whole = text_of header bodies;
      ended = is_torn end;
      opens_written = inr (record { header = header; bodies = bodies; end = end; is_file = is; is_text = refl; ends = refl });
      is_cut = record {
        lost = joined lost.0;
        begins = ap (λ (l : List ℕ). front ++ l) (ap joined lost.1 ∙ flat_map-append (λ (b : List ℕ). b) others lost.0) ∙ sym (append_assoc front (joined others) (joined lost.0));
        header = record { head = text_head header; is_head = text_is_head header fewer.begins.is_header; more = joined others; spelled = refl };
      };
    } in
    let found = cut_file less file log says cut in
    subst (λ (l : LogReading). IsBeginningOf l log) (one_reading_of less found.log other found.is_reading said) found.begins

pub one_begins : (before after : List ℕ) (log other : LogReading) → DifferAtTheEnd before after → IsReading before log → IsReading after other
    → IsBeginningOf other log ⊎ IsBeginningOf log other
one_begins before after log other differ says said = elim differ.few as (λ _. IsBeginningOf other log ⊎ IsBeginningOf log other) [
  | inl lost ↦ inl (fewer_say before after log other differ.header differ.bodies differ.others differ.end differ.rest differ.is_file differ.is_other lost says said)
  | inr more ↦ inr (fewer_say after before other log differ.header differ.others differ.bodies differ.rest differ.end differ.is_other differ.is_file more said says)
]
