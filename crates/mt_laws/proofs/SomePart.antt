-- Bytes are a part of a checkpoint or have a fault.
use Rattle.std.proofs.Common.{◌≡◌, ◌⊎◌, inl, inr, ℕ, zero, suc, eqb, ◌^◌, ◌<◌, List, [], ◌∷◌, ◌++◌, length, take, drop, Bool, true, false, refl, sym, ap, subst, ◌∙◌, arith}
use Rattle.std.proofs.Math.Seq.{take-append_seam}
use Rattle.std.proofs.lemmas.List.{append-nil}
use Rattle.std.proofs.lemmas.List.Elements.{All-head}
use Rattle.std.specs.Prelude.{slice_index}
use Rattle.std.specs.List.{flat_map, All}
use Rattle.byteorder.specs.Endian.{big_bytes, big_from}
use Rattle.byteorder.specs.Numbers.{big_number-reads_back}
use Rattle.mt_block.specs.declared.part_header.PartHeader.{PartHeader}
use Rattle.mt_block.specs.Parts.{part_header_bytes, part_mark, BeginsPart as BeginsPartFile}
use Rattle.mt_block.specs.Blocks.{IsBody, IsNext, blocks}
use Rattle.mt_block.proofs.Deciding.{all_blocks}
use Rattle.mt_block.proofs.Files.{flat}
use Rattle.mt_words.specs.declared.record.Change.{Change}
use Rattle.mt_words.specs.declared.limits.Format.{Format}
use Rattle.mt_words.specs.declared.limits.Format.TheVariants.{One, Two}
use Rattle.mt_words.specs.Limits.{limits_of}
use Rattle.mt_words.specs.Changes.{IsEntry}
use Rattle.mt_words.proofs.Formats.{change_within}
use Rattle.mt_words.proofs.Rising.{all_push}
use Rattle.mt_record.specs.declared.part_text.PartHead.{PartHead}
use Rattle.mt_record.specs.declared.part_text.PartFault.{PartFault}
use Rattle.mt_record.specs.declared.part_text.PartFault.TheVariants as faults
use Rattle.mt_record.specs.Spelling.{change_bytes}
use Rattle.mt_record.specs.Decoding.{change_in}
use Rattle.mt_record.specs.Parts.{part_head, part_head_bytes, IsPartHead, entry_spelling, footer_bytes, PartReading, IsPartTextReading, IsSealedPart, part_text_head, part_text_of, IsPartReading}
use Rattle.mt_record.specs.PartFaults.{HasNoPartHeader, HasNoEntry, BeginsPart, IsBroken, IsBrokenFile, IsPartFault}
use Rattle.mt_record.specs.PartFeeding.{HasEntries}
use Rattle.mt_record.specs.Opening.{joined as joined_bodies}
use Rattle.mt_record.proofs.Decodes.{entry_says}
use Rattle.mt_record.proofs.Entries.{entry_length, short_entry}
use Rattle.mt_record.proofs.EntryTexts.{whole_code}
use Rattle.mt_record.proofs.OnePart.{footer_no_entry, same_beginning, part_begins}
use Rattle.mt_record.proofs.PartFiles.{part_head_not_sealed, part_header_sealed, NoBlockAt, stops_there}
use Rattle.mt_record.proofs.Unique.{framed_apart}
use Rattle.mt_scan.specs.PartScans.{KnownPart, whole, broken, nameless, IsKnown}
use Rattle.mt_laws.proofs.Decided.{Decided, below, same_bytes, both, alike, three, some_or_none}
use Rattle.mt_laws.proofs.Items.{Begins, begins_or_none, joined, fewer_left}
use Rattle.mt_laws.proofs.Fitting.{is_entry}
use Rattle.mt_laws.proofs.SomePartSeal.{sealed_part_or_not, part_seal_or_none}

-- ---- the header

-- the format that a part with this digit can have
abbrev format_from : ℕ → Format
format_from digit = by (eqb digit 49)
  where
    by : Bool → Format
    by true = One
    by false = Two

format_back : (format : Format) → format_from (limits_of format).digit ≡ format
format_back One = refl
format_back Two = refl

-- the header that bytes can begin with
abbrev read_head : List ℕ → PartHead
read_head bytes = part_head (format_from (slice_index bytes 3)) (big_from 0 4 (drop 4 bytes)) (big_from 0 8 (drop 8 bytes)) (big_from 0 2 (drop 16 bytes)) (big_from 0 2 (drop 18 bytes))

is_header : (head : PartHead) → Decided (IsPartHead head)
is_header head =
    alike (λ is. record { number = is.0; begin = is.1; part = is.2.0; parts = is.2.1 }) (λ (is : IsPartHead head). (is.number, is.begin, (is.part, is.parts)))
    (three (below head.number (2 ^ 32)) (below head.begin (2 ^ 64)) (both (below head.part (2 ^ 16)) (below head.parts (2 ^ 16))))

head_back : (head : PartHead) (more : List ℕ) → IsPartHead head → read_head (part_head_bytes head ++ more) ≡ head
head_back head more is =
    let parts = big_bytes 2 head.parts ++ more in
    let part = big_bytes 2 head.part ++ parts in
    let begin = big_bytes 8 head.begin ++ part in
    λ i. part_head (format_back head.format i) (big_number-reads_back 4 head.number begin is.number i) (big_number-reads_back 8 head.begin part is.begin i)
    (big_number-reads_back 2 head.part parts is.part i) (big_number-reads_back 2 head.parts more is.parts i)

header_or_none : (bytes : List ℕ) → Begins IsPartHead part_head_bytes bytes ⊎ HasNoPartHeader bytes
header_or_none bytes = begins_or_none IsPartHead part_head_bytes bytes (read_head bytes) (λ head more is e. ap read_head e ∙ head_back head more is) (is_header (read_head bytes))

-- ---- an entry

-- the entry that bytes can begin with
abbrev read_entry : List ℕ → Change
read_entry rest = change_in (0 ∷ (big_bytes 8 0 ++ take (big_from 0 4 rest) (drop 4 rest)))

entry_back : (format : Format) (rest more : List ℕ) (entry : Change) → IsEntry (limits_of format) entry → rest ≡ entry_spelling entry ++ more → read_entry rest ≡ entry
entry_back format rest more entry is e =
    let fields = change_bytes entry in
    let behind = big_bytes 4 (length fields) ++ more in
    let apart : rest ≡ big_bytes 4 (length fields) ++ (fields ++ behind) = e ∙ framed_apart fields more in
    let long = ap (big_from 0 4) apart ∙ big_number-reads_back 4 (length fields) (fields ++ behind) (short_entry format (length fields) (entry_length (limits_of format) entry is)) in
    let taken : take (big_from 0 4 rest) (drop 4 rest) ≡ fields = (λ i. take (long i) (drop 4 (apart i))) ∙ take-append_seam fields behind in
    (entry_says (0 ∷ (big_bytes 8 0 ++ take (big_from 0 4 rest) (drop 4 rest))) entry (change_within format entry is.0) (λ i. sym (whole_code entry.kind is.1) i ∷ (big_bytes 8 0 ++ taken i))).0

entry_or_none : (format : Format) (rest : List ℕ) → Begins (IsEntry (limits_of format)) entry_spelling rest ⊎ HasNoEntry (limits_of format) rest
entry_or_none format rest =
    begins_or_none (IsEntry (limits_of format)) entry_spelling rest (read_entry rest) (λ entry more is e. entry_back format rest more entry is e) (is_entry (limits_of format) (read_entry rest))

-- ---- the footer

-- the bytes are the footer of a part with this many entries
abbrev IsFooter : ℕ → List ℕ → ℕ → Type 0
IsFooter count rest end = (end < 2 ^ 64) × (count < 2 ^ 32) × (rest ≡ footer_bytes end count)

footer_or_none : (count : ℕ) (rest : List ℕ) → ((end : ℕ) × IsFooter count rest end) ⊎ ((end : ℕ) → IsFooter count rest end → ⊥)
footer_or_none count rest =
    let end = big_from 0 8 (drop 4 rest) in
    some_or_none (IsFooter count rest) end (λ other is. ap (λ (r : List ℕ). big_from 0 8 (drop 4 r)) is.2 ∙ big_number-reads_back 8 other (big_bytes 4 count) is.0)
    (three (below end (2 ^ 64)) (below count (2 ^ 32)) (same_bytes rest (footer_bytes end count)))

-- if neither an entry nor the footer follows the entries, the text is no part
no_part : (text rest : List ℕ) (head : PartHead) (entries : List Change) → BeginsPart text head entries rest → HasNoEntry (limits_of head.format) rest
    → ((end : ℕ) → IsFooter (length entries) rest end → ⊥) → (part : PartReading) → IsPartTextReading text part → ⊥
no_part text rest head entries begins no_entry no_footer part is =
    let footer = footer_bytes part.end (length part.entries) in
    let same = same_beginning text head _ entries part.entries rest footer begins (part_begins text _ part.entries part.end is.1) no_entry
    (footer_no_entry is.0 footer [] part.end (length part.entries) (sym (append-nil footer))) in
    let count : length part.entries ≡ length entries = ap length (sym same.1) in
    no_footer part.end (is.1.fits, subst (λ (n : ℕ). n < 2 ^ 32) count is.1.count, same.2 ∙ ap (footer_bytes part.end) count)

-- ---- the text

-- a text that has a header is a part, or broken
abbrev PartOrBroken : List ℕ → Type 0
PartOrBroken text = ((part : PartReading) × IsPartTextReading text part) ⊎ ((number : ℕ) × (count : ℕ) × IsBroken text number count)

-- a further entry joins the others
one_more : (text rest : List ℕ) (head : PartHead) (entries : List Change) → BeginsPart text head entries rest → (next : Begins (IsEntry (limits_of head.format)) entry_spelling rest)
    → BeginsPart text head (entries ++ next.head ∷ []) next.more
one_more text rest head entries begins next = record {
  spelled = joined entry_spelling text (part_head_bytes head) rest next.more entries next.head begins.spelled next.joins;
  is_head = begins.is_head;
  lawful = all_push (IsEntry (limits_of head.format)) entries next.head begins.lawful next.is_head;
}

-- if no further entry follows, the text is a part with its footer, or broken
no_more : (text rest : List ℕ) (head : PartHead) (entries : List Change) → BeginsPart text head entries rest → HasNoEntry (limits_of head.format) rest → PartOrBroken text
no_more text rest head entries begins none = elim (footer_or_none (length entries) rest) as (λ _. PartOrBroken text) [
  | inl footer ↦ inl (
    record { number = head.number; begin = head.begin; part = head.part; parts = head.parts; entries = entries; end = footer.0 },
    (
      head.format,
      record {
        spelled = begins.spelled ∙ ap (λ (x : List ℕ). part_head_bytes head ++ (flat_map entry_spelling entries ++ x)) footer.1.2;
        is_head = begins.is_head;
        lawful = begins.lawful;
        fits = footer.1.0;
        count = footer.1.1;
      },
    ),
  )
  | inr no_footer ↦ inr (
    head.number,
    length entries,
    record {
      front = record { head = head; entries = entries; rest = rest; begins = begins; named = refl; counted = refl };
      no_entry = none;
      no_part = no_part text rest head entries begins none no_footer;
    },
  )
]

-- `n` bounds the number of bytes left
after_entries : (n : ℕ) (text rest : List ℕ) (head : PartHead) (entries : List Change) → length rest < n → BeginsPart text head entries rest → PartOrBroken text
after_entries zero text rest head entries fewer begins = absurd (omega (arith, fewer))
after_entries (suc n) text rest head entries fewer begins = elim (entry_or_none head.format rest) as (λ _. PartOrBroken text) [
  | inl next ↦ after_entries n text next.more head (entries ++ next.head ∷ []) (fewer_left n rest (change_bytes next.head) next.more fewer next.joins) (one_more text rest head entries begins next)
  | inr none ↦ no_more text rest head entries begins none
]

part_or_broken : (text more : List ℕ) (head : PartHead) → IsPartHead head → text ≡ part_head_bytes head ++ more → PartOrBroken text
part_or_broken text more head is e = after_entries (suc (length more)) text more head [] (omega arith) (record { spelled = e; is_head = is; lawful = tt })

-- ---- the file

abbrev pub PartOrFault : List ℕ → Type 0
PartOrFault bytes = ((part : PartReading) × IsPartReading bytes part) ⊎ ((fault : PartFault) × IsPartFault bytes fault)

plain_file : (bytes : List ℕ) → (IsSealedPart bytes → ⊥) → PartOrFault bytes
plain_file bytes plain = elim (header_or_none bytes) as (λ _. PartOrFault bytes) [
  | inl begins ↦ by (part_or_broken bytes begins.more begins.head begins.is_head begins.joins)
  | inr none ↦ inr (faults.Header, (none, λ header more is e. plain (part_header_sealed bytes header more e)))
]
  where
    by : PartOrBroken bytes → PartOrFault bytes
    by (inl (part, is)) = inl (part, record { text = bytes; opens = inl (plain, refl); is_part = is })
    by (inr (number, count, fails)) = inr (faults.Broken number count, inl (plain, fails))

-- the entries of a part are followed by its footer, and by no entry
ended : (text : List ℕ) (part : PartReading) → IsPartTextReading text part → HasEntries text part.number (length part.entries)
ended text part is =
    let footer = footer_bytes part.end (length part.entries) in record {
      front = record { head = part_head is.0 part.number part.begin part.part part.parts; entries = part.entries; rest = footer; begins = part_begins text _ part.entries part.end is.1; named = refl; counted = refl };
      no_entry = footer_no_entry is.0 footer [] part.end (length part.entries) (sym (append-nil footer));
    }

-- no block stands at this place
-- a file of blocks is a part if its text is one and nothing follows
blocks_file : (bytes : List ℕ) (header : PartHeader) (bodies : List (List ℕ)) (rest : List ℕ) → BeginsPartFile bytes header bodies rest → NoBlockAt (part_mark header) rest → PartOrBroken (part_text_of header bodies)
    → PartOrFault bytes
blocks_file bytes header bodies rest begins none (inr (number, count, fails)) =
    inr (faults.Broken number count, inr (stops_there bytes header bodies rest number count begins none (record { front = fails.front; no_entry = fails.no_entry }) (λ part is gone. fails.no_part part is)))
blocks_file bytes header bodies [] begins none (inl (part, is)) =
    inl (part, record { text = part_text_of header bodies; opens = inr (record { header = header; bodies = bodies; begins = begins; is_text = refl }); is_part = is })
blocks_file bytes header bodies (b ∷ bs) begins none (inl (part, is)) =
    inr (faults.Broken part.number (length part.entries), inr (stops_there bytes header bodies (b ∷ bs) part.number (length part.entries) begins none (ended (part_text_of header bodies) part is) (λ other of gone. omega (arith, ap length gone))))

sealed_file : (bytes : List ℕ) → IsSealedPart bytes → PartOrFault bytes
sealed_file bytes sealed = elim (part_seal_or_none bytes) as (λ _. PartOrFault bytes) [
  | inl begins ↦
      let header = begins.head in
      let found = all_blocks (part_mark header) begins.more in
      blocks_file bytes header found.bodies found.rest
      (record { spelled = begins.joins ∙ ap (λ (l : List ℕ). part_header_bytes header ++ l) found.spelled; is_header = begins.is_head; are_bodies = found.are }) found.none
      (part_or_broken (part_text_of header found.bodies) (joined_bodies found.bodies) (part_text_head header)
      (record { number = begins.is_head.number; begin = begins.is_head.begin; part = begins.is_head.part; parts = begins.is_head.parts }) refl)
  | inr none ↦ inr (faults.Header, (λ head more is e. part_head_not_sealed bytes head more e sealed, none))
]

pub part_or_fault : (bytes : List ℕ) → PartOrFault bytes
part_or_fault bytes = elim (sealed_part_or_not bytes) as (λ _. PartOrFault bytes) [ inl sealed ↦ sealed_file bytes sealed | inr plain ↦ plain_file bytes plain ]

-- what is known of any bytes as a part
pub known_of : (bytes : List ℕ) → (known : KnownPart) × IsKnown bytes known
known_of bytes = by (part_or_fault bytes)
  where
    by : PartOrFault bytes → (known : KnownPart) × IsKnown bytes known
    by (inl (part, is)) = (whole part, is)
    by (inr (faults.Header, is)) = (nameless, is)
    by (inr (faults.Broken number entries, is)) = (broken number entries, is)
    by (inr (faults.Memory, is)) = absurd is
