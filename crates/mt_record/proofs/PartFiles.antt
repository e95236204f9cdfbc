-- Files of parts: which text they open to, and which faults they have.
use Rattle.std.proofs.Common.{◌≡◌, ◌⊎◌, inl, inr, ℕ, Bool, true, false, List, [], ◌∷◌, ◌++◌, length, drop, refl, sym, ap, ◌∙◌, subst, append_assoc, arith}
use Rattle.std.specs.Prelude.{codes, MatchBool, slice_index}
use Rattle.std.specs.List.{flat_map, All}
use Rattle.std.proofs.lemmas.Bool.{false≢true}
use Rattle.std.proofs.lemmas.List.{length-append, append-nil}
use Rattle.std.proofs.lemmas.List.Elements.{All-head, All-tail, All-nil}
use Rattle.byteorder.specs.Endian.{big_bytes}
use Rattle.mt_words.specs.declared.limits.Format.{Format}
use Rattle.mt_words.specs.declared.limits.Format.TheVariants.{Two}
use Rattle.mt_words.specs.Limits.{limits_of, magic}
use Rattle.mt_block.specs.declared.part_header.PartHeader.{PartHeader}
use Rattle.mt_block.specs.Blocks.{block, IsBody, IsNext, IsCut, blocks}
use Rattle.mt_block.specs.Parts.{IsPartHeader, part_header_bytes, part_mark, BeginsPart as BeginsPartFile}
use Rattle.mt_block.proofs.Heads.{block-length}
use Rattle.mt_block.proofs.PartHeaders.{same_part_header}
use Rattle.mt_block.proofs.Places.{next_not_cut, next_not_broken, cut_not_broken}
use Rattle.mt_block.proofs.Files.{flat, same_block}
use Rattle.mt_record.specs.declared.part_text.PartHead.{PartHead}
use Rattle.mt_record.specs.declared.part_text.PartFault.{PartFault}
use Rattle.mt_record.specs.declared.part_text.PartFault.TheVariants as faults
use Rattle.mt_record.specs.Opening.{joined}
use Rattle.mt_record.specs.Parts.{part_head, part_head_bytes, entry_spelling, IsPart, PartReading, IsPartTextReading, IsSealedPart, HasNoPartSeal, part_text_head, part_text_of, IsUnsealedPart, OpensPart, IsPartReading}
use Rattle.mt_record.specs.PartFaults.{HasNoPartHeader, HasNoEntry, BeginsPart, BeginsPartOf, IsPartTextFault, IsBrokenFile, IsPartFault}
use Rattle.mt_record.specs.PartFeeding.{ShowsBroken, IsPlainPart, IsBrokenPlace, HasEntries, ShowsPartFault}
use Rattle.mt_record.proofs.Feeds.{behind_on}
use Rattle.mt_record.proofs.Opened.{not_four}
use Rattle.mt_record.proofs.Seals.{joined-append}
use Rattle.mt_record.proofs.OnePart.{same_beginning, one_part}
use Rattle.mt_record.proofs.OnePartFault.{shown_no_entry, no_part_on, shown_fault, one_part_fault as one_text_fault}

-- ---- which magic

-- whether bytes begin with the magic of a part of format 4
pub part_sealed_told : (bytes : List ℕ) (starts : Bool) → (starts ≡ true → bytes ≡ codes "MTC4" ++ drop 4 bytes) × ((rest : List ℕ) → bytes ≡ codes "MTC4" ++ rest → starts ≡ true) → MatchBool starts (IsSealedPart bytes) (IsSealedPart bytes → ⊥)
part_sealed_told bytes true tells = record { more = drop 4 bytes; spelled = tells.0 refl }
part_sealed_told bytes false tells = λ sealed. false≢true (tells.1 sealed.more sealed.spelled)

-- bytes that begin with a header of formats 1 and 2 do not begin with the magic of format 4
pub part_head_not_sealed : (bytes : List ℕ) (head : PartHead) (more : List ℕ) → bytes ≡ part_head_bytes head ++ more → IsSealedPart bytes → ⊥
part_head_not_sealed bytes head more e sealed = by head.format (ap (λ (x : List ℕ). slice_index x 3) (sym e ∙ sealed.spelled))
  where
    by : (f : Format) → slice_index ((magic (codes "MTC") f ++ (big_bytes 4 head.number ++ (big_bytes 8 head.begin ++ (big_bytes 2 head.part ++ big_bytes 2 head.parts)))) ++ more) 3 ≡ slice_index (codes "MTC4" ++ sealed.more) 3 → ⊥
    by f digit = not_four f digit

-- bytes that begin with a header of format 4 begin with its magic
pub part_header_sealed : (bytes : List ℕ) (header : PartHeader) (rest : List ℕ) → bytes ≡ part_header_bytes header ++ rest → IsSealedPart bytes
part_header_sealed bytes header rest e = record { more = drop 4 (part_header_bytes header ++ rest); spelled = e }

pub part_begins_sealed : (bytes : List ℕ) (header : PartHeader) (bodies : List (List ℕ)) (rest : List ℕ) → BeginsPartFile bytes header bodies rest → IsSealedPart bytes
part_begins_sealed bytes header bodies rest begins = part_header_sealed bytes header (blocks (part_mark header) bodies ++ rest) begins.spelled

pub plain_part_now : (bytes : List ℕ) → IsPlainPart bytes → IsSealedPart bytes → ⊥
plain_part_now bytes plain sealed = plain [] (subst IsSealedPart (sym (append-nil bytes)) sealed)

pub plain_part_on : (bytes more : List ℕ) → IsPlainPart bytes → IsPlainPart (bytes ++ more)
plain_part_on bytes more plain m sealed = plain (more ++ m) (subst IsSealedPart (append_assoc bytes more m) sealed)

-- ---- texts

-- more bodies make a longer text
pub part_text_on : (header : PartHeader) (bodies more : List (List ℕ)) → part_text_of header (bodies ++ more) ≡ part_text_of header bodies ++ joined more
part_text_on header bodies more =
    let head = part_head_bytes (part_text_head header) in
    ap (λ (l : List ℕ). head ++ l) (joined-append bodies more) ∙ sym (append_assoc head (joined bodies) (joined more))

-- of two lists of blocks at the front of the same bytes, one is the other and further blocks
data Along (mark : ℕ) (bodies others : List (List ℕ)) (rest end : List ℕ) : Type 0 where
  longer : (more : List (List ℕ)) → bodies ≡ others ++ more → All IsBody more → end ≡ blocks mark more ++ rest → Along mark bodies others rest end
  shorter : (more : List (List ℕ)) → others ≡ bodies ++ more → All IsBody more → rest ≡ blocks mark more ++ end → Along mark bodies others rest end

along : (mark : ℕ) (bodies others : List (List ℕ)) (rest end : List ℕ) → All IsBody bodies → All IsBody others → blocks mark bodies ++ rest ≡ blocks mark others ++ end → Along mark bodies others rest end
along mark bodies [] rest end are is e = longer bodies refl are (sym e)
along mark [] (c ∷ cs) rest end are is e = shorter (c ∷ cs) refl is e
along mark (b ∷ bs) (c ∷ cs) rest end are is e =
    let s = same_block mark b c (blocks mark bs ++ rest) (blocks mark cs ++ end) (All-head IsBody b bs are) (All-head IsBody c cs is) (sym (flat mark b bs rest) ∙ e ∙ flat mark c cs end) in
    elim (along mark bs cs rest end (All-tail IsBody b bs are) (All-tail IsBody c cs is) s.1) as (λ _. Along mark (b ∷ bs) (c ∷ cs) rest end) [
      | longer more same bodies there ↦ longer more (λ i. s.0 i ∷ same i) bodies there
      | shorter more same bodies there ↦ shorter more (λ i. sym s.0 i ∷ same i) bodies there
    ]

-- two beginnings of one file
same_begin : (bytes : List ℕ) (header other : PartHeader) (bodies others : List (List ℕ)) (rest end : List ℕ) → BeginsPartFile bytes header bodies rest → BeginsPartFile bytes other others end
    → (header ≡ other) × (blocks (part_mark header) bodies ++ rest ≡ blocks (part_mark header) others ++ end)
same_begin bytes header other bodies others rest end is too =
    let s = same_part_header header other (blocks (part_mark header) bodies ++ rest) (blocks (part_mark other) others ++ end) is.is_header too.is_header (sym is.spelled ∙ too.spelled) in
    (s.0, s.1 ∙ ap (λ (x : PartHeader). blocks (part_mark x) others ++ end) (sym s.0))

-- no block stands at this place
abbrev pub NoBlockAt : ℕ → List ℕ → Type 0
NoBlockAt mark rest = (body after : List ℕ) → IsNext mark rest body after → ⊥

pub none_follow : (mark : ℕ) (rest end : List ℕ) (more : List (List ℕ)) → NoBlockAt mark rest → All IsBody more → rest ≡ blocks mark more ++ end → more ≡ []
none_follow mark rest end [] none are e = refl
none_follow mark rest end (b ∷ bs) none are e = absurd (none b (blocks mark bs ++ end) (record { spelled = e ∙ flat mark b bs end; is_body = All-head IsBody b bs are }))

pub none_at_cut : (mark : ℕ) (rest : List ℕ) → (rest ≡ []) ⊎ IsCut mark rest → NoBlockAt mark rest
none_at_cut mark rest cut body after next = next_not_cut mark rest body after next cut

pub none_at_broken : (mark : ℕ) (rest : List ℕ) → IsBrokenPlace mark rest → NoBlockAt mark rest
none_at_broken mark rest broken body after next = next_not_broken mark rest body after broken.0 next broken.1

-- what stands behind the blocks at the front of a whole file are further blocks
pub record Goes (header : PartHeader) (bodies : List (List ℕ)) (rest end text : List ℕ) : Type 0 where
  pub more : List (List ℕ)
  pub are : All IsBody more
  pub there : rest ≡ blocks (part_mark header) more ++ end
  pub is_text : text ≡ part_text_of header bodies ++ joined more

-- of two beginnings of one file, one goes on to the other
pub on_or_back : (bytes : List ℕ) (header other : PartHeader) (bodies others : List (List ℕ)) (rest end : List ℕ) → BeginsPartFile bytes header bodies rest → BeginsPartFile bytes other others end
    → (header ≡ other) × (Goes header bodies rest end (part_text_of other others) ⊎ Goes other others end rest (part_text_of header bodies))
on_or_back bytes header other bodies others rest end is too =
    let s = same_begin bytes header other bodies others rest end is too in (
      s.0,
      elim (along (part_mark header) bodies others rest end is.are_bodies too.are_bodies s.1) as (λ _. Goes header bodies rest end (part_text_of other others) ⊎ Goes other others end rest (part_text_of header bodies)) [
        | longer more same are there ↦ inr (record {
          more = more;
          are = are;
          there = there ∙ ap (λ (x : PartHeader). blocks (part_mark x) more ++ rest) s.0;
          is_text = (λ i. part_text_of (s.0 i) (same i)) ∙ part_text_on other others more;
        })
        | shorter more same are there ↦ inl (record {
          more = more;
          are = are;
          there = there;
          is_text = (λ i. part_text_of (sym s.0 i) (same i)) ∙ part_text_on header bodies more;
        })
      ],
    )

blocks_nil : (mark : ℕ) (more : List (List ℕ)) (rest : List ℕ) → blocks mark more ++ rest ≡ [] → (more ≡ []) × (rest ≡ [])
blocks_nil mark [] rest e = (refl, e)
blocks_nil mark (b ∷ bs) rest e = absurd (omega (arith, ap length (sym (flat mark b bs rest) ∙ e), length-append (block mark b) (blocks mark bs ++ rest), block-length mark b))

-- the beginning of a file goes on to its end
pub in_whole : (bytes text : List ℕ) (header : PartHeader) (bodies : List (List ℕ)) (rest : List ℕ) → BeginsPartFile bytes header bodies rest → IsUnsealedPart bytes text → Goes header bodies rest [] text
in_whole bytes text header bodies rest begins whole =
    let s = on_or_back bytes header whole.header bodies whole.bodies rest [] begins whole.begins in
    elim s.1 as (λ _. Goes header bodies rest [] text) [
      | inl goes ↦ record { more = goes.more; are = goes.are; there = goes.there; is_text = whole.is_text ∙ goes.is_text }
      | inr back ↦ by back
    ]
  where
    by : Goes whole.header whole.bodies [] rest (part_text_of header bodies) → Goes header bodies rest [] text
    by back =
        let z = blocks_nil (part_mark whole.header) back.more rest (sym back.there) in
        let none : joined back.more ≡ [] = ap joined z.0 in
        record {
          more = [];
          are = All-nil IsBody;
          there = z.1;
          is_text = whole.is_text ∙ sym (back.is_text ∙ ap (λ (l : List ℕ). part_text_of whole.header whole.bodies ++ l) none ∙ append-nil (part_text_of whole.header whole.bodies)) ∙ sym (append-nil (part_text_of header bodies));
        }

-- a file has only one text
pub one_part_text : (bytes text other : List ℕ) → OpensPart bytes text → OpensPart bytes other → text ≡ other
one_part_text bytes text other (inl a) (inl b) = a.1 ∙ sym b.1
one_part_text bytes text other (inl a) (inr b) = absurd (a.0 (part_begins_sealed bytes b.header b.bodies [] b.begins))
one_part_text bytes text other (inr a) (inl b) = absurd (b.0 (part_begins_sealed bytes a.header a.bodies [] a.begins))
one_part_text bytes text other (inr a) (inr b) =
    let goes = in_whole bytes other a.header a.bodies [] a.begins b in
    let z = blocks_nil (part_mark a.header) goes.more [] (sym goes.there) in
    let none : joined goes.more ≡ [] = ap joined z.0 in
    a.is_text ∙ sym (goes.is_text ∙ ap (λ (l : List ℕ). part_text_of a.header a.bodies ++ l) none ∙ append-nil (part_text_of a.header a.bodies))

-- ---- readings

-- a text that is a part is a part in one way
one_text_reading : (text : List ℕ) (a b : PartReading) → IsPartTextReading text a → IsPartTextReading text b → a ≡ b
one_text_reading text a b is too =
    let same = one_part text _ _ a.entries b.entries a.end b.end is.1 too.1 in
    λ i. record { number = (same.0 i).number; begin = (same.0 i).begin; part = (same.0 i).part; parts = (same.0 i).parts; entries = same.1 i; end = same.2 i }

-- a file is a part in only one way
pub one_part_of : (bytes : List ℕ) (a b : PartReading) → IsPartReading bytes a → IsPartReading bytes b → a ≡ b
one_part_of bytes a b is too =
    one_text_reading is.text a b is.is_part (subst (λ (text : List ℕ). IsPartTextReading text b) (one_part_text bytes too.text is.text too.opens is.opens) too.is_part)

-- a text that is a part of formats 1 and 2 is a file that is this part
pub plain_part : (bytes : List ℕ) (part : PartReading) (format : Format) → IsPart bytes (part_head format part.number part.begin part.part part.parts) part.entries part.end → IsPartReading bytes part
plain_part bytes part format is = record {
  text = bytes;
  opens = inl (part_head_not_sealed bytes (part_head format part.number part.begin part.part part.parts) _ is.spelled, refl);
  is_part = (format, is);
}

-- a header and the blocks of a part are a file that is this part
pub sealed_part : (header : PartHeader) (bodies : List (List ℕ)) (part : PartReading) → IsPartHeader header → All IsBody bodies
    → IsPart (part_text_of header bodies) (part_head Two part.number part.begin part.part part.parts) part.entries part.end
    → IsPartReading (part_header_bytes header ++ blocks (part_mark header) bodies) part
sealed_part header bodies part is are is_part = record {
  text = part_text_of header bodies;
  opens = inr (record {
    header = header;
    bodies = bodies;
    begins = record { spelled = ap (λ (l : List ℕ). part_header_bytes header ++ l) (sym (append-nil (blocks (part_mark header) bodies))); is_header = is; are_bodies = are };
    is_text = refl;
  });
  is_part = (Two, is_part);
}

-- a part that begins with no header of format 4 is its own text
pub own_reading : (bytes : List ℕ) (part : PartReading) → (IsSealedPart bytes → ⊥) → IsPartReading bytes part → IsPartTextReading bytes part
own_reading bytes part plain is = by is.opens
  where
    by : OpensPart bytes is.text → IsPartTextReading bytes part
    by (inl own) = subst (λ (text : List ℕ). IsPartTextReading text part) own.1 is.is_part
    by (inr file) = absurd (plain (part_begins_sealed bytes file.header file.bodies [] file.begins))

-- a part that begins with one is a whole file
pub file_reading : (bytes : List ℕ) (part : PartReading) → IsSealedPart bytes → (is : IsPartReading bytes part) → IsUnsealedPart bytes is.text
file_reading bytes part sealed is = by is.opens
  where
    by : OpensPart bytes is.text → IsUnsealedPart bytes is.text
    by (inl own) = absurd (own.0 sealed)
    by (inr file) = file

-- ---- faults

pub begins_part_on : (text other extra : List ℕ) (number count : ℕ) → other ≡ text ++ extra → (f : BeginsPartOf text number count) → BeginsPart other f.head f.entries (f.rest ++ extra)
begins_part_on text other extra number count e f = record {
  spelled = e
      ∙ behind_on (part_head_bytes f.head) text (flat_map entry_spelling f.entries ++ f.rest) extra f.begins.spelled
      ∙ ap (λ (l : List ℕ). part_head_bytes f.head ++ l) (append_assoc (flat_map entry_spelling f.entries) f.rest extra);
  is_head = f.begins.is_head;
  lawful = f.begins.lawful;
}

-- two counts of the entries of a text, with no further entry
one_front : (text other extra : List ℕ) (number count n c : ℕ) → other ≡ text ++ extra → (a : BeginsPartOf text number count) → (b : BeginsPartOf other n c) → HasNoEntry (limits_of a.head.format) (a.rest ++ extra)
    → HasNoEntry (limits_of b.head.format) b.rest → (number ≡ n) × (count ≡ c)
one_front text other extra number count n c e a b none too =
    let same = same_beginning other a.head b.head a.entries b.entries (a.rest ++ extra) b.rest (begins_part_on text other extra number count e a) b.begins none too in
    (a.named ∙ ap (λ (h : PartHead). h.number) same.0 ∙ sym b.named, a.counted ∙ ap length same.1 ∙ sym b.counted)

last_entry : (bytes : List ℕ) (number count : ℕ) (b : IsBrokenFile bytes number count) → HasNoEntry (limits_of b.front.head.format) b.front.rest
last_entry bytes number count b = subst (HasNoEntry (limits_of b.front.head.format)) (append-nil b.front.rest) (b.no_entry [] b.rest (All-nil IsBody) refl)

one_broken : (bytes : List ℕ) (number count n c : ℕ) → IsBrokenFile bytes number count → IsBrokenFile bytes n c → (number ≡ n) × (count ≡ c)
one_broken bytes number count n c a b =
    let s = on_or_back bytes a.header b.header a.bodies b.bodies a.rest b.rest a.begins b.begins in
    elim s.1 as (λ _. (number ≡ n) × (count ≡ c)) [
      | inl goes ↦ one_front (part_text_of a.header a.bodies) (part_text_of b.header b.bodies) (joined goes.more) number count n c goes.is_text a.front b.front
          (a.no_entry goes.more b.rest goes.are goes.there) (last_entry bytes n c b)
      | inr back ↦
          let same = one_front (part_text_of b.header b.bodies) (part_text_of a.header a.bodies) (joined back.more) n c number count back.is_text b.front a.front
          (b.no_entry back.more a.rest back.are back.there) (last_entry bytes number count a) in
          (sym same.0, sym same.1)
    ]

-- bytes that begin like a part have a header
has_part_header : (bytes : List ℕ) (number count : ℕ) → BeginsPartOf bytes number count → HasNoPartHeader bytes → ⊥
has_part_header bytes number count f none = none f.head (flat_map entry_spelling f.entries ++ f.rest) f.begins.is_head f.begins.spelled

has_seal : (bytes : List ℕ) (header : PartHeader) (bodies : List (List ℕ)) (rest : List ℕ) → BeginsPartFile bytes header bodies rest → HasNoPartSeal bytes → ⊥
has_seal bytes header bodies rest begins none = none header (blocks (part_mark header) bodies ++ rest) begins.is_header begins.spelled

header_or_broken : (bytes : List ℕ) (number count : ℕ) → IsPartFault bytes faults.Header → IsPartFault bytes (faults.Broken number count) → ⊥
header_or_broken bytes number count f (inl own) = has_part_header bytes number count own.1.front f.0
header_or_broken bytes number count f (inr file) = has_seal bytes file.header file.bodies file.rest file.begins f.1

same_broken : (bytes : List ℕ) (number count n c : ℕ) → IsPartFault bytes (faults.Broken number count) → IsPartFault bytes (faults.Broken n c) → faults.Broken number count ≡ faults.Broken n c
same_broken bytes number count n c (inl a) (inl b) = one_text_fault bytes (faults.Broken number count) (faults.Broken n c) a.1 b.1
same_broken bytes number count n c (inl a) (inr b) = absurd (a.0 (part_begins_sealed bytes b.header b.bodies b.rest b.begins))
same_broken bytes number count n c (inr a) (inl b) = absurd (b.0 (part_begins_sealed bytes a.header a.bodies a.rest a.begins))
same_broken bytes number count n c (inr a) (inr b) = let s = one_broken bytes number count n c a b in λ i. faults.Broken (s.0 i) (s.1 i)

-- a file has at most one fault
pub one_part_fault : (bytes : List ℕ) (fault other : PartFault) → IsPartFault bytes fault → IsPartFault bytes other → fault ≡ other
one_part_fault bytes faults.Header faults.Header f g = refl
one_part_fault bytes faults.Header (faults.Broken number count) f g = absurd (header_or_broken bytes number count f g)
one_part_fault bytes (faults.Broken number count) faults.Header f g = absurd (header_or_broken bytes number count g f)
one_part_fault bytes (faults.Broken number count) (faults.Broken n c) f g = same_broken bytes number count n c f g
one_part_fault bytes faults.Memory other f g = absurd f
one_part_fault bytes faults.Header faults.Memory f g = absurd g
one_part_fault bytes (faults.Broken number count) faults.Memory f g = absurd g

-- a part has no fault
pub part_not_both : (bytes : List ℕ) (part : PartReading) (fault : PartFault) → IsPartReading bytes part → IsPartFault bytes fault → ⊥
part_not_both bytes part (faults.Broken number count) is (inl own) = own.1.no_part part (own_reading bytes part own.0 is)
part_not_both bytes part (faults.Broken number count) is (inr file) = file.no_part part is
part_not_both bytes part faults.Memory is f = f
part_not_both bytes part faults.Header is f = by is.opens
  where
    by : OpensPart bytes is.text → ⊥
    by (inl own) = let there : IsPartTextReading bytes part = subst (λ (text : List ℕ). IsPartTextReading text part) own.1 is.is_part in f.0 _ _ there.1.is_head there.1.spelled
    by (inr file) = has_seal bytes file.header file.bodies [] file.begins f.1

-- ---- faults that are shown

pub shows_broken_on : (text other extra : List ℕ) (number count : ℕ) → other ≡ text ++ extra → ShowsBroken text number count → ShowsBroken other number count
shows_broken_on text other extra number count e (f, shows) = (
  record { head = f.head; entries = f.entries; rest = f.rest ++ extra; begins = begins_part_on text other extra number count e f; named = f.named; counted = f.counted },
  no_part_on (limits_of f.head.format) count f.rest extra shows,
)

-- the text of the blocks shows that the file is broken
pub text_breaks : (bytes : List ℕ) (header : PartHeader) (bodies : List (List ℕ)) (rest : List ℕ) (number count : ℕ) → BeginsPartFile bytes header bodies rest → ShowsBroken (part_text_of header bodies) number count
    → IsBrokenFile bytes number count
text_breaks bytes header bodies rest number count begins shows =
    let text = part_text_of header bodies in
    record {
      header = header;
      bodies = bodies;
      rest = rest;
      begins = begins;
      front = shows.0;
      no_entry = λ more behind are e. shown_no_entry shows.0.head.format count (shows.0.rest ++ joined more) (no_part_on (limits_of shows.0.head.format) count shows.0.rest (joined more) shows.1);
      no_part = λ part is.
          let goes = in_whole bytes is.text header bodies rest begins (file_reading bytes part (part_begins_sealed bytes header bodies rest begins) is) in
          let broken : IsPartTextFault is.text (faults.Broken number count) = shown_fault (faults.Broken number count) is.text (shows_broken_on text is.text (joined goes.more) number count goes.is_text shows) in
          broken.no_part part is.is_part;
    }

-- no block stands behind the blocks, and no further entry in their text, and the bytes are no part
pub stops_there : (bytes : List ℕ) (header : PartHeader) (bodies : List (List ℕ)) (rest : List ℕ) (number count : ℕ) → BeginsPartFile bytes header bodies rest → NoBlockAt (part_mark header) rest
    → HasEntries (part_text_of header bodies) number count → ((part : PartReading) → IsPartTextReading (part_text_of header bodies) part → rest ≡ [] → ⊥) → IsBrokenFile bytes number count
stops_there bytes header bodies rest number count begins none has no_part = record {
  header = header;
  bodies = bodies;
  rest = rest;
  begins = begins;
  front = has.front;
  no_entry = λ more behind are e.
      let z : more ≡ [] = none_follow (part_mark header) rest behind more none are e in
      subst (HasNoEntry (limits_of has.front.head.format)) (sym (ap (λ (l : List (List ℕ)). has.front.rest ++ joined l) z ∙ append-nil has.front.rest)) has.no_entry;
  no_part = λ part is.
      let goes = in_whole bytes is.text header bodies rest begins (file_reading bytes part (part_begins_sealed bytes header bodies rest begins) is) in
      let z : goes.more ≡ [] = none_follow (part_mark header) rest [] goes.more none goes.are goes.there in
      let same : is.text ≡ part_text_of header bodies = goes.is_text ∙ ap (λ (l : List (List ℕ)). part_text_of header bodies ++ joined l) z ∙ append-nil (part_text_of header bodies) in
      let gone : rest ≡ [] = goes.there ∙ ap (λ (l : List (List ℕ)). blocks (part_mark header) l ++ []) z in
      no_part part (subst (λ (text : List ℕ). IsPartTextReading text part) same is.is_part) gone;
}

-- a fault that the bytes show is the fault of the bytes
pub shown_part_fault : (fault : PartFault) (bytes : List ℕ) → ShowsPartFault bytes fault → IsPartFault bytes fault
shown_part_fault faults.Header bytes (inl (plain, none)) = (none.0, λ header more is e. plain_part_now bytes plain (part_header_sealed bytes header more e))
shown_part_fault faults.Header bytes (inr (sealed, long, none)) = (λ head more is e. part_head_not_sealed bytes head more e sealed, none)
shown_part_fault (faults.Broken number count) bytes (inl (plain, shows)) = inl (plain_part_now bytes plain, shown_fault (faults.Broken number count) bytes shows)
shown_part_fault faults.Memory bytes h = h
shown_part_fault (faults.Broken number count) bytes (inr file) = inr (by file.shown)
  where
    by : ShowsBroken (part_text_of file.header file.bodies) number count ⊎ (HasEntries (part_text_of file.header file.bodies) number count × IsBrokenPlace (part_mark file.header) file.rest) → IsBrokenFile bytes number count
    by (inl shows) = text_breaks bytes file.header file.bodies file.rest number count file.begins shows
    by (inr (has, broken)) =
        stops_there bytes file.header file.bodies file.rest number count file.begins (none_at_broken (part_mark file.header) file.rest broken) has
        (λ part is gone. cut_not_broken (part_mark file.header) file.rest broken.0 (inl gone) broken.1)
