-- Bytes have at most one fault, and none if they are a part. Which bytes show a fault.
use Rattle.std.proofs.Common.{◌≡◌, ◌⊎◌, inl, inr, ◌∙◌, ℕ, ◌<◌, ◌≤◌, ◌^◌, Option, Some, None, List, [], ◌∷◌, ◌++◌, length, refl, sym, ap, subst, append_assoc, arith}
use Rattle.std.proofs.lemmas.List.{append-nil}
use Rattle.std.specs.List.{flat_map, AllByRecursion}
use Rattle.byteorder.specs.Endian.{big_bytes}
use Rattle.mt_words.specs.declared.limits.Format.{Format}
use Rattle.mt_words.specs.declared.record.Change.{Change}
use Rattle.mt_words.specs.declared.limits.Limits.{Limits}
use Rattle.mt_words.specs.Limits.{limits_of}
use Rattle.mt_words.specs.Changes.{IsEntry}
use Rattle.mt_words.proofs.ColumnBytes.{same_split, same_number}
use Rattle.mt_record.specs.declared.part_text.PartHead.{PartHead}
use Rattle.mt_record.specs.declared.part_text.PartFault.{PartFault}
use Rattle.mt_record.specs.declared.part_text.PartFault.TheVariants as faults
use Rattle.mt_record.specs.Spelling.{change_bytes}
use Rattle.mt_record.specs.Parts.{part_head_bytes, IsPartHead, entry_spelling, footer_bytes, IsPart, PartReading, IsPartTextReading}
use Rattle.mt_record.specs.PartTexts.{IsEntryLength}
use Rattle.mt_record.specs.LogFaults.{HasFrame}
use Rattle.mt_record.specs.PartFaults.{HasNoPartHeader, HasNoEntry, BeginsPart, IsBroken, IsPartTextFault}
use Rattle.mt_record.specs.Fronts.{ShowsNone, IsUnfinishedFront}
use Rattle.mt_record.specs.Feeding.{HasRead, HoldsAll, HasShown}
use Rattle.mt_record.specs.PartFeeding.{HasWrongLength, HasWrongEntry, ShowsNoPart, ShowsPartTextFault, IsPartTextShown, ShowsNoPartTextFault, IsCutItem, PartSoFar, end_bytes, HoldsPart, IsPartLeft, IsPartFaulty}
use Rattle.mt_record.proofs.Unique.{framed_apart}
use Rattle.mt_record.proofs.Entries.{entry_length, short_entry}
use Rattle.mt_record.proofs.OnePart.{length_no_entry, footer_no_entry, same_beginning, part_begins}
use Rattle.mt_record.proofs.Beginnings.{cut_none}
use Rattle.mt_record.proofs.Frames.{body_frame, Begins, frame_begins, wrong_begins, none_begins, length_fault_on, frame_on}
use Rattle.mt_record.proofs.Feeds.{behind_on, shows_none_on}

-- ---- what the rest begins with

-- For parts of one format.
module _ (format : Format) where
  abbrev limits : Limits
  limits = limits_of format

  -- the rest has enough bytes for the length at its front, and for a footer if that length is zero
  record Whole (rest : List ℕ) : Type 0 where
    begins : Begins (IsEntryLength limits) (short_entry format) rest
    footer : begins.number ≡ 0 → 12 ≤ length begins.more

  -- framed bytes are complete, lawful or not
  frame_whole : (rest : List ℕ) → HasFrame (IsEntryLength limits) rest → Whole rest
  frame_whole rest f = record { begins = frame_begins (IsEntryLength limits) (short_entry format) rest f; footer = λ zero. omega (arith, zero, f.is_length.0) }

  -- so is a wrong length, which neither an entry nor a footer has
  wrong_whole : (rest : List ℕ) → HasWrongLength limits rest → Whole rest
  wrong_whole rest (h, some) = record { begins = wrong_begins (IsEntryLength limits) (short_entry format) rest h; footer = λ zero. omega (arith, zero, some) }

  -- an entry at the front is framed
  entry_frame : (rest more : List ℕ) (entry : Change) → IsEntry limits entry → rest ≡ entry_spelling entry ++ more → HasFrame (IsEntryLength limits) rest
  entry_frame rest more entry is e = body_frame (IsEntryLength limits) (short_entry format) rest (change_bytes entry) more (entry_length limits entry is) e

  -- a footer is complete
  footer_whole : (rest more : List ℕ) (end count : ℕ) → rest ≡ footer_bytes end count ++ more → Whole rest
  footer_whole rest more end count e = record {
    begins = record {
      number = 0;
      more = big_bytes 8 end ++ (big_bytes 4 count ++ more);
      fits = omega arith;
      spelled = e;
      enough = λ is. omega (arith, is.0);
    };
    footer = λ zero. omega arith;
  }

  -- if nothing more can be read from the rest, it begins with nothing complete
  none_left : (rest : List ℕ) → (rest ≡ []) ⊎ IsCutItem limits rest → Whole rest → ⊥
  none_left rest (inl none) whole = none_begins (IsEntryLength limits) (short_entry format) rest (inl none) whole.begins
  none_left rest (inr (inl cut)) whole = none_begins (IsEntryLength limits) (short_entry format) rest (inr cut) whole.begins
  none_left rest (inr (inr (more, short, e))) whole =
      let same = same_number 4 0 whole.begins.number more whole.begins.more (omega arith) whole.begins.fits (sym e ∙ whole.begins.spelled) in
      let enough = whole.footer (sym same.0) in
      omega (arith, enough, ap length same.1, short)

  -- so it does not begin with an entry
  pub left_no_entry : (rest : List ℕ) → (rest ≡ []) ⊎ IsCutItem limits rest → HasNoEntry limits rest
  left_no_entry rest left entry more is e = none_left rest left (frame_whole rest (entry_frame rest more entry is e))

  -- ---- what shows that there is no part

  -- bytes with a wrong entry at the front do not begin with an entry
  wrong_no_entry : (rest : List ℕ) → HasWrongEntry limits rest → HasNoEntry limits rest
  wrong_no_entry rest (f, no_entry) entry behind is other =
      let fields = change_bytes entry in
      let short = short_entry format (length fields) (entry_length limits entry is) in
      let apart = sym f.spelled ∙ other ∙ framed_apart fields behind in
      let sizes = same_number 4 (length f.body) (length fields) (f.body ++ (big_bytes 4 f.number ++ f.more)) (fields ++ (big_bytes 4 (length fields) ++ behind))
      (short_entry format (length f.body) f.is_length) short apart in
      let bodies = same_split f.body fields (big_bytes 4 f.number ++ f.more) (big_bytes 4 (length fields) ++ behind) sizes.0 sizes.1 in
      let numbers = same_number 4 f.number (length fields) f.more behind f.fits short bodies.1 in
      no_entry entry is (λ i. big_bytes 4 (sizes.0 i) ++ (bodies.0 i ++ big_bytes 4 (numbers.0 i)))

  pub shown_no_entry : (count : ℕ) (rest : List ℕ) → ShowsNoPart limits count rest → HasNoEntry limits rest
  shown_no_entry count rest (inl (h, some)) = length_no_entry format rest h.number h.more h.fits h.wrong h.spelled
  shown_no_entry count rest (inr (inl h)) = wrong_no_entry rest h
  shown_no_entry count rest (inr (inr (inl h))) = footer_no_entry format rest h.more h.end h.number h.spelled
  shown_no_entry count rest (inr (inr (inr h))) = footer_no_entry format rest (h.byte ∷ h.more) h.end count h.spelled

  -- if nothing more can be read from the rest, it does not show that there is no part
  left_shows_none : (count : ℕ) (rest : List ℕ) → (rest ≡ []) ⊎ IsCutItem limits rest → ShowsNoPart limits count rest → ⊥
  left_shows_none count rest left (inl h) = none_left rest left (wrong_whole rest h)
  left_shows_none count rest left (inr (inl h)) = none_left rest left (frame_whole rest h.0)
  left_shows_none count rest left (inr (inr (inl h))) = none_left rest left (footer_whole rest h.more h.end h.number h.spelled)
  left_shows_none count rest left (inr (inr (inr h))) = none_left rest left (footer_whole rest (h.byte ∷ h.more) h.end count h.spelled)

  -- nor does a footer with the right number of entries and nothing after it
  footer_shows_none : (count end : ℕ) (rest : List ℕ) → end < 2 ^ 64 → count < 2 ^ 32 → rest ≡ footer_bytes end count → ShowsNoPart limits count rest → ⊥
  footer_shows_none count end rest fits_end fits e (inl (h, some)) =
      let same = same_number 4 h.number 0 h.more (big_bytes 8 end ++ big_bytes 4 count) h.fits (omega arith) (sym h.spelled ∙ e) in
      omega (arith, same.0, some)
  footer_shows_none count end rest fits_end fits e (inr (inl (f, no_entry))) =
      let tail = f.body ++ (big_bytes 4 f.number ++ f.more) in
      let same = same_number 4 (length f.body) 0 tail (big_bytes 8 end ++ big_bytes 4 count) (short_entry format (length f.body) f.is_length) (omega arith) (sym f.spelled ∙ e) in
      omega (arith, same.0, f.is_length.0)
  footer_shows_none count end rest fits_end fits e (inr (inr (inl h))) =
      let behind = big_bytes 4 h.number ++ h.more in
      let tails = (same_split (big_bytes 4 0) (big_bytes 4 0) (big_bytes 8 h.end ++ behind) (big_bytes 8 end ++ big_bytes 4 count) refl (sym h.spelled ∙ e)).1 in
      let counts = (same_split (big_bytes 8 h.end) (big_bytes 8 end) behind (big_bytes 4 count) refl tails).1 in
      h.differs (same_number 4 h.number count h.more [] h.fits fits counts).0
  footer_shows_none count end rest fits_end fits e (inr (inr (inr h))) = let all = ap length (sym h.spelled ∙ e) in omega (arith, all)

-- bytes that show that there is no part still do when more bytes follow
pub no_part_on : (allowed : Limits) (count : ℕ) (rest more : List ℕ) → ShowsNoPart allowed count rest → ShowsNoPart allowed count (rest ++ more)
no_part_on allowed count rest more (inl (h, some)) = inl (length_fault_on (IsEntryLength allowed) rest more h, some)
no_part_on allowed count rest more (inr (inl (f, no_entry))) = inr (inl (frame_on (IsEntryLength allowed) rest more f, no_entry))
no_part_on allowed count rest more (inr (inr (inl h))) = inr (inr (inl (record {
  end = h.end;
  number = h.number;
  more = h.more ++ more;
  fits = h.fits;
  differs = h.differs;
  spelled = behind_on (footer_bytes h.end h.number) rest h.more more h.spelled;
})))
no_part_on allowed count rest more (inr (inr (inr h))) = inr (inr (inr (record {
  end = h.end;
  byte = h.byte;
  more = h.more ++ more;
  spelled = behind_on (footer_bytes h.end count) rest (h.byte ∷ h.more) more h.spelled;
})))

-- if bytes are a part and begin with entries that no further entry follows, these are its entries and the rest is its footer
pub up_to_footer : (bytes rest : List ℕ) (head other : PartHead) (entries others : List Change) (end : ℕ) → BeginsPart bytes head entries rest → HasNoEntry (limits_of head.format) rest
    → IsPart bytes other others end → (entries ≡ others) × (rest ≡ footer_bytes end (length entries))
up_to_footer bytes rest head other entries others end begins none is =
    let footer = footer_bytes end (length others) in
    let same = same_beginning bytes head other entries others rest footer begins (part_begins bytes other others end is) none
    (footer_no_entry other.format footer [] end (length others) (sym (append-nil footer))) in
    (same.1, same.2 ∙ ap (λ (xs : List Change). footer_bytes end (length xs)) (sym same.1))

-- ---- one fault

-- if the bytes after the entries show that there is no part, there is none
shown_no_part : (bytes : List ℕ) (head : PartHead) (entries : List Change) (rest : List ℕ) → BeginsPart bytes head entries rest → ShowsNoPart (limits_of head.format) (length entries) rest
    → (part : PartReading) → IsPartTextReading bytes part → ⊥
shown_no_part bytes head entries rest begins shown part is =
    let none = shown_no_entry head.format (length entries) rest shown in
    let same = up_to_footer bytes rest head _ entries part.entries part.end begins none is.1 in
    let few : length entries < 2 ^ 32 = subst (λ (xs : List Change). length xs < 2 ^ 32) (sym same.0) is.1.count in
    footer_shows_none head.format (length entries) part.end rest is.1.fits few same.1 shown

-- nor is there one if nothing more can be read from the bytes after the entries
left_no_part : (bytes : List ℕ) (head : PartHead) (entries : List Change) (rest : List ℕ) → BeginsPart bytes head entries rest → (rest ≡ []) ⊎ IsCutItem (limits_of head.format) rest
    → (part : PartReading) → IsPartTextReading bytes part → ⊥
left_no_part bytes head entries rest begins left part is =
    let same = up_to_footer bytes rest head _ entries part.entries part.end begins (left_no_entry head.format rest left) is.1 in
    none_left head.format rest left (footer_whole head.format rest [] part.end (length entries) (same.1 ∙ sym (append-nil (footer_bytes part.end (length entries)))))

-- a fault that the bytes show is the fault of the bytes
pub shown_fault : (fault : PartFault) (bytes : List ℕ) → ShowsPartTextFault bytes fault → IsPartTextFault bytes fault
shown_fault faults.Header bytes h = h.0
shown_fault (faults.Broken number entries) bytes (front, h) =
    let shown = subst (λ (n : ℕ). ShowsNoPart (limits_of front.head.format) n front.rest) front.counted h in
    record {
      front = front;
      no_entry = shown_no_entry front.head.format (length front.entries) front.rest shown;
      no_part = shown_no_part bytes front.head front.entries front.rest front.begins shown;
    }
shown_fault faults.Memory bytes h = h

-- a proper prefix of a header does not begin with a header
cut_no_header : (bytes : List ℕ) → IsUnfinishedFront IsPartHead part_head_bytes bytes → HasNoPartHeader bytes
cut_no_header bytes cut = cut_none IsPartHead part_head_bytes (λ head other more e. refl) bytes cut

-- ---- bytes that show no fault

-- a proper prefix of a part's header shows no fault
cut_shows_none : (bytes : List ℕ) → IsUnfinishedFront IsPartHead part_head_bytes bytes → ShowsNoPartTextFault bytes
cut_shows_none bytes cut faults.Header h = h.1 cut.head cut.more cut.is_head cut.begun
cut_shows_none bytes cut (faults.Broken number entries) (front, h) =
    cut_no_header bytes cut front.head (flat_map entry_spelling front.entries ++ front.rest) front.begins.is_head front.begins.spelled
cut_shows_none bytes cut faults.Memory h = h

-- a header, entries and the beginning of a further item, which may be empty, show no fault
begun_shows_none : (bytes : List ℕ) (head : PartHead) (entries : List Change) (rest : List ℕ) → BeginsPart bytes head entries rest → (rest ≡ []) ⊎ IsCutItem (limits_of head.format) rest
    → ShowsNoPartTextFault bytes
begun_shows_none bytes head entries rest begins left faults.Header h = h.0 head (flat_map entry_spelling entries ++ rest) begins.is_head begins.spelled
begun_shows_none bytes head entries rest begins left (faults.Broken number count) (front, h) =
    let same = same_beginning bytes head front.head entries front.entries rest front.rest begins front.begins (left_no_entry head.format rest left) (shown_no_entry front.head.format count front.rest h) in
    left_shows_none head.format count rest left (subst (λ (p : PartHead × List ℕ). ShowsNoPart (limits_of p.0.format) count p.1) (λ i. (sym same.0 i, sym same.2 i)) h)
begun_shows_none bytes head entries rest begins left faults.Memory h = h

-- the contents of a part with this header, these entries and this end
abbrev pub reading_of : PartHead → List Change → ℕ → PartReading
reading_of head entries end = record { number = head.number; begin = head.begin; part = head.part; parts = head.parts; entries = entries; end = end }

-- a part shows no fault
part_shows_none : (bytes : List ℕ) (head : PartHead) (entries : List Change) (end : ℕ) → IsPart bytes head entries end → ShowsNoPartTextFault bytes
part_shows_none bytes head entries end is faults.Header h = h.0 head _ is.is_head is.spelled
part_shows_none bytes head entries end is (faults.Broken number count) h = (shown_fault (faults.Broken number count) bytes h).no_part (reading_of head entries end) (head.format, is)
part_shows_none bytes head entries end is faults.Memory h = h

-- before the header is read, the rest is the whole input
unread : (s : PartSoFar) (text rest : List ℕ) → s.head ≡ None → HasRead (HoldsPart s) text rest → rest ≡ text
unread s text rest none reads =
    let empty : (s.entries ≡ []) × (s.end ≡ None) = rw none at reads.read.lawful in
    sym (reads.joins ∙ ap (λ (x : List ℕ). x ++ rest) (rw (none, empty.0, empty.1) at reads.read.spelled))

-- after the header is read, the input is the header, the entries, the footer if it was read, and the rest
pub begun : (s : PartSoFar) (head : PartHead) (text rest : List ℕ) → s.head ≡ Some head → HasRead (HoldsPart s) text rest → BeginsPart text head s.entries (end_bytes s ++ rest)
begun s head text rest some reads =
    let lawful : IsPartHead head × AllByRecursion (IsEntry (limits_of head.format)) s.entries = rw some at reads.read.lawful in
    record {
      spelled = reads.joins ∙ ap (λ (x : List ℕ). x ++ rest) (rw some at reads.read.spelled) ∙ simp append_assoc;
      is_head = lawful.0;
      lawful = lawful.1;
    }

-- after a header, the bytes left are the beginning of an item, or none
pub left_item : (s : PartSoFar) (head : PartHead) (left : List ℕ) → s.head ≡ Some head → IsPartLeft s left → (left ≡ []) ⊎ IsCutItem (limits_of head.format) left
left_item s head left some rest = elim (rw some at rest) as (λ _. (left ≡ []) ⊎ IsCutItem (limits_of head.format) left) [ inl e ↦ inl e | inr cut ↦ inr cut.1 ]

-- if a header and a footer were read, nothing is left, and the input is a part
pub part_read : (s : PartSoFar) (head : PartHead) (end : ℕ) (text left : List ℕ) → s.head ≡ Some head → s.end ≡ Some end → HoldsAll HoldsPart IsPartLeft s left text → IsPart text head s.entries end
part_read s head end text left some ends (reads, rest) =
    let none : left ≡ [] = elim (rw some at rest) as (λ _. left ≡ []) [ inl e ↦ e | inr cut ↦ cc ] in
    let begins = begun s head text left some reads in
    let fits : (end < 2 ^ 64) × (length s.entries < 2 ^ 32) = rw ends at reads.read.fits in
    record { spelled = rw (ends, none) at begins.spelled; is_head = begins.is_head; lawful = begins.lawful; fits = fits.0; count = fits.1 }

-- ---- feeds

-- the input of a feed without a fault shows no fault
pub fed_shows_none : (s : PartSoFar) (held text : List ℕ) → HoldsAll HoldsPart IsPartLeft s held text → ShowsNoPartTextFault text
fed_shows_none s held text (reads, left) = by s.head s.end refl refl
  where
    by : (o : Option PartHead) (e : Option ℕ) → s.head ≡ o → s.end ≡ e → ShowsNoPartTextFault text
    by None e none ends = subst ShowsNoPartTextFault (unread s text held none reads) (cut_shows_none held (rw none at left))
    by (Some head) None some none = begun_shows_none text head s.entries held (rw none at (begun s head text held some reads)) (left_item s head held some left)
    by (Some head) (Some end) some ends = part_shows_none text head s.entries end (part_read s head end text held some ends (reads, left))

-- the input of a feed that failed shows its fault
pub fed_shows : (s : PartSoFar) (fault : PartFault) (text : List ℕ) → HasShown (HasRead (HoldsPart s) text) (IsPartFaulty s fault) → IsPartTextShown text fault
fed_shows s faults.Header text h other =
    subst (ShowsNone IsPartHead part_head_bytes) (unread s text (h.shown ++ h.more) h.fault.0 h.read) (shows_none_on IsPartHead part_head_bytes h.shown h.more h.fault.1)
fed_shows s (faults.Broken number count) text h other =
    let is = h.fault in (
      record {
        head = is.head;
        entries = s.entries;
        rest = end_bytes s ++ (h.shown ++ h.more);
        begins = begun s is.head text (h.shown ++ h.more) is.begun h.read;
        named = is.named;
        counted = is.counted;
      },
      rw (← append_assoc (end_bytes s) h.shown h.more) (no_part_on (limits_of is.head.format) count (end_bytes s ++ h.shown) h.more is.breaks),
    )
fed_shows s faults.Memory text h other = absurd (other refl)

-- ---- the end

-- if a header but no footer was read, the input is a broken part
pub no_footer_read : (s : PartSoFar) (text left : List ℕ) (head : PartHead) → s.head ≡ Some head → s.end ≡ None → HoldsAll HoldsPart IsPartLeft s left text
    → IsBroken text head.number (length s.entries)
no_footer_read s text left head some none (reads, rest) =
    let begins : BeginsPart text head s.entries left = rw none at (begun s head text left some reads) in
    let cut = left_item s head left some rest in
    record {
      front = record { head = head; entries = s.entries; rest = left; begins = begins; named = refl; counted = refl };
      no_entry = left_no_entry head.format left cut;
      no_part = left_no_part text head s.entries left begins cut;
    }

-- if no header was read, the input has none
pub no_head_read : (s : PartSoFar) (text left : List ℕ) → s.head ≡ None → HoldsAll HoldsPart IsPartLeft s left text → HasNoPartHeader text
no_head_read s text left none (reads, rest) = subst HasNoPartHeader (unread s text left none reads) (cut_no_header left (rw none at rest))

-- ---- at most one fault, and a part has none

-- bytes that begin like a part have a header
has_header : (bytes : List ℕ) (head : PartHead) (entries : List Change) (rest : List ℕ) → BeginsPart bytes head entries rest → HasNoPartHeader bytes → ⊥
has_header bytes head entries rest begins none = none head (flat_map entry_spelling entries ++ rest) begins.is_head begins.spelled

-- bytes have at most one fault
pub one_part_fault : (bytes : List ℕ) (fault other : PartFault) → IsPartTextFault bytes fault → IsPartTextFault bytes other → fault ≡ other
one_part_fault bytes faults.Header faults.Header f g = refl
one_part_fault bytes faults.Header (faults.Broken number entries) f g = absurd (has_header bytes g.front.head g.front.entries g.front.rest g.front.begins f)
one_part_fault bytes (faults.Broken number entries) faults.Header f g = absurd (has_header bytes f.front.head f.front.entries f.front.rest f.front.begins g)
one_part_fault bytes (faults.Broken number entries) (faults.Broken n es) h k =
    let f = h.front in
    let g = k.front in
    let same = same_beginning bytes f.head g.head f.entries g.entries f.rest g.rest f.begins g.begins h.no_entry k.no_entry in
    let numbers : number ≡ n = f.named ∙ ap (λ (h : PartHead). h.number) same.0 ∙ sym g.named in
    let counts : entries ≡ es = f.counted ∙ ap length same.1 ∙ sym g.counted in
    λ i. faults.Broken (numbers i) (counts i)
one_part_fault bytes faults.Memory other f g = absurd f
one_part_fault bytes faults.Header faults.Memory f g = absurd g
one_part_fault bytes (faults.Broken number entries) faults.Memory f g = absurd g

-- a part has no fault
pub part_or_fault : (bytes : List ℕ) (head : PartHead) (entries : List Change) (end : ℕ) (fault : PartFault) → IsPart bytes head entries end → IsPartTextFault bytes fault → ⊥
part_or_fault bytes head entries end faults.Header is f =
    has_header bytes head entries (footer_bytes end (length entries)) (part_begins bytes head entries end is) f
part_or_fault bytes head entries end (faults.Broken number count) is f = f.no_part (reading_of head entries end) (head.format, is)
part_or_fault bytes head entries end faults.Memory is f = f
