-- What the feed of a part was fed, whatever the kind of its file.
use Rattle.std.proofs.Common.{◌≡◌, ◌⊎◌, inl, inr, ℕ, ◌<◌, ◌≤◌, Option, Some, None, List, [], ◌++◌, length, refl, sym, ap, ◌∙◌, subst, append_assoc, arith}
use Rattle.std.specs.Prelude.{codes}
use Rattle.std.proofs.lemmas.Option.{none-some}
use Rattle.std.proofs.lemmas.List.{length-append, append-nil}
use Rattle.mt_words.specs.Limits.{limits_of}
use Rattle.mt_block.specs.declared.part_header.PartHeader.{PartHeader}
use Rattle.mt_block.specs.Blocks.{IsCut, blocks}
use Rattle.mt_block.specs.Parts.{IsPartHeader, part_header_bytes, part_mark, BeginsPart as BeginsPartFile}
use Rattle.mt_block.proofs.Heads.{same_split}
use Rattle.mt_block.proofs.Files.{cut_at}
use Rattle.mt_block.proofs.PartHeaders.{part_header-length}
use Rattle.mt_block.proofs.Places.{cut_not_broken}
use Rattle.mt_record.specs.declared.part_text.PartHead.{PartHead}
use Rattle.mt_record.specs.declared.part_text.PartFault.{PartFault}
use Rattle.mt_record.specs.declared.part_text.PartFault.TheVariants as faults
use Rattle.mt_record.specs.declared.feed.file_feed.FileKind.{FileKind}
use Rattle.mt_record.specs.declared.feed.file_feed.FileKind.TheVariants as kinds
use Rattle.mt_record.specs.Opening.{joined}
use Rattle.mt_record.specs.Parts.{part_head_bytes, IsPartHead, footer_bytes, HasNoPartSeal, part_text_head, part_text_of, IsPartReading}
use Rattle.mt_record.specs.PartFaults.{HasNoPartHeader, HasNoEntry, BeginsPart, IsPartFault}
use Rattle.mt_record.specs.Feeding.{HasRead, HoldsAll, HasShown}
use Rattle.mt_record.specs.PartFeeding.{ShowsBroken, ShowsPartTextFault, ShowsNoPartTextFault, ShowsNoPartSeal, IsPlainPart, IsBrokenPlace, HasEntries, ShowsPartFault, IsPartShown, ShowsNoPartFault, PartSoFar, end_bytes, HoldsPart, IsPartLeft, PartFileSoFar, HoldsPartBlocks, HoldsPartAs, HoldsPartFile, IsUntoldPart, IsPartLeftAs, IsPartFileLeft, broken_after, IsPartFaultyAs, IsPartFileFaulty, FedPart, IsPartFed}
use Rattle.mt_record.proofs.Feeds.{behind_on, fed_on, shows_none_on}
use Rattle.mt_record.proofs.Unsealing.{broken_on}
use Rattle.mt_record.proofs.OnePart.{footer_no_entry}
use Rattle.mt_record.proofs.OnePartFault.{left_no_entry, begun, left_item, part_read, no_footer_read, no_head_read, fed_shows_none as text_shows_none, fed_shows as text_shows, reading_of}
use Rattle.mt_record.proofs.PartFiles.{part_head_not_sealed, part_header_sealed, part_begins_sealed, plain_part_now, plain_part_on, none_follow, none_at_cut, none_at_broken, on_or_back, shows_broken_on, stops_there}

-- ---- the first bytes

untold_short : (bytes : List ℕ) → IsUntoldPart bytes → length bytes < 36
untold_short bytes (inl (more, e, some)) = omega (arith, ap length e, length-append bytes more, some)
untold_short bytes (inr few) = few.1

untold_no_header : (bytes : List ℕ) → IsUntoldPart bytes → HasNoPartHeader bytes
untold_no_header bytes (inr (sealed, few)) head more is e = part_head_not_sealed bytes head more e sealed
untold_no_header bytes (inl (lost, spelled, some)) head more is e =
    part_head_not_sealed (codes "MTC4") head (more ++ lost) (spelled ∙ behind_on (part_head_bytes head) bytes more lost e) (record { more = []; spelled = refl })

untold_no_seal : (bytes : List ℕ) → IsUntoldPart bytes → HasNoPartSeal bytes
untold_no_seal bytes untold header more is e = omega (arith, untold_short bytes untold, ap length e, length-append (part_header_bytes header) more, part_header-length header)

untold_not_plain : (bytes : List ℕ) → IsUntoldPart bytes → IsPlainPart bytes → ⊥
untold_not_plain bytes (inl (more, e, some)) plain = plain more (record { more = []; spelled = sym e })
untold_not_plain bytes (inr (sealed, few)) plain = plain_part_now bytes plain sealed

untold_shows_none : (bytes : List ℕ) → IsUntoldPart bytes → ShowsNoPartFault bytes
untold_shows_none bytes untold faults.Header (inl (plain, none)) = untold_not_plain bytes untold plain
untold_shows_none bytes untold faults.Header (inr (sealed, long, none)) = omega (arith, long, untold_short bytes untold)
untold_shows_none bytes untold (faults.Broken number count) (inl (plain, shows)) = untold_not_plain bytes untold plain
untold_shows_none bytes untold (faults.Broken number count) (inr file) =
    untold_no_seal bytes untold file.header (blocks (part_mark file.header) file.bodies ++ file.rest) file.begins.is_header file.begins.spelled
untold_shows_none bytes untold faults.Memory h = h

-- bytes that are enough for a header of format 4 have none, whatever follows
no_seal_on : (bytes more : List ℕ) → 36 ≤ length bytes → HasNoPartSeal bytes → HasNoPartSeal (bytes ++ more)
no_seal_on bytes more long none header after is e =
    let c = cut_at 36 bytes long in
    let s = same_split c.front (part_header_bytes header) (c.back ++ more) after (c.size ∙ sym (part_header-length header))
    (sym (append_assoc c.front c.back more) ∙ ap (λ (l : List ℕ). l ++ more) (sym c.spelled) ∙ e) in
    none header c.back is (c.spelled ∙ ap (λ (l : List ℕ). l ++ c.back) s.0)

shows_no_seal_on : (bytes more : List ℕ) → ShowsNoPartSeal bytes → ShowsNoPartSeal (bytes ++ more)
shows_no_seal_on bytes more (sealed, long, none) = (
  record { more = sealed.more ++ more; spelled = behind_on (codes "MTC4") bytes sealed.more more sealed.spelled },
  omega (arith, length-append bytes more, long),
  no_seal_on bytes more long none,
)

-- ---- what was read of a file

pub text_is_head : (header : PartHeader) → IsPartHeader header → IsPartHead (part_text_head header)
text_is_head header is = record { number = is.number; begin = is.begin; part = is.part; parts = is.parts }

-- the text of blocks begins with a header, so a feed without a fault has read it
text_begun : (s : PartSoFar) (held : List ℕ) (header : PartHeader) (bodies : List (List ℕ)) → IsPartHeader header → HoldsAll HoldsPart IsPartLeft s held (part_text_of header bodies) → (head : PartHead) × (s.head ≡ Some head)
text_begun s held header bodies is all = by s.head refl
  where
    by : (o : Option PartHead) → s.head ≡ o → (head : PartHead) × (s.head ≡ Some head)
    by None none = absurd (no_head_read s (part_text_of header bodies) held none all (part_text_head header) (joined bodies) (text_is_head header is) refl)
    by (Some head) some = (head, some)

-- the bytes are a header, blocks, and a rest
blocks_begin : (file : PartFileSoFar) (bytes front rest : List ℕ) → bytes ≡ front ++ rest → (h : HoldsPartBlocks file front) → BeginsPartFile bytes h.header h.bodies rest
blocks_begin file bytes front rest joins h = record {
  spelled = joins
      ∙ behind_on (part_header_bytes h.header) front (blocks (part_mark h.header) h.bodies ++ []) rest h.begins.spelled
      ∙ ap (λ (l : List ℕ). part_header_bytes h.header ++ (l ++ rest)) (append-nil (blocks (part_mark h.header) h.bodies));
  is_header = h.begins.is_header;
  are_bodies = h.begins.are_bodies;
}

-- a text after which a feed has no fault ends with no further entry
text_entries : (s : PartSoFar) (held text : List ℕ) (head : PartHead) → s.head ≡ Some head → HoldsAll HoldsPart IsPartLeft s held text → HasEntries text head.number (length s.entries)
text_entries s held text head some all = by s.end refl
  where
    has : (rest : List ℕ) → rest ≡ end_bytes s ++ held → HasNoEntry (limits_of head.format) rest → HasEntries text head.number (length s.entries)
    has rest e none =
        let b = begun s head text held some all.0 in
        record {
          front = record {
            head = head;
            entries = s.entries;
            rest = rest;
            begins = subst (BeginsPart text head s.entries) (sym e) b;
            named = refl;
            counted = refl;
          };
          no_entry = none;
        }

    by : (o : Option ℕ) → s.end ≡ o → HasEntries text head.number (length s.entries)
    by None none = has held (rw none refl) (left_no_entry head.format held (left_item s head held some all.1))
    by (Some end) ends =
        let rest = footer_bytes end (length s.entries) ++ held in
        has rest (rw ends refl) (footer_no_entry head.format rest held end (length s.entries) refl)

-- ---- files without a fault

plain_shows_none : (bytes : List ℕ) → IsPlainPart bytes → ShowsNoPartTextFault bytes → ShowsNoPartFault bytes
plain_shows_none bytes plain none faults.Header (inl (too, shows)) = none faults.Header shows
plain_shows_none bytes plain none faults.Header (inr (sealed, long, no_seal)) = plain_part_now bytes plain sealed
plain_shows_none bytes plain none (faults.Broken number count) (inl (too, shows)) = none (faults.Broken number count) shows
plain_shows_none bytes plain none (faults.Broken number count) (inr file) = plain_part_now bytes plain (part_begins_sealed bytes file.header file.bodies file.rest file.begins)
plain_shows_none bytes plain none faults.Memory h = h

-- blocks whose text shows no fault, and the beginning of a block, show none
blocks_show_none : (bytes : List ℕ) (header : PartHeader) (bodies : List (List ℕ)) (rest : List ℕ) → BeginsPartFile bytes header bodies rest → (rest ≡ []) ⊎ IsCut (part_mark header) rest
    → ShowsNoPartTextFault (part_text_of header bodies) → ShowsNoPartFault bytes
blocks_show_none bytes header bodies rest begins cut none faults.Header (inl (plain, shows)) = plain_part_now bytes plain (part_begins_sealed bytes header bodies rest begins)
blocks_show_none bytes header bodies rest begins cut none faults.Header (inr (sealed, long, no_seal)) = no_seal header (blocks (part_mark header) bodies ++ rest) begins.is_header begins.spelled
blocks_show_none bytes header bodies rest begins cut none (faults.Broken number count) (inl (plain, shows)) = plain_part_now bytes plain (part_begins_sealed bytes header bodies rest begins)
blocks_show_none bytes header bodies rest begins cut none faults.Memory h = h
blocks_show_none bytes header bodies rest begins cut none (faults.Broken number count) (inr file) =
    let s = on_or_back bytes header file.header bodies file.bodies rest file.rest begins file.begins in
    elim s.1 as (λ _. ⊥) [
      | inl goes ↦
          let z = none_follow (part_mark header) rest file.rest goes.more (none_at_cut (part_mark header) rest cut) goes.are goes.there in
          by s.0 [] (sym (goes.is_text ∙ ap (λ (l : List (List ℕ)). part_text_of header bodies ++ joined l) z ∙ append-nil (part_text_of header bodies)) ∙ sym (append-nil (part_text_of file.header file.bodies)))
          (λ _. sym (goes.there ∙ ap (λ (l : List (List ℕ)). blocks (part_mark header) l ++ file.rest) z)) file.shown
      | inr back ↦ by s.0 (joined back.more) back.is_text (λ broken. back.there ∙ ap (λ (l : List (List ℕ)). blocks (part_mark file.header) l ++ rest) (none_follow (part_mark file.header) file.rest rest back.more (none_at_broken (part_mark file.header) file.rest broken) back.are back.there)) file.shown
    ]
  where
    by : (header ≡ file.header) → (extra : List ℕ) → part_text_of header bodies ≡ part_text_of file.header file.bodies ++ extra → (IsBrokenPlace (part_mark file.header) file.rest → file.rest ≡ rest)
        → ShowsBroken (part_text_of file.header file.bodies) number count ⊎ (HasEntries (part_text_of file.header file.bodies) number count × IsBrokenPlace (part_mark file.header) file.rest) → ⊥
    by same extra e there (inl shows) = none (faults.Broken number count) (shows_broken_on (part_text_of file.header file.bodies) (part_text_of header bodies) extra number count e shows)
    by same extra e there (inr (has, broken)) =
        let here : IsBrokenPlace (part_mark header) rest = subst (λ (x : PartHeader × List ℕ). IsBrokenPlace (part_mark x.0) x.1) (λ i. (sym same i, there broken i)) broken in
        cut_not_broken (part_mark header) rest here.0 cut here.1

-- the input of a feed without a fault shows no fault
pub fed_shows_none : (file : PartFileSoFar) (held bytes : List ℕ) → HoldsAll HoldsPartFile IsPartFileLeft file held bytes → ShowsNoPartFault bytes
fed_shows_none file held bytes (reads, (sound, left)) = by file.kind reads.read left
  where
    by : (kind : FileKind) → HoldsPartAs kind file reads.front → IsPartLeftAs kind file.mark held → ShowsNoPartFault bytes
    by kinds.Untold read left = subst ShowsNoPartFault (sym (reads.joins ∙ ap (λ (l : List ℕ). l ++ held) read.0)) (untold_shows_none held left)
    by kinds.Plain read left =
        subst ShowsNoPartFault (sym (reads.joins ∙ ap (λ (l : List ℕ). reads.front ++ l) left ∙ append-nil reads.front))
        (plain_shows_none reads.front read.0 (text_shows_none file.so_far file.held reads.front (read.1.0 sound)))
    by kinds.Blocks read left =
        blocks_show_none bytes read.header read.bodies held (blocks_begin file bytes reads.front held reads.joins read) (subst (λ (m : ℕ). (held ≡ []) ⊎ IsCut m held) read.same left)
        (text_shows_none file.so_far file.held (part_text_of read.header read.bodies) (read.fed.0 sound))

-- ---- faults

-- a fault that a text shows is shown however it goes on
text_shows_on : (text more : List ℕ) (fault : PartFault) → ShowsPartTextFault text fault → ShowsPartTextFault (text ++ more) fault
text_shows_on text more faults.Header h = shows_none_on IsPartHead part_head_bytes text more h
text_shows_on text more (faults.Broken number count) h = shows_broken_on text (text ++ more) more number count refl h
text_shows_on text more faults.Memory h = h

plain_shows : (bytes : List ℕ) (fault : PartFault) → IsPlainPart bytes → ShowsPartTextFault bytes fault → ShowsPartFault bytes fault
plain_shows bytes faults.Header plain h = inl (plain, h)
plain_shows bytes (faults.Broken number count) plain h = inl (plain, h)
plain_shows bytes faults.Memory plain h = h

blocks_show : (bytes : List ℕ) (header : PartHeader) (bodies : List (List ℕ)) (rest : List ℕ) (fault : PartFault) → BeginsPartFile bytes header bodies rest → ShowsPartTextFault (part_text_of header bodies) fault
    → ShowsPartFault bytes fault
blocks_show bytes header bodies rest faults.Header begins h = absurd (h.0 (part_text_head header) (joined bodies) (text_is_head header begins.is_header) refl)
blocks_show bytes header bodies rest (faults.Broken number count) begins h = inr (record { header = header; bodies = bodies; rest = rest; begins = begins; shown = inl h })
blocks_show bytes header bodies rest faults.Memory begins h = h

-- the place behind the blocks shows the fault
place_shows : (file : PartFileSoFar) (fault : PartFault) (bytes : List ℕ) (header : PartHeader) (bodies : List (List ℕ)) (rest : List ℕ) → BeginsPartFile bytes header bodies rest
    → HoldsAll HoldsPart IsPartLeft file.so_far file.held (part_text_of header bodies) → IsBrokenPlace (part_mark header) rest → fault ≡ broken_after file.so_far → ShowsPartFault bytes fault
place_shows file fault bytes header bodies rest begins all broken e =
    let h = text_begun file.so_far file.held header bodies begins.is_header all in
    let is : fault ≡ faults.Broken h.0.number (length file.so_far.entries) = rw h.1 at e in
    subst (ShowsPartFault bytes) (sym is) (inr (record {
      header = header;
      bodies = bodies;
      rest = rest;
      begins = begins;
      shown = inr (text_entries file.so_far file.held (part_text_of header bodies) h.0 h.1 all, broken);
    }))

-- the input of a feed that failed shows its fault
pub fed_shows : (file : PartFileSoFar) (fault : PartFault) (bytes : List ℕ) → HasShown (HasRead (HoldsPartFile file) bytes) (IsPartFileFaulty file fault) → IsPartShown bytes fault
fed_shows file fault bytes h other = by file.kind h.read.read h.fault
  where
    by : (kind : FileKind) → HoldsPartAs kind file h.read.front → (file.fault ≡ Some fault) ⊎ (((file.fault ≡ None) × IsPartFaultyAs kind file fault h.shown) ⊎ (fault ≡ faults.Memory)) → ShowsPartFault bytes fault
    by kind read (inr (inr memory)) = absurd (other memory)
    by kinds.Untold read (inl some) = absurd (none-some fault (sym read.1.fault ∙ some))
    by kinds.Untold read (inr (inl (none, (is, shows)))) =
        let there : bytes ≡ h.shown ++ h.more = h.read.joins ∙ ap (λ (l : List ℕ). l ++ (h.shown ++ h.more)) read.0 in
        subst (ShowsPartFault bytes) (sym is) (inr (subst ShowsNoPartSeal (sym there) (shows_no_seal_on h.shown h.more shows)))
    by kinds.Plain read (inl some) =
        let shows = text_shows_on h.read.front (h.shown ++ h.more) fault (text_shows file.so_far fault h.read.front (read.1.1 fault some) other) in
        subst (λ (l : List ℕ). ShowsPartFault l fault) (sym h.read.joins) (plain_shows (h.read.front ++ (h.shown ++ h.more)) fault (plain_part_on h.read.front (h.shown ++ h.more) read.0) shows)
    by kinds.Plain read (inr (inl (none, not))) = absurd not
    by kinds.Blocks read (inl some) =
        let begins = blocks_begin file bytes h.read.front (h.shown ++ h.more) h.read.joins read in
        blocks_show bytes read.header read.bodies (h.shown ++ h.more) fault begins (text_shows file.so_far fault (part_text_of read.header read.bodies) (read.fed.1 fault some) other)
    by kinds.Blocks read (inr (inl (none, (is, broken)))) =
        let begins = blocks_begin file bytes h.read.front (h.shown ++ h.more) h.read.joins read in
        let here : IsBrokenPlace (part_mark read.header) (h.shown ++ h.more) =
        subst (λ (m : ℕ). IsBrokenPlace m (h.shown ++ h.more)) read.same (broken.0 ++ h.more, broken_on file.mark h.shown broken.0 h.more broken.1) in
        place_shows file fault bytes read.header read.bodies (h.shown ++ h.more) begins (read.fed.0 none) here is

-- a feed that has a fault counts as fed with any bytes that follow
pub part_fed_on : (feed : FedPart) (fault : PartFault) (bytes more : List ℕ) → feed.fault ≡ Some fault → IsPartFed feed bytes → IsPartFed feed (bytes ++ more)
part_fed_on feed fault bytes more failed fed = fed_on HoldsPartFile IsPartFileLeft IsPartFileFaulty feed.so_far feed.held feed.fault fault bytes more failed fed

-- ---- the end

-- if no header of the text was read, the file has none
pub no_head_fed : (file : PartFileSoFar) (held bytes : List ℕ) → file.so_far.head ≡ None → HoldsAll HoldsPartFile IsPartFileLeft file held bytes → IsPartFault bytes faults.Header
no_head_fed file held bytes none (reads, (sound, left)) = by file.kind reads.read left
  where
    by : (kind : FileKind) → HoldsPartAs kind file reads.front → IsPartLeftAs kind file.mark held → IsPartFault bytes faults.Header
    by kinds.Untold read left = subst (λ (l : List ℕ). IsPartFault l faults.Header) (sym (reads.joins ∙ ap (λ (l : List ℕ). l ++ held) read.0)) (untold_no_header held left, untold_no_seal held left)
    by kinds.Plain read left =
        let all : bytes ≡ reads.front = reads.joins ∙ ap (λ (l : List ℕ). reads.front ++ l) left ∙ append-nil reads.front in
        subst (λ (l : List ℕ). IsPartFault l faults.Header) (sym all)
        (no_head_read file.so_far reads.front file.held none (read.1.0 sound), λ header more is e. plain_part_now reads.front read.0 (part_header_sealed reads.front header more e))
    by kinds.Blocks read left =
        let h = text_begun file.so_far file.held read.header read.bodies read.begins.is_header (read.fed.0 sound) in
        absurd (none-some h.0 (sym none ∙ h.1))

-- if a header but no footer was read, the file is broken
pub no_footer_fed : (file : PartFileSoFar) (held bytes : List ℕ) (head : PartHead) → file.so_far.head ≡ Some head → file.so_far.end ≡ None → HoldsAll HoldsPartFile IsPartFileLeft file held bytes
    → IsPartFault bytes (faults.Broken head.number (length file.so_far.entries))
no_footer_fed file held bytes head some none (reads, (sound, left)) = by file.kind reads.read left
  where
    by : (kind : FileKind) → HoldsPartAs kind file reads.front → IsPartLeftAs kind file.mark held → IsPartFault bytes (faults.Broken head.number (length file.so_far.entries))
    by kinds.Untold read left = absurd (none-some head (sym read.1.head ∙ some))
    by kinds.Plain read left =
        let all : bytes ≡ reads.front = reads.joins ∙ ap (λ (l : List ℕ). reads.front ++ l) left ∙ append-nil reads.front in
        subst (λ (l : List ℕ). IsPartFault l (faults.Broken head.number (length file.so_far.entries))) (sym all)
        (inl (plain_part_now reads.front read.0, no_footer_read file.so_far reads.front file.held head some none (read.1.0 sound)))
    by kinds.Blocks read left =
        let all = read.fed.0 sound in
        let text = part_text_of read.header read.bodies in
        let cut = subst (λ (m : ℕ). (held ≡ []) ⊎ IsCut m held) read.same left in
        inr (stops_there bytes read.header read.bodies held head.number (length file.so_far.entries) (blocks_begin file bytes reads.front held reads.joins read) (none_at_cut (part_mark read.header) held cut)
        (text_entries file.so_far file.held text head some all)
        (λ part is gone. (no_footer_read file.so_far text file.held head some none all).no_part part is))

-- if bytes are left behind the blocks, the file is broken
pub cut_fed : (file : PartFileSoFar) (held bytes : List ℕ) (head : PartHead) → file.so_far.head ≡ Some head → (held ≡ [] → ⊥) → HoldsAll HoldsPartFile IsPartFileLeft file held bytes
    → IsPartFault bytes (faults.Broken head.number (length file.so_far.entries))
cut_fed file held bytes head some is_cut (reads, (sound, left)) = by file.kind reads.read left
  where
    by : (kind : FileKind) → HoldsPartAs kind file reads.front → IsPartLeftAs kind file.mark held → IsPartFault bytes (faults.Broken head.number (length file.so_far.entries))
    by kinds.Untold read left = absurd (none-some head (sym read.1.head ∙ some))
    by kinds.Plain read left = absurd (is_cut left)
    by kinds.Blocks read left =
        let cut = subst (λ (m : ℕ). (held ≡ []) ⊎ IsCut m held) read.same left in
        inr (stops_there bytes read.header read.bodies held head.number (length file.so_far.entries) (blocks_begin file bytes reads.front held reads.joins read) (none_at_cut (part_mark read.header) held cut)
        (text_entries file.so_far file.held (part_text_of read.header read.bodies) head some (read.fed.0 sound))
        (λ part is gone. is_cut gone))

-- if a header and a footer were read and nothing is left, the file is a part
pub part_fed : (file : PartFileSoFar) (held bytes : List ℕ) (head : PartHead) (end : ℕ) → file.so_far.head ≡ Some head → file.so_far.end ≡ Some end → held ≡ [] → HoldsAll HoldsPartFile IsPartFileLeft file held bytes
    → IsPartReading bytes (reading_of head file.so_far.entries end)
part_fed file held bytes head end some ends none (reads, (sound, left)) = by file.kind reads.read left
  where
    all : bytes ≡ reads.front
    all = reads.joins ∙ ap (λ (l : List ℕ). reads.front ++ l) none ∙ append-nil reads.front

    by : (kind : FileKind) → HoldsPartAs kind file reads.front → IsPartLeftAs kind file.mark held → IsPartReading bytes (reading_of head file.so_far.entries end)
    by kinds.Untold read left = absurd (none-some head (sym read.1.head ∙ some))
    by kinds.Plain read left = subst (λ (l : List ℕ). IsPartReading l (reading_of head file.so_far.entries end)) (sym all) (record {
      text = reads.front;
      opens = inl (plain_part_now reads.front read.0, refl);
      is_part = (head.format, part_read file.so_far head end reads.front file.held some ends (read.1.0 sound));
    })
    by kinds.Blocks read left = subst (λ (l : List ℕ). IsPartReading l (reading_of head file.so_far.entries end)) (sym all) (record {
      text = part_text_of read.header read.bodies;
      opens = inr (record { header = read.header; bodies = read.bodies; begins = read.begins; is_text = refl });
      is_part = (head.format, part_read file.so_far head end (part_text_of read.header read.bodies) file.held some ends (read.fed.0 sound));
    })
