-- The bytes of a file of records: of a new one, and after each write.
use Rattle.std.proofs.Common.{◌≡◌, ◌⊎◌, false, inl, inr, ℕ, ◌+◌, ◌-◌, ◌^◌, ◌<◌, ◌≤◌, Option, Some, None, IfSome, List, [], ◌∷◌, ◌++◌, length, refl, sym, ap, ◌∙◌, subst, append_assoc, arith}
use Rattle.std.proofs.lemmas.List.{append-nil, length-append}
use Rattle.std.proofs.lemmas.List.Concat.{flat_map-append}
use Rattle.std.proofs.lemmas.List.Elements.{All-append, All-cons, All-nil}
use Rattle.std.specs.List.{flat_map}
use Rattle.std.proofs.lemmas.Bool.{false≢true}
use Rattle.mt_words.specs.Limits.{limits_of, widest}
use Rattle.mt_words.specs.Built.{mark_of}
use Rattle.mt_words.specs.Changes.{Logged, IsLawful}
use Rattle.mt_block.specs.declared.block.TheConstants.{MOST_BODY, SMALL_BODY, FRAME_BYTES}
use Rattle.mt_block.specs.declared.header.Header.{Header}
use Rattle.mt_block.specs.Blocks.{header_bytes, mark_of as mark_in, block, blocks, IsBody, IsFile}
use Rattle.mt_block.proofs.Heads.{same_split, block-length}
use Rattle.mt_block.proofs.Headers.{are_big, both, same_size, same_header}
use Rattle.mt_crc.specs.Crc.{AreBytes}
use Rattle.byteorder.specs.Endian.{big_bytes}
use Rattle.mt_record.specs.declared.feed.head.Head.{Head}
use Rattle.mt_record.specs.declared.read.TheConstants.{MOST_BYTES}
use Rattle.mt_record.specs.declared.front.LogFront.{LogFront}
use Rattle.mt_record.specs.Spelling.{body, spelling}
use Rattle.mt_record.specs.Runs.{IsSmall}
use Rattle.mt_record.specs.Heads.{head_bytes}
use Rattle.mt_record.specs.Heads.{IsHead}
use Rattle.mt_record.specs.Opening.{text_head, joined, is_torn, Opens}
use Rattle.mt_record.specs.LogFronts.{IsRest, IsFrontOf}
use Rattle.mt_record.specs.Logs.{log_bytes, latest}
use Rattle.mt_record.proofs.OneLog.{same_head}
use Rattle.mt_record.proofs.Opened.{header-length, header_sealed, plain_own}
use Rattle.mt_writer.specs.Refusing.{HasRoom}
use Rattle.mt_writer.specs.Framing.{framed, Buffer, frame_bytes, IsFileOfBlocks, IsFileWith, HasMark}
use Rattle.mt_writer.specs.Journals.{Journal, handed_out, read_back, taking, begun, MayGoOn, Writer, Keeps, IsFileOf, NewFile, Begins}
use Rattle.mt_writer.proofs.JournalLemmas.{more_bytes, spelled_length}

-- ---- frames

pub framed_length : (mark : Option ℕ) (bytes : List ℕ) → length (framed mark bytes) ≡ length bytes + frame_bytes mark bytes
framed_length None bytes = omega arith
framed_length (Some mark) [] = refl
framed_length (Some mark) (b ∷ bs) = block-length mark (b ∷ bs)

frame_most : (mark : Option ℕ) (bytes : List ℕ) → frame_bytes mark bytes ≤ FRAME_BYTES
frame_most None bytes = omega arith
frame_most (Some mark) [] = omega arith
frame_most (Some mark) (b ∷ bs) = omega arith

-- a list without a length is empty
empty : (bytes : List ℕ) → length bytes ≡ 0 → bytes ≡ []
empty [] none = refl
empty (b ∷ bs) none = absurd (omega (arith, none))

-- what stayed behind records: these are none, or all have few bytes
pub few_or_none : (before : ℕ) (new appended : Buffer) → new ≡ appended → (held : Buffer) → before ≡ length held.records → (before ≡ 0) ⊎ (length appended.records ≤ SMALL_BODY)
    → (length held.records ≡ 0) ⊎ (length new.records ≤ SMALL_BODY)
few_or_none before new appended same held is (inl none) = inl (sym is ∙ none)
few_or_none before new appended same held is (inr few) = inr (omega (arith, few, ap (λ (b : Buffer). length b.records) same))

-- held records and one more are small if they were none or have few bytes
pub still_small : (r : Logged) (held bytes : List ℕ) → IsSmall held → bytes ≡ held ++ spelling r → (length held ≡ 0) ⊎ (length bytes ≤ SMALL_BODY) → IsSmall bytes
still_small r held bytes was is (inl none) = record {
  records = r ∷ [];
  spelled = is ∙ ap (λ (l : List ℕ). l ++ spelling r) (empty held none) ∙ sym (append-nil (spelling r));
  small = inr refl;
}
still_small r held bytes was is (inr few) = record {
  records = was.records ++ r ∷ [];
  spelled = is ∙ ap (λ (l : List ℕ). l ++ spelling r) was.spelled ∙ ap (λ (l : List ℕ). flat_map spelling was.records ++ l) (sym (append-nil (spelling r))) ∙ sym (flat_map-append spelling was.records (r ∷ []));
  small = inl (omega (arith, few));
}

-- a record that there is room for fits into the file, and into a block
pub still_fits : (w : Writer) (r : Logged) (bytes : List ℕ) → HasRoom w → IsLawful widest r → bytes ≡ w.buffer ++ spelling r → (length w.buffer ≡ 0) ⊎ (length bytes ≤ SMALL_BODY)
    → (w.size + (length bytes - length w.buffer) + w.frames + frame_bytes w.mark bytes ≤ MOST_BYTES) × (length bytes ≤ MOST_BODY)
still_fits w r bytes room lawful is few =
    let long = spelled_length r lawful in
    let all = ap length is ∙ length-append w.buffer (spelling r) in (
      omega (arith, room, long, all, frame_most w.mark bytes),
      elim few as (λ _. length bytes ≤ MOST_BODY) [
        | inl none ↦ omega (arith, none, long, all)
        | inr few ↦ omega (arith, few)
      ],
    )

-- ---- files of blocks

joined_more : (bodies : List (List ℕ)) (body : List ℕ) → joined (bodies ++ body ∷ []) ≡ joined bodies ++ body
joined_more bodies body = flat_map-append (λ (b : List ℕ). b) bodies (body ∷ []) ∙ ap (λ (l : List ℕ). joined bodies ++ l) (append-nil body)

blocks_more : (mark : ℕ) (bodies : List (List ℕ)) (body : List ℕ) → blocks mark (bodies ++ body ∷ []) ≡ blocks mark bodies ++ block mark body
blocks_more mark bodies body = flat_map-append (block mark) bodies (body ∷ []) ∙ ap (λ (l : List ℕ). blocks mark bodies ++ l) (append-nil (block mark body))

-- one more block
file_more : (file : List ℕ) (header : Header) (bodies : List (List ℕ)) (body : List ℕ) → IsFile file header bodies [] → IsBody body
    → IsFile (file ++ block (mark_in header) body) header (bodies ++ body ∷ []) []
file_more file header bodies body is is_body =
    let mark = mark_in header in
    let front = header_bytes header in
    let before : file ≡ front ++ blocks mark bodies = is.begins.spelled ∙ ap (λ (l : List ℕ). front ++ l) (append-nil (blocks mark bodies)) in
    let after : blocks mark bodies ++ block mark body ≡ blocks mark (bodies ++ body ∷ []) ++ [] = sym (blocks_more mark bodies body) ∙ sym (append-nil (blocks mark (bodies ++ body ∷ []))) in record {
      begins = record {
        spelled = ap (λ (l : List ℕ). l ++ block mark body) before ∙ append_assoc front (blocks mark bodies) (block mark body) ∙ ap (λ (l : List ℕ). front ++ l) after;
        is_header = is.begins.is_header;
        are_bodies = All-append IsBody bodies (body ∷ []) is.begins.are_bodies (All-cons IsBody body [] is_body (All-nil IsBody));
      };
      ends = inl refl;
    }

-- a file of blocks to which the block of these records was appended
blocks_appended : (mark : ℕ) (head : Head) (rs ss : List Logged) (body file : List ℕ) → body ≡ flat_map spelling ss → IsFileOfBlocks mark head rs file → IsBody body
    → IsFileOfBlocks mark head (rs ++ ss) (file ++ framed (Some mark) body)
blocks_appended mark head rs ss [] file same is is_body =
    let text : joined is.bodies ≡ flat_map spelling (rs ++ ss) =
    is.is_text ∙ sym (append-nil (flat_map spelling rs)) ∙ ap (λ (l : List ℕ). flat_map spelling rs ++ l) same ∙ sym (flat_map-append spelling rs ss) in record {
      header = is.header;
      bodies = is.bodies;
      is_file = subst (λ (l : List ℕ). IsFile l is.header is.bodies []) (sym (append-nil file)) is.is_file;
      is_mark = is.is_mark;
      is_head = is.is_head;
      is_text = text;
    }
blocks_appended mark head rs ss (b ∷ bs) file same is is_body =
    let body = b ∷ bs in record {
      header = is.header;
      bodies = is.bodies ++ body ∷ [];
      is_file = subst (λ (m : ℕ). IsFile (file ++ block m body) is.header (is.bodies ++ body ∷ []) []) (sym is.is_mark) (file_more file is.header is.bodies body is.is_file is_body);
      is_mark = is.is_mark;
      is_head = is.is_head;
      is_text = joined_more is.bodies body ∙ (λ i. is.is_text i ++ same i) ∙ sym (flat_map-append spelling rs ss);
    }

-- a file to which these records were appended by one write
pub file_appended : (mark : Option ℕ) (head : Head) (rs ss : List Logged) (body file : List ℕ) → body ≡ flat_map spelling ss → IsFileWith mark head rs file
    → IfSome mark (λ m. IsBody body) → IsFileWith mark head (rs ++ ss) (file ++ framed mark body)
file_appended None head rs ss body file same is is_body = (λ i. is i ++ same i) ∙ sym (more_bytes head rs ss)
file_appended (Some mark) head rs ss body file same is is_body = blocks_appended mark head rs ss body file same is is_body

-- ---- files of writers

-- what is taken, appended to the file
pub taken_is_file : (w new : Writer) (j : Journal) (file bytes : List ℕ) → Keeps w j → IsFileOf w j file → IfSome w.mark (λ m. IsBody w.buffer) → bytes ≡ framed w.mark w.buffer
    → new.mark ≡ w.mark → new.taken_size ≡ w.size → new.frames ≡ w.frames + frame_bytes w.mark w.buffer → IsFileOf new (taking j) (file ++ bytes)
taken_is_file w new j file bytes keeps is is_body are mark size frames =
    let out : handed_out j ++ j.held ≡ handed_out (taking j) = append_assoc j.synced j.taken j.held in
    let same : file ++ framed w.mark w.buffer ≡ file ++ bytes = ap (λ (l : List ℕ). file ++ l) (sym are) in
    let text = ap length (more_bytes j.head (handed_out j) j.held) ∙ length-append (log_bytes j.head (handed_out j)) (flat_map spelling j.held) in record {
      is_file = subst (λ (x : Option ℕ × (List Logged × List ℕ)). IsFileWith x.0 j.head x.1.0 x.1.1) (λ i. (sym mark i, (out i, same i)))
          (file_appended w.mark j.head (handed_out j) j.held w.buffer file keeps.buffer is.is_file is_body);
      size = omega (arith, length-append file bytes, ap length are, framed_length w.mark w.buffer, is.size, size, frames, text, keeps.size, keeps.taken_size, ap length keeps.buffer);
    }

-- the record of a mark is a body
mark_body : (time : ℕ) → IsBody (spelling (mark_of time))
mark_body time =
    let four = are_big 4 9 in
    let are : AreBytes (body (mark_of time)) = All-cons (λ (b : ℕ). b < 2 ^ 8) 3 (big_bytes 8 time) (omega arith) (are_big 8 time) in
    (both (big_bytes 4 9) (body (mark_of time) ++ big_bytes 4 9) four (both (body (mark_of time)) (big_bytes 4 9) are four), omega arith)

-- the file that a new log is
pub begun_is_file : (new : NewFile) (w : Writer) (head : Head) → Begins new head → w.mark ≡ Some (mark_in new.header) → w.taken_size ≡ 37 → w.frames ≡ 40
    → IsFileOf w (begun head new.mark) new.bytes
begun_is_file new w head begins mark size frames =
    let is_body = mark_body new.mark in
    let header = new.header in
    let none : IsFile (header_bytes header) header [] [] = record {
      begins = record { spelled = sym (append-nil (header_bytes header)); is_header = begins.is_header; are_bodies = All-nil IsBody };
      ends = inl refl;
    } in
    let empty : IsFileOfBlocks (mark_in header) (text_head header) [] (header_bytes header) = record { header = header; bodies = []; is_file = none; is_mark = refl; is_head = refl; is_text = refl } in
    let record_bytes = spelling (mark_of new.mark) in
    let with_mark : IsFileWith (Some (mark_in header)) (text_head header) (mark_of new.mark ∷ []) (header_bytes header ++ block (mark_in header) record_bytes) =
    blocks_appended (mark_in header) (text_head header) [] (mark_of new.mark ∷ []) record_bytes (header_bytes header) (sym (append-nil record_bytes)) empty is_body in record {
      is_file = subst (λ (x : Option ℕ × (Head × List ℕ)). IsFileWith x.0 x.1.0 (mark_of new.mark ∷ []) x.1.1) (λ i. (sym mark i, (sym begins.text i, sym begins.bytes i))) with_mark;
      size = omega (arith, ap length begins.bytes, length-append (header_bytes header) (block (mark_in header) record_bytes), block-length (mark_in header) record_bytes, size, frames, header-length header);
    }

-- ---- a log that was resumed

no_end : (end : List ℕ) → false ≡ is_torn end → end ≡ []
no_end [] none = refl
no_end (x ∷ xs) none = absurd (false≢true none)

-- a whole file is a file of its records
whole_file : (mark : Option ℕ) (bytes text : List ℕ) (head : Head) (records : List Logged) → HasMark mark bytes → Opens bytes text false → IsHead head → text ≡ log_bytes head records
    → IsFileWith mark head records bytes
whole_file None bytes text head records plain (inl own) is_head spelled = sym own.0.1 ∙ spelled
whole_file None bytes text head records plain (inr is) is_head spelled = absurd (plain is.header (blocks (mark_in is.header) is.bodies ++ is.end) is.is_file.begins.is_header is.is_file.begins.spelled)
whole_file (Some mark) bytes text head records (header, more, is_header, begins, same) (inl own) is_head spelled = absurd (own.0.0 (header_sealed bytes header more begins))
whole_file (Some mark) bytes text head records (header, more, is_header, begins, same) (inr is) is_head spelled =
    let end : is.end ≡ [] = no_end is.end is.ends in
    let split = same_split (header_bytes is.header) (header_bytes header) (blocks (mark_in is.header) is.bodies ++ is.end) more (same_size is.header header) (sym is.is_file.begins.spelled ∙ begins) in
    let one : is.header ≡ header = same_header is.header header is.is_file.begins.is_header is_header split.0 in
    let heads = same_head (text_head is.header) head (joined is.bodies) (flat_map spelling records)
    (record { from = is.is_file.begins.is_header.from; segment = (refl, is.is_file.begins.is_header.worker, is.is_file.begins.is_header.segment) }) is_head (sym is.is_text ∙ spelled) in record {
      header = is.header;
      bodies = is.bodies;
      is_file = subst (IsFile bytes is.header is.bodies) end is.is_file;
      is_mark = same ∙ ap mark_in (sym one);
      is_head = sym heads.0;
      is_text = heads.1;
    }

pub resumed_is_file : (front : LogFront) (bytes : List ℕ) (records : List Logged) (w : Writer) (mark : Option ℕ) (size : ℕ) → IsFrontOf bytes records front → MayGoOn front size → HasMark mark bytes
    → size ≡ length bytes → w ≡ record { mark = mark; buffer = []; last = front.latest; taken = front.latest; reach = front.latest; size = front.bytes; taken_size = front.bytes; synced_size = front.bytes; frames = size - front.bytes; segment = front.head.segment; failed = false }
    → IsFileOf w (read_back front.head records) bytes
resumed_is_file front bytes records w mark size is may has all same =
    let out : records ≡ handed_out (read_back front.head records) = sym (append-nil records) in
    let rest : Opens bytes is.text false × (is.rest ≡ []) = subst (IsRest bytes is.text (limits_of front.head.format) (latest 0 records) is.rest) may.rest is.is_rest in
    let text : is.text ≡ log_bytes front.head records = is.spelled ∙ ap (λ (l : List ℕ). log_bytes front.head records ++ l) rest.1 ∙ append-nil (log_bytes front.head records) in
    let file = whole_file mark bytes is.text front.head records has rest.0 is.is_head text in record {
      is_file = subst (λ (x : Option ℕ × List Logged). IsFileWith x.0 front.head x.1 bytes) (λ i. (sym (ap (λ (v : Writer). v.mark) same) i, out i)) file;
      size = omega (arith, ap (λ (v : Writer). v.taken_size) same, ap (λ (v : Writer). v.frames) same, all, may.text);
    }

-- ---- texts

-- a file of these records contains their text
pub file_opens : (mark : Option ℕ) (head : Head) (records : List Logged) (bytes : List ℕ) → IsFileWith mark head records bytes → Opens bytes (log_bytes head records) false
file_opens None head records bytes is = inl ((λ sealed. (plain_own bytes head (flat_map spelling records) is).0 sealed, sym is), refl)
file_opens (Some mark) head records bytes is = inr (record {
  header = is.header;
  bodies = is.bodies;
  end = [];
  is_file = is.is_file;
  is_text = (λ i. head_bytes (is.is_head i) ++ sym is.is_text i);
  ends = refl;
})
