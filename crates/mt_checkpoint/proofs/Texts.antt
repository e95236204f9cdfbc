-- What one more entry adds to the bytes of a part.
use Rattle.std.proofs.Common.{◌≡◌, Option, subst, ℕ, zero, suc, ◌+◌, List, [], ◌∷◌, ◌++◌, length, take, refl, sym, ap, ◌∙◌, arith, length-append}
use Rattle.std.proofs.lemmas.List.{append-nil}
use Rattle.std.proofs.lemmas.List.Concat.{flat_map-append}
use Rattle.std.proofs.Math.Seq.{take-nil}
use Rattle.std.specs.Io.KnownBytes.{Appends}
use Rattle.mt_block.specs.declared.part_header.PartHeader.{PartHeader}
use Rattle.mt_block.specs.Blocks.{blocks}
use Rattle.mt_block.specs.Parts.{IsPartHeader, part_header_bytes, part_mark}
use Rattle.mt_block.specs.Sealing.{joined, bodies_of, IsSealing}
use Rattle.byteorder.specs.Endian.{big_bytes}
use Rattle.mt_words.specs.declared.record.Change.{Change}
use Rattle.mt_words.specs.Walks.{Pair}
use Rattle.mt_words.specs.Built.{entry_of}
use Rattle.mt_record.specs.Spelling.{change_bytes}
use Rattle.mt_record.specs.Parts.{entry_spelling, footer_bytes}
use Rattle.mt_checkpoint.specs.Checkpoints.{Checkpoint, entries_text, pairs_of, part_header, IsPartFile}
use Rattle.mt_checkpoint.specs.Steps.Planning.{size_of}
use Rattle.mt_checkpoint.specs.Steps.Writing.{text_both, AreBlocksOf, HaveSealed, HaveWrittenAll, both_sealed}
use Rattle.mt_checkpoint.specs.declared.entries.Rest.{Rest}

-- the frame of an entry has eight bytes
spelling_length : (change : Change) → length (entry_spelling change) ≡ 8 + length (change_bytes change)
spelling_length change = omega (arith, length-append (change_bytes change) (big_bytes 4 (length (change_bytes change))))

-- the size of a part with one more pair
pub size_more : (version : ℕ) (pairs : List Pair) (pair : Pair) (fields : ℕ) → fields ≡ length (change_bytes (entry_of version pair.0 pair.1))
    → size_of version (pairs ++ pair ∷ []) ≡ size_of version pairs + (8 + fields)
size_more version pairs pair fields is =
    let entry = entry_of version pair.0 pair.1 in
    omega (
      arith,
      is,
      spelling_length entry,
      length-append (entry_spelling entry) [],
      ap (λ (bytes : List ℕ). length bytes) (text_both version pairs (pair ∷ [])),
      length-append (entries_text version pairs) (entries_text version (pair ∷ [])),
    )

-- the first of some pairs that are left is the one pair
pub one_text : (version left : ℕ) (pair : Pair) → (left ≡ 0 → ⊥) → entry_spelling (entry_of version pair.0 pair.1) ≡ entries_text version (take left (pair ∷ []))
one_text version zero pair some = absurd (some refl)
one_text version (suc left) pair some =
    sym (append-nil (entry_spelling (entry_of version pair.0 pair.1))) ∙ ap (λ (pairs : List Pair). entries_text version (pair ∷ pairs)) (sym (take-nil left))

-- ---- blocks

-- bytes came in, and were sealed with the others
pub added_sealed : {W : Type 0} (contents : W → Option (List ℕ)) (old mid new : Rest W) (text : List ℕ) → mid.out.ghost_name ≡ old.out.ghost_name → mid.out.now ≡ old.out.now → mid.version ≡ old.version → mid.mark ≡ old.mark
    → mid.body.now.items ≡ old.body.now.items ++ text → HaveSealed contents mid new [] → HaveSealed contents old (record new { left = old.left }) text
added_sealed {W} contents old mid new text same_out now version mark added is = record {
  same_out = is.same_out ∙ same_out;
  version = is.version ∙ version;
  left = refl;
  mark = is.mark ∙ mark;
  bodies = is.bodies;
  are_bodies = is.are_bodies;
  joins = sym added ∙ sym (append-nil mid.body.now.items) ∙ is.joins;
  written =
      subst (λ (m : ℕ). Appends (contents old.out.now) (contents new.out.now) (blocks m is.bodies)) mark
      (subst (λ (w : W). Appends (contents w) (contents new.out.now) (blocks mid.mark is.bodies)) now is.written);
}

-- all bytes were sealed
pub now_sealed : {W : Type 0} (contents : W → Option (List ℕ)) (old new : Rest W) → new.out.ghost_name ≡ old.out.ghost_name → new.version ≡ old.version → new.left ≡ old.left → new.mark ≡ old.mark → new.body.now.items ≡ []
    → (sealed : List ℕ) (is : IsSealing old.mark old.body.now.items sealed) → Appends (contents old.out.now) (contents new.out.now) sealed → HaveSealed contents old new []
now_sealed contents old new same_out version left mark empty sealed is written = record {
  same_out = same_out;
  version = version;
  left = left;
  mark = mark;
  bodies = is.full ++ bodies_of is.left;
  are_bodies = is.are_bodies;
  joins =
      append-nil old.body.now.items
      ∙ is.joins
      ∙ ap (λ (l : List ℕ). joined is.full ++ l) (joined_left is.left)
      ∙ sym (flat_map-append (λ (body : List ℕ). body) is.full (bodies_of is.left))
      ∙ sym (append-nil (joined (is.full ++ bodies_of is.left)))
      ∙ ap (λ (l : List ℕ). joined (is.full ++ bodies_of is.left) ++ l) (sym empty);
  written = subst (Appends (contents old.out.now) (contents new.out.now)) is.spelled written;
}
  where
    joined_left : (left : List ℕ) → left ≡ joined (bodies_of left)
    joined_left [] = refl
    joined_left (b ∷ bs) = sym (append-nil (b ∷ bs))

-- entries were sealed, and then the bytes that were left of them and a footer
pub all_written : {W : Type 0} (contents : W → Option (List ℕ)) (old walked mid new : Rest W) (end count : ℕ) (pairs : List Pair) → HaveSealed contents old (record walked { left = old.left }) (entries_text old.version pairs)
    → mid.out.ghost_name ≡ walked.out.ghost_name → mid.out.now ≡ walked.out.now → mid.version ≡ walked.version → mid.mark ≡ walked.mark → mid.body.now.items ≡ walked.body.now.items ++ footer_bytes end count → count ≡ length pairs
    → HaveSealed contents mid new [] → new.body.now.items ≡ [] → HaveWrittenAll contents old new end pairs
all_written contents old walked mid new end count pairs first same_out now version mark added counted last empty =
    let n = old.left in
    let footer = subst (λ (k : ℕ). HaveSealed contents (record walked { left = n }) (record new { left = n }) (footer_bytes end k)) counted
    (added_sealed contents (record walked { left = n }) mid new (footer_bytes end count) same_out now version mark added last) in record {
      same_out = last.same_out ∙ same_out ∙ first.same_out;
      sealed = both_sealed contents old (record walked { left = n }) (record new { left = n }) (entries_text old.version pairs) (footer_bytes end (length pairs)) first footer;
      empty = empty;
    }

-- if all is written and nothing was there before, the blocks have these bytes; `out` is what the writer is when it is given back
pub only_blocks : {W : Type 0} (contents : W → Option (List ℕ)) (old new : Rest W) (out : W) (end : ℕ) (pairs : List Pair) → old.body.now.items ≡ [] → (old.out.ghost_name ≡ new.out.ghost_name → out ≡ new.out.now)
    → HaveWrittenAll contents old new end pairs → (sealed : List ℕ) × AreBlocksOf old.mark (entries_text old.version pairs ++ footer_bytes end (length pairs)) sealed × Appends (contents old.out.now) (contents out) sealed
only_blocks contents old new out end pairs none given is =
    let text = entries_text old.version pairs ++ footer_bytes end (length pairs) in (
      blocks old.mark is.sealed.bodies,
      record {
        bodies = is.sealed.bodies;
        are_bodies = is.sealed.are_bodies;
        joins = ap (λ (l : List ℕ). l ++ text) (sym none) ∙ is.sealed.joins ∙ ap (λ (l : List ℕ). joined is.sealed.bodies ++ l) is.empty ∙ append-nil (joined is.sealed.bodies);
        spelled = refl;
      },
      subst (λ w. Appends (contents old.out.now) (contents w) (blocks old.mark is.sealed.bodies)) (sym (given (sym is.same_out))) is.sealed.written,
    )

-- a header and the blocks of a part are its file
pub part_file : (salt : ℕ) (checkpoint : Checkpoint) (part : ℕ) (header : PartHeader) (pairs : List Pair) (front sealed : List ℕ) → header ≡ part_header salt checkpoint part → IsPartHeader header
    → pairs_of checkpoint part ≡ pairs → front ≡ part_header_bytes header → AreBlocksOf (part_mark header) (entries_text checkpoint.version pairs ++ footer_bytes checkpoint.cutoff (length pairs)) sealed
    → IsPartFile salt checkpoint part (front ++ sealed)
part_file salt checkpoint part header pairs front sealed same is_header here front_is are = record {
  bodies = are.bodies;
  begins = record {
    spelled =
        (λ i. front_is i ++ (are.spelled ∙ sym (append-nil (blocks (part_mark header) are.bodies))) i) ∙ ap (λ (h : PartHeader). part_header_bytes h ++ (blocks (part_mark h) are.bodies ++ [])) same;
    is_header = subst IsPartHeader same is_header;
    are_bodies = are.are_bodies;
  };
  joins = sym are.joins ∙ ap (λ (l : List Pair). entries_text checkpoint.version l ++ footer_bytes checkpoint.cutoff (length l)) (sym here);
}
