-- What a crash leaves of a file of blocks.
use Rattle.std.proofs.Common.{◌≡◌, ◌⊎◌, inl, inr, ℕ, ◌<◌, false, List, [], ◌++◌, length, Contains, refl, sym, ap, ◌∙◌, subst, append_assoc}
use Rattle.std.proofs.lemmas.List.{append-nil}
use Rattle.std.specs.List.{flat_map}
use Rattle.mt_words.specs.Changes.{Logged}
use Rattle.mt_block.specs.Blocks.{header_bytes, mark_of, block, blocks, IsBody, HasNoHead, IsTornEnd}
use Rattle.mt_block.proofs.Files.{anything_is_an_end, beginning_is_an_end}
use Rattle.mt_record.specs.Opening.{is_torn, Opens}
use Rattle.mt_record.specs.Heads.{head_bytes}
use Rattle.mt_record.specs.Spelling.{spelling}
use Rattle.mt_record.specs.Logs.{log_bytes}
use Rattle.mt_writer.specs.Framing.{IsFileOfBlocks}
use Rattle.mt_writer.specs.Files.{OpenFile, IsCutOf}
use Rattle.mt_writer.specs.Journals.{Journal, Writer, Keeps, file_of, handed_out}
use Rattle.mt_writer.proofs.JournalLemmas.{cut_of}
use Rattle.mt_laws.specs.Lives.{IsBehind, IsLeftOf}
use Rattle.mt_laws.specs.Writing.{IsNewest, HasBlocks}

-- the end of a file: nothing, or torn
abbrev pub IsEnd : ℕ → List ℕ → Type 0
IsEnd mark end = (end ≡ []) ⊎ IsTornEnd mark end

-- a file of blocks, and an end behind it
opens_with : (mark : ℕ) (records : List Logged) (j : Journal) (file end : List ℕ) → IsFileOfBlocks mark j.head records file → IsEnd mark end
    → Opens (file ++ end) (log_bytes j.head records) (is_torn end)
opens_with mark records j file end is ends =
    let front = header_bytes is.header in
    let middle = blocks (mark_of is.header) is.bodies in
    let whole : file ≡ front ++ middle = is.is_file.begins.spelled ∙ ap (λ (l : List ℕ). front ++ l) (append-nil middle) in
    inr (record {
      header = is.header;
      bodies = is.bodies;
      end = end;
      is_file = record {
        begins = record {
          spelled = ap (λ (l : List ℕ). l ++ end) whole ∙ append_assoc front middle end;
          is_header = is.is_file.begins.is_header;
          are_bodies = is.is_file.begins.are_bodies;
        };
        ends = subst (λ (m : ℕ). IsEnd m end) is.is_mark ends;
      };
      is_text = λ i. head_bytes (is.is_head i) ++ sym is.is_text i;
      ends = refl;
    })

-- only a file that no later segment follows has an end
abbrev MayEnd : List OpenFile → Journal → List ℕ → Type 0
MayEnd files j end = (end ≡ []) ⊎ IsNewest files (file_of j)

not_torn : (files : List OpenFile) (j : Journal) (end : List ℕ) → MayEnd files j end → (later : OpenFile) → Contains files later → IsBehind (file_of j) later → is_torn end ≡ false
not_torn files j end (inl none) later at behind = ap is_torn none
not_torn files j end (inr newest) later at behind = absurd (newest later at behind)

left_with : (files : List OpenFile) (w : Writer) (j : Journal) (mark : ℕ) (file end : List ℕ) → Keeps w j → HasBlocks mark j file → IsEnd mark end → MayEnd files j end
    → IsLeftOf files (file_of j) (file ++ end)
left_with files w j mark file end keeps (inl is) ends may = record {
  text = log_bytes j.head j.synced;
  torn = is_torn end;
  opens = opens_with mark j.synced j file end is ends;
  synced = subst (λ (rs : List Logged). IsCutOf (log_bytes j.head j.synced) (log_bytes j.head rs)) (append-nil j.synced) (cut_of j.head j.synced [] keeps.is_head);
  written = subst (λ (rs : List Logged). IsCutOf (log_bytes j.head j.synced) (log_bytes j.head rs)) (sym (append_assoc j.synced j.taken j.held)) (cut_of j.head j.synced (j.taken ++ j.held) keeps.is_head);
  whole = not_torn files j end may;
}
left_with files w j mark file end keeps (inr is) ends may = record {
  text = log_bytes j.head (handed_out j);
  torn = is_torn end;
  opens = opens_with mark (handed_out j) j file end is ends;
  synced = cut_of j.head j.synced j.taken keeps.is_head;
  written = cut_of j.head (handed_out j) j.held keeps.is_head;
  whole = not_torn files j end may;
}

-- ---- the law

-- the mark is that of the file's header
mark_is : (mark : ℕ) (j : Journal) (file end : List ℕ) → HasBlocks mark j file → ((records : List Logged) → (is : IsFileOfBlocks mark j.head records file) → IsEnd (mark_of is.header) end) → IsEnd mark end
mark_is mark j file end (inl is) ends = subst (λ (m : ℕ). IsEnd m end) (sym is.is_mark) (ends j.synced is)
mark_is mark j file end (inr is) ends = subst (λ (m : ℕ). IsEnd m end) (sym is.is_mark) (ends (handed_out j) is)

pub whole_left : (files : List OpenFile) (w : Writer) (j : Journal) (mark : ℕ) (file : List ℕ) → Keeps w j → HasBlocks mark j file → IsLeftOf files (file_of j) file
whole_left files w j mark file keeps has =
    subst (IsLeftOf files (file_of j)) (append-nil file) (left_with files w j mark file [] keeps has (inl refl) (inl refl))

pub torn_left : (files : List OpenFile) (w : Writer) (j : Journal) (mark : ℕ) (file left : List ℕ) → Keeps w j → HasBlocks mark j file → IsNewest files (file_of j) → IsTornEnd mark left
    → IsLeftOf files (file_of j) (file ++ left)
torn_left files w j mark file left keeps has newest torn = left_with files w j mark file left keeps has (inr torn) (inr newest)

pub anything_left : (files : List OpenFile) (w : Writer) (j : Journal) (mark : ℕ) (file left : List ℕ) → Keeps w j → HasBlocks mark j file → IsNewest files (file_of j) → HasNoHead mark left
    → IsLeftOf files (file_of j) (file ++ left)
anything_left files w j mark file left keeps has newest none =
    let ends = mark_is mark j file left has (λ records is. (anything_is_an_end is.header is.bodies left is.is_file.begins.is_header is.is_file.begins.are_bodies
    (subst (λ (m : ℕ). HasNoHead m left) is.is_mark none)).ends) in
    left_with files w j mark file left keeps has ends (inr newest)

pub part_left : (files : List OpenFile) (w : Writer) (j : Journal) (mark : ℕ) (file left lost : List ℕ) → Keeps w j → HasBlocks mark j file → IsNewest files (file_of j)
    → IsBody (flat_map spelling j.taken) → block mark (flat_map spelling j.taken) ≡ left ++ lost → 0 < length lost → IsLeftOf files (file_of j) (file ++ left)
part_left files w j mark file left lost keeps has newest is_body e some =
    let ends = mark_is mark j file left has (λ records is. (beginning_is_an_end is.header is.bodies (flat_map spelling j.taken) left lost is.is_file.begins.is_header is.is_file.begins.are_bodies is_body
    (ap (λ (m : ℕ). block m (flat_map spelling j.taken)) (sym is.is_mark) ∙ e) some).ends) in
    left_with files w j mark file left keeps has ends (inr newest)
