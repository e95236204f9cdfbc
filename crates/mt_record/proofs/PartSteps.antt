-- The header, the blocks and the chunks of a file of a part, one after the other.
use Rattle.std.proofs.Common.{◌≡◌, inl, inr, ℕ, ◌<◌, Some, List, [], ◌∷◌, ◌++◌, length, refl, sym, ap, ◌∙◌, subst, append_assoc, arith}
use Rattle.std.specs.Prelude.{codes}
use Rattle.std.proofs.lemmas.Option.{none-some}
use Rattle.std.proofs.lemmas.List.{append-nil, flat_map_more}
use Rattle.std.proofs.lemmas.List.Elements.{All-nil, All-cons, All-append}
use Rattle.mt_words.specs.declared.record.Change.{Change}
use Rattle.mt_words.specs.Limits.{widest_format}
use Rattle.mt_block.specs.declared.part_header.PartHeader.{PartHeader}
use Rattle.mt_block.specs.Blocks.{IsBody, IsNext, block, blocks}
use Rattle.mt_block.specs.Parts.{IsPartHeader, part_header_bytes, part_mark}
use Rattle.mt_block.proofs.Heads.{block-length}
use Rattle.mt_block.proofs.PartHeaders.{part_header-length}
use Rattle.mt_record.specs.declared.part_text.PartHead.{PartHead}
use Rattle.mt_record.specs.declared.feed.file_feed.FileKind.{FileKind}
use Rattle.mt_record.specs.declared.feed.file_feed.FileKind.TheVariants as kinds
use Rattle.mt_record.specs.declared.feed.part_file.PartFile.{PartFile}
use Rattle.mt_record.specs.Opening.{joined}
use Rattle.mt_record.specs.Parts.{part_head, part_head_bytes, IsSealedPart, part_text_head, part_text_of}
use Rattle.mt_record.specs.Feeding.{Reads}
use Rattle.mt_record.specs.PartFeeding.{IsPlainPart, PartFileSoFar, part_file, IsPartTextFed, IsUnread, HoldsPartBlocks, HoldsPartAs, HoldsPartFile, IsUntoldPart}
use Rattle.mt_record.proofs.Feeds.{apart, front_read}
use Rattle.mt_block.proofs.Seals.{joined_more}
use Rattle.mt_record.proofs.PartFiles.{plain_part_on}
use Rattle.mt_record.proofs.PartFeeds.{text_is_head}

-- ---- the first bytes

-- a beginning of the magic that is not the magic tells nothing
pub told_nothing : (bytes more : List ℕ) → codes "MTC4" ≡ bytes ++ more → (IsSealedPart bytes → ⊥) → IsUntoldPart bytes
told_nothing bytes [] e not_sealed = absurd (not_sealed (record { more = []; spelled = sym (append-nil bytes) ∙ sym e }))
told_nothing bytes (x ∷ xs) e not_sealed = inl (x ∷ xs, e, omega arith)

-- bytes that neither begin with the magic nor begin it are no part of format 4
pub tells_plain : (bytes : List ℕ) → (IsSealedPart bytes → ⊥) → ((more : List ℕ) → codes "MTC4" ≡ bytes ++ more → ⊥) → IsPlainPart bytes
tells_plain bytes not_sealed none more sealed = elim (apart (codes "MTC4") bytes sealed.more more (sym sealed.spelled)) as (λ _. ⊥) [
  | inl u ↦ none u.0 u.1
  | inr u ↦ not_sealed (record { more = u.0; spelled = u.1 })
]

some_plain : (bytes : List ℕ) → IsPlainPart bytes → 0 < length bytes
some_plain [] plain = absurd (plain (codes "MTC4") (record { more = []; spelled = refl }))
some_plain (x ∷ xs) plain = omega arith

-- ---- what is read of a file

-- a feed that has read nothing was fed nothing
pub unread_fed : (file : PartFileSoFar) → IsUnread file → IsPartTextFed file []
unread_fed file u = (
  λ _. (
    record {
      front = [];
      joins = sym u.held;
      read = record { spelled = rw (u.head, u.entries, u.end) refl; lawful = rw u.head (u.entries, u.end); fits = rw u.end tt };
    },
    rw (u.head, u.held) (record {
      head = part_head widest_format 0 0 0 0;
      more = part_head_bytes (part_head widest_format 0 0 0 0);
      is_head = record { number = omega arith; begin = omega arith; part = omega arith; parts = omega arith };
      some = omega arith;
      begun = refl;
    }),
  ),
  λ fault some. absurd (none-some fault (sym u.fault ∙ some)),
)

-- a plain file begins with these bytes
pub plain_begun : (old new : PartFileSoFar) (before bytes : List ℕ) → old.kind ≡ kinds.Untold → new.kind ≡ kinds.Plain → IsPlainPart bytes → (IsPartTextFed old [] → IsPartTextFed new bytes) → HoldsPartFile old before
    → HoldsPartFile new (before ++ bytes)
plain_begun old new before bytes was is plain fed h =
    let u : (before ≡ []) × IsUnread old = subst (λ (k : FileKind). HoldsPartAs k old before) was h in
    subst (λ (l : List ℕ). HoldsPartFile new (l ++ bytes)) (sym u.0) (subst (λ (k : FileKind). HoldsPartAs k new bytes) (sym is) (plain, fed (unread_fed old u.1)))

-- further bytes of a plain file
pub plain_more : (old new : PartFileSoFar) (before bytes : List ℕ) → old.kind ≡ kinds.Plain → new.kind ≡ kinds.Plain → ((text : List ℕ) → IsPartTextFed old text → IsPartTextFed new (text ++ bytes)) → HoldsPartFile old before
    → HoldsPartFile new (before ++ bytes)
plain_more old new before bytes was is fed h =
    let u : IsPlainPart before × IsPartTextFed old before = subst (λ (k : FileKind). HoldsPartAs k old before) was h in
    subst (λ (k : FileKind). HoldsPartAs k new (before ++ bytes)) (sym is) (plain_part_on before bytes u.0, fed before u.1)

-- the text of a file of format 4 begins with its header
text_begins : (file : PartFileSoFar) (header : PartHeader) → IsPartHeader header → IsUnread file → IsPartTextFed (record file { so_far = record file.so_far { head = Some (part_text_head header) } }) (part_text_of header [])
text_begins file header is u = (
  λ _. (
    record {
      front = part_text_of header [];
      joins = sym (append-nil (part_text_of header [])) ∙ ap (λ (l : List ℕ). part_text_of header [] ++ l) (sym u.held);
      read = record { spelled = rw (u.entries, u.end) refl; lawful = (text_is_head header is, rw u.entries tt); fits = rw u.end tt };
    },
    inl u.held,
  ),
  λ fault some. absurd (none-some fault (sym u.fault ∙ some)),
)

-- a file of format 4 begins with this header
pub blocks_begun : (file : PartFileSoFar) (header : PartHeader) (mark : ℕ) (before : List ℕ) → file.kind ≡ kinds.Untold → IsPartHeader header → mark ≡ part_mark header → HoldsPartFile file before
    → HoldsPartBlocks (record file { kind = kinds.Blocks; mark = mark; so_far = record file.so_far { head = Some (part_text_head header) } }) (before ++ part_header_bytes header)
blocks_begun file header mark before was is same h =
    let u : (before ≡ []) × IsUnread file = subst (λ (k : FileKind). HoldsPartAs k file before) was h in
    record {
      header = header;
      bodies = [];
      begins = record { spelled = ap (λ (l : List ℕ). l ++ part_header_bytes header) u.0 ∙ sym (append-nil (part_header_bytes header)); is_header = is; are_bodies = All-nil IsBody };
      same = same;
      fed = text_begins file header is u.1;
    }

-- a further block of it
pub block_more : (old new : PartFileSoFar) (before body : List ℕ) → old.kind ≡ kinds.Blocks → new.kind ≡ kinds.Blocks → new.mark ≡ old.mark → IsBody body
    → ((text : List ℕ) → IsPartTextFed old text → IsPartTextFed new (text ++ body)) → HoldsPartFile old before → HoldsPartFile new (before ++ block old.mark body)
block_more old new before body was is mark is_body fed h =
    let u : HoldsPartBlocks old before = subst (λ (k : FileKind). HoldsPartAs k old before) was h in
    let m = part_mark u.header in
    let head = part_head_bytes (part_text_head u.header) in
    let text : part_text_of u.header u.bodies ++ body ≡ part_text_of u.header (u.bodies ++ body ∷ []) = append_assoc head (joined u.bodies) body ∙ ap (λ (l : List ℕ). head ++ l) (sym (joined_more u.bodies body)) in
    subst (λ (k : FileKind). HoldsPartAs k new (before ++ block old.mark body)) (sym is) (record {
      header = u.header;
      bodies = u.bodies ++ body ∷ [];
      begins = record {
        spelled = (λ i. u.begins.spelled i ++ block (u.same i) body)
            ∙ ap (λ (l : List ℕ). (part_header_bytes u.header ++ l) ++ block m body) (append-nil (blocks m u.bodies))
            ∙ flat_map_more (block m) (part_header_bytes u.header) u.bodies body
            ∙ ap (λ (l : List ℕ). part_header_bytes u.header ++ l) (sym (append-nil (blocks m (u.bodies ++ body ∷ []))));
        is_header = u.begins.is_header;
        are_bodies = All-append IsBody u.bodies (body ∷ []) u.begins.are_bodies (All-cons IsBody body [] is_body (All-nil IsBody));
      };
      same = mark ∙ u.same;
      fed = subst (IsPartTextFed new) text (fed (part_text_of u.header u.bodies) u.fed);
    })

-- ---- steps

-- all bytes are read as those of a plain file
pub all_read : {E : Type 0} (listed : E → List Change) (old new : PartFile E) (bytes : List ℕ) → 0 < length bytes
    → ((before : List ℕ) → HoldsPartFile (part_file listed old) before → HoldsPartFile (part_file listed new) (before ++ bytes))
    → Reads (λ (taken : Unit {0}) file. HoldsPartFile (part_file listed file)) old new bytes [] × (0 < length bytes)
all_read listed old new bytes some on = (record { front = bytes; joins = sym (append-nil bytes); read = λ taken before h. on before h }, some)

pub plain_read : {E : Type 0} (listed : E → List Change) (old new : PartFile E) (bytes : List ℕ) → old.kind ≡ kinds.Untold → new.kind ≡ kinds.Plain → IsPlainPart bytes
    → (IsPartTextFed (part_file listed old) [] → IsPartTextFed (part_file listed new) bytes)
    → Reads (λ (taken : Unit {0}) file. HoldsPartFile (part_file listed file)) old new bytes [] × (0 < length bytes)
plain_read listed old new bytes was is plain fed = all_read listed old new bytes (some_plain bytes plain) (λ before h. plain_begun (part_file listed old) (part_file listed new) before bytes was is plain fed h)

pub header_read : {E : Type 0} (listed : E → List Change) (old : PartFile E) (header : PartHeader) (head : PartHead) (mark : ℕ) (bytes after : List ℕ) → old.kind ≡ kinds.Untold → IsPartHeader header
    → bytes ≡ part_header_bytes header ++ after → mark ≡ part_mark header → head ≡ part_text_head header
    → Reads (λ (taken : Unit {0}) file. HoldsPartFile (part_file listed file)) old (record old { kind = kinds.Blocks; mark = mark; text = record old.text { items = record old.text.items { head = Some head } } }) bytes after
    × (length after < length bytes)
header_read listed old header head mark bytes after was is e same same_head =
    rw same_head (front_read (λ (taken : Unit {0}) file. HoldsPartFile (part_file listed file)) old
    (record old { kind = kinds.Blocks; mark = mark; text = record old.text { items = record old.text.items { head = Some (part_text_head header) } } })
    (part_header_bytes header) bytes after e (omega (arith, part_header-length header)) (λ taken before h. blocks_begun (part_file listed old) header mark before was is same h))

pub block_read : {E : Type 0} (listed : E → List Change) (old new : PartFile E) (bytes body after : List ℕ) → IsNext old.mark bytes body after → old.kind ≡ kinds.Blocks → new.kind ≡ kinds.Blocks → new.mark ≡ old.mark
    → ((text : List ℕ) → IsPartTextFed (part_file listed old) text → IsPartTextFed (part_file listed new) (text ++ body))
    → Reads (λ (taken : Unit {0}) file. HoldsPartFile (part_file listed file)) old new bytes after × (length after < length bytes)
block_read listed old new bytes body after next was is mark fed =
    front_read (λ (taken : Unit {0}) file. HoldsPartFile (part_file listed file)) old new (block old.mark body) bytes after next.spelled (omega (arith, block-length old.mark body)) (λ taken before h.
    block_more (part_file listed old) (part_file listed new) before body was is mark next.is_body fed h)
