-- Files of format 4 that were opened.
use Rattle.std.proofs.Common.{◌≡◌, ◌⊎◌, inl, inr, ℕ, ◌+◌, ◌-◌, Bool, true, false, List, [], ◌∷◌, ◌++◌, length, refl, sym, ap, ◌∙◌, append_assoc, arith}
use Rattle.std.specs.Prelude.{◌==◌}
use Rattle.std.proofs.lemmas.List.{length-append, flat_map_more}
use Rattle.std.proofs.lemmas.List.Elements.{All-append, All-cons, All-nil}
use Rattle.mt_block.specs.declared.header.Header.{Header}
use Rattle.mt_block.specs.Blocks.{header_bytes, mark_of, block, IsBody, IsNext, IsCut, IsTornEnd, blocks, Begins}
use Rattle.mt_block.proofs.Heads.{head_long, block-length}
use Rattle.mt_record.specs.declared.open.FileEnd.TheVariants.{Nothing, Torn, Damaged}
use Rattle.mt_record.specs.declared.open.BlockAt.{BlockAt}
use Rattle.mt_record.specs.declared.open.OpenedFile.{OpenedFile}
use Rattle.mt_record.specs.Heads.{head_bytes}
use Rattle.mt_record.specs.Opening.{text_head, text_of, joined, is_torn, IsDamagedAfter, Opens}
use Rattle.mt_record.specs.OpenFiles.{places, IsOpened}
use Rattle.mt_record.proofs.Feeds.{nil_if_empty, some_if_not}
use Rattle.mt_block.proofs.Seals.{joined_more}
use Rattle.mt_record.proofs.Unsealing.{broken_some}
use Rattle.mt_record.proofs.Opened.{header-length}

-- ---- ends

pub end_is : (mark : ℕ) (rest : List ℕ) (empty : Bool) → empty ≡ (length rest == 0) → (rest ≡ []) ⊎ IsCut mark rest → (empty ≡ true → rest ≡ []) × (empty ≡ false → IsTornEnd mark rest)
end_is mark rest empty e ends = (nil_if_empty rest (length rest) empty refl e, λ some. by ends some)
  where
    by : (rest ≡ []) ⊎ IsCut mark rest → empty ≡ false → IsTornEnd mark rest
    by (inl none) some = absurd (some_if_not rest (length rest) empty refl e some none)
    by (inr cut) some = inl cut

-- ---- one more block

-- the bytes begin with one more block
pub begins_more : (bytes : List ℕ) (header : Header) (bodies : List (List ℕ)) (body rest after : List ℕ) → Begins bytes header bodies rest → IsNext (mark_of header) rest body after → Begins bytes header (bodies ++ body ∷ []) after
begins_more bytes header bodies body rest after begins next = record {
  spelled = begins.spelled
      ∙ ap (λ (l : List ℕ). header_bytes header ++ l)
      (ap (λ (l : List ℕ). blocks (mark_of header) bodies ++ l) next.spelled ∙ sym (append_assoc (blocks (mark_of header) bodies) (block (mark_of header) body) after)
      ∙ ap (λ (l : List ℕ). l ++ after) (flat_map_more (block (mark_of header)) [] bodies body));
  is_header = begins.is_header;
  are_bodies = All-append IsBody bodies (body ∷ []) begins.are_bodies (All-cons IsBody body [] next.is_body (All-nil IsBody));
}

pub text_more : (header : Header) (bodies : List (List ℕ)) (body : List ℕ) → text_of header bodies ++ body ≡ text_of header (bodies ++ body ∷ [])
text_more header bodies body = append_assoc (head_bytes (text_head header)) (joined bodies) body ∙ ap (λ (l : List ℕ). head_bytes (text_head header) ++ l) (sym (joined_more bodies body))

abbrev at : ℕ → ℕ → BlockAt
at file text = record { file = file; text = text }

-- where the next block stands
pub places_more : (mark file text : ℕ) (bodies : List (List ℕ)) (body : List ℕ)
    → places file text (bodies ++ body ∷ []) ≡ places file text bodies ++ at (file + length (blocks mark bodies)) (text + length (joined bodies)) ∷ []
places_more mark file text [] body =
    let f : file ≡ file + 0 = omega arith in
    let t : text ≡ text + 0 = omega arith in
    λ i. at (f i) (t i) ∷ []
places_more mark file text (b ∷ bs) body =
    let rest = places_more mark (file + (length b + 16)) (text + length b) bs body in
    let f : (file + (length b + 16)) + length (blocks mark bs) ≡ file + length (blocks mark (b ∷ bs)) = omega (arith, length-append (block mark b) (blocks mark bs), block-length mark b) in
    let t : (text + length b) + length (joined bs) ≡ text + length (joined (b ∷ bs)) = omega (arith, length-append b (joined bs)) in
    ap (λ (l : List BlockAt). at file text ∷ l) (rest ∙ (λ i. places (file + (length b + 16)) (text + length b) bs ++ at (f i) (t i) ∷ []))

-- the sizes of what was read
pub begins_size : (bytes : List ℕ) (header : Header) (bodies : List (List ℕ)) (rest : List ℕ) → Begins bytes header bodies rest → length bytes ≡ 44 + length (blocks (mark_of header) bodies) + length rest
begins_size bytes header bodies rest begins =
    omega (arith, ap length begins.spelled, length-append (header_bytes header) (blocks (mark_of header) bodies ++ rest), length-append (blocks (mark_of header) bodies) rest, header-length header)

-- one more block stands where it was read
pub stand_more : (bytes : List ℕ) (header : Header) (bodies : List (List ℕ)) (body rest : List ℕ) (old new : List BlockAt) (text : List ℕ) (in_file in_text : ℕ) → Begins bytes header bodies rest → text ≡ text_of header bodies → old ≡ places 44 20 bodies
    → in_file ≡ length bytes - length rest → in_text ≡ length text → new ≡ old ++ at in_file in_text ∷ [] → new ≡ places 44 20 (bodies ++ body ∷ [])
stand_more bytes header bodies body rest old new text in_file in_text begins is_text stand file_is text_is e =
    let f : in_file ≡ 44 + length (blocks (mark_of header) bodies) = omega (arith, file_is, begins_size bytes header bodies rest begins) in
    let t : in_text ≡ 20 + length (joined bodies) = omega (arith, text_is, ap length is_text, length-append (head_bytes (text_head header)) (joined bodies)) in
    e ∙ (λ i. stand i ++ at (f i) (t i) ∷ []) ∙ sym (places_more (mark_of header) 44 20 bodies body)

-- ---- what was opened

pub opened_whole : (bytes : List ℕ) (opened : OpenedFile) → IsOpened bytes opened → opened.end ≡ Nothing → Opens bytes opened.text.items false
opened_whole bytes opened is e =
    let none : is.rest ≡ [] = rw e at is.ends in
    inr (record {
      header = opened.header;
      bodies = is.bodies;
      end = is.rest;
      is_file = record { begins = is.begins; ends = inl none };
      is_text = is.is_text;
      ends = sym (ap is_torn none);
    })

some_torn : (mark : ℕ) (end : List ℕ) → IsTornEnd mark end → is_torn end ≡ true
some_torn mark [] (inl (inl few)) = absurd (omega (arith, few.0))
some_torn mark [] (inl (inr short)) = absurd (omega (arith, head_long mark [] short.head))
some_torn mark [] (inr broken) = absurd (omega (arith, broken_some mark [] broken.0 broken.1))
some_torn mark (x ∷ xs) torn = refl

pub opened_torn : (bytes : List ℕ) (opened : OpenedFile) → IsOpened bytes opened → opened.end ≡ Torn → Opens bytes opened.text.items true
opened_torn bytes opened is e =
    let torn : IsTornEnd (mark_of opened.header) is.rest = rw e at is.ends in
    inr (record {
      header = opened.header;
      bodies = is.bodies;
      end = is.rest;
      is_file = record { begins = is.begins; ends = inr torn };
      is_text = is.is_text;
      ends = sym (some_torn (mark_of opened.header) is.rest torn);
    })

pub opened_damaged : (bytes : List ℕ) (opened : OpenedFile) → IsOpened bytes opened → opened.end ≡ Damaged → IsDamagedAfter bytes opened.text.items
opened_damaged bytes opened is e = record {
  header = opened.header;
  bodies = is.bodies;
  is_damaged = record { rest = is.rest; begins = is.begins; damage = rw e at is.ends };
  is_text = is.is_text;
}
