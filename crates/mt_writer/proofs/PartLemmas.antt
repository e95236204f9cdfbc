-- Files of parts, and what each call of a writer does to them.
use Rattle.std.proofs.Common.{◌≡◌, inl, inr, ℕ, ◌+◌, ◌-◌, ◌^◌, ◌<◌, ◌≤◌, Option, Some, None, IfSome, List, [], ◌∷◌, ◌++◌, length, map, take, drop, refl, sym, ap, ◌∙◌, subst, append_assoc, arith}
use Rattle.std.specs.List.{flat_map, AllByRecursion}
use Rattle.std.proofs.lemmas.List.{append-nil, length-append, map-append, take-append-drop, take_at, drop_at}
use Rattle.std.proofs.lemmas.List.Concat.{flat_map-append}
use Rattle.std.proofs.lemmas.List.Elements.{All-append, All-cons, All-nil}
use Rattle.mt_words.specs.declared.limits.Format.TheVariants.{Two}
use Rattle.mt_words.specs.declared.record.Change.{Change}
use Rattle.mt_words.specs.Limits.{widest}
use Rattle.mt_words.specs.Words.{IsBelow, AreRising}
use Rattle.mt_words.specs.Walks.{joined}
use Rattle.mt_words.specs.Changes.{IsEntry}
use Rattle.mt_words.proofs.KeyOrder.{below_trans}
use Rattle.mt_words.proofs.Rising.{all_push}
use Rattle.mt_block.specs.declared.block.TheConstants.{MOST_BODY}
use Rattle.mt_block.specs.declared.part_header.PartHeader.{PartHeader}
use Rattle.mt_block.specs.Blocks.{IsBody, block, blocks}
use Rattle.mt_block.specs.Parts.{IsPartHeader, part_header_bytes, part_mark, BeginsPart}
use Rattle.byteorder.specs.Endian.{big_bytes}
use Rattle.mt_record.specs.Spelling.{change_bytes}
use Rattle.mt_record.specs.Parts.{part_head_bytes, part_text_head, part_text_of, entry_spelling, footer_bytes, IsPartReading}
use Rattle.mt_record.proofs.Entries.{entry_length}
use Rattle.mt_writer.specs.declared.part_writer.TheConstants.{SMALL}
use Rattle.mt_writer.specs.PartFiles.{Part, keys_above, last_of, items_of, IsSmall, IsPartOf, reading_of, IsAdmitted, IsAdded, AreLast, AreEnded}

-- ---- keys

keys_of : List Change → List (List ℕ)
keys_of entries = map (λ entry. entry.key) entries

keys_more : (above : Option (List ℕ)) (entries : List Change) (entry : Change) → keys_above above (entries ++ entry ∷ []) ≡ keys_above above entries ++ entry.key ∷ []
keys_more None entries entry = map-append (λ (e : Change). e.key) entries (entry ∷ [])
keys_more (Some key) entries entry = ap (λ (keys : List (List ℕ)). key ∷ keys) (map-append (λ (e : Change). e.key) entries (entry ∷ []))

last_more : (keys : List (List ℕ)) (key : List ℕ) → last_of (keys ++ key ∷ []) ≡ Some key
last_more [] key = refl
last_more (first ∷ []) key = refl
last_more (first ∷ next ∷ keys) key = last_more (next ∷ keys) key

-- keys that are above another one are above each key below it
above_all : (x y : List ℕ) (ys : List (List ℕ)) → IsBelow x y → AllByRecursion (IsBelow y) ys → AllByRecursion (IsBelow x) ys
above_all x y [] h are = tt
above_all x y (z ∷ zs) h are = (below_trans x y z h are.0, above_all x y zs h are.1)

-- rising keys rise with one more that is above the last
rises_more : (keys : List (List ℕ)) (key : List ℕ) → AreRising keys → IfSome (last_of keys) (λ last. IsBelow last key) → AreRising (keys ++ key ∷ [])
rises_more [] key rise above = (tt, tt)
rises_more (first ∷ []) key rise above = ((above, tt), (tt, tt))
rises_more (first ∷ next ∷ keys) key rise above =
    let rest : AreRising (next ∷ keys ++ key ∷ []) = rises_more (next ∷ keys) key rise.1 above in
    ((rise.0.0, above_all first next (keys ++ key ∷ []) rise.0.0 rest.0), rest)

-- ---- items

joined_more : {X : Type 0} (lists : List (List X)) (list : List X) → joined (lists ++ list ∷ []) ≡ joined lists ++ list
joined_more {X} lists list = flat_map-append (λ (l : List X). l) lists (list ∷ []) ∙ ap (λ (l : List X). joined lists ++ l) (append-nil list)

-- one more entry
items_more : (entries : List Change) (entry : Change) → items_of (entries ++ entry ∷ []) None ≡ items_of entries None ++ entry_spelling entry ∷ []
items_more entries entry = map-append entry_spelling entries (entry ∷ [])

-- ---- steps

-- a part of which nothing was taken
pub begun : (header : PartHeader) → IsPartHeader header → IsPartOf (record { header = header; last = None; count = 0; end = None; held = []; ready = part_header_bytes header }) None [] []
begun header is_header = record {
  blocks = [];
  rest = [];
  items = refl;
  begins = record { spelled = sym (append-nil (part_header_bytes header)); is_header = is_header; are_bodies = All-nil IsBody };
  held = refl;
  small = tt;
  small_rest = inl (omega arith);
  lawful = tt;
  rising = tt;
  last = refl;
  count = refl;
  few = omega arith;
  ended = tt;
}

-- a part whose keys are to be above one
pub begun_above : (w : Part) (key : List ℕ) → IsPartOf w None [] [] → IsPartOf (record w { last = Some key }) (Some key) [] []
begun_above w key is = record {
  blocks = is.blocks;
  rest = is.rest;
  items = is.items;
  begins = is.begins;
  held = is.held;
  small = is.small;
  small_rest = is.small_rest;
  lawful = tt;
  rising = (tt, tt);
  last = refl;
  count = is.count;
  few = is.few;
  ended = is.ended;
}

-- one more block is ready
begins_more : (bytes : List ℕ) (header : PartHeader) (bodies : List (List ℕ)) (body : List ℕ) → BeginsPart bytes header bodies [] → IsBody body → BeginsPart (bytes ++ block (part_mark header) body) header (bodies ++ body ∷ []) []
begins_more bytes header bodies body is is_body =
    let mark = part_mark header in
    let more : blocks mark (bodies ++ body ∷ []) ≡ blocks mark bodies ++ block mark body =
    flat_map-append (block mark) bodies (body ∷ []) ∙ ap (λ (l : List ℕ). blocks mark bodies ++ l) (append-nil (block mark body)) in
    let so_far : bytes ≡ part_header_bytes header ++ blocks mark bodies = is.spelled ∙ ap (λ (l : List ℕ). part_header_bytes header ++ l) (append-nil (blocks mark bodies)) in record {
      spelled =
          ap (λ (l : List ℕ). l ++ block mark body) so_far
          ∙ append_assoc (part_header_bytes header) (blocks mark bodies) (block mark body)
          ∙ ap (λ (l : List ℕ). part_header_bytes header ++ l) (sym more ∙ sym (append-nil (blocks mark (bodies ++ body ∷ []))));
      is_header = is.is_header;
      are_bodies = All-append IsBody bodies (body ∷ []) is.are_bodies (All-cons IsBody body [] is_body (All-nil IsBody));
    }

-- a block is made of items, and is ready
sealed_more : (taken ready : List ℕ) (header : PartHeader) (groups : List (List (List ℕ))) (items : List (List ℕ)) → BeginsPart (taken ++ ready) header (map joined groups) [] → IsBody (joined items)
    → BeginsPart (taken ++ (ready ++ block (part_mark header) (joined items))) header (map joined (groups ++ items ∷ [])) []
sealed_more taken ready header groups items is is_body =
    let more = block (part_mark header) (joined items) in
    let bodies = sym (map-append joined groups (items ∷ [])) in
    subst (λ (x : List ℕ × List (List ℕ)). BeginsPart x.0 header x.1 []) (λ i. (append_assoc taken ready more i, bodies i))
    (begins_more (taken ++ ready) header (map joined groups) (joined items) is is_body)

small_more : (groups : List (List (List ℕ))) (items : List (List ℕ)) → AllByRecursion IsSmall (map joined groups) → IsSmall (joined items) → AllByRecursion IsSmall (map joined (groups ++ items ∷ []))
small_more groups items small one = subst (AllByRecursion IsSmall) (sym (map-append joined groups (items ∷ []))) (all_push IsSmall (map joined groups) (joined items) small one)

still_ended : (begin : ℕ) (held none : List ℕ) (end : Option ℕ) → none ≡ [] → IfSome end (λ e. (begin ≤ e) × (e < 2 ^ 64) × (held ≡ [])) → IfSome end (λ e. (begin ≤ e) × (e < 2 ^ 64) × (none ≡ []))
still_ended begin held none None empty is = tt
still_ended begin held none (Some end) empty is = (is.0, is.1, empty)

-- a block was made of all that is held
sealed_all : (w : Part) (above : Option (List ℕ)) (entries : List Change) (taken : List ℕ) → IsPartOf w above entries taken → IsBody w.held
    → IsPartOf (record w { held = []; ready = w.ready ++ block (part_mark w.header) w.held }) above entries taken
sealed_all w above entries taken is is_body =
    let body : IsBody (joined is.rest) = subst IsBody is.held is_body in record {
      blocks = is.blocks ++ is.rest ∷ [];
      rest = [];
      items = append-nil (joined (is.blocks ++ is.rest ∷ [])) ∙ joined_more is.blocks is.rest ∙ is.items;
      begins = subst (λ (l : List ℕ). BeginsPart (taken ++ (w.ready ++ block (part_mark w.header) l)) w.header (map joined (is.blocks ++ is.rest ∷ [])) []) (sym is.held)
          (sealed_more taken w.ready w.header is.blocks is.rest is.begins body);
      held = refl;
      small = small_more is.blocks is.rest is.small (subst IsSmall is.held is.small_rest);
      small_rest = inl (omega arith);
      lawful = is.lawful;
      rising = is.rising;
      last = is.last;
      count = is.count;
      few = is.few;
      ended = still_ended w.header.begin w.held [] w.end refl is.ended;
    }

-- an entry was added to what is held
held_more : (w : Part) (above : Option (List ℕ)) (entries : List Change) (taken : List ℕ) (entry : Change) → IsPartOf w above entries taken → IsAdmitted w entry → IsSmall (w.held ++ entry_spelling entry)
    → IsPartOf (record w { last = Some entry.key; count = w.count + 1; held = w.held ++ entry_spelling entry }) above (entries ++ entry ∷ []) taken
held_more w above entries taken entry is may small =
    let more = length-append entries (entry ∷ []) in record {
      blocks = is.blocks;
      rest = is.rest ++ entry_spelling entry ∷ [];
      items =
          sym (append_assoc (joined is.blocks) is.rest (entry_spelling entry ∷ []))
          ∙ ap (λ (items : List (List ℕ)). items ++ entry_spelling entry ∷ []) (is.items ∙ ap (items_of entries) may.going)
          ∙ sym (items_more entries entry)
          ∙ ap (items_of (entries ++ entry ∷ [])) (sym may.going);
      begins = is.begins;
      held = ap (λ (l : List ℕ). l ++ entry_spelling entry) is.held ∙ sym (joined_more is.rest (entry_spelling entry));
      small = is.small;
      small_rest = small;
      lawful = all_push (IsEntry widest) entries entry is.lawful may.lawful;
      rising = subst AreRising (sym (keys_more above entries entry))
          (rises_more (keys_above above entries) entry.key is.rising (subst (λ (l : Option (List ℕ)). IfSome l (λ last. IsBelow last entry.key)) is.last may.above));
      last = sym (ap last_of (keys_more above entries entry) ∙ last_more (keys_above above entries) entry.key);
      count = omega (arith, is.count, more);
      few = omega (arith, is.count, may.few, more);
      ended = subst (λ (end : Option ℕ). IfSome end (λ e. (w.header.begin ≤ e) × (e < 2 ^ 64) × (w.held ++ entry_spelling entry ≡ []))) (sym may.going) tt;
    }

-- one more entry
pub added : (w : Part) (above : Option (List ℕ)) (entries : List Change) (taken : List ℕ) (entry : Change) (mark : ℕ) (held ready : List ℕ) → IsPartOf w above entries taken → IsAdmitted w entry → mark ≡ part_mark w.header
    → IsAdded mark (entry_spelling entry) w.held w.ready held ready → IsPartOf (record w { last = Some entry.key; count = w.count + 1; held = held; ready = ready }) above (entries ++ entry ∷ []) taken
added w above entries taken entry mark held ready is may of_file (inl (is_held, same, small)) =
    subst (λ (x : List ℕ × List ℕ). IsPartOf (record w { last = Some entry.key; count = w.count + 1; held = x.0; ready = x.1 }) above (entries ++ entry ∷ []) taken) (λ i. (sym is_held i, sym same i))
    (held_more w above entries taken entry is may (elim small as (λ _. IsSmall (w.held ++ entry_spelling entry)) [
      | inl few ↦ inl (subst (λ (l : List ℕ). length l ≤ SMALL) is_held few)
      | inr none ↦ inr (entry, ap (λ (l : List ℕ). l ++ entry_spelling entry) none)
    ]))
added w above entries taken entry mark held ready is may of_file (inr (is_held, more, is_body)) =
    let one = sealed_all w above entries taken is is_body in
    let block_is : w.ready ++ block (part_mark w.header) w.held ≡ ready = ap (λ (m : ℕ). w.ready ++ block m w.held) (sym of_file) ∙ sym more in
    subst (λ (x : List ℕ × List ℕ). IsPartOf (record w { last = Some entry.key; count = w.count + 1; held = x.0; ready = x.1 }) above (entries ++ entry ∷ []) taken) (λ i. (sym is_held i, block_is i))
    (held_more (record w { held = []; ready = w.ready ++ block (part_mark w.header) w.held }) above entries taken entry one (record { going = may.going; lawful = may.lawful; few = may.few; above = may.above }) (inr (entry, refl)))

-- a block was made of what was held, and the entry after it stays
pub only_entry : (mark before : ℕ) (entry held ready all new_held new_ready : List ℕ) → before ≡ length held → all ≡ held ++ entry → new_held ≡ drop before all → new_ready ≡ ready ++ block mark (take before all) → IsBody (take before all)
    → IsAdded mark entry held ready new_held new_ready
only_entry mark before entry held ready all new_held new_ready size is after more is_body =
    let first : take before all ≡ held = ap (take before) is ∙ take_at held entry before (sym size) in
    inr (after ∙ ap (drop before) is ∙ drop_at held entry before (sym size), more ∙ ap (λ (l : List ℕ). ready ++ block mark l) first, subst IsBody first is_body)

-- the frame of an entry has eight bytes
spelled_length : (entry : Change) → IsEntry widest entry → length (entry_spelling entry) ≤ MOST_BODY - SMALL
spelled_length entry is =
    let fields = entry_length widest entry is in
    omega (arith, fields.1, length-append (change_bytes entry) (big_bytes 4 (length (change_bytes entry))))

-- what is held afterwards fits into a block
pub added_few : (mark : ℕ) (entry : Change) (held ready new_held new_ready : List ℕ) → IsEntry widest entry → IsAdded mark (entry_spelling entry) held ready new_held new_ready → length new_held ≤ MOST_BODY
added_few mark entry held ready new_held new_ready lawful (inl (is_held, same, inl few)) = omega (arith, few)
added_few mark entry held ready new_held new_ready lawful (inl (is_held, same, inr none)) =
    omega (arith, spelled_length entry lawful, ap length is_held, ap length none, length-append held (entry_spelling entry))
added_few mark entry held ready new_held new_ready lawful (inr (is_held, more, is_body)) = omega (arith, spelled_length entry lawful, ap length is_held)

-- ---- the end

-- one block
pub last_one : (mark before : ℕ) (text ready new_ready : List ℕ) → length text ≤ SMALL → new_ready ≡ ready ++ block mark text → IsBody text → AreLast mark (take before text) (drop before text) ready new_ready
last_one mark before text ready new_ready few more is_body =
    inl (subst (λ (l : List ℕ). (new_ready ≡ ready ++ block mark l) × (length l ≤ SMALL) × IsBody l) (sym (take-append-drop before text)) (more, few, is_body))

-- two blocks
pub last_two : (mark : ℕ) (first second ready mid new_ready : List ℕ) → mid ≡ ready ++ block mark first → new_ready ≡ mid ++ block mark second → IsBody first → IsBody second → AreLast mark first second ready new_ready
last_two mark first second ready mid new_ready one two is_first is_second = inr (two ∙ ap (λ (l : List ℕ). l ++ block mark second) one, is_first, is_second)

-- they are of what is held and of the footer
pub ended_by : (mark before : ℕ) (held footer text ready new_ready : List ℕ) → before ≡ length held → text ≡ held ++ footer → AreLast mark (take before text) (drop before text) ready new_ready → AreLast mark held footer ready new_ready
ended_by mark before held footer text ready new_ready size is are =
    let first : take before text ≡ held = ap (take before) is ∙ take_at held footer before (sym size) in
    let second : drop before text ≡ footer = ap (drop before) is ∙ drop_at held footer before (sym size) in
    subst (λ (x : List ℕ × List ℕ). AreLast mark x.0 x.1 ready new_ready) (λ i. (first i, second i)) are

-- a footer was added to what is held, and all was sealed
closed : (w : Part) (above : Option (List ℕ)) (entries : List Change) (taken : List ℕ) (end : ℕ) → IsPartOf w above entries taken → w.end ≡ None → w.header.begin ≤ end → end < 2 ^ 64
    → length (w.held ++ footer_bytes end w.count) ≤ SMALL → IsBody (w.held ++ footer_bytes end w.count)
    → IsPartOf (record w { end = Some end; held = []; ready = w.ready ++ block (part_mark w.header) (w.held ++ footer_bytes end w.count) }) above entries taken
closed w above entries taken end is going least fits few is_body =
    let footer = footer_bytes end w.count in
    let items = is.rest ++ footer ∷ [] in
    let all : w.held ++ footer ≡ joined items = ap (λ (l : List ℕ). l ++ footer) is.held ∙ sym (joined_more is.rest footer) in record {
      blocks = is.blocks ++ items ∷ [];
      rest = [];
      items =
          append-nil (joined (is.blocks ++ items ∷ []))
          ∙ joined_more is.blocks items
          ∙ sym (append_assoc (joined is.blocks) is.rest (footer ∷ []))
          ∙ ap (λ (l : List (List ℕ)). l ++ footer ∷ []) (is.items ∙ ap (items_of entries) going)
          ∙ ap (λ (n : ℕ). map entry_spelling entries ++ footer_bytes end n ∷ []) is.count;
      begins = subst (λ (l : List ℕ). BeginsPart (taken ++ (w.ready ++ block (part_mark w.header) l)) w.header (map joined (is.blocks ++ items ∷ [])) []) (sym all)
          (sealed_more taken w.ready w.header is.blocks items is.begins (subst IsBody all is_body));
      held = refl;
      small = small_more is.blocks items is.small (inl (subst (λ (l : List ℕ). length l ≤ SMALL) all few));
      small_rest = inl (omega arith);
      lawful = is.lawful;
      rising = is.rising;
      last = is.last;
      count = is.count;
      few = is.few;
      ended = (least, fits, refl);
    }

-- the end
pub ended : (w : Part) (above : Option (List ℕ)) (entries : List Change) (taken : List ℕ) (end mark count : ℕ) (held ready : List ℕ) → IsPartOf w above entries taken → w.end ≡ None → w.header.begin ≤ end → end < 2 ^ 64
    → mark ≡ part_mark w.header → count ≡ w.count → AreEnded mark end count w.held w.ready held ready → IsPartOf (record w { end = Some end; held = held; ready = ready }) above entries taken
ended w above entries taken end mark count held ready is going least fits of_file counted (none, inl (more, few, is_body)) =
    let bytes : w.ready ++ block (part_mark w.header) (w.held ++ footer_bytes end w.count) ≡ ready = (λ i. w.ready ++ block (sym of_file i) (w.held ++ footer_bytes end (sym counted i))) ∙ sym more in
    subst (λ (x : List ℕ × List ℕ). IsPartOf (record w { end = Some end; held = x.0; ready = x.1 }) above entries taken) (λ i. (sym none i, bytes i))
    (closed w above entries taken end is going least fits (subst (λ (n : ℕ). length (w.held ++ footer_bytes end n) ≤ SMALL) counted few) (subst (λ (n : ℕ). IsBody (w.held ++ footer_bytes end n)) counted is_body))
ended w above entries taken end mark count held ready is going least fits of_file counted (none, inr (more, is_body, is_last)) =
    let one = sealed_all w above entries taken is is_body in
    let bytes : (w.ready ++ block (part_mark w.header) w.held) ++ block (part_mark w.header) (footer_bytes end w.count) ≡ ready =
    (λ i. (w.ready ++ block (sym of_file i) w.held) ++ block (sym of_file i) (footer_bytes end (sym counted i))) ∙ sym more in
    subst (λ (x : List ℕ × List ℕ). IsPartOf (record w { end = Some end; held = x.0; ready = x.1 }) above entries taken) (λ i. (sym none i, bytes i))
    (closed (record w { held = []; ready = w.ready ++ block (part_mark w.header) w.held }) above entries taken end one going least fits (omega arith) (subst (λ (n : ℕ). IsBody (footer_bytes end n)) counted is_last))

-- ---- what is read

-- the bytes in the blocks are those of the items
joined_twice : (groups : List (List (List ℕ))) → joined (map joined groups) ≡ joined (joined groups)
joined_twice [] = refl
joined_twice (group ∷ groups) = ap (λ (l : List ℕ). joined group ++ l) (joined_twice groups) ∙ sym (flat_map-append (λ (l : List ℕ). l) group (joined groups))

joined_entries : (entries : List Change) → joined (map entry_spelling entries) ≡ flat_map entry_spelling entries
joined_entries [] = refl
joined_entries (entry ∷ entries) = ap (λ (l : List ℕ). entry_spelling entry ++ l) (joined_entries entries)

none_held : (rest : List (List ℕ)) (w : Part) (end : ℕ) → w.held ≡ joined rest → w.end ≡ Some end → IfSome w.end (λ e. (w.header.begin ≤ e) × (e < 2 ^ 64) × (w.held ≡ [])) → joined rest ≡ []
none_held rest w end held at is = sym held ∙ (subst (λ (x : Option ℕ). IfSome x (λ e. (w.header.begin ≤ e) × (e < 2 ^ 64) × (w.held ≡ []))) at is).2

-- a part that has ended, of which all was taken, is read
pub part_is_read : (w : Part) (above : Option (List ℕ)) (entries : List Change) (taken : List ℕ) (end : ℕ) → IsPartOf w above entries taken → w.end ≡ Some end → w.ready ≡ []
    → IsPartReading taken (reading_of w.header entries end)
part_is_read w above entries taken end is at all =
    let header = w.header in
    let bodies = map joined is.blocks in
    let ends = subst (λ (x : Option ℕ). IfSome x (λ e. (w.header.begin ≤ e) × (e < 2 ^ 64) × (w.held ≡ []))) at is.ended in
    let begins : BeginsPart taken header bodies [] = subst (λ (l : List ℕ). BeginsPart l header bodies []) (ap (λ (l : List ℕ). taken ++ l) all ∙ append-nil taken) is.begins in
    let footer = footer_bytes end (length entries) in
    let joins : joined bodies ≡ flat_map entry_spelling entries ++ footer =
    joined_twice is.blocks
    ∙ sym (append-nil (joined (joined is.blocks)))
    ∙ ap (λ (l : List ℕ). joined (joined is.blocks) ++ l) (sym (none_held is.rest w end is.held at is.ended))
    ∙ sym (flat_map-append (λ (l : List ℕ). l) (joined is.blocks) is.rest)
    ∙ ap joined (is.items ∙ ap (items_of entries) at)
    ∙ joined_more (map entry_spelling entries) footer
    ∙ ap (λ (l : List ℕ). l ++ footer) (joined_entries entries) in record {
      text = part_text_of header bodies;
      opens = inr (record { header = header; bodies = bodies; begins = begins; is_text = refl });
      is_part = (
        Two,
        record {
          spelled = ap (λ (l : List ℕ). part_head_bytes (part_text_head header) ++ l) joins;
          is_head = record { number = begins.is_header.number; begin = begins.is_header.begin; part = begins.is_header.part; parts = begins.is_header.parts };
          lawful = is.lawful;
          fits = ends.1;
          count = is.few;
        },
      );
    }
