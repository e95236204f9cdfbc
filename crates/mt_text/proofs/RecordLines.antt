-- The lines of the records of a log, and of the entries of a part.
use Rattle.std.proofs.Common.{◌≡◌, ℕ, suc, ◌+◌, ◌-◌, ◌≤◌, ◌<◌, Bool, true, false, List, [], ◌∷◌, ◌++◌, length, filter, Option, refl, sym, ap, ◌∙◌, subst, arith}
use Rattle.std.proofs.lemmas.List.{length-append, append_assoc, flat_map_more}
use Rattle.std.proofs.lemmas.List.Elements.{filter-append}
use Rattle.std.proofs.lemmas.Grind.{flat_map-append}
use Rattle.std.proofs.KnownBytes.{Appends-trans}
use Rattle.std.specs.List.{flat_map, AllByRecursion}
use Rattle.std.specs.Io.KnownBytes.{Appends}
use Rattle.mt_words.specs.declared.limits.Limits.{Limits}
use Rattle.mt_words.specs.declared.record.Change.{Change}
use Rattle.mt_words.specs.Changes.{Logged, IsEntry}
use Rattle.mt_words.proofs.Rising.{all_push}
use Rattle.mt_record.specs.Spelling.{body, spelling, change_bytes}
use Rattle.mt_record.specs.Logs.{AreRecords, latest}
use Rattle.mt_record.specs.Fronts.{IsNext}
use Rattle.mt_record.specs.Parts.{entry_spelling}
use Rattle.mt_record.specs.PartFronts.{IsNextEntryOf}
use Rattle.mt_record.proofs.Records.{records_push, latest_push}
use Rattle.mt_record.proofs.Unique.{length_framed}
use Rattle.mt_text.specs.declared.listing.Listed.{Listed}
use Rattle.mt_text.specs.declared.listing.Selection.{Selection}
use Rattle.mt_text.specs.RecordText.{Item, Placed, placed_at}
use Rattle.mt_text.specs.Listing.{line, placed, is_wanted, wanted_in}

-- ---- values with encodings

-- For values that are items with these encodings.
module _ {T : Type 0} (item_of : T → Item) (encoded : T → List ℕ) where
  -- one more value is placed behind the others
  placed_push : (number at : ℕ) (xs : List T) (x : T) → placed item_of encoded number at (xs ++ x ∷ []) ≡ placed item_of encoded number at xs ++ placed_at (number + length xs) (at + length (flat_map encoded xs)) (item_of x) ∷ []
  placed_push number at [] x =
      let n : number ≡ number + 0 = omega arith in
      let m : at ≡ at + 0 = omega arith in
      λ i. placed_at (n i) (m i) (item_of x) ∷ []
  placed_push number at (y ∷ ys) x =
      let rest = flat_map encoded ys in
      let n : suc number + length ys ≡ number + suc (length ys) = omega arith in
      let m : at + length (encoded y) + length rest ≡ at + length (encoded y ++ rest) = omega (arith, length-append (encoded y) rest) in
      ap (λ (ps : List Placed). placed_at number at (item_of y) ∷ ps)
      (placed_push (suc number) (at + length (encoded y)) ys x ∙ λ i. placed item_of encoded (suc number) (at + length (encoded y)) ys ++ placed_at (n i) (m i) (item_of x) ∷ [])

  -- and it is wanted or not
  wanted_push : (selection : Selection) (from : Listed) (xs : List T) (x : T) (number at : ℕ) → number ≡ from.number + length xs → at ≡ from.at + length (flat_map encoded xs)
      → wanted_in item_of encoded selection from (xs ++ x ∷ []) ≡ wanted_in item_of encoded selection from xs ++ filter (is_wanted selection) (placed_at number at (item_of x) ∷ [])
  wanted_push selection from xs x number at same_number same_byte =
      ap (filter (is_wanted selection)) (placed_push from.number from.at xs x ∙ λ i. placed item_of encoded from.number from.at xs ++ placed_at (sym same_number i) (sym same_byte i) (item_of x) ∷ [])
      ∙ filter-append (is_wanted selection) (placed item_of encoded from.number from.at xs) (placed_at number at (item_of x) ∷ [])

  -- the wanted ones of the values so far, for which `So` holds, were printed; `rest` follows them
  pub record AreListedSoFar (So : List T → Type 0) (selection : Selection) (bytes : List ℕ) (from : Listed) (rest : List ℕ) (number left : ℕ) (old new : Option (List ℕ)) : Type 0 where
    pub values : List T
    pub so : So values
    pub spelled : bytes ≡ flat_map encoded values ++ rest
    pub count : number ≡ from.number + length values
    pub fits : number + length rest ≤ from.number + length bytes
    pub within : length (flat_map encoded values) + length rest ≡ length bytes
    pub room : left + length (wanted_in item_of encoded selection from values) ≡ from.left
    pub printed : Appends old new (flat_map (line selection.notation) (wanted_in item_of encoded selection from values))

  -- and one more
  pub one_more_so_far : (So Then : List T → Type 0) (selection : Selection) (bytes : List ℕ) (from : Listed) (rest after : List ℕ) (number left at count : ℕ) (x : T) (old new newer : Option (List ℕ))
      → AreListedSoFar So selection bytes from rest number left old new → ((xs : List T) → So xs → Then (xs ++ x ∷ [])) → rest ≡ encoded x ++ after → 0 < length (encoded x)
      → at ≡ from.at + (length bytes - length rest) → 0 < left → count ≡ length (filter (is_wanted selection) (placed_at number at (item_of x) ∷ []))
      → Appends new newer (flat_map (line selection.notation) (filter (is_wanted selection) (placed_at number at (item_of x) ∷ [])))
      → AreListedSoFar Then selection bytes from after (number + 1) (left - count) old newer
  one_more_so_far So Then selection bytes from rest after number left at count x old new newer so_far push e some_bytes where_at some counted printed =
      let xs = so_far.values in
      let these = wanted_in item_of encoded selection from xs in
      let this = filter (is_wanted selection) (placed_at number at (item_of x) ∷ []) in
      let sizes = length-append (encoded x) after in
      let total = ap length e in
      let wanted = wanted_push selection from xs x number at so_far.count (omega (arith, where_at, so_far.within)) in
      let long = length-append (flat_map encoded xs) (encoded x) in
      let longer : flat_map encoded (xs ++ x ∷ []) ≡ flat_map encoded xs ++ encoded x = sym (flat_map_more encoded [] xs x) in
      let one : count ≤ 1 = at_most_one (is_wanted selection) (placed_at number at (item_of x)) count counted in
      record {
        values = xs ++ x ∷ [];
        so = push xs so_far.so;
        spelled = so_far.spelled ∙ ap (λ (y : List ℕ). flat_map encoded xs ++ y) e ∙ sym (append_assoc (flat_map encoded xs) (encoded x) after)
            ∙ ap (λ (y : List ℕ). y ++ after) (sym longer);
        count = omega (arith, so_far.count, length-append xs (x ∷ []));
        fits = omega (arith, so_far.fits, sizes, total, some_bytes);
        within = omega (arith, so_far.within, sizes, total, long, ap length longer);
        room = omega (arith, so_far.room, some, one, counted, ap length wanted, length-append these this);
        printed = rw wanted (subst (Appends old newer) (sym (flat_map-append (line selection.notation) these this))
            (Appends-trans old new newer (flat_map (line selection.notation) these) (flat_map (line selection.notation) this) so_far.printed printed));
      }
    where
      at_most_one : (p : Placed → Bool) (y : Placed) (n : ℕ) → n ≡ length (filter p (y ∷ [])) → n ≤ 1
      at_most_one p y n is_length = by (p y) refl
        where
          by : (b : Bool) → p y ≡ b → n ≤ 1
          by true is = let length_one : length (filter p (y ∷ [])) ≡ 1 = rw is refl in omega (arith, is_length, length_one)
          by false isnt = let length_none : length (filter p (y ∷ [])) ≡ 0 = rw isnt refl in omega (arith, is_length, length_none)

-- ---- records

-- lawful records from this timestamp on, with this last one
abbrev pub RecordsSoFar : Limits → ℕ → ℕ → List Logged → Type 0
RecordsSoFar limits first low rs = AreRecords limits first rs × (low ≡ latest first rs)

-- the next record follows them
pub record_push : (limits : Limits) (first low : ℕ) (bytes after : List ℕ) (r : Logged) → IsNext limits low bytes r after → (rs : List Logged) → RecordsSoFar limits first low rs
    → RecordsSoFar limits first r.timestamp (rs ++ r ∷ [])
record_push limits first low bytes after r next rs so = (records_push limits first rs r so.0 next.lawful (rw (← so.1) next.rises), sym (latest_push first rs r))

-- a record has at least eight bytes
pub record_some : (r : Logged) → 0 < length (spelling r)
record_some r = omega (arith, length_framed (body r))

-- ---- entries

-- the next entry follows the others
pub entry_push : (limits : Limits) (bytes after : List ℕ) (entry : Change) → IsNextEntryOf limits bytes entry after → (es : List Change) → AllByRecursion (IsEntry limits) es
    → AllByRecursion (IsEntry limits) (es ++ entry ∷ [])
entry_push limits bytes after entry next es are = all_push (IsEntry limits) es entry are next.lawful

-- an entry has at least eight bytes
pub entry_some : (entry : Change) → 0 < length (entry_spelling entry)
entry_some entry = omega (arith, length_framed (change_bytes entry))
