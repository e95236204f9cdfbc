-- One more value of a line.
use Rattle.std.proofs.Common.{◌≡◌, ◌++◌, ◌<◌, ◌+◌, length, take, get_or, refl, sym, ap, subst, ◌∙◌, Bool, true, false, cond, Option, List, [], ◌∷◌, ℕ, append_assoc}
use Rattle.std.specs.Prelude.{All, filter}
use Rattle.std.specs.List.{flat_map}
use Rattle.std.specs.Io.KnownBytes.{Appends}
use Rattle.std.proofs.KnownBytes.{Appends-trans}
use Rattle.std.proofs.lemmas.List.{append-nil}
use Rattle.std.proofs.lemmas.List.Concat.{flat_map-append}
use Rattle.std.proofs.lemmas.List.Elements.{All-get_or, filter_more}
use Rattle.mt_cli.specs.Rows.{Field, IsTold, is_there, field_text, fields_text}

abbrev pub is_none : List Field → Bool
is_none [] = true
is_none (field ∷ fields) = false

-- the values of the row's first fields
abbrev pub there : ℕ → List Field → List Field
there count row = filter is_there (take count row)

-- the line after the row's first fields: with `is_first` no value is there yet
pub record IsRowSoFar (is_json is_first : Bool) (row : List Field) (count : ℕ) (old new : Option (List ℕ)) : Type 0 where
  pub first : is_first ≡ is_none (there count row)
  pub printed : All IsTold row → Appends old new (fields_text is_json (there count row))

none_after : (fields : List Field) (field : Field) → is_none (fields ++ field ∷ []) ≡ false
none_after [] field = refl
none_after (first ∷ fields) field = refl

fields_push : (is_json : Bool) (fields : List Field) (field : Field) → fields_text is_json (fields ++ field ∷ []) ≡ fields_text is_json fields ++ field_text is_json (is_none fields) field
fields_push is_json [] field = append-nil (field_text is_json true field)
fields_push is_json (first ∷ fields) field =
    let text = field_text is_json false in
    ap (λ rest. field_text is_json true first ++ rest) (flat_map-append text fields (field ∷ []) ∙ ap (λ last. flat_map text fields ++ last) (append-nil (text field)))
    ∙ sym (append_assoc (field_text is_json true first) (flat_map text fields) (text field))

there_more : (row : List Field) (i : ℕ) (field : Field) → i < length row → field ≡ get_or row i field → is_there field ≡ true → there (i + 1) row ≡ there i row ++ field ∷ []
there_more row i field less is has = filter_more is_there row i field less ∙ ap (λ z. there i row ++ cond (is_there z) (z ∷ []) []) (sym is) ∙ ap (λ b. there i row ++ cond b (field ∷ []) []) has

there_no_more : (row : List Field) (i : ℕ) (field : Field) → i < length row → field ≡ get_or row i field → is_there field ≡ false → there (i + 1) row ≡ there i row
there_no_more row i field less is lacks = filter_more is_there row i field less ∙ ap (λ z. there i row ++ cond (is_there z) (z ∷ []) []) (sym is) ∙ ap (λ b. there i row ++ cond b (field ∷ []) []) lacks ∙ append-nil (there i row)

-- a value is printed
pub one_more : (is_json is_first : Bool) (row : List Field) (i : ℕ) (field : Field) (a b c : Option (List ℕ)) → i < length row → field ≡ get_or row i field → is_there field ≡ true
    → IsRowSoFar is_json is_first row i a b → (IsTold field → Appends b c (field_text is_json is_first field)) → IsRowSoFar is_json false row (i + 1) a c
one_more is_json is_first row i field a b c less is has front more = record {
  first = sym (ap is_none (there_more row i field less is has) ∙ none_after (there i row) field);
  printed = λ told.
      let shown = subst (λ z. Appends b c (field_text is_json z field)) front.first (more (subst IsTold (sym is) (All-get_or IsTold row i field less told))) in
      subst (Appends a c) (sym (ap (fields_text is_json) (there_more row i field less is has) ∙ fields_push is_json (there i row) field))
      (Appends-trans a b c _ _ (front.printed told) shown);
}

-- a value that the line does not have
pub no_more : (is_json is_first : Bool) (row : List Field) (i : ℕ) (field : Field) (a b : Option (List ℕ)) → i < length row → field ≡ get_or row i field → is_there field ≡ false
    → IsRowSoFar is_json is_first row i a b → IsRowSoFar is_json is_first row (i + 1) a b
no_more is_json is_first row i field a b less is lacks front = record {
  first = front.first ∙ sym (ap is_none (there_no_more row i field less is lacks));
  printed = λ told. subst (λ z. Appends a b (fields_text is_json z)) (sym (there_no_more row i field less is lacks)) (front.printed told);
}
