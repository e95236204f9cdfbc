-- Hex text, and the line of a pair.
use Rattle.std.proofs.Common.{◌≡◌, ℕ, Option, List, [], ◌∷◌, ◌++◌, take, drop, refl, sym, ap, subst, ◌∙◌, append_assoc}
use Rattle.std.specs.Prelude.{codes}
use Rattle.std.specs.Io.KnownBytes.{Appends}
use Rattle.std.proofs.KnownBytes.{Appends-trans}
use Rattle.std.proofs.lemmas.List.{append-nil, take-append-drop}
use Rattle.std.proofs.lemmas.List.Concat.{flat_map-append}
use Rattle.std.specs.List.{flat_map}
use Rattle.hex.specs.Hex.{encode_lower, encode_with}
use Rattle.mt_text.specs.Pairs.{column_text, pair_text}

-- hex text is made byte by byte
pub encode_is : (bytes : List ℕ) → encode_lower bytes ≡ flat_map (λ b. encode_lower (b ∷ [])) bytes
unfolding encode_with
encode_is [] = refl
encode_is (b ∷ bytes) = ap (λ (z : List ℕ). encode_lower (b ∷ []) ++ z) (encode_is bytes)

-- the hex text of two lists of bytes, one after the other, is the two hex texts
pub encode_append : (xs ys : List ℕ) → encode_lower (xs ++ ys) ≡ encode_lower xs ++ encode_lower ys
encode_append xs ys =
    let one : ℕ → List ℕ = λ b. encode_lower (b ∷ []) in
    encode_is (xs ++ ys) ∙ flat_map-append one xs ys ∙ (λ i. sym (encode_is xs) i ++ sym (encode_is ys) i)

-- the first n bytes and the rest are all bytes
pub in_two : (n : ℕ) (xs front back : List ℕ) → front ≡ take n xs → back ≡ drop n xs → xs ≡ front ++ back
in_two n xs front back f b = sym (take-append-drop n xs) ∙ (λ i. sym f i ++ sym b i)

-- the line of a pair ends after its columns
pub line_ended : (a b c : Option (List ℕ)) (key text : List ℕ) (rest columns : List (ℕ × List ℕ)) → rest ≡ []
    → text ++ flat_map column_text rest ≡ (encode_lower key ++ codes ":") ++ flat_map column_text columns
    → Appends a b text → Appends b c (codes "\n") → Appends a c (pair_text (key, columns))
line_ended a b c key text rest columns none whole first second =
    let all : text ≡ (encode_lower key ++ codes ":") ++ flat_map column_text columns =
    sym (append-nil text) ∙ ap (λ (left : List (ℕ × List ℕ)). text ++ flat_map column_text left) (sym none) ∙ whole in
    let line : text ++ codes "\n" ≡ pair_text (key, columns) =
    ap (λ (front : List ℕ). front ++ codes "\n") all
    ∙ append_assoc (encode_lower key ++ codes ":") (flat_map column_text columns) (codes "\n")
    ∙ append_assoc (encode_lower key) (codes ":") (flat_map column_text columns ++ codes "\n") in
    subst (Appends a c) line (Appends-trans a b c text (codes "\n") first second)
