-- The entries of a checkpoint, kept as bodies.
use Rattle.std.proofs.Common.{◌≡◌, ◌<◌, ◌++◌, [], ◌∷◌, List, ℕ, length, map, get_or, sym, ap, ◌∙◌, arith}
use Rattle.std.proofs.lemmas.List.{length-map, get_or-map, map-append}
use Rattle.std.specs.Prelude.{Some}
use Rattle.mt_words.specs.declared.record.Change.{Change}
use Rattle.mt_words.specs.Limits.{widest}
use Rattle.mt_record.specs.Steps.Bodies.{AreFieldsOf}
use Rattle.mt_record.specs.Spelling.{body_of}
use Rattle.mt_record.specs.Decoding.{change_in, IsEntryBody}
use Rattle.mt_record.proofs.Decodes.{entry_says}
use Rattle.mt_record.proofs.EntryTexts.{whole_code}

-- the number of an entry is also that of a body
pub within : (bodies : List (List ℕ)) (entries : List Change) (n : ℕ) → map change_in bodies ≡ entries → n < length entries → n < length bodies
within bodies entries n same below =
    let long : length (map change_in bodies) ≡ length entries = ap length same in
    omega (arith, below, long, length-map bodies change_in)

-- the body with a number encodes the entry with that number
pub change_at : (bodies : List (List ℕ)) (entries : List Change) (body : List ℕ) (n : ℕ) (d : Change) → map change_in bodies ≡ entries → n < length entries
    → body ≡ get_or bodies n [] → change_in body ≡ get_or entries n d
change_at bodies entries body n d same below is =
    ap change_in is ∙ sym (get_or-map change_in bodies n [] d (within bodies entries n same below)) ∙ ap (λ (cs : List Change). get_or cs n d) same

-- nine zeros before the fields of an entry make the body that encodes it
pub fields_say : (fields : List ℕ) (entry : Change) → AreFieldsOf widest fields entry
    → (change_in (0 ∷ 0 ∷ 0 ∷ 0 ∷ 0 ∷ 0 ∷ 0 ∷ 0 ∷ 0 ∷ fields) ≡ entry) × IsEntryBody (0 ∷ 0 ∷ 0 ∷ 0 ∷ 0 ∷ 0 ∷ 0 ∷ 0 ∷ 0 ∷ fields)
fields_say fields entry are =
    let spelled : 0 ∷ 0 ∷ 0 ∷ 0 ∷ 0 ∷ 0 ∷ 0 ∷ 0 ∷ 0 ∷ fields ≡ body_of 0 (Some entry) =
    λ i. sym (whole_code entry.kind are.lawful.1) i ∷ 0 ∷ 0 ∷ 0 ∷ 0 ∷ 0 ∷ 0 ∷ 0 ∷ 0 ∷ are.spelled i in
    entry_says (0 ∷ 0 ∷ 0 ∷ 0 ∷ 0 ∷ 0 ∷ 0 ∷ 0 ∷ 0 ∷ fields) entry are.lawful.0 spelled

-- one more body is one more entry
pub entry_more : (bodies new : List (List ℕ)) (entries : List Change) (body : List ℕ) (entry : Change) → map change_in bodies ≡ entries → new ≡ bodies ++ body ∷ []
    → change_in body ≡ entry → map change_in new ≡ entries ++ entry ∷ []
entry_more bodies new entries body entry same added says =
    ap (map change_in) added ∙ map-append change_in bodies (body ∷ []) ∙ (λ i. same i ++ says i ∷ [])

-- with one more entry, its key follows those of the others
pub key_more : (bodies : List (List ℕ)) (entries : List Change) (entry : Change) (key : List ℕ) → map change_in bodies ≡ entries ++ entry ∷ [] → key ≡ entry.key
    → map (λ (entry : Change). entry.key) entries ++ key ∷ [] ≡ map (λ (entry : Change). entry.key) (map change_in bodies)
key_more bodies entries entry key same is =
    (λ i. map (λ (entry : Change). entry.key) entries ++ is i ∷ []) ∙ sym (map-append (λ (entry : Change). entry.key) entries (entry ∷ [])) ∙ ap (map (λ (entry : Change). entry.key)) (sym same)
