-- The fields of a change, and what its kind carries.
use Rattle.std.proofs.Common.{◌≡◌, Bool, ◌≤◌, ◌↔◌, IsTrue, ℕ, suc, ◌<◌, ◌^◌, List, [], ◌∷◌, ◌++◌, length, refl, sym, ap, subst, ◌∙◌, arith}
use Rattle.mt_words.proofs.ColumnBytes.{same_number, same_counted}
use Rattle.mt_record.proofs.Numbers.{AreBytes}
use Rattle.std.specs.Prelude.{slice_index}
use Rattle.std.specs.List.{AllByRecursion}
use Rattle.byteorder.specs.Endian.{big_bytes}
use Rattle.mt_words.specs.declared.code.Code.{Code}
use Rattle.mt_words.specs.declared.code.Code.TheVariants as codes
use Rattle.mt_words.specs.declared.code.Payload.TheVariants as payloads
use Rattle.mt_words.specs.declared.record.Change.{Change}
use Rattle.mt_words.specs.declared.update.Kind.{Kind as AnyKind}
use Rattle.mt_words.specs.declared.update.Kind.TheVariants.{Put, Whole, Erase}
use Rattle.mt_words.specs.declared.limits.Limits.{Limits}
use Rattle.mt_words.specs.Codes.{byte_of, payload_of}
use Rattle.mt_words.specs.Words.{AreNumbers}
use Rattle.mt_record.specs.declared.body.ChangeFields.{ChangeFields}
use Rattle.mt_record.specs.Spelling.{with_length, kind_bytes, change_bytes, FitsChange}
use Rattle.mt_record.specs.Steps.Bodies.{IsNoChange, IsChangeWith, IsKindOf, HasKind, IsJudgedKind, SpellFields, AreSpelled, AreJudgedColumns}

-- ---- kinds

-- a count and that many encoded columns are what a put carries
put_of_columns : (count : ℕ) (bytes : List ℕ) (cs : List (ℕ × List ℕ)) → count < 2 ^ 8 → AreSpelled count bytes cs → IsKindOf 1 (count ∷ bytes) (Put cs)
put_of_columns count bytes cs fits s = record { code = refl; spelled = λ i. sym s.number i ∷ s.spelled i; fits = (omega (arith, s.number), s.fits) }

-- a count and that many encoded columns are also what a `Whole` carries
whole_of_columns : (count : ℕ) (bytes : List ℕ) (cs : List (ℕ × List ℕ)) → count < 2 ^ 8 → AreSpelled count bytes cs → IsKindOf 0 (count ∷ bytes) (Whole cs)
whole_of_columns count bytes cs fits s = record { code = refl; spelled = λ i. sym s.number i ∷ s.spelled i; fits = (omega (arith, s.number), s.fits) }

-- a count and that many numbers are what an erase carries
erase_of_numbers : (count : ℕ) (bytes : List ℕ) → count < 2 ^ 8 → length bytes ≡ count → AllByRecursion (λ number. number < 2 ^ 8) bytes → IsKindOf 4 (count ∷ bytes) (Erase bytes)
erase_of_numbers count bytes fits same small = record { code = refl; spelled = λ i. sym same i ∷ bytes; fits = (omega (arith, same), small) }

first_byte : (count : ℕ) (bytes rest : List ℕ) → AreBytes bytes → bytes ≡ count ∷ rest → count < 2 ^ 8
first_byte count bytes rest small same = subst (λ (b : List ℕ). slice_index b 0 < 2 ^ 8) same (small 0)

-- the format allows the kind with this code that carries columns exactly if it allows the columns
pub judged_columns : (limits : Limits) (code : Code) (count : ℕ) (bytes rest : List ℕ) (allowed : Bool) → payload_of code ≡ payloads.Columns → AreBytes bytes → bytes ≡ count ∷ rest
    → AreJudgedColumns limits count rest allowed → IsJudgedKind limits (byte_of code) bytes allowed
judged_columns limits codes.Whole count bytes rest allowed is small same h =
    rw same (record { kind = Whole h.columns; is_kind = whole_of_columns count rest h.columns (first_byte count bytes rest small same) h.spelled; judged = h.judged })
judged_columns limits codes.Put count bytes rest allowed is small same h =
    rw same (record { kind = Put h.columns; is_kind = put_of_columns count rest h.columns (first_byte count bytes rest small same) h.spelled; judged = h.judged })
judged_columns limits codes.Remove count bytes rest allowed is fits same h = absurd cc
judged_columns limits codes.Erase count bytes rest allowed is fits same h = absurd cc

-- each number is a byte
all_bytes : (xs : List ℕ) → AreBytes xs → AllByRecursion (λ x. x < 2 ^ 8) xs
all_bytes [] small = tt
all_bytes (x ∷ xs) small = (small 0, all_bytes xs (λ i. small (suc i)))

-- the format allows the erase that carries numbers exactly if it allows the numbers
pub judged_numbers : (limits : Limits) (code : Code) (count : ℕ) (bytes rest : List ℕ) (allowed : Bool) → payload_of code ≡ payloads.Numbers → byte_of code ≤ limits.kind → AreBytes bytes
    → bytes ≡ count ∷ rest → length rest ≡ count → (IsTrue allowed ↔ (AreNumbers limits rest × (0 < length rest))) → IsJudgedKind limits (byte_of code) bytes allowed
judged_numbers limits codes.Whole count bytes rest allowed is within small same number h = absurd cc
judged_numbers limits codes.Put count bytes rest allowed is within small same number h = absurd cc
judged_numbers limits codes.Remove count bytes rest allowed is within small same number h = absurd cc
judged_numbers limits codes.Erase count bytes rest allowed is within small same number h =
    rw same (record {
      kind = Erase rest;
      is_kind = erase_of_numbers count rest (first_byte count bytes rest small same) number (all_bytes rest (λ i. subst (λ (b : List ℕ). slice_index b (suc i) < 2 ^ 8) same (small (suc i))));
      judged = (λ t. let are = h.0 t in (within, are.0, are.1), λ allows. h.1 (allows.1, allows.2));
    })

-- ---- fields

-- the change with these fields and this kind
abbrev pub change_of : ChangeFields → AnyKind → Change
change_of fields kind = record { version = fields.version; key = fields.key.now; kind = kind }

-- if `P` holds for the change with these fields, the bytes are a change for which `P` holds
pub of_change : (code : ℕ) (bytes : List ℕ) (f : ChangeFields) (P : Change → Type 0) → SpellFields bytes f → (kind : AnyKind) → IsKindOf code f.carried.now kind
    → P (change_of f kind) → IsChangeWith code bytes P
of_change code bytes f P are kind is holds = record {
  change = change_of f kind;
  fits = record { version = are.version_fits; key = are.key_fits; kind = is.fits };
  code = is.code;
  spelled = are.spelled ∙ ap (λ (x : List ℕ). big_bytes 8 f.version ++ (with_length f.key.now ++ x)) is.spelled;
  holds = holds;
}

-- if bytes are these fields and also those of a change, the fields are the change's
pub same_fields : (bytes : List ℕ) (fields : ChangeFields) (change : Change) → SpellFields bytes fields → FitsChange change → bytes ≡ change_bytes change
    → (fields.version ≡ change.version) × (fields.key.now ≡ change.key) × (fields.carried.now ≡ kind_bytes change.kind)
same_fields bytes fields change are fits e =
    let version = same_number 8 fields.version change.version (with_length fields.key.now ++ fields.carried.now) (with_length change.key ++ kind_bytes change.kind) are.version_fits fits.version (sym are.spelled ∙ e) in
    let key = same_counted fields.key.now change.key fields.carried.now (kind_bytes change.kind) are.key_fits fits.key version.1 in
    (version.0, key.0, key.1)

-- if no kind with this byte carries the bytes after the key, the bytes are not a change of such a kind
pub no_change : (code : ℕ) (bytes : List ℕ) (fields : ChangeFields) → SpellFields bytes fields → (HasKind code fields.carried.now → ⊥) → IsNoChange code bytes
no_change code bytes fields are none change fits same e =
    none (change.kind, record { code = same; spelled = (same_fields bytes fields change are fits e).2; fits = fits.kind })
