-- Decoding checked bodies, field by field.
use Rattle.std.proofs.Common.{◌≡◌, ℕ, Bool, List, [], ◌∷◌, ◌++◌, length, sym, ap, ◌∙◌, subst, append_assoc, arith}
use Rattle.std.proofs.lemmas.List.{append-nil}
use Rattle.std.specs.Prelude.{false, IfSome}
use Rattle.std.specs.List.{flat_map}
use Rattle.mt_words.specs.declared.limits.Format.{Format}
use Rattle.mt_words.specs.declared.code.Code.TheVariants as codes
use Rattle.mt_words.specs.declared.code.Payload.TheVariants as payloads
use Rattle.mt_words.specs.declared.record.Change.{Change}
use Rattle.mt_words.specs.Limits.{limits_of, widest, widest_format}
use Rattle.mt_words.specs.Words.{IsKey, IsColumn, AreColumns}
use Rattle.mt_words.specs.Columns.{CanFollow}
use Rattle.mt_words.specs.Changes.{AllowsKind, IsLawful, IsLoggedChange}
use Rattle.mt_words.proofs.Formats.{change_within}
use Rattle.mt_words.proofs.ColumnBytes.{all_at, may_follow, same_column}
use Rattle.mt_record.specs.Spelling.{column_bytes, kind_bytes, change_bytes, FitsColumn, FitsChange}
use Rattle.mt_record.specs.declared.body.ChangeFields.{ChangeFields}
use Rattle.mt_record.specs.Steps.Bodies.{IsLawfulBody, AreFieldsOf, AreFieldsIn}
use Rattle.mt_record.specs.Decoding.{kind_from, change_unless, is_mark_in, code_in, carried_in, kind_in, change_in, IsBody, IsChangeBody, IsCarried}
use Rattle.mt_record.proofs.Unique.{same_change}
use Rattle.mt_record.proofs.Decodes.{body_says, carried_is, carried_spelled}
use Rattle.mt_record.proofs.EntryTexts.{entry_fits, whole_code}
use Rattle.mt_record.proofs.KeptBodies.{fields_say}

-- ---- bodies

-- the body of a lawful record is a body
pub lawful_body : (bytes : List ℕ) → IsLawfulBody bytes → IsBody bytes
lawful_body bytes (r, is) = (body_says bytes r is.lawful is.spelled).1

-- the body of a lawful record that is not a mark is the body of a lawful change
pub lawful_change : (bytes : List ℕ) → IsLawfulBody bytes → is_mark_in bytes ≡ false → IsChangeBody bytes × IsLoggedChange widest (change_in bytes)
lawful_change bytes (r, is) no_mark =
    let says = body_says bytes r is.lawful is.spelled in
    let lawful = subst (IsLawful widest) (sym says.0) is.lawful in
    ((says.1, no_mark), subst (λ (mark : Bool). IfSome (change_unless mark (change_in bytes)) (IsLoggedChange widest)) no_mark lawful.1)

-- ---- columns, one after the other

-- `columns` are the first of all columns, and `rest` encodes the others
pub record AreTaken (all columns : List (ℕ × List ℕ)) (rest : List ℕ) : Type 0 where
  pub left : List (ℕ × List ℕ)
  pub were : all ≡ columns ++ left
  pub spelled : rest ≡ flat_map column_bytes left

-- a lawful column fits its fields
column_fits : (column : ℕ × List ℕ) → IsColumn widest column → FitsColumn column
column_fits column is = (omega (arith, is.0), omega (arith, is.1))

-- the next column may follow those taken, and is then taken too
pub take_next : (all columns : List (ℕ × List ℕ)) (rest after : List ℕ) (c : ℕ × List ℕ) → AreColumns widest all → AreTaken all columns rest → FitsColumn c → rest ≡ column_bytes c ++ after
    → CanFollow widest columns c × ((new : List (ℕ × List ℕ)) → new ≡ columns ++ c ∷ [] → AreTaken all new after)
take_next all columns rest after c are taken fits e = by taken.left taken.were (sym taken.spelled ∙ e)
  where
    by : (left : List (ℕ × List ℕ)) → all ≡ columns ++ left → flat_map column_bytes left ≡ column_bytes c ++ after
        → CanFollow widest columns c × ((new : List (ℕ × List ℕ)) → new ≡ columns ++ c ∷ [] → AreTaken all new after)
    by [] were same = absurd (omega (arith, ap length same))
    by (d ∷ ds) were same =
        let lawful = subst (AreColumns widest) were are in
        let next = same_column d c (flat_map column_bytes ds) after (column_fits d (all_at widest columns ds d lawful.0)) fits same in (
          subst (CanFollow widest columns) next.0 (may_follow widest columns ds d lawful),
          λ new added. record {
            left = ds;
            were = were ∙ sym (ap (λ (x : List (ℕ × List ℕ)). x ++ ds) (added ∙ ap (λ (e : ℕ × List ℕ). columns ++ e ∷ []) (sym next.0)) ∙ append_assoc columns (d ∷ []) ds);
            spelled = sym next.1;
          },
        )

-- if no column follows, all are taken
pub all_taken : (all columns : List (ℕ × List ℕ)) (rest : List ℕ) → AreColumns widest all → AreTaken all columns rest
    → ((c : ℕ × List ℕ) (more : List ℕ) → FitsColumn c → rest ≡ column_bytes c ++ more → ⊥) → columns ≡ all
all_taken all columns rest are taken none = by taken.left taken.were taken.spelled
  where
    by : (left : List (ℕ × List ℕ)) → all ≡ columns ++ left → rest ≡ flat_map column_bytes left → columns ≡ all
    by [] were same = sym (were ∙ append-nil columns)
    by (d ∷ ds) were same = absurd (none d (flat_map column_bytes ds) (column_fits d (all_at widest columns ds d (subst (AreColumns widest) were are).0)) same)

-- ---- entries

-- the fields of a lawful entry, as they are copied
pub record IsEntryRead (fields : ChangeFields) (entry : Change) : Type 0 where
  pub key : IsKey widest fields.key.now
  pub carried : IsCarried payloads.Columns fields.carried.now
  pub lawful : AllowsKind widest (kind_from codes.Whole fields.carried.now)
  pub is : record { version = fields.version; key = fields.key.now; kind = kind_from codes.Whole fields.carried.now } ≡ entry

pub read_entry : (bytes : List ℕ) (entry : Change) (fields : ChangeFields) → AreFieldsOf widest bytes entry
    → ((change : Change) → FitsChange change → bytes ≡ change_bytes change → AreFieldsIn change fields) → IsEntryRead fields entry
unfolding code_in
read_entry bytes entry fields are reads =
    let read = reads entry (entry_fits widest_format entry are.lawful) are.spelled in
    let body = 0 ∷ 0 ∷ 0 ∷ 0 ∷ 0 ∷ 0 ∷ 0 ∷ 0 ∷ 0 ∷ bytes in
    let says = fields_say bytes entry are in
    let kind : kind_in body ≡ entry.kind = ap (λ (c : Change). c.kind) says.0 in
    let carried : carried_in body ≡ fields.carried.now = (carried_spelled body says.1.change).0 ∙ ap kind_bytes kind ∙ sym read.carried in
    let whole : kind_from codes.Whole fields.carried.now ≡ entry.kind = ap (kind_from codes.Whole) (sym carried) ∙ kind in
    record {
      key = subst (IsKey widest) (sym read.key) are.lawful.0.key;
      carried = subst (IsCarried payloads.Columns) carried (carried_is body says.1.change);
      lawful = subst (AllowsKind widest) (sym whole) are.lawful.0.kind;
      is = λ i. record { version = read.version i; key = read.key i; kind = whole i };
    }

-- the same bytes are the fields of only one entry
pub same_entry : (bytes : List ℕ) (a b : Change) → AreFieldsOf widest bytes a → AreFieldsOf widest bytes b → a ≡ b
same_entry bytes a b is too =
    same_change a b (entry_fits widest_format a is.lawful) (entry_fits widest_format b too.lawful) (whole_code a.kind is.lawful.1 ∙ sym (whole_code b.kind too.lawful.1)) (sym is.spelled ∙ too.spelled)

-- if a format allows an entry, so does the widest format
pub entry_within : (format : Format) (bytes : List ℕ) (entry : Change) → AreFieldsOf (limits_of format) bytes entry → AreFieldsOf widest bytes entry
entry_within format bytes entry is = record { lawful = (change_within format entry is.lawful.0, is.lawful.1); spelled = is.spelled }
