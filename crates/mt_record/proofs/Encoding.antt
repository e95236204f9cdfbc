-- Encoding records, one field after the other.
use Rattle.std.proofs.Common.{◌≡◌, ℕ, suc, ◌+◌, ◌*◌, ◌^◌, ◌<◌, ◌≤◌, List, [], ◌∷◌, ◌++◌, length, take, get_or, Option, Some, sym, ap, ◌∙◌, subst, append_assoc, arith}
use Rattle.std.proofs.Math.Seq.{take-suc}
use Rattle.std.proofs.lemmas.List.{append-nil, length-append}
use Rattle.std.proofs.lemmas.List.Concat.{flat_map-cons, flat_map-append}
use Rattle.std.proofs.lemmas.List.Folds.{length-flat_map-take}
use Rattle.std.specs.Prelude.{Vec}
use Rattle.std.specs.List.{flat_map}
use Rattle.byteorder.specs.Endian.{big_bytes}
use Rattle.mt_words.specs.Limits.{widest, widest_format}
use Rattle.mt_words.specs.Words.{AreColumns, AreNumbers}
use Rattle.mt_words.specs.declared.record.Change.{Change}
use Rattle.mt_words.specs.Changes.{Logged, IsLawful}
use Rattle.mt_words.proofs.ColumnBytes.{columns_length}
use Rattle.mt_record.specs.Spelling.{column_bytes, kind_byte, kind_bytes, change_bytes, body_of, framed, IsRecordLength}
use Rattle.mt_record.specs.Steps.Adding.{HasRoom, Adds}
use Rattle.mt_record.proofs.Lawful.{put_fits, erase_fits, lawful_length}

-- ---- columns

-- lawful column numbers are few enough for a count of one byte
pub few_numbers : (ns : List ℕ) → AreNumbers widest ns → length ns < 2 ^ 8
few_numbers ns are = (erase_fits widest_format ns are).0

-- so are lawful columns
pub few_columns : (cs : List (ℕ × List ℕ)) → AreColumns widest cs → length cs < 2 ^ 8
few_columns cs are = (put_fits widest_format cs are).0

-- ---- the first columns

-- the bytes of the first `i` columns
abbrev pub first_bytes : ℕ → List (ℕ × List ℕ) → List ℕ
first_bytes i cs = flat_map column_bytes (take i cs)

-- the bytes of one more column are appended
pub one_more : (cs : List (ℕ × List ℕ)) (i : ℕ) (c : ℕ × List ℕ) → i < length cs → c ≡ get_or cs i c → first_bytes (i + 1) cs ≡ first_bytes i cs ++ column_bytes c
one_more cs i c below is =
    let next : i + 1 ≡ suc i = omega arith in
    let front : take (i + 1) cs ≡ take i cs ++ c ∷ [] =
    ap (λ (n : ℕ). take n cs) next ∙ take-suc cs i c below ∙ ap (λ (d : ℕ × List ℕ). take i cs ++ d ∷ []) (sym is) in
    ap (flat_map column_bytes) front ∙ flat_map-append column_bytes (take i cs) (c ∷ [])
    ∙ ap (λ (x : List ℕ). first_bytes i cs ++ x) (flat_map-cons column_bytes c [] ∙ append-nil (column_bytes c))

-- the length of one more column is added
pub one_more_length : (cs : List (ℕ × List ℕ)) (i : ℕ) (c : ℕ × List ℕ) → i < length cs → c ≡ get_or cs i c
    → length (first_bytes (i + 1) cs) ≡ length (first_bytes i cs) + length (column_bytes c)
one_more_length cs i c below is = ap length (one_more cs i c below is) ∙ length-append (first_bytes i cs) (column_bytes c)

-- the first columns and one more are no longer than all columns
pub part_length : (cs : List (ℕ × List ℕ)) (i : ℕ) (c : ℕ × List ℕ) → i < length cs → c ≡ get_or cs i c
    → length (first_bytes i cs) + length (column_bytes c) ≤ length (flat_map column_bytes cs)
part_length cs i c below is =
    subst (λ (d : ℕ × List ℕ). length (first_bytes i cs) + length (column_bytes d) ≤ length (flat_map column_bytes cs)) (sym is)
    (length-flat_map-take column_bytes cs i c below)

-- lawful columns take at most 65538 * 255 bytes
pub few_bytes : (cs : List (ℕ × List ℕ)) → AreColumns widest cs → length (flat_map column_bytes cs) ≤ 65538 * 255
few_bytes cs are = omega (arith, columns_length widest cs are.0, few_columns cs are)

-- ---- adding

-- bytes appended in two steps are appended together
pub adds_both : {Z : Type 0} {a b c : Vec ℕ Z} {xs ys : List ℕ} → Adds xs a b → Adds ys b c → Adds (xs ++ ys) a c
adds_both {a = a} {xs = xs} {ys = ys} first then = record {
  items = then.items ∙ ap (λ (x : List ℕ). x ++ ys) first.items ∙ append_assoc a.items xs ys;
  len = omega (arith, first.len, then.len, length-append xs ys);
  room = omega (arith, first.room, then.room);
}

-- a length, a body and the length again, appended in this order, append the framed body
pub adds_framed : {Z : Type 0} {old body : List ℕ} {n : ℕ} {a b c d : Vec ℕ Z} → n ≡ length body → a.items ≡ old → Adds (big_bytes 4 n) a b → Adds body b c
    → Adds (big_bytes 4 n) c d → d.items ≡ old ++ framed body
adds_framed is same first second third = rw (← is, ← same) (adds_both first (adds_both second third)).items

-- what comes before a record's key, the key, what its kind carries and the length again, appended in this order, append the record
pub adds_record : {Z : Type 0} {old : List ℕ} {n : ℕ} {a b c d e : Vec ℕ Z} (timestamp : ℕ) (change : Change) → n ≡ length (body_of timestamp (Some change)) → a.items ≡ old
    → Adds (big_bytes 4 n ++ (kind_byte change.kind ∷ (big_bytes 8 timestamp ++ (big_bytes 8 change.version ++ big_bytes 2 (length change.key))))) a b → Adds change.key b c
    → Adds (kind_bytes change.kind) c d → Adds (big_bytes 4 n) d e → e.items ≡ old ++ framed (body_of timestamp (Some change))
adds_record {old = old} {n = n} timestamp change is same head key kind last =
    rw (← is, ← same, append_assoc change.key (kind_bytes change.kind) (big_bytes 4 n)) (adds_both head (adds_both key (adds_both kind last))).items

-- there is room for one more column after the first ones
pub column_room : {Z : Type 0} (cs : List (ℕ × List ℕ)) (i n : ℕ) (c : ℕ × List ℕ) (old out : Vec ℕ Z) → i < length cs → c ≡ get_or cs i c
    → Adds (n ∷ first_bytes i cs) old out → HasRoom (length (n ∷ flat_map column_bytes cs)) old → HasRoom (length (column_bytes c)) out
column_room cs i n c old out below is so_far room = omega (arith, so_far.len, so_far.room, room, part_length cs i c below is)

-- ---- records

-- the body of a lawful record with a change has an allowed length: 9 and that of the change
pub changed_length : (r : Logged) (change : Change) → IsLawful widest r → r.change ≡ Some change → IsRecordLength widest (9 + length (change_bytes change))
changed_length r change lawful is =
    let here : IsRecordLength widest (length (body_of r.timestamp (Some change))) =
    subst (λ (o : Option Change). IsRecordLength widest (length (body_of r.timestamp o))) is (lawful_length widest r lawful) in
    (omega arith, omega (arith, here.1))
