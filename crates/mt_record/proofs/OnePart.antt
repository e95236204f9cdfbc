-- Bytes are at most one part of a checkpoint, and begin with at most one entry.
use Rattle.std.proofs.Common.{◌≡◌, ◌∙◌, ℕ, ◌<◌, ◌^◌, List, [], ◌∷◌, ◌++◌, length, drop, refl, sym, ap, subst, append_assoc, arith}
use Rattle.std.proofs.lemmas.List.{append-nil}
use Rattle.std.specs.Prelude.{slice_index}
use Rattle.std.specs.List.{flat_map, AllByRecursion}
use Rattle.byteorder.specs.Endian.{big_bytes}
use Rattle.mt_words.specs.declared.limits.Format.{Format}
use Rattle.mt_words.specs.declared.record.Change.{Change}
use Rattle.mt_words.specs.Limits.{limits_of}
use Rattle.mt_words.proofs.Formats.{same_format}
use Rattle.mt_words.specs.Changes.{IsEntry}
use Rattle.mt_words.proofs.ColumnBytes.{same_split, same_number}
use Rattle.mt_record.specs.Spelling.{change_bytes}
use Rattle.mt_record.specs.declared.part_text.PartHead.{PartHead}
use Rattle.mt_record.specs.Parts.{part_head_bytes, IsPartHead, entry_spelling, footer_bytes, IsPart}
use Rattle.mt_record.specs.PartTexts.{IsEntryLength}
use Rattle.mt_record.specs.PartFaults.{HasNoEntry, BeginsPart}
use Rattle.mt_record.proofs.Unique.{same_change, same_framed, framed_apart}
use Rattle.mt_record.proofs.Entries.{entry_length, short_entry}
use Rattle.mt_record.proofs.EntryTexts.{entry_fits, whole_code}

-- ---- entries

-- bytes begin with at most one entry
pub same_entry : (format : Format) (a b : Change) (x y : List ℕ) → IsEntry (limits_of format) a → IsEntry (limits_of format) b
    → entry_spelling a ++ x ≡ entry_spelling b ++ y → (a ≡ b) × (x ≡ y)
same_entry format a b x y is_a is_b e =
    let short_a = short_entry format (length (change_bytes a)) (entry_length (limits_of format) a is_a) in
    let short_b = short_entry format (length (change_bytes b)) (entry_length (limits_of format) b is_b) in
    let same = same_framed (change_bytes a) (change_bytes b) x y short_a short_b e in
    let code = whole_code a.kind is_a.1 ∙ sym (whole_code b.kind is_b.1) in
    (same_change a b (entry_fits format a is_a) (entry_fits format b is_b) code same.0, same.1)

-- no entry's encoding begins another's
pub entry_free : (format : Format) (a b : Change) (more : List ℕ) → IsEntry (limits_of format) a → IsEntry (limits_of format) b
    → entry_spelling b ≡ entry_spelling a ++ more → (a ≡ b) × (more ≡ [])
entry_free format a b more is_a is_b e = same_entry format a b more [] is_a is_b (sym e ∙ sym (append-nil (entry_spelling b)))

-- bytes that begin with a length that no entry has do not begin with an entry
pub length_no_entry : (format : Format) (rest : List ℕ) (n : ℕ) (more : List ℕ) → n < 2 ^ 32 → (IsEntryLength (limits_of format) n → ⊥) → rest ≡ big_bytes 4 n ++ more
    → HasNoEntry (limits_of format) rest
length_no_entry format rest n more fits wrong e entry behind is other =
    let fields = change_bytes entry in
    let long = entry_length (limits_of format) entry is in
    let same = same_number 4 n (length fields) more (fields ++ (big_bytes 4 (length fields) ++ behind)) fits (short_entry format (length fields) long)
    (sym e ∙ other ∙ framed_apart fields behind) in
    wrong (subst (IsEntryLength (limits_of format)) (sym same.0) long)

-- bytes that begin with a footer do not begin with an entry
pub footer_no_entry : (format : Format) (rest more : List ℕ) (end count : ℕ) → rest ≡ footer_bytes end count ++ more → HasNoEntry (limits_of format) rest
footer_no_entry format rest more end count e = length_no_entry format rest 0 (big_bytes 8 end ++ (big_bytes 4 count ++ more)) (omega arith) (λ is. omega (arith, is.0)) e

-- ---- parts

-- bytes begin with only one list of entries, if no further entry follows
pub same_rest : (format : Format) (xs ys : List Change) (a b : List ℕ) → AllByRecursion (IsEntry (limits_of format)) xs → AllByRecursion (IsEntry (limits_of format)) ys
    → HasNoEntry (limits_of format) a → HasNoEntry (limits_of format) b → flat_map entry_spelling xs ++ a ≡ flat_map entry_spelling ys ++ b → (xs ≡ ys) × (a ≡ b)
same_rest format [] [] a b are too none_a none_b e = (refl, e)
same_rest format [] (y ∷ ys) a b are too none_a none_b e = absurd (none_a y (flat_map entry_spelling ys ++ b) too.0 (e ∙ append_assoc (entry_spelling y) (flat_map entry_spelling ys) b))
same_rest format (x ∷ xs) [] a b are too none_a none_b e = absurd (none_b x (flat_map entry_spelling xs ++ a) are.0 (sym e ∙ append_assoc (entry_spelling x) (flat_map entry_spelling xs) a))
same_rest format (x ∷ xs) (y ∷ ys) a b are too none_a none_b e =
    let apart = sym (append_assoc (entry_spelling x) (flat_map entry_spelling xs) a) ∙ e ∙ append_assoc (entry_spelling y) (flat_map entry_spelling ys) b in
    let first = same_entry format x y (flat_map entry_spelling xs ++ a) (flat_map entry_spelling ys ++ b) are.0 too.0 apart in
    let rest = same_rest format xs ys a b are.1 too.1 none_a none_b first.1 in
    (λ i. first.0 i ∷ rest.0 i, rest.1)

-- bytes begin with only one header
pub same_head : (a b : PartHead) (x y : List ℕ) → IsPartHead a → IsPartHead b → part_head_bytes a ++ x ≡ part_head_bytes b ++ y → (a ≡ b) × (x ≡ y)
same_head a b x y is_a is_b e =
    let split = same_split (part_head_bytes a) (part_head_bytes b) x y refl e in
    let fields_a = big_bytes 8 a.begin ++ (big_bytes 2 a.part ++ big_bytes 2 a.parts) in
    let fields_b = big_bytes 8 b.begin ++ (big_bytes 2 b.part ++ big_bytes 2 b.parts) in
    let format = same_format a.format b.format (ap (λ (bytes : List ℕ). slice_index bytes 3) split.0) in
    let behind : big_bytes 4 a.number ++ fields_a ≡ big_bytes 4 b.number ++ fields_b = ap (drop 4) split.0 in
    let number = same_number 4 a.number b.number fields_a fields_b is_a.number is_b.number behind in
    let begin = same_number 8 a.begin b.begin (big_bytes 2 a.part ++ big_bytes 2 a.parts) (big_bytes 2 b.part ++ big_bytes 2 b.parts) is_a.begin is_b.begin number.1 in
    let part = same_number 2 a.part b.part (big_bytes 2 a.parts) (big_bytes 2 b.parts) is_a.part is_b.part begin.1 in
    let parts = same_number 2 a.parts b.parts [] [] is_a.parts is_b.parts (append-nil (big_bytes 2 a.parts) ∙ part.1 ∙ sym (append-nil (big_bytes 2 b.parts))) in
    (λ i. record { format = format i; number = number.0 i; begin = begin.0 i; part = part.0 i; parts = parts.0 i }, split.1)

-- bytes begin with only one header and one list of complete entries, if no further entry follows
pub same_beginning : (bytes : List ℕ) (h k : PartHead) (xs ys : List Change) (a b : List ℕ) → BeginsPart bytes h xs a → BeginsPart bytes k ys b → HasNoEntry (limits_of h.format) a
    → HasNoEntry (limits_of k.format) b → (h ≡ k) × (xs ≡ ys) × (a ≡ b)
same_beginning bytes h k xs ys a b p q none_a none_b =
    let heads = same_head h k (flat_map entry_spelling xs ++ a) (flat_map entry_spelling ys ++ b) p.is_head q.is_head (sym p.spelled ∙ q.spelled) in
    let lawful = subst (λ (head : PartHead). AllByRecursion (IsEntry (limits_of head.format)) xs) heads.0 p.lawful in
    let none = subst (λ (head : PartHead). HasNoEntry (limits_of head.format) a) heads.0 none_a in
    let rest = same_rest k.format xs ys a b lawful q.lawful none none_b heads.1 in
    (heads.0, rest.0, rest.1)

-- a part begins with its header and its entries, and its footer follows
pub part_begins : (bytes : List ℕ) (head : PartHead) (entries : List Change) (end : ℕ) → IsPart bytes head entries end → BeginsPart bytes head entries (footer_bytes end (length entries))
part_begins bytes head entries end is = record { spelled = is.spelled; is_head = is.is_head; lawful = is.lawful }

-- bytes are a part in only one way
pub one_part : (bytes : List ℕ) (head other : PartHead) (entries others : List Change) (end fin : ℕ) → IsPart bytes head entries end → IsPart bytes other others fin
    → (head ≡ other) × (entries ≡ others) × (end ≡ fin)
one_part bytes head other entries others end fin a b =
    let m = length entries in
    let n = length others in
    let none = footer_no_entry head.format (footer_bytes end m) [] end m (sym (append-nil (footer_bytes end m))) in
    let too = footer_no_entry other.format (footer_bytes fin n) [] fin n (sym (append-nil (footer_bytes fin n))) in
    let same = same_beginning bytes head other entries others (footer_bytes end m) (footer_bytes fin n) (part_begins bytes head entries end a) (part_begins bytes other others fin b) none too in
    let tails : big_bytes 8 end ++ big_bytes 4 m ≡ big_bytes 8 fin ++ big_bytes 4 n = ap (drop 4) same.2 in
    (same.0, same.1, (same_number 8 end fin (big_bytes 4 m) (big_bytes 4 n) a.fits b.fits tails).0)
