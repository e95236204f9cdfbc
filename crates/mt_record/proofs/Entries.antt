-- Entries of checkpoints, and the parts that hold them.
use Rattle.std.proofs.Common.{◌≡◌, ◌∙◌, ℕ, suc, ◌+◌, ◌^◌, ◌<◌, ◌≤◌, List, [], ◌∷◌, ◌++◌, length, take, get_or, sym, ap, append_assoc, arith}
use Rattle.std.proofs.Math.Seq.{take-suc, take-append_seam}
use Rattle.std.specs.Prelude.{Result, Ok, Err, OnOk, OnErr}
use Rattle.std.specs.Io.{StartsWith}
use Rattle.std.specs.List.{flat_map}
use Rattle.std.proofs.lemmas.List.{length-append, flat_map_more, take_all}
use Rattle.mt_words.specs.declared.record.Change.{Change}
use Rattle.mt_words.specs.declared.update.Kind.{Kind}
use Rattle.mt_words.specs.declared.update.Kind.TheVariants.{Put, Remove, Whole, Erase}
use Rattle.mt_words.specs.declared.limits.Format.{Format}
use Rattle.mt_words.specs.declared.limits.Limits.{Limits}
use Rattle.mt_words.specs.Limits.{limits_of}
use Rattle.mt_words.specs.Changes.{AllowsKind, IsWhole, IsEntry}
use Rattle.mt_words.proofs.Formats.{within}
use Rattle.mt_record.specs.Spelling.{column_bytes, kind_bytes, change_bytes}
use Rattle.mt_record.specs.Parts.{entry_spelling}
use Rattle.mt_record.specs.PartTexts.{IsEntryLength}
use Rattle.mt_record.proofs.Lawful.{kind_length}

-- one or more columns take at least three bytes
some_columns : (cs : List (ℕ × List ℕ)) → 0 < length cs → 3 ≤ length (flat_map column_bytes cs)
some_columns [] some = omega (arith, some)
some_columns (c ∷ cs) some = omega (arith, length-append c.1 (flat_map column_bytes cs))

kind_least : (limits : Limits) (kind : Kind) → AllowsKind limits kind → IsWhole kind → 4 ≤ length (kind_bytes kind)
kind_least limits (Put cs) allowed whole = absurd whole
kind_least limits Remove allowed whole = absurd whole
kind_least limits (Whole cs) allowed whole = omega (arith, some_columns cs allowed.1)
kind_least limits (Erase ns) allowed whole = absurd whole

-- the fields of a lawful entry have an allowed length
pub entry_length : (limits : Limits) (change : Change) → IsEntry limits change → IsEntryLength limits (length (change_bytes change))
entry_length limits change entry =
    let least = kind_least limits change.kind entry.0.kind entry.1 in
    let most = kind_length limits change.kind entry.0.kind in
    let fields = length-append change.key (kind_bytes change.kind) in
    (omega (arith, least, fields), omega (arith, most, fields, entry.0.key))

-- the length of an entry fits in its four bytes
pub short_entry : (format : Format) (n : ℕ) → IsEntryLength (limits_of format) n → n < 2 ^ 32
short_entry format n is =
    let room = within format in
    omega (arith, is.1, room.key, room.column)

-- ---- parts

-- one more entry is appended to the first ones
pub one_more_entry : (out new : List ℕ) (entries : List Change) (i : ℕ) (entry : Change) → i < length entries → entry ≡ get_or entries i entry
    → new ≡ (out ++ flat_map entry_spelling (take i entries)) ++ entry_spelling entry → new ≡ out ++ flat_map entry_spelling (take (i + 1) entries)
one_more_entry out new entries i entry below is e =
    let next : i + 1 ≡ suc i = omega arith in
    let front : take (i + 1) entries ≡ take i entries ++ entry ∷ [] =
    ap (λ (n : ℕ). take n entries) next ∙ take-suc entries i entry below ∙ ap (λ (d : Change). take i entries ++ d ∷ []) (sym is) in
    e ∙ flat_map_more entry_spelling out (take i entries) entry ∙ ap (λ (x : List Change). out ++ flat_map entry_spelling x) (sym front)

-- all entries, and then the footer
pub entries_ended : (out made new : List ℕ) (entries : List Change) (i : ℕ) (end : List ℕ) → length entries ≤ i
    → made ≡ out ++ flat_map entry_spelling (take i entries) → new ≡ made ++ end → new ≡ out ++ (flat_map entry_spelling entries ++ end)
entries_ended out made new entries i end all so_far e =
    let made_is = so_far ∙ ap (λ (cs : List Change). out ++ flat_map entry_spelling cs) (take_all i entries all) in
    e ∙ ap (λ (x : List ℕ). x ++ end) made_is ∙ append_assoc out (flat_map entry_spelling entries) end

-- the bytes that were there before stay in front
pub front_kept : {T E : Type 0} (answer : Result T E) (out more made end new : List ℕ) → made ≡ out ++ more → OnOk answer (new ≡ made ++ end) → OnErr answer (new ≡ made) → StartsWith new out
front_kept (Ok done) out more made end new so_far ok err = rw (ok, so_far, append_assoc) (take-append_seam out (more ++ end))
front_kept (Err why) out more made end new so_far ok err = rw (err, so_far) (take-append_seam out more)
