-- Which bytes are the body of a record, lawful or not.
use Rattle.std.proofs.Common.{◌≡◌, ◌⊎◌, inl, inr, ℕ, ◌^◌, ◌<◌, ◌≤◌, List, length, Option, Some, None, ap, ◌∙◌}
use Rattle.std.specs.Prelude.{IfSome}
use Rattle.std.specs.List.{AllByRecursion}
use Rattle.mt_words.specs.declared.record.Change.{Change}
use Rattle.mt_words.specs.declared.limits.Limits.{Limits}
use Rattle.mt_words.specs.declared.update.Kind.{Kind}
use Rattle.mt_words.specs.declared.update.Kind.TheVariants.{Put, Remove, Whole, Erase}
use Rattle.mt_words.specs.declared.code.Code.TheVariants as codes
use Rattle.mt_words.specs.Codes.{byte_of}
use Rattle.mt_words.specs.Words.{IsColumn, AreColumns, numbers_in}
use Rattle.mt_words.specs.Changes.{Logged, AllowsKind, IsLogged, IsWhole, IsLawfulChange, IsEntry}
use Rattle.mt_record.specs.Spelling.{body_of, body, FitsColumn, FitsKind, FitsChange, FitsLogged, Fits}
use Rattle.mt_record.specs.Decoding.{time_in, decode}
use Rattle.mt_record.proofs.Decodes.{mark_back, change_back}
use Rattle.mt_laws.proofs.Decided.{Decided, at_most, below, same_bytes, both, alike, three, all, if_some, rises, some_or_none}

-- a body decodes to its record
decodes : (t : ℕ) (change : Option Change) → t < 2 ^ 64 → IfSome change FitsLogged → decode (body_of t change) ≡ record { timestamp = t; change = change }
decodes t None fits_t fits = mark_back t fits_t
decodes t (Some change) fits_t fits = change_back t change fits_t fits.0

-- ---- what fits its fields, by a test

column_fits : (column : ℕ × List ℕ) → Decided (FitsColumn column)
column_fits column = both (below column.0 (2 ^ 8)) (below (length column.1) (2 ^ 16))

columns_fit : (columns : List (ℕ × List ℕ)) → Decided ((length columns < 2 ^ 8) × AllByRecursion FitsColumn columns)
columns_fit columns = both (below (length columns) (2 ^ 8)) (all FitsColumn column_fits columns)

kind_fits : (kind : Kind) → Decided (FitsKind kind)
kind_fits (Put columns) = columns_fit columns
kind_fits Remove = inl tt
kind_fits (Whole columns) = columns_fit columns
kind_fits (Erase numbers) = both (below (length numbers) (2 ^ 8)) (all (λ (n : ℕ). n < 2 ^ 8) (λ n. below n (2 ^ 8)) numbers)

is_logged : (kind : Kind) → Decided (IsLogged kind)
is_logged (Put columns) = inl tt
is_logged Remove = inl tt
is_logged (Whole columns) = inr (λ is. is)
is_logged (Erase numbers) = inl tt

change_fits : (change : Change) → Decided (FitsLogged change)
change_fits change =
    both (alike (λ f. record { version = f.0; key = f.1; kind = f.2 }) (λ (f : FitsChange change). (f.version, f.key, f.kind)) (three (below change.version (2 ^ 64)) (below (length change.key) (2 ^ 16)) (kind_fits change.kind)))
    (is_logged change.kind)

-- the bytes are the body of this record, lawful or not
abbrev pub Spells : List ℕ → Logged → Type 0
Spells bytes r = Fits r × (bytes ≡ body r)

pub body_or_none : (bytes : List ℕ) → ((r : Logged) × Spells bytes r) ⊎ ((r : Logged) → Spells bytes r → ⊥)
body_or_none bytes =
    some_or_none (Spells bytes) (decode bytes) (λ r is. ap decode is.1 ∙ decodes r.timestamp r.change is.0.0 is.0.1)
    (both (both (below (time_in bytes) (2 ^ 64)) (if_some FitsLogged change_fits (decode bytes).change)) (same_bytes bytes (body (decode bytes))))

-- ---- what a format allows, by a test

columns_allowed : (limits : Limits) (columns : List (ℕ × List ℕ)) → Decided (AreColumns limits columns × (0 < length columns))
columns_allowed limits columns =
    both (both (all (IsColumn limits) (λ column. both (at_most column.0 limits.column) (at_most (length column.1) _)) columns) (rises 0 (numbers_in columns))) (below 0 (length columns))

pub kind_allowed : (limits : Limits) (kind : Kind) → Decided (AllowsKind limits kind)
kind_allowed limits (Put columns) = columns_allowed limits columns
kind_allowed limits Remove = inl tt
kind_allowed limits (Whole columns) = columns_allowed limits columns
kind_allowed limits (Erase numbers) = three (at_most (byte_of codes.Erase) limits.kind) (both (all (λ (n : ℕ). n ≤ limits.column) (λ n. at_most n limits.column) numbers) (rises 0 numbers)) (below 0 (length numbers))

lawful_change : (limits : Limits) (change : Change) → Decided (IsLawfulChange limits change)
lawful_change limits change =
    alike (λ is. record { version = is.0; version_fits = is.1; key = is.2.0; kind = is.2.1 }) (λ (is : IsLawfulChange limits change). (is.version, is.version_fits, (is.key, is.kind)))
    (three (below 0 change.version) (below change.version (2 ^ 64)) (both (at_most (length change.key) limits.key) (kind_allowed limits change.kind)))

is_whole : (kind : Kind) → Decided (IsWhole kind)
is_whole (Put columns) = inr (λ is. is)
is_whole Remove = inr (λ is. is)
is_whole (Whole columns) = inl tt
is_whole (Erase numbers) = inr (λ is. is)

pub is_entry : (limits : Limits) (change : Change) → Decided (IsEntry limits change)
is_entry limits change = both (lawful_change limits change) (is_whole change.kind)
