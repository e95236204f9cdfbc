-- Reading columns from the front of bytes.
use Rattle.std.proofs.Common.{◌≡◌, ℕ, suc, ◌+◌, ◌-◌, ◌<◌, List, [], ◌∷◌, ◌++◌, sym, ap, ◌∙◌, subst, append_assoc, arith}
use Rattle.std.specs.List.{flat_map}
use Rattle.mt_words.proofs.ColumnBytes.{same_column}
pub use Rattle.mt_words.proofs.ColumnBytes.{may_follow}
use Rattle.mt_record.specs.Spelling.{column_bytes, FitsColumn}
use Rattle.mt_record.specs.Steps.Bodies.{AreSpelled, HasColumns}

-- ---- encoded columns

-- a column and then n columns are n + 1 columns
spelled_cons : (n : ℕ) (bytes after : List ℕ) (c : ℕ × List ℕ) (cs : List (ℕ × List ℕ)) → FitsColumn c → bytes ≡ column_bytes c ++ after
    → AreSpelled n after cs → AreSpelled (suc n) bytes (c ∷ cs)
spelled_cons n bytes after c cs fits e s =
    record { number = ap suc s.number; spelled = e ∙ ap (λ (x : List ℕ). column_bytes c ++ x) s.spelled; fits = (fits, s.fits) }

-- after the first of n + 1 columns come n columns
spelled_tail : (n : ℕ) (bytes after : List ℕ) (c : ℕ × List ℕ) (cs : List (ℕ × List ℕ)) → FitsColumn c → bytes ≡ column_bytes c ++ after
    → AreSpelled (suc n) bytes cs → HasColumns n after
spelled_tail n bytes after c [] fits e s = absurd (omega (arith, s.number))
spelled_tail n bytes after c (d ∷ ds) fits e s =
    let same = same_column c d after (flat_map column_bytes ds) fits s.fits.0 (sym e ∙ s.spelled) in
    (ds, record { number = omega (arith, s.number); spelled = same.1; fits = s.fits.1 })

-- ---- one column after the other

-- when a column is read, one fewer is left
pub step_left : (count i : ℕ) (bytes after : List ℕ) (c : ℕ × List ℕ) → i < count → FitsColumn c → bytes ≡ column_bytes c ++ after
    → HasColumns (count - i) bytes → HasColumns (count - (i + 1)) after
step_left count i bytes after c lt fits e h =
    let more : count - i ≡ suc (count - (i + 1)) = omega arith in
    let here = rw more at h in
    spelled_tail (count - (i + 1)) bytes after c here.0 fits e here.1

-- with one more column, those so far and those left are still all columns
pub step_joins : (count i total : ℕ) (all bytes after : List ℕ) (front new : List (ℕ × List ℕ)) (c : ℕ × List ℕ) → i < count → FitsColumn c
    → bytes ≡ column_bytes c ++ after
    → ((more : List (ℕ × List ℕ)) → AreSpelled (count - i) bytes more → AreSpelled total all (front ++ more)) → new ≡ front ++ c ∷ []
    → (more : List (ℕ × List ℕ)) → AreSpelled (count - (i + 1)) after more → AreSpelled total all (new ++ more)
step_joins count i total all bytes after front new c lt fits e joins pushed more s =
    let number : count - i ≡ suc (count - (i + 1)) = omega arith in
    let longer : AreSpelled (count - i) bytes (c ∷ more) = rw number (spelled_cons (count - (i + 1)) bytes after c more fits e s) in
    let regrouped : new ++ more ≡ front ++ c ∷ more = ap (λ (x : List (ℕ × List ℕ)). x ++ more) pushed ∙ append_assoc front (c ∷ []) more in
    subst (AreSpelled total all) (sym regrouped) (joins (c ∷ more) longer)
