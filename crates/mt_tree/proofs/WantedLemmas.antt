-- The columns that are wanted, in order.
use Rattle.std.proofs.Common.{◌≡◌, ℕ, suc, ◌<◌, ◌≤◌, Bool, true, false, List, [], ◌∷◌, ◌++◌, ◌∙◌, refl, ap, arith}
use Rattle.std.proofs.lemmas.List.{append-nil}
use Rattle.std.proofs.lemmas.List.Elements.{filter-append}
use Rattle.std.specs.Prelude.{filter}
use Rattle.std.specs.List.{AllByRecursion}
use Rattle.mt_words.specs.declared.limits.TheConstants.{GREATEST_COLUMN}
use Rattle.mt_words.specs.Limits.{widest}
use Rattle.mt_words.specs.Words.{IsColumn, AreColumns, NumbersRise}
use Rattle.mt_words.specs.Columns.{NumbersBelow, CanFollow}
use Rattle.mt_tree.specs.Range.{wants, wanted_of}

all_at : {A : Type 0} (P : A → Type 0) (xs ys : List A) (x : A) → AllByRecursion P (xs ++ x ∷ ys) → P x
all_at P [] ys x all = all.0
all_at P (y ∷ xs) ys x all = all_at P xs ys x all.1

all_kept : {A : Type 0} (P : A → Type 0) (test : A → Bool) (xs : List A) → AllByRecursion P xs → AllByRecursion P (filter test xs)
all_kept P test [] all = tt
all_kept P test (x ∷ xs) all = by (all_kept P test xs all.1) (test x) refl
  where
    by : AllByRecursion P (filter test xs) → (b : Bool) → test x ≡ b → AllByRecursion P (filter test (x ∷ xs))
    by rest true e = rw e (all.0, rest)
    by rest false e = rw e rest

rise_from : (low : ℕ) (seen rest : List (ℕ × List ℕ)) (c : ℕ × List ℕ) → NumbersRise low (seen ++ c ∷ rest) → low ≤ c.0
rise_from low [] rest c rise = rise.0
rise_from low (x ∷ xs) rest c rise = omega (arith, rise_from (suc x.0) xs rest c rise.1)

below_next : (low : ℕ) (seen rest : List (ℕ × List ℕ)) (c : ℕ × List ℕ) → NumbersRise low (seen ++ c ∷ rest) → NumbersBelow seen c.0
below_next low [] rest c rise = tt
below_next low (x ∷ xs) rest c rise = (rise_from (suc x.0) xs rest c rise.1, below_next (suc x.0) xs rest c rise.1)

-- the next column may follow the earlier ones that are wanted
pub next_follows : (flags : List Bool) (seen rest : List (ℕ × List ℕ)) (c : ℕ × List ℕ) → AreColumns widest (seen ++ c ∷ rest)
    → CanFollow widest (wanted_of flags seen) c
next_follows flags seen rest c are = (
  all_at (IsColumn widest) seen rest c are.0,
  all_kept (λ (x : ℕ × List ℕ). x.0 < c.0) (λ (x : ℕ × List ℕ). wants flags x.0) seen (below_next 0 seen rest c are.1),
)

-- with a column that is wanted there is one more
pub is_next : (flags : List Bool) (seen : List (ℕ × List ℕ)) (c : ℕ × List ℕ) → wants flags c.0 ≡ true → wanted_of flags (seen ++ c ∷ []) ≡ wanted_of flags seen ++ c ∷ []
is_next flags seen c is = filter-append (λ (x : ℕ × List ℕ). wants flags x.0) seen (c ∷ []) ∙ rw is refl

-- with one that is not wanted there are no more
pub is_left_out : (flags : List Bool) (seen : List (ℕ × List ℕ)) (c : ℕ × List ℕ) → wants flags c.0 ≡ false → wanted_of flags (seen ++ c ∷ []) ≡ wanted_of flags seen
is_left_out flags seen c is = filter-append (λ (x : ℕ × List ℕ). wants flags x.0) seen (c ∷ []) ∙ rw is (append-nil (wanted_of flags seen))

-- if all numbers are wanted, all columns of a key are
pub all_wanted : (flags : List Bool) (columns : List (ℕ × List ℕ)) → ((number : ℕ) → number ≤ GREATEST_COLUMN → wants flags number ≡ true) → AreColumns widest columns
    → wanted_of flags columns ≡ columns
all_wanted flags columns all are = each columns are.0
  where
    each : (rest : List (ℕ × List ℕ)) → AllByRecursion (IsColumn widest) rest → wanted_of flags rest ≡ rest
    each [] lawful = refl
    each (c ∷ cs) lawful = rw (all c.0 lawful.0.0) (ap (λ (later : List (ℕ × List ℕ)). c ∷ later) (each cs lawful.1))
