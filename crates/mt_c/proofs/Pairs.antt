-- Hits that have all columns of their pairs.
use Rattle.std.proofs.Common.{◌≡◌, ◌∙◌, ℕ, zero, suc, Bool, true, false, List, [], ◌∷◌, map, take, refl, ap}
use Rattle.std.specs.Prelude.{filter, Result, Ok, Err, IfOk}
use Rattle.std.specs.Global.{Vec}
use Rattle.std.specs.List.{AllByRecursion}
use Rattle.mt_words.specs.Limits.{widest}
use Rattle.mt_words.specs.Words.{AreColumns}
use Rattle.mt_words.specs.Walks.{Pair, IsPair}
use Rattle.mt_tree.specs.declared.hit.Hit.{Hit}
use Rattle.mt_tree.specs.Range.{is_from, wanted_of, hit_of, hits, range}
use Rattle.mt_c.specs.Holding.{pair_of}

-- what holds of all items holds of those that pass a test
all_kept : {A : Type 0} (P : A → Type 0) (test : A → Bool) (xs : List A) → AllByRecursion P xs → AllByRecursion P (filter test xs)
all_kept P test [] all = tt
all_kept P test (x ∷ xs) all = by (all_kept P test xs all.1) (test x) refl
  where
    by : AllByRecursion P (filter test xs) → (b : Bool) → test x ≡ b → AllByRecursion P (filter test (x ∷ xs))
    by rest true e = rw e (all.0, rest)
    by rest false e = rw e rest

-- and of the first n
all_taken : {A : Type 0} (P : A → Type 0) (n : ℕ) (xs : List A) → AllByRecursion P xs → AllByRecursion P (take n xs)
all_taken P zero xs all = tt
all_taken P (suc n) [] all = tt
all_taken P (suc n) (x ∷ xs) all = (all.0, all_taken P n xs all.1)

-- the hits of lawful pairs are these pairs, if all columns are wanted
all_hits : (flags : List Bool) (pairs : List Pair) → ((columns : List (ℕ × List ℕ)) → AreColumns widest columns → wanted_of flags columns ≡ columns) → AllByRecursion IsPair pairs
    → map pair_of (map (hit_of flags) pairs) ≡ pairs
all_hits flags [] whole all = refl
all_hits flags (pair ∷ pairs) whole all =
    let first : pair_of (hit_of flags pair) ≡ pair = ap (λ (columns : List (ℕ × List ℕ)). (pair.0, columns)) (whole pair.1 all.0.1) in
    ap (λ (p : Pair). p ∷ map pair_of (map (hit_of flags) pairs)) first ∙ ap (λ (ps : List Pair). pair ∷ ps) (all_hits flags pairs whole all.1)

-- so the hits of a range are the pairs of the range
pub range_whole : {E : Type 0} (found : Result (Vec Hit) E) (flags : List Bool) (pairs : List Pair) (start : List ℕ) (n : ℕ) → ((columns : List (ℕ × List ℕ)) → AreColumns widest columns → wanted_of flags columns ≡ columns)
    → AllByRecursion IsPair pairs → IfOk found (λ made. made.items ≡ hits flags pairs start n) → IfOk found (λ made. map pair_of made.items ≡ range pairs start n)
range_whole (Ok made) flags pairs start n whole all are = ap (λ (found : List Hit). map pair_of found) are ∙ all_hits flags (range pairs start n) whole (all_taken IsPair n (filter (is_from start) pairs) (all_kept IsPair (is_from start) pairs all))
range_whole (Err e) flags pairs start n whole all are = tt
