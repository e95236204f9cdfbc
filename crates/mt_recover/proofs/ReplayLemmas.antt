-- The surviving updates, batch by batch.
use Rattle.std.proofs.Common.{ℕ, length, arith, ◌≡◌, map, Result, Ok, IfOk, List, [], ◌∷◌, ◌++◌, refl, sym, ap, ◌∙◌, subst}
use Rattle.std.specs.List.{filter, sum_by, AllZip}
use Rattle.std.proofs.lemmas.List.{map-append}
use Rattle.std.proofs.lemmas.List.Sums.{sum_by-cons}
use Rattle.std.proofs.lemmas.List.Elements.{filter-append}
use Rattle.mt_words.specs.declared.fault.Memory.{Memory}
use Rattle.mt_words.specs.declared.update.Update.{Update}
use Rattle.mt_words.specs.declared.update.Origin.TheVariants as origins
use Rattle.mt_words.specs.Updates.{update_at}
use Rattle.mt_words.specs.Walks.{joined}
use Rattle.mt_scan.specs.PartsShown.{KeptPart, shown_by_all}
use Rattle.mt_scan.specs.Steps.Checkpoints.{entries_of}
use Rattle.mt_replay.specs.declared.window.Window.{Window}
use Rattle.mt_replay.specs.Batches.{BatchView, batched}
use Rattle.mt_replay.specs.Ranges.{dealt_by}
use Rattle.mt_replay.specs.Survivors.{in_window, is_early, wholes}
use Rattle.mt_replay.proofs.BatchLemmas.{early_both}
use Rattle.mt_recover.specs.Steps.Preparing.{IsLeftBy}

-- ---- what each job gave

-- if no job ran out of memory, P holds for the jobs and what they gave
pub all_answered : {J X : Type 0} (P : J → X → Type 0) (jobs : List J) (answers : List (Result X Memory)) (done : List X) → AllZip (λ job answer. IfOk answer (P job)) jobs answers → answers ≡ map Ok done → AllZip P jobs done
all_answered P [] answers [] all are = tt
all_answered P [] [] (d ∷ ds) all are = absurd cc
all_answered P [] (a ∷ rest) (d ∷ ds) all are = absurd all
all_answered P (j ∷ js) [] done all are = absurd all
all_answered P (j ∷ js) (a ∷ rest) [] all are = absurd cc
all_answered P (j ∷ js) (a ∷ rest) (d ∷ ds) all are =
    let first : a ≡ Ok d = cc in
    let later : rest ≡ map Ok ds = cc in
    (subst (λ answer. IfOk answer (P j)) first all.0, all_answered P js rest ds all.1 later)

-- ---- what is left of batches

-- if this is left of each batch, its updates in the window were dealt
pub shares_dealt : (window : Window) (cuts : List (List ℕ)) (batches : List BatchView) (lefts : List (ℕ × List (List Update))) → AllZip (λ batch. IsLeftBy window cuts batch.updates) batches lefts
    → map (λ left. left.1) lefts ≡ map (dealt_by cuts) (map (λ batch. filter (in_window window) batch.updates) batches)
shares_dealt window cuts [] [] all = refl
shares_dealt window cuts [] (l ∷ ls) all = absurd all
shares_dealt window cuts (b ∷ bs) [] all = absurd all
shares_dealt window cuts (b ∷ bs) (l ∷ ls) all = λ i. all.0.dealt i ∷ shares_dealt window cuts bs ls all.1 i

-- the updates in the window of each batch are those of all batches
pub joined_in_window : (window : Window) (batches : List BatchView) → joined (map (λ batch. filter (in_window window) batch.updates) batches) ≡ filter (in_window window) (batched batches)
joined_in_window window [] = refl
joined_in_window window (b ∷ bs) = ap (λ (us : List Update). filter (in_window window) b.updates ++ us) (joined_in_window window bs) ∙ sym (filter-append (in_window window) b.updates (batched bs))

-- and the early updates of all batches are counted batch by batch
pub early_of_all : (window : Window) (cuts : List (List ℕ)) (batches : List BatchView) (lefts : List (ℕ × List (List Update))) → AllZip (λ batch. IsLeftBy window cuts batch.updates) batches lefts
    → sum_by (λ (n : ℕ). n) (map (λ left. left.0) lefts) ≡ length (filter (is_early window.begin) (batched batches))
early_of_all window cuts [] [] all = refl
early_of_all window cuts [] (l ∷ ls) all = absurd all
early_of_all window cuts (b ∷ bs) [] all = absurd all
early_of_all window cuts (b ∷ bs) (l ∷ ls) all =
    omega (arith, sum_by-cons (λ (n : ℕ). n) l.0 (map (λ left. left.0) ls), early_both window.begin b.updates (batched bs), all.0.early, early_of_all window cuts bs ls all.1)

-- ---- the entries of parts

-- the cells of all parts have the updates of all entries
pub cells_of_all_parts : (parts : List KeptPart) → joined (map (λ part. wholes part.entries) parts) ≡ wholes (entries_of (shown_by_all parts))
cells_of_all_parts [] = refl
cells_of_all_parts (p ∷ ps) =
    ap (λ (us : List Update). wholes p.entries ++ us) (cells_of_all_parts ps) ∙ sym (map-append (update_at origins.Checkpoint 0) p.entries (entries_of (shown_by_all ps)))
