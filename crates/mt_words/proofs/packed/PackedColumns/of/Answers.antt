use Rattle.std.proofs.Common.{◌≡◌, ◌∙◌, ℕ, suc, ◌<◌, List, ◌∷◌, ◌++◌, length, get_or, take, drop, sym, ap, subst}
use Rattle.std.proofs.Math.Seq.{drop-cons}
use Rattle.std.proofs.lemmas.List.{take-append-drop}
use Rattle.mt_words.specs.Limits.{widest}
use Rattle.mt_words.specs.Words.{AreColumns}
use Rattle.mt_words.specs.Columns.{CanFollow}
use Rattle.mt_words.proofs.ColumnBytes.{may_follow}
use Rattle.mt_words.proofs.packed.PackedColumns.of.Goals as goal

-- in lawful columns, each may follow those before it
next_follows : (columns : List (ℕ × List ℕ)) (i : ℕ) (c : ℕ × List ℕ) → i < length columns → c ≡ get_or columns i c → AreColumns widest columns → CanFollow widest (take i columns) c
next_follows columns i c within is are =
    let back = c ∷ drop (suc i) columns in
    let cut : columns ≡ take i columns ++ back =
    sym (take-append-drop i columns) ∙ ap (λ (rest : List (ℕ × List ℕ)). take i columns ++ rest) (drop-cons columns i c within ∙ ap (λ (d : ℕ × List ℕ). d ∷ drop (suc i) columns) (sym is)) in
    may_follow widest (take i columns) (drop (suc i) columns) c (subst (AreColumns widest) cut are)

pub add-requires : goal.add-requires
add-requires c =
    let columns = c.as_slice-column-items.result.now in
    let are = subst (AreColumns widest) (sym c.as_slice-column-items.ensures.value) c.as_slice-column-items.ensures.lawful in
    let follows = next_follows columns c.loop-column.column-index c.column-item.result c.loop-column-test.true c.column-item.is are in
    let column : (c.column.inside.number, c.deref.result.now) ≡ c.column-item.result = ap (λ (bytes : List ℕ). (c.column.inside.number, bytes)) c.deref.ensures ∙ c.column.view_is in
    subst (λ (so_far : List (ℕ × List ℕ)). CanFollow widest so_far (c.column.inside.number, c.deref.result.now)) (sym c.loop-column.invariant)
    (subst (CanFollow widest (take c.loop-column.column-index columns)) (sym column) follows)
