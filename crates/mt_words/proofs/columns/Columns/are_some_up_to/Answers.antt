use Rattle.std.proofs.Common.{◌≡◌, ◌-◌, ℕ, suc, List, length, get_or, ap, ◌∙◌, sym, subst, arith}
use Rattle.std.proofs.lemmas.Bool.{leb-true, le-leb}
use Rattle.mt_words.specs.Limits.{widest}
use Rattle.mt_words.specs.Words.{AreColumns}
use Rattle.mt_words.proofs.Rising.{above_last_column, below_at_column, columns_up_to, columns_below}
use Rattle.mt_words.proofs.columns.Columns.are_some_up_to.Goals as goal

pub returns-in-Some : goal.returns-in-Some
returns-in-Some c = λ limits most.
    let columns = c.as_slice.result.now in
    let same : columns ≡ c.args.self.now = c.as_slice.ensures.value ∙ c.self.view_is in
    let are : AreColumns widest columns = subst (AreColumns widest) (sym c.as_slice.ensures.value) c.self.invariant in
    let d = c.in-Some.last.now in
    let last = c.in-Some.ensures.item in
    let at : c.last-in-Some.inside.number ≡ (get_or columns (length columns - 1) d).0 = ap (λ (p : ℕ × List ℕ). p.0) (c.last-in-Some.view_is ∙ last.3.1 d) in
    rw (sym same) (
      λ t. let le = leb-true _ _ t in
          let below = above_last_column columns (length columns - 1) (suc limits.column) d are.1 (omega (arith, last.3.0)) (omega (arith, at, most, le)) in
          ((columns_up_to limits columns are.0 below, are.1), omega (arith, last.3.0)),
      λ h. let below = below_at_column columns (length columns - 1) (suc limits.column) d (omega (arith, last.3.0)) (columns_below limits columns h.0.0) in
          le-leb _ _ (omega (arith, at, most, below)),
    )
