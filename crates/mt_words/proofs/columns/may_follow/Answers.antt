use Rattle.std.proofs.Common.{◌≡◌, ◌-◌, ℕ, List, length, get_or, ap, ◌∙◌, arith}
use Rattle.std.proofs.lemmas.Bool.{ltb-true, lt-ltb}
use Rattle.mt_words.proofs.Rising.{above_last_column, below_at_column}
use Rattle.mt_words.proofs.columns.may_follow.Goals as goal

pub returns-then-number-le-GREATEST_COLUMN : goal.returns-then-number-le-GREATEST_COLUMN
returns-then-number-le-GREATEST_COLUMN c =
    let d = c.in-Some.last.now in
    let last = c.in-Some.ensures.item in
    let same : c.last-in-Some.inside.number ≡ (get_or c.args.columns.now (length c.args.columns.now - 1) d).0 = ap (λ (p : ℕ × List ℕ). p.0) (c.last-in-Some.view_is ∙ last.3.1 d) in (
      λ t. (c.if-number-le-GREATEST_COLUMN.true, above_last_column c.args.columns.now (length c.args.columns.now - 1) c.args.number d c.requires (omega (arith, last.3.0)) (let lt = ltb-true _ _ t in omega arith)),
      λ h. let lt = below_at_column c.args.columns.now (length c.args.columns.now - 1) c.args.number d (omega (arith, last.3.0)) h.1 in lt-ltb _ _ (omega arith),
    )
