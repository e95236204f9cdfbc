use Rattle.std.proofs.Common.{◌≡◌, ◌-◌, length, get_or, arith}
use Rattle.std.proofs.lemmas.Bool.{ltb-true, lt-ltb}
use Rattle.mt_words.proofs.Rising.{above_last, below_at}
use Rattle.mt_words.proofs.numbers.may_follow.Goals as goal

pub returns-then-number-le-GREATEST_COLUMN : goal.returns-then-number-le-GREATEST_COLUMN
returns-then-number-le-GREATEST_COLUMN c =
    let d = c.in-Some.last.now in
    let last = c.in-Some.ensures.item in
    let numbers = c.args.numbers.now in
    let same : d ≡ get_or numbers (length numbers - 1) d = last.3.1 d in (
      λ t. (c.if-number-le-GREATEST_COLUMN.true, above_last 0 numbers (length numbers - 1) c.args.number d c.requires (omega (arith, last.3.0)) (let lt = ltb-true _ _ t in omega arith)),
      λ h. let lt = below_at numbers (length numbers - 1) c.args.number d (omega (arith, last.3.0)) h.1 in lt-ltb _ _ (omega arith),
    )
