use Rattle.std.proofs.Common.{◌≡◌, ◌∙◌, ◌+◌, ◌-◌, ℕ, suc, List, ◌∷◌, ap, arith}
use Rattle.std.specs.Prelude.{slice_get}
use Rattle.mt_c.proofs.ranging.nth_column.Goals as goal

-- one element fewer to step over
stepped : {A : Type 0} (xs ys : List A) (x : A) (n m : ℕ) → xs ≡ x ∷ ys → n ≡ suc m → slice_get xs n ≡ slice_get ys m
stepped {A} xs ys x n m first more = ap (λ (zs : List A). slice_get zs n) first ∙ ap (slice_get (x ∷ ys)) more

pub loop-preserved : goal.loop-preserved
loop-preserved c =
    let column : ℕ × List ℕ = (c.in_ok-next.field-0.0, c.in_ok-next.field-0.1.now) in
    let nearer : c.args.nth - c.loop.counter ≡ suc (c.args.nth - (c.loop.counter + 1)) = omega (arith, c.loop-test.true) in
    c.loop.invariant ∙ stepped c.loop.rest c.next.new.self column (c.args.nth - c.loop.counter) (c.args.nth - (c.loop.counter + 1)) c.in_ok-next.ensures.some nearer
