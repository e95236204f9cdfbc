-- The numbers that passes draw, and what a result holds.
use Rattle.std.proofs.Common.{◌≡◌, ◌∙◌, append_assoc, ℕ, zero, suc, List, [], ◌∷◌, ◌++◌, length, sym, ap, refl, arith}
use Rattle.std.proofs.lemmas.List.{length_push}
use Rattle.std.specs.Prelude.{Result, Ok, Err, IfOk}
use Rattle.mt_board.specs.Board.{BoardId, PassView, fresh_pass, fresh_passes}

-- one more draw, after those of this call
pub drew_on : (start now next : PassView) (drawn after : List ℕ) (n : ℕ) → now ≡ record start { draws = start.draws ++ drawn } → next ≡ record now { draws = now.draws ++ n ∷ [] } → after ≡ drawn ++ n ∷ []
    → next ≡ record start { draws = start.draws ++ after }
drew_on start now next drawn after n was is more =
    is ∙ ap (λ (p : PassView). record p { draws = p.draws ++ n ∷ [] }) was ∙ ap (λ (l : List ℕ). record start { draws = l }) (append_assoc start.draws drawn (n ∷ []) ∙ ap (λ (l : List ℕ). start.draws ++ l) (sym more))

-- a new board has this many fresh passes
pub length-fresh : (b : BoardId) (n : ℕ) → length (fresh_passes b n) ≡ n
length-fresh b zero = refl
length-fresh b (suc n) = omega (arith, length_push (fresh_passes b n) (fresh_pass b n), length-fresh b n)

-- two facts of an Ok hold together
pub both_ok : {X E : Type 0} (r : Result X E) (P Q : X → Type 0) → IfOk r P → IfOk r Q → IfOk r (λ x. P x × Q x)
both_ok (Ok x) P Q p q = (p, q)
both_ok (Err err) P Q p q = tt
