use Rattle.std.proofs.Common.{◌∙◌, ℕ, List, MatchOption, Contains, Bor, subst}
use Rattle.mt_words.proofs.columns.Columns.get.Goals as goal

pub returns : goal.returns
returns c =
    subst (λ (columns : List (ℕ × List ℕ)). MatchOption c.value_of.result ((bytes : List ℕ) → Contains columns (c.args.number, bytes) → ⊥) (λ (bytes : Bor (List ℕ)). Contains columns (c.args.number, bytes.now)))
    (c.as_slice.ensures.value ∙ c.self.view_is) c.value_of.ensures
