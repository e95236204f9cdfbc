use Rattle.std.proofs.Common.{ℕ, List, Contains, MatchOption, subst}
use Rattle.mt_words.specs.Walks.{Pair}
use Rattle.mt_recover.proofs.store.Store.get.Goals as goal

pub returns : goal.returns
returns c = subst (λ (w : List Pair). MatchOption c.get.result ((columns : List (ℕ × List ℕ)) → Contains w (c.args.key.now, columns) → ⊥) (λ found. Contains w (c.args.key.now, found.now))) c.self.view_is c.get.ensures
