use Rattle.std.proofs.Common.{rules, ◌∙◌, ℕ, sym, subst, ap, length}
use Rattle.std.proofs.lemmas.List.{length-map}
use Rattle.std.proofs.lemmas.List.Sorted.{IsNonDecreasingBy-from_sort_by_key}
use Rattle.std.specs.List.{enumerate_from}
use Rattle.std.specs.Prelude.{IsPermutation}
use Rattle.mt_recover.proofs.Turns.{in_order_are}
use Rattle.mt_recover.proofs.by_workers.in_order.Goals as goal

pub returns-clause-same : goal.returns-clause-same
returns-clause-same g c =
    let sorted = c.sort_unstable_by_key.new.self.items in
    let rises = IsNonDecreasingBy-from_sort_by_key (λ (one : ℕ × g.row.X.Denot). one.0) sorted c.sort_unstable_by_key.ensures.sorted (λ a r q k. search rules) in
    let are = in_order_are c.requires.0 c.args.answers.items sorted c.sort_unstable_by_key.ensures.permutation rises c.requires.1 in
    subst (IsPermutation c.args.answers.items) (are.0 ∙ ap (enumerate_from 0) (sym c.in_ok-sorted.ensures.seconds)) c.sort_unstable_by_key.ensures.permutation

pub returns-clause-long : goal.returns-clause-long
returns-clause-long g c count each =
    let sorted = c.sort_unstable_by_key.new.self.items in
    let rises = IsNonDecreasingBy-from_sort_by_key (λ (one : ℕ × g.row.X.Denot). one.0) sorted c.sort_unstable_by_key.ensures.sorted (λ a r q k. search rules) in
    let are = in_order_are count c.args.answers.items sorted c.sort_unstable_by_key.ensures.permutation rises each in
    ap length c.in_ok-sorted.ensures.seconds ∙ length-map sorted (λ one. one.1) ∙ are.1
