use Rattle.std.proofs.Common.{◌≡◌, ◌∙◌, ℕ, List, [], ◌∷◌, ◌++◌, ◌-◌, ap, arith}
use Rattle.mt_tree.specs.Trees.{tree_walk}
use Rattle.mt_c.specs.Cuts.{pairs_before}
use Rattle.mt_c.proofs.Seeks.{begins_without, begins_past}
use Rattle.mt_c.proofs.seeking.cut_key.Goals as goal

pub returns-in-Some : goal.returns-in-Some
returns-in-Some c =
    let count = c.len.result in
    let is_at : c.saturating_sub.result ≡ pairs_before count c.args.i c.args.n - 1 = omega (arith, c.pairs_before-before.ensures.value, c.saturating_sub.ensures) in
    begins_past (tree_walk c.args.tree.now) count c.args.i c.args.n c.saturating_sub.result c.cut_after.result.items c.requires.rise c.len.ensures (omega (arith, c.if-i-eq0.false)) c.requires.one is_at
    c.in-Some.last.items c.in-Some.ensures (c.cut_after.ensures ∙ ap (λ (key : List ℕ). key ++ 0 ∷ []) c.as_slice.ensures.value)

pub returns-in-None : goal.returns-in-None
returns-in-None c =
    let count = c.len.result in
    let is_at : c.saturating_sub.result ≡ pairs_before count c.args.i c.args.n - 1 = omega (arith, c.pairs_before-before.ensures.value, c.saturating_sub.ensures) in
    begins_without (tree_walk c.args.tree.now) count c.args.i c.args.n c.saturating_sub.result c.cut_after-in-None.result.items c.requires.rise c.len.ensures (omega (arith, c.if-i-eq0.false)) c.requires.one is_at
    c.in-None.ensures c.cut_after-in-None.ensures
