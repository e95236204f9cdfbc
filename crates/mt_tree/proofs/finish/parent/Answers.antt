use Rattle.std.proofs.Common.{ℕ, ap, ◌∙◌}
use Rattle.arrayvec.specs.declared.array_vec.ArrayVec.{ArrayVec}
use Rattle.mt_tree.proofs.Levels.{all_nodes, parent_is_node, heads_done}
use Rattle.mt_tree.proofs.finish.parent.Goals as goal

pub returns-clause-lawful : goal.returns-clause-lawful
returns-clause-lawful c =
    let heads = heads_done _ _ _ _ c.deref.ensures.value c.loop-child.invariant.heads c.loop-child-test.false in
    parent_is_node _ _ c.requires.level c.requires.two c.requires.most (ap (λ (z : ArrayVec ℕ 15 (Unit {0})). z.items) c.in_ok-new.ensures.ok ∙ heads)

pub invariant_of-result : goal.invariant_of-result
invariant_of-result c = (all_nodes _ _ c.requires.level.nodes, returns-clause-lawful c)
