use Rattle.std.proofs.Common.{◌≡◌, ◌≢◌, suc, ◌+◌, ◌*◌, ◌≤◌, ◌++◌, length}
use Rattle.std.specs.List.{AllByRecursion}
use Rattle.std.specs.Vec.Iter.{into_iter_items}
use Rattle.mt_tree.specs.Steps.Levels.{IsNodeAt, IsLevelAt, level_height, borders_of, below_of}
use Rattle.mt_tree.proofs.finish.level_up.Given as goal

abbrev pub invariant-loop-node : goal.invariant-loop-node
invariant-loop-node l = record {
  level : IsLevelAt (level_height l.fn.nodes.items) (l.children.items ++ into_iter_items l.node-iterator);
  whole : borders_of l.upper.items ++ borders_of (l.children.items ++ into_iter_items l.node-iterator) ≡ borders_of l.fn.nodes.items;
  below : below_of l.upper.items ++ below_of (l.children.items ++ into_iter_items l.node-iterator) ≡ below_of l.fn.nodes.items;
  above : AllByRecursion (IsNodeAt (suc (level_height l.fn.nodes.items))) l.upper.items;
  left : l.left ≡ length (into_iter_items l.node-iterator);
  few : length l.children.items ≤ 15;
  some_left : 1 ≤ length l.children.items → 1 ≤ l.left;
  pair : length l.children.items ≡ 0 → l.left ≢ 1;
  full : length l.children.items ≡ 15 → l.left ≢ 2;
  fewer : 2 * length l.upper.items + length l.children.items + l.left ≤ length l.fn.nodes.items;
  any : 1 ≤ length l.upper.items + l.left;
}
