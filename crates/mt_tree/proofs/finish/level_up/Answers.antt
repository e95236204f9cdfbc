use Rattle.std.proofs.Common.{◌≡◌, ◌≢◌, ◌≤◌, ◌+◌, ◌-◌, ◌*◌, ℕ, suc, List, [], ◌∷◌, ◌++◌, length, ap, refl, sym, subst, ◌∙◌, ◌<◌, inl, inr, ◌⊎◌, arith, length-append}
use Rattle.std.proofs.lemmas.Bool.{cases_lt}
use Rattle.std.specs.List.{AllByRecursion, flat_map}
use Rattle.mt_tree.specs.Layer.{PlaceView}
use Rattle.std.specs.Vec.Iter.{into_iter_items}
use Rattle.mt_tree.specs.Nodes.{NodeView, LayerView, IsNode}
use Rattle.mt_tree.specs.Steps.Levels.{below_of, level_height, IsNodeAt, IsLevelAt, parent_node, borders_of}
use Rattle.mt_tree.proofs.Joins.{all_append}
use Rattle.mt_tree.proofs.Levels.{moved, level_back, level_children, height_of, under_parent}
use Rattle.mt_tree.proofs.finish.level_up.Goals as goal

-- the children, the new one among them, and the nodes that are left, are a level
with_next : (h : ℕ) (kids rest next gathered given : List NodeView) (node : NodeView) → IsLevelAt h (kids ++ rest) → rest ≡ node ∷ next → gathered ≡ kids ++ node ∷ [] → given ≡ gathered → IsLevelAt h (given ++ next)
with_next h kids rest next gathered given node l e f g =
    subst (IsLevelAt h) (moved kids rest next node e ∙ ap (λ (z : List NodeView). z ++ next) (sym f ∙ sym g)) l

pub parent-requires-clause-level : goal.parent-requires-clause-level
parent-requires-clause-level c =
    level_children _ _ _ (with_next _ _ _ _ _ _ _ c.loop-node.invariant.level c.in-Some.ensures.steps.0 c.in_ok-push.ensures.items (ap (λ v. v.items) c.replace.ensures.value))

gathered_whole : {X : Type 0} (part : NodeView → List X) (upper kids rest next gathered given : List NodeView) (node : NodeView) (all : List X) → flat_map part upper ++ flat_map part (kids ++ rest) ≡ all → rest ≡ node ∷ next
    → gathered ≡ kids ++ node ∷ [] → given ≡ gathered → flat_map part upper ++ flat_map part (given ++ next) ≡ all
gathered_whole part upper kids rest next gathered given node all w e f g =
    ap (λ (z : List NodeView). flat_map part upper ++ flat_map part z) (sym (moved kids rest next node e ∙ ap (λ (z : List NodeView). z ++ next) (sym f ∙ sym g))) ∙ w

pair_kept : (left kids count : ℕ) → kids ≤ 15 → 1 ≤ left → count ≡ kids + 1 → (left - 1 ≢ 0 → 15 ≤ count) → (count ≡ 15 → left - 1 ≢ 0 → left - 1 ≡ 2) → (kids ≡ 15 → left ≢ 2) → left - 1 ≡ 1 → ⊥
pair_kept left kids count few some e many two full k =
    let enough : 15 ≤ count = many (λ z. omega arith) in
    by (cases_lt 15 count)
  where
    by : (15 < count) ⊎ (count ≤ 15) → ⊥
    by (inl more) = sixteen (cases_lt 16 count)
      where
        sixteen : (16 < count) ⊎ (count ≤ 16) → ⊥
        sixteen (inl over) = omega arith
        sixteen (inr at) = full (omega arith) (omega arith)
    by (inr at) = let is : left - 1 ≡ 2 = two (let enough : 15 ≤ count = many (λ z. omega arith) in omega arith) (λ z. omega arith) in omega arith

fewer_left : (left kids count up all new empty : ℕ) → 1 ≤ left → count ≡ kids + 1 → (left - 1 ≢ 0 → 15 ≤ count) → (kids ≡ 0 → left ≢ 1) → 2 * up + kids + left ≤ all → new ≡ up + 1 → empty ≡ 0 → 2 * new + empty + (left - 1) ≤ all
fewer_left left kids count up all new empty some e many pair fewer f g = by (cases_lt 0 kids)
  where
    by : (0 < kids) ⊎ (kids ≤ 0) → 2 * new + empty + (left - 1) ≤ all
    by (inl k) = omega arith
    by (inr k) = let alone : left ≢ 1 = pair (omega arith) in let enough : 15 ≤ count = many (λ z. alone (omega arith)) in omega arith

pub loop-node-preserved-in-Continue-branch-6 : goal.loop-node-preserved-in-Continue-branch-6
loop-node-preserved-in-Continue-branch-6 c =
    let h = level_height c.args.nodes.items in
    let given = ap (λ v. v.items) c.replace.ensures.value in
    let level = with_next h _ _ _ _ _ _ c.loop-node.invariant.level c.in-Some.ensures.steps.0 c.in_ok-push.ensures.items given in
    let next = into_iter_items c.next.new.self in
    let kids = c.replace.result.items in
    let empty : c.replace.new.dest.items ≡ [] = ap (λ v. v.items) c.replace.ensures.after ∙ c.in_ok-next.ensures.items in
    let count : length kids ≡ length c.loop-node.children.items + 1 = ap (λ (z : List NodeView). length z) (given ∙ c.in_ok-push.ensures.items) ∙ length-append c.loop-node.children.items (c.in-Some.node ∷ []) in
    let left : c.loop-node.left ≡ suc (length next) = c.loop-node.invariant.left ∙ ap (λ (z : List NodeView). length z) c.in-Some.ensures.steps.0 in
    let node : c.in_ok-node.node ≡ parent_node kids = c.in_ok-node.ensures.value in
    let up : c.push-then-closes.new.self.items ≡ c.loop-node.upper.items ++ parent_node kids ∷ [] = c.in_ok-push-2.ensures.items ∙ ap (λ (n : NodeView). c.loop-node.upper.items ++ n ∷ []) node in
    let borders : NodeView → List (List PlaceView) = λ n. n.tree.borders in
    let whole = under_parent borders c.loop-node.upper.items kids next _ refl (gathered_whole borders c.loop-node.upper.items _ _ _ _ _ _ _ c.loop-node.invariant.whole c.in-Some.ensures.steps.0 c.in_ok-push.ensures.items given) in
    let trees : NodeView → List LayerView = λ n. n.below in
    let below = under_parent trees c.loop-node.upper.items kids next _ refl (gathered_whole trees c.loop-node.upper.items _ _ _ _ _ _ _ c.loop-node.invariant.below c.in-Some.ensures.steps.0 c.in_ok-push.ensures.items given) in
    let height : level_height kids ≡ h = height_of h kids next level (omega arith) in
    let none : length c.replace.new.dest.items ≡ 0 = ap (λ (z : List NodeView). length z) empty in
    let more : length c.push-then-closes.new.self.items ≡ length c.loop-node.upper.items + 1 = ap (λ (z : List NodeView). length z) up ∙ length-append c.loop-node.upper.items (parent_node kids ∷ []) in
    let shut : (c.loop-node.left - 1 ≢ 0 → 15 ≤ c.len.result) × (c.len.result ≡ 15 → c.loop-node.left - 1 ≢ 0 → c.loop-node.left - 1 ≡ 2) = c.if-closes.ensures in
    let many = shut.0 in
    let counted : c.len.result ≡ length c.loop-node.children.items + 1 = omega (arith, c.len.ensures, c.in_ok-push.ensures.len, c.loop-node.children.ok.0) in
    let two = shut.1 in
    record {
      level = subst (λ (z : List NodeView). IsLevelAt h (z ++ next)) (sym empty) (level_back h kids next level);
      whole = (λ i. borders_of (up i) ++ borders_of (empty i ++ next)) ∙ whole;
      below = (λ i. below_of (up i) ++ below_of (empty i ++ next)) ∙ below;
      above = subst (AllByRecursion (IsNodeAt (suc h))) (sym up) (all_append (IsNodeAt (suc h)) c.loop-node.upper.items (parent_node kids ∷ []) c.loop-node.invariant.above ((ap (λ n. suc n) height, subst IsNode node c.in_ok-node.ensures.lawful), tt));
      left = omega arith;
      few = omega arith;
      some_left = λ e. absurd (omega arith);
      pair = λ e k. pair_kept c.loop-node.left (length c.loop-node.children.items) c.len.result c.loop-node.invariant.few (omega arith) (omega arith) many two c.loop-node.invariant.full k;
      full = λ e. absurd (omega arith);
      fewer = fewer_left c.loop-node.left (length c.loop-node.children.items) c.len.result (length c.loop-node.upper.items) (length c.args.nodes.items) _ _ (omega arith) (omega arith) many c.loop-node.invariant.pair c.loop-node.invariant.fewer more none;
      any = omega arith;
    }
