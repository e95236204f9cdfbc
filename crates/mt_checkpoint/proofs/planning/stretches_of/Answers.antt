use Rattle.std.proofs.Common.{refl, inl, []}
use Rattle.mt_tree.specs.Trees.{tree_walk}
use Rattle.mt_checkpoint.proofs.Plans.{begun, made_up, only_plan, only_over}
use Rattle.mt_checkpoint.proofs.planning.stretches_of.Goals as goal

pub returns-then-is_over : goal.returns-then-is_over
returns-then-is_over c =
    let planned = c.in_ok-visit.ensures c.args.limit [] (inl (begun c.args.limit _ c.new.ensures.items refl refl refl)) in
    record { parts = tt; fault = only_over c.args.limit (tree_walk c.args.tree.now) _ planned (c.if-is_over.ensures.0 refl) }

pub returns : goal.returns
returns c =
    let planned = c.in_ok-visit.ensures c.args.limit [] (inl (begun c.args.limit _ c.new.ensures.items refl refl refl)) in
    let plan = only_plan c.args.limit (tree_walk c.args.tree.now) _ planned c.if-is_over.ensures.1 in
    record { parts = made_up c.args.limit (tree_walk c.args.tree.now) _ c.push.new.self.items c.requires plan c.in_ok-push.ensures.items; fault = tt }
