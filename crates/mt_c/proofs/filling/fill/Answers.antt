use Rattle.std.proofs.Common.{◌∙◌, List, [], ℕ, refl, sym, rules, arith}
use Rattle.mt_tree.specs.Range.{from}
use Rattle.mt_tree.specs.Trees.{tree_walk}
use Rattle.mt_c.specs.Filling.{IsFilled}
use Rattle.mt_c.proofs.Cuts.{rise_from}
use Rattle.mt_c.proofs.Dumps.{none_yet, leaves_done, leaves_short, leaves_absent}
use Rattle.mt_c.proofs.filling.fill.Goals as goal

pub returns-then-filling-gt0-clause-dumped : goal.returns-then-filling-gt0-clause-dumped
returns-then-filling-gt0-clause-dumped c =
    let found = from c.args.start.now (tree_walk c.args.tree.now) in
    let before = c.args.out.now in
    let filling = c.visit_from.new.target in
    let is : IsFilled before filling found = c.in-Ok.ensures.filled before [] (none_yet before _ refl refl refl refl) in
    let rise = rise_from c.args.start.now (tree_walk c.args.tree.now) c.requires in
    let same = sym c.in-Ok.ensures.same_out in
    search (rules, λ (after : List ℕ). leaves_done c.args.end.now found before after filling rise is c.in-Ok.ensures.same_end c.if-filling-gt0.true)

pub returns-in-Some-clause-dumped : goal.returns-in-Some-clause-dumped
returns-in-Some-clause-dumped c =
    let found = from c.args.start.now (tree_walk c.args.tree.now) in
    let before = c.args.out.now in
    let filling = c.visit_from.new.target in
    let is : IsFilled before filling found = c.in-Ok.ensures.filled before [] (none_yet before _ refl refl refl refl) in
    let rise = rise_from c.args.start.now (tree_walk c.args.tree.now) c.requires in
    let same = sym c.in-Ok.ensures.same_out in
    search (rules, λ (after : List ℕ). leaves_short c.args.end.now found before after filling rise is c.in-Ok.ensures.same_end c.args.pairs.now c.in-Some.length (omega (arith, c.if-filling-gt0.false)) (sym c.refused.ensures ∙ c.in-Some.is))

pub returns-in-None-clause-dumped : goal.returns-in-None-clause-dumped
returns-in-None-clause-dumped c =
    let found = from c.args.start.now (tree_walk c.args.tree.now) in
    let before = c.args.out.now in
    let filling = c.visit_from.new.target in
    let is : IsFilled before filling found = c.in-Ok.ensures.filled before [] (none_yet before _ refl refl refl refl) in
    let rise = rise_from c.args.start.now (tree_walk c.args.tree.now) c.requires in
    let same = sym c.in-Ok.ensures.same_out in
    search (rules, λ (after : List ℕ). leaves_absent c.args.end.now found before after filling rise is c.in-Ok.ensures.same_end c.args.count.now c.args.pairs.now (omega (arith, c.if-filling-gt0.false)) (sym c.refused.ensures ∙ c.in-None.is))
