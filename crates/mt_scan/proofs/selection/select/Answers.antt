use Rattle.std.proofs.Common.{◌≡◌, ◌∙◌, ◌++◌, List, sym, ap, subst}
use Rattle.std.proofs.lemmas.List.{map-id}
use Rattle.std.proofs.lemmas.Map.Iter.{rest_more, rest_so_far, iter_end}
use Rattle.mt_scan.specs.Steps.Selections.{IsSelectionOf}
use Rattle.mt_scan.proofs.SelectionLemmas.{Entry, are_below}
use Rattle.mt_scan.proofs.ChoiceLemmas.{selection_for}
use Rattle.mt_scan.proofs.selection.select.Goals as goal

pub loop-number-preserved : goal.loop-number-preserved
loop-number-preserved c =
    let done = c.loop-number.yielded in
    let number = c.in-Some.number in
    let group = c.in-Some.group in
    let g = c.into_iter-number-iterator.ensures.into_iter_gives in
    let so_far = rest_so_far (λ (x : Entry). x) done c.into_iter-number-iterator.result c.loop-number.number-iterator c.loop-number.yielded_by in
    let next = rest_more (λ (x : Entry). x) c.loop-number.number-iterator c.next.new.self c.next.result (number, group) c.in-Some.is c.next.ensures.steps in
    let all = sym g.0 ∙ so_far ∙ ap (λ (x : List Entry). x ++ c.loop-number.number-iterator) (map-id done) ∙ ap (λ (x : List Entry). done ++ x) next in
    c.in_ok-add.ensures done (are_below c.args.groups.entries done number group c.next.new.self g.5 all) c.loop-number.invariant

pub returns : goal.returns
returns c =
    let g = c.into_iter-number-iterator.ensures.into_iter_gives in
    let seen = iter_end (λ (x : Entry). x) c.args.groups.entries c.loop-number.yielded c.into_iter-number-iterator.result c.loop-number.number-iterator c.next.new.self c.next.result g.0 c.loop-number.yielded_by c.in-None.is c.next.ensures.steps in
    let all : c.loop-number.yielded ≡ c.args.groups.entries = sym (map-id c.loop-number.yielded) ∙ seen.0 in
    let is = subst (λ (x : List Entry). IsSelectionOf x c.args.cutoff c.loop-number.selection) all c.loop-number.invariant in
    λ parts are. selection_for parts c.args.groups are g.5 c.args.cutoff c.loop-number.selection is
