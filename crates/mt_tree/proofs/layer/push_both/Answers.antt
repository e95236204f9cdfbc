use Rattle.std.proofs.Common.{◌≢◌, sym, ap, ◌∙◌, arith, rules}
use Rattle.std.proofs.lemmas.Result.{on_ok_weaker}
use Rattle.mt_tree.specs.Steps.Falls.{layer_front, layer_back}
use Rattle.mt_tree.specs.Steps.Seams.{last_slice_of, first_slice_of}
use Rattle.mt_tree.specs.Borders.{layer_walk}
use Rattle.mt_tree.proofs.Puts.{at_seam, seam_slices, cut_apart, open_then}
use Rattle.mt_tree.specs.Steps.Places.{views}
use Rattle.mt_tree.proofs.layer.push_both.Goals as goal

pub push_around-requires-clause-met : goal.push_around-requires-clause-met
push_around-requires-clause-met c =
    let at = seam_slices c.args.left.items c.args.right.items _ _ c.len-seam.result c.requires.some (omega arith) c.index.ensures (search rules) c.index-2.ensures in
    let parts = at_seam c.args.left.items c.args.right.items _ _ c.in_ok-append-2.ensures.items (search rules) in
    ap (λ z. last_slice_of (views layer_walk z)) parts.0 ∙ at.0 ∙ c.if-index.true ∙ sym at.1 ∙ ap (λ z. first_slice_of (views layer_walk z)) (sym parts.1)

pub push_border-requires-2-clause-lawful : goal.push_border-requires-2-clause-lawful
push_border-requires-2-clause-lawful c = layer_front 0 (views layer_walk c.args.left.items) (views layer_walk c.args.right.items) c.requires.lawful

pub push_border-requires-3-clause-lawful : goal.push_border-requires-3-clause-lawful
push_border-requires-3-clause-lawful c = layer_back 0 (views layer_walk c.args.left.items) (views layer_walk c.args.right.items) c.requires.lawful

pub returns : goal.returns
returns c =
    let at = seam_slices c.args.left.items c.args.right.items _ _ c.len-seam.result c.requires.some (omega arith) c.index.ensures (search rules) c.index-2.ensures in
    let other : last_slice_of (views layer_walk c.args.left.items) ≢ first_slice_of (views layer_walk c.args.right.items) = λ e. c.if-index.false (sym at.0 ∙ e ∙ at.1) in
    let cut = cut_apart c.args.left.items c.args.right.items c.requires.lawful c.requires.some (omega arith) other in
    on_ok_weaker _ (λ put. open_then _ _ _ _ _ c.in_ok-push_border.ensures put cut) c.push_border-3.ensures
