use Rattle.std.proofs.Common.{◌∙◌, map, ap, subst, sym}
use Rattle.std.specs.List.{range_with_len}
use Rattle.std.proofs.lemmas.Result.{IfOk-weaker}
use Rattle.mt_replay.specs.Clashes.{AreClashes}
use Rattle.mt_recover.proofs.Audits.{audit_of_pieces, joined_items, all_below}
use Rattle.mt_recover.proofs.auditing.all_clashes.Goals as goal

pub by_workers-requires-after_bounds : goal.by_workers-requires-after_bounds
by_workers-requires-after_bounds g c κs within = all_below _ c.in_ok-numbers.field-0.items (c.in_ok-numbers.ensures ∙ ap (range_with_len 0) c.pieces.ensures.value)

pub returns : goal.returns
returns g c =
    let updates = c.args.divided.now.updates in
    let cuts = c.args.divided.now.cuts in
    let done = c.in_ok-all_done.field-0.items in
    let pieces = audit_of_pieces (λ found. found.items) updates cuts c.in_ok-numbers.field-0.items c.in_ok-found.found.items done (c.in_ok-numbers.ensures ∙ ap (range_with_len 0) c.pieces.ensures.value) c.in_ok-found.ensures c.in_ok-all_done.ensures.done in
    IfOk-weaker c.concat.result _ _ (λ clashes is. subst (AreClashes updates) (sym (is ∙ joined_items (λ found. found.items) done)) (c.pieces_make_the_audit.ensures updates cuts (map (λ found. found.items) done) c.pieces.ensures.lawful pieces)) c.concat.ensures
