use Rattle.std.proofs.Common.{◌≡◌, ◌-◌, ◌∙◌, List, ℕ, true, false, take, drop, ap}
use Rattle.std.specs.List.{filter, slice_get}
use Rattle.mt_words.specs.declared.update.Update.{Update}
use Rattle.mt_replay.specs.Cuts.{is_after, is_below_cut, lower_cut}
use Rattle.mt_replay.proofs.FilterLemmas.{of_piece, until_point, point_behind}
use Rattle.mt_replay.proofs.parts.Part.of.Goals as goal

pub returns : goal.returns
returns c =
    let updates : List Update = c.args.updates.now in
    let start = c.start_of-start.result in
    let end = c.end_of-end.result in
    let after : List Update = drop start updates in
    let point = point_behind (λ (u : Update). is_below_cut (slice_get c.keys-2.result.now c.args.piece) u.key ≡ true) (λ (u : Update). is_below_cut (slice_get c.keys-2.result.now c.args.piece) u.key ≡ false) updates start end c.end_of-end.ensures.within c.end_of-end.ensures.point in
    of_piece c.args.cuts.now c.args.piece updates after (take (end - start) after)
    (c.start_of-start.ensures ∙ ap (λ (cuts : List (List ℕ)). filter (λ (u : Update). is_after (lower_cut cuts c.args.piece) u.key) updates) c.keys.ensures.value)
    (until_point (λ (u : Update). is_below_cut (slice_get c.keys-2.result.now c.args.piece) u.key) after (end - start) point
    ∙ ap (λ (cuts : List (List ℕ)). filter (λ (u : Update). is_below_cut (slice_get cuts c.args.piece) u.key) after) c.keys-2.ensures.value)
