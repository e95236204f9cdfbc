use Rattle.std.proofs.Common.{IsPermutation, rules, ◌≡◌, ◌∙◌, ◌+◌, ◌<◌, ℕ, List, length, map, ap, sym, subst, arith}
use Rattle.mt_board.specs.Board.{BoardId, times_drawn}
use Rattle.mt_words.specs.declared.fault.Fault.TheVariants as faults
use Rattle.mt_words.specs.declared.update.Update.{Update}
use Rattle.mt_words.specs.Walks.{joined}
use Rattle.mt_replay.specs.Cuts.{AreCuts}
use Rattle.mt_replay.specs.Walk.{IsWalk}
use Rattle.mt_tree.specs.Borders.{layer_walk}
use Rattle.mt_recover.specs.declared.haul.Haul.{Haul}
use Rattle.mt_recover.specs.declared.haul.Piece.{Piece}
use Rattle.mt_recover.specs.Steps.Assembling.{all_held}
use Rattle.mt_recover.specs.Hauls.{IsLeftOut}
use Rattle.mt_recover.specs.Job.{JobView}
use Rattle.mt_recover.specs.Prepared.{PreparedView, IsMadeOf}
use Rattle.mt_recover.proofs.Assembles.{held_within, left_out, none_left_out, all_are_held, in_order}
use Rattle.mt_recover.proofs.Preparing.{made_is}
use Rattle.mt_recover.proofs.assembling.assemble.Goals as goal

-- the board has a number for each piece
total_is : (job inside : JobView) (pieces : ℕ) → inside ≡ job → inside.board.total ≡ length inside.prepared.cuts + 1 → pieces ≡ length inside.prepared.cuts + 1 → pieces ≡ job.board.total
total_is job inside pieces same total count = count ∙ sym total ∙ ap (λ (j : JobView). j.board.total) same

-- the sorted pieces are those of the hauls
same_pieces : (hauls : List Haul) (held sorted : List Piece) → held ≡ all_held hauls → IsPermutation held sorted → IsPermutation (all_held hauls) sorted
same_pieces hauls held sorted are same = subst (λ (pieces : List Piece). IsPermutation pieces sorted) are same

pub in_order-requires-clause-within : goal.in_order-requires-clause-within
in_order-requires-clause-within c =
    held_within c.args.job c.args.hauls.items c.by_number-pieces.result.items c.pieces.result (same_pieces c.args.hauls.items c.in_ok-pieces_of.field-0.items c.by_number-pieces.result.items c.in_ok-pieces_of.ensures c.by_number-pieces.ensures.same)
    (total_is c.args.job _ c.pieces.result c.job.view_is c.job.invariant (search rules)) c.requires.hauls

pub returns-in_err-drafts-clause-missing : goal.returns-in_err-drafts-clause-missing
returns-in_err-drafts-clause-missing c =
    let total = total_is c.args.job _ c.pieces.result c.job.view_is c.job.invariant (search rules) in
    let same = same_pieces c.args.hauls.items c.in_ok-pieces_of.field-0.items c.by_number-pieces.result.items c.in_ok-pieces_of.ensures c.by_number-pieces.ensures.same in
    let h : IsLeftOut c.args.job c.args.hauls.items c.in_err-drafts.field-0.0 = left_out c.args.job c.args.hauls.items c.by_number-pieces.result.items c.pieces.result same total c.in_err-drafts.field-0.0 c.in_err-drafts.ensures.missing in
    search (rules, h)

pub returns-in_err-drafts-clause-drawn : goal.returns-in_err-drafts-clause-drawn
returns-in_err-drafts-clause-drawn c back =
    let total = total_is c.args.job _ c.pieces.result c.job.view_is c.job.invariant (search rules) in
    let same = same_pieces c.args.hauls.items c.in_ok-pieces_of.field-0.items c.by_number-pieces.result.items c.in_ok-pieces_of.ensures c.by_number-pieces.ensures.same in
    let board : c.job.inside.board ≡ c.args.job.board = ap (λ (j : JobView). j.board) c.job.view_is in
    let drawn : (x : ℕ) → x < c.args.job.board.total → 0 < times_drawn x c.args.passes.items =
    λ x lt. c.close.ensures.drawn (omega (arith, back.many, ap (λ (b : BoardId). b.passes) board)) back.done x (omega (arith, lt, ap (λ (b : BoardId). b.total) board)) in
    let h : c.in_err-drafts.field-0.0 ≡ faults.Memory =
    none_left_out c.args.job c.args.hauls.items c.by_number-pieces.result.items c.pieces.result same total c.args.passes.items c.in_err-drafts.field-0.0 back drawn c.in_err-drafts.ensures.missing in
    search (rules, h)

pub returns-clause-held : goal.returns-clause-held
returns-clause-held c =
    let total = total_is c.args.job _ c.pieces.result c.job.view_is c.job.invariant (search rules) in
    let same = same_pieces c.args.hauls.items c.in_ok-pieces_of.field-0.items c.by_number-pieces.result.items c.in_ok-pieces_of.ensures c.by_number-pieces.ensures.same in
    all_are_held c.args.job c.args.hauls.items c.by_number-pieces.result.items c.pieces.result same total c.in_ok-drafts.drafts.items c.in_ok-drafts.ensures.long c.in_ok-drafts.ensures.drafts

-- the drafts joined in order are the walk
walk_is : (c : goal.After-pieces_make_the_walk) → IsWalk c.args.job.prepared.updates (joined (map layer_walk c.in_ok-drafts.drafts.items))
walk_is c =
    let job = c.args.job in
    let total = total_is job _ c.pieces.result c.job.view_is c.job.invariant (search rules) in
    let same = same_pieces c.args.hauls.items c.in_ok-pieces_of.field-0.items c.by_number-pieces.result.items c.in_ok-pieces_of.ensures c.by_number-pieces.ensures.same in
    let cut = subst (λ (j : JobView). j.board.total ≡ length j.prepared.cuts + 1) c.job.view_is c.job.invariant in
    let lawful = subst (λ (j : JobView). AreCuts j.prepared.cuts) c.job.view_is c.pieces.ensures.lawful in
    c.pieces_make_the_walk.ensures.walk job.prepared.updates job.prepared.cuts (map layer_walk c.in_ok-drafts.drafts.items) lawful
    (in_order job c.args.hauls.items c.by_number-pieces.result.items c.pieces.result same total c.in_ok-drafts.drafts.items cut c.requires.hauls c.in_ok-drafts.ensures.long c.in_ok-drafts.ensures.drafts)

pub join_all-requires : goal.join_all-requires
join_all-requires c = (walk_is c).map.0

pub finish-requires : goal.finish-requires
finish-requires c =
    let updates = ap (λ (p : PreparedView). p.updates) c.prepared.view_is ∙ ap (λ (j : JobView). j.prepared.updates) c.job.view_is in
    subst (λ (us : List Update). IsWalk us (layer_walk c.in_ok-join_all.field-0)) (sym updates) (subst (IsWalk c.args.job.prepared.updates) (sym c.in_ok-join_all.ensures) (walk_is c.before.before.before))

pub returns-clause-recovered : goal.returns-clause-recovered
returns-clause-recovered c = λ logs parts is.
    let prepared = c.prepared.view_is ∙ ap (λ (j : JobView). j.prepared) c.job.view_is in
    made_is logs parts c.args.job.prepared c.in_ok-finish.field-0 is (subst (λ (p : PreparedView). IsMadeOf p c.in_ok-finish.field-0) prepared c.in_ok-finish.ensures)
