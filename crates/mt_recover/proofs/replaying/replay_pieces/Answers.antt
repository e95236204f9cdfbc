use Rattle.std.proofs.Common.{◌≡◌, ◌-◌, ◌<◌, ℕ, List, Some, slice_get, length, ap, sym, subst, arith}
use Rattle.std.proofs.lemmas.List.Elements.{All-push}
use Rattle.std.proofs.lemmas.Option.{slice_get_within}
use Rattle.mt_words.specs.declared.update.Update.{Update}
use Rattle.mt_words.specs.Walks.{joined}
use Rattle.mt_board.specs.Board.{above}
use Rattle.mt_board.specs.Queue.{ConsumerView}
use Rattle.mt_board.proofs.Drawing.{left_falls}
use Rattle.mt_tree.specs.Borders.{DraftView, layer_walk}
use Rattle.mt_recover.specs.Steps.Replaying.{IsReplayOf}
use Rattle.mt_recover.proofs.Replays.{piece_is}
use Rattle.mt_recover.proofs.Turns.{took_on}
use Rattle.mt_recover.proofs.replaying.replay_pieces.Goals as goal

pub overflow_cast-piece : goal.overflow_cast-piece
overflow_cast-piece g c =
    let base = c.args.base.now in
    let is = piece_is base.cuts base.pieces.jobs c.requires.ranges.are c.in-Some.number c.in-Some.range c.in-Some.ensures.job in
    omega (arith, is.0, c.requires.ranges.cuts_are.1)

pub replay_range-requires-clause-range : goal.replay_range-requires-clause-range
replay_range-requires-clause-range g c = (piece_is c.args.base.now.cuts c.args.base.now.pieces.jobs c.requires.ranges.are c.in-Some.number c.in-Some.range c.in-Some.ensures.job).1

pub loop-number-preserved : goal.loop-number-preserved
loop-number-preserved g c =
    let I = c.loop-number.invariant in
    let base = c.args.base.now in
    let piece = c.in-Some.number in
    let draft : DraftView = c.in_ok-draft.draft in
    let replayed = subst (λ (entries : List (List Update)). IsReplayOf base.cuts (joined entries) piece c.in-Some.range (layer_walk draft)) c.deref.ensures.value c.in_ok-draft.ensures.walk in
    record {
      consumer = took_on base.pieces c.loop-number.consumer c.take.new.consumer c.loop-number.drafts.items c.push.new.self.items piece draft I.consumer c.in-Some.ensures.consumer c.in_ok-push.ensures.items;
      answers = rw c.in_ok-push.ensures.items (All-push (λ (one : ℕ × DraftView). (range : List Update) × (slice_get base.pieces.jobs one.0 ≡ Some range) × IsReplayOf base.cuts (joined base.entries.items) one.0 range (layer_walk one.1)) c.loop-number.drafts.items (piece, draft) I.answers (c.in-Some.range, c.in-Some.ensures.job, replayed));
    }

pub loop-number-smaller : goal.loop-number-smaller
loop-number-smaller g c =
    let jobs = c.args.base.now.pieces.jobs in
    let taken = c.loop-number.consumer.taken in
    subst (λ (after : List ℕ). length jobs - above after < length jobs - above taken) (sym (ap (λ (v : ConsumerView (List Update)). v.taken) c.in-Some.ensures.consumer))
    (left_falls taken c.in-Some.number (length jobs) (slice_get_within jobs c.in-Some.number c.in-Some.range c.in-Some.ensures.job) c.in-Some.ensures.rises)
