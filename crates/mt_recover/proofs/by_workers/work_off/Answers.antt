use Rattle.std.proofs.Common.{◌≡◌, ◌-◌, ◌<◌, ℕ, List, length, Some, slice_get, sym, ap, subst}
use Rattle.std.proofs.lemmas.Option.{slice_get_within}
use Rattle.std.proofs.lemmas.List.Elements.{All-push}
use Rattle.mt_board.specs.Board.{above}
use Rattle.mt_board.specs.Queue.{ConsumerView}
use Rattle.mt_board.proofs.Drawing.{left_falls}
use Rattle.mt_recover.proofs.Turns.{took_on}
use Rattle.mt_recover.proofs.by_workers.work_off.Goals as goal

pub loop-number-preserved : goal.loop-number-preserved
loop-number-preserved g c =
    let I = c.loop-number.invariant in
    record {
      consumer = took_on _ c.loop-number.consumer c.take.new.consumer c.loop-number.answers.items c.push.new.self.items c.in-Some.number c.work.result I.consumer c.in-Some.ensures.consumer c.in_ok-push.ensures.items;
      answers = rw c.in_ok-push.ensures.items (All-push (λ (one : ℕ × g.row.X.Denot). (job : g.row.J.Denot) × (slice_get c.args.queue.now.jobs one.0 ≡ Some job) × goal.F-post g c.args.work.now job one.1) c.loop-number.answers.items (c.in-Some.number, c.work.result) I.answers (c.in-Some.job, c.in-Some.ensures.job, c.work.ensures));
    }

pub loop-number-smaller : goal.loop-number-smaller
loop-number-smaller g c =
    let jobs = c.args.queue.now.jobs in
    let taken = c.loop-number.consumer.taken in
    subst (λ (after : List ℕ). length jobs - above after < length jobs - above taken) (sym (ap (λ (v : ConsumerView g.row.J.Denot). v.taken) c.in-Some.ensures.consumer))
    (left_falls taken c.in-Some.number (length jobs) (slice_get_within jobs c.in-Some.number c.in-Some.job c.in-Some.ensures.job) c.in-Some.ensures.rises)
