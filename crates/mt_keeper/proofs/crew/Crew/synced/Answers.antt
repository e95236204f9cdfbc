use Rattle.std.proofs.Common.{arith, ◌+◌, refl, sym, subst}
use Rattle.mt_writer.specs.Journals.{syncing}
use Rattle.mt_shared.specs.Words.{act}
use Rattle.mt_keeper.specs.Crews.{LentView, synced, resting, HasDone}
use Rattle.mt_keeper.proofs.Doing.{more, goes}
use Rattle.mt_keeper.proofs.crew.Crew.synced.Goals as goal

pub returns-clause-ok : goal.returns-clause-ok
returns-clause-ok c = λ deeds done.
    let l = c.log.inside in
    let v = c.synced.new.self in
    more c.args.self.now.before l.hand c.swap.new.hand l.number l.segment l.from l.writer v l.left l.left l.failed l.failed (act (l.number + 1) c.swap.result c.reach.result) deeds synced (resting l.writer) (resting v) c.swap.ensures
    (subst (λ (x : LentView). HasDone c.args.self.now.before x deeds) (sym c.log.view_is) done)
    (refl, c.reach.ensures.value, goes syncing l.writer v (λ j keeps failed. c.synced.ensures.synced j keeps failed) c.synced.ensures.same) (omega arith)
