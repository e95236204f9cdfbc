use Rattle.std.proofs.Common.{arith, refl, sym, subst}
use Rattle.mt_writer.specs.Journals.{taking}
use Rattle.mt_shared.specs.Words.{act}
use Rattle.mt_keeper.specs.Crews.{LentView, took, resting, HasDone}
use Rattle.mt_keeper.proofs.Doing.{more, goes}
use Rattle.mt_keeper.proofs.crew.Crew.take.Goals as goal

pub returns-clause-ok : goal.returns-clause-ok
returns-clause-ok c = λ deeds done.
    let l = c.log.inside in
    let v = c.take.new.self in
    more c.args.self.now.before l.hand c.load.new.hand l.number l.segment l.from l.writer v l.left l.left l.failed l.failed (act 0 c.load.result c.load.result) deeds took (resting l.writer) (resting v) c.load.ensures
    (subst (λ (x : LentView). HasDone c.args.self.now.before x deeds) (sym c.log.view_is) done)
    (record { word = refl; left = refl }, goes taking l.writer v (λ j keeps failed. c.in-Some.ensures.writer j keeps) c.take.ensures.same) (omega arith)
