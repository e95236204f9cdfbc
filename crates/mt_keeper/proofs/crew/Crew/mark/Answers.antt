use Rattle.std.proofs.Common.{rules, arith, ◌≡◌, inl, inr, ◌+◌, refl, sym, ap, subst}
use Rattle.std.proofs.lemmas.Result.{err_from_is_err_and}
use Rattle.mt_words.specs.Built.{mark_of}
use Rattle.mt_writer.specs.Journals.{Journal, holding}
use Rattle.mt_shared.specs.Words.{act}
use Rattle.mt_keeper.specs.Crews.{LentView, marked, looked, resting, HasDone}
use Rattle.mt_keeper.proofs.Doing.{more, goes}
use Rattle.mt_keeper.proofs.crew.Crew.mark.Goals as goal

pub returns-in_default-clause-err : goal.returns-in_default-clause-err
returns-in_default-clause-err c = λ deeds done.
    let l = c.log.inside in
    inr (more c.args.self.now.before l.hand c.load-clock.new.hand l.number l.segment l.from l.writer l.writer l.left l.left l.failed l.failed (act 0 c.load-clock.result c.load-clock.result) deeds looked (resting l.writer) (resting l.writer) c.load-clock.ensures
    (subst (λ (x : LentView). HasDone c.args.self.now.before x deeds) (sym c.log.view_is) done) (refl, inl refl) (omega arith))

pub returns-in_err-mark-clause-err : goal.returns-in_err-mark-clause-err
returns-in_err-mark-clause-err c = λ deeds done.
    let p = err_from_is_err_and c.from_residual.result c.from_residual.ensures.1 in
    let l = c.log.inside in
    let v = c.mark.new.self in
    rw p.1 (inr (more c.args.self.now.before l.hand c.load-clock.new.hand l.number l.segment l.from l.writer v l.left l.left l.failed l.failed (act 0 c.load-clock.result c.load-clock.result) deeds looked (resting l.writer) (resting v) c.load-clock.ensures
    (subst (λ (x : LentView). HasDone c.args.self.now.before x deeds) (sym c.log.view_is) done) (refl, inl (ap resting c.in_err-mark.ensures.err)) (omega arith)))

pub returns-clause-ok : goal.returns-clause-ok
returns-clause-ok c = λ deeds done.
    let l = c.log.inside in
    let v = c.mark.new.self in
    let time = c.in_ok-mark.field-0 in
    let is : c.in-Some.stamp ≡ c.load-clock.result + 1 = search rules in (
      time,
      more c.args.self.now.before l.hand c.load-clock.new.hand l.number l.segment l.from l.writer v l.left l.left l.failed l.failed (act 0 c.load-clock.result c.load-clock.result) deeds (marked time) (resting l.writer) (resting v) c.load-clock.ensures
          (subst (λ (x : LentView). HasDone c.args.self.now.before x deeds) (sym c.log.view_is) done)
          (record { word = refl; left = refl }, omega (arith, c.in_ok-mark.ensures.time, is), goes (λ (j : Journal). holding j (mark_of time)) l.writer v (λ j keeps failed. c.in_ok-mark.ensures.ok j keeps) c.in_ok-mark.ensures.same)
          (omega arith),
    )
