use Rattle.std.proofs.Common.{rules, arith, ◌≡◌, inr, ℕ, ◌+◌, ◌-◌, ◌%◌, ◌^◌, max, refl, sym, ap, subst}
use Rattle.std.proofs.lemmas.Result.{err_from_is_err_and}
use Rattle.mt_words.specs.Changes.{changed}
use Rattle.mt_words.specs.declared.record.Change.{Change}
use Rattle.mt_record.specs.Given.{kind_of}
use Rattle.mt_writer.specs.Journals.{Journal, Keeps, holding}
use Rattle.mt_shared.specs.Words.{act}
use Rattle.mt_keeper.specs.Crews.{LentView, wrote, spent, resting, HasDone}
use Rattle.mt_keeper.proofs.Doing.{more, goes}
use Rattle.mt_keeper.proofs.crew.Crew.change.Goals as goal

pub returns-in_default-clause-err : goal.returns-in_default-clause-err
returns-in_default-clause-err c = λ deeds done.
    let l = c.log.inside in
    inr (more c.args.self.now.before l.hand c.add.new.hand l.number l.segment l.from l.writer l.writer l.left (l.left - 1) l.failed l.failed
    (act 0 c.add.result ((c.add.result + 1) % 2 ^ 64)) deeds spent (resting l.writer) (resting l.writer) c.add.ensures
    (subst (λ (x : LentView). HasDone c.args.self.now.before x deeds) (sym c.log.view_is) done) (record { word = refl; left = refl }, refl) (omega (arith, c.if-log-eq0.false)))

pub returns-in_err-change-clause-err : goal.returns-in_err-change-clause-err
returns-in_err-change-clause-err c = λ deeds done.
    let p = err_from_is_err_and c.from_residual.result c.from_residual.ensures.1 in
    let l = c.log.inside in
    let v = c.change.new.self in
    rw p.1 (inr (more c.args.self.now.before l.hand c.add.new.hand l.number l.segment l.from l.writer v l.left (l.left - 1) l.failed l.failed
    (act 0 c.add.result ((c.add.result + 1) % 2 ^ 64)) deeds spent (resting l.writer) (resting v) c.add.ensures
    (subst (λ (x : LentView). HasDone c.args.self.now.before x deeds) (sym c.log.view_is) done) (record { word = refl; left = refl }, ap resting c.in_err-change.ensures.err) (omega (arith, c.if-log-eq0.false))))

pub returns-clause-ok : goal.returns-clause-ok
returns-clause-ok c = λ deeds done.
    let l = c.log.inside in
    let v = c.change.new.self in
    let version = c.in-Some.version in
    let change : Change = record { version = version; key = c.args.key.now; kind = kind_of c.args.kind } in
    let is : version ≡ c.add.result + 1 = search rules in
    more c.args.self.now.before l.hand c.add.new.hand l.number l.segment l.from l.writer v l.left (l.left - 1) l.failed l.failed
    (act 0 c.add.result ((c.add.result + 1) % 2 ^ 64)) deeds (wrote change) (resting l.writer) (resting v) c.add.ensures
    (subst (λ (x : LentView). HasDone c.args.self.now.before x deeds) (sym c.log.view_is) done) (
      record { word = refl; left = refl },
      is,
      goes (λ (j : Journal). holding j (changed (max l.writer.last version) change)) l.writer v
          (λ j keeps failed. subst (λ (t : ℕ). Keeps v (holding j (changed t change))) c.in_ok-change.ensures.time (c.in_ok-change.ensures.ok j keeps)) c.in_ok-change.ensures.same,
    )
    (omega (arith, c.if-log-eq0.false))
