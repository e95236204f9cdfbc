use Rattle.mt_scan.proofs.NamelessLemmas.{position_more, position_same}
use Rattle.mt_scan.proofs.choice.nameless_among.Goals as goal
use Rattle.mt_scan.proofs.choice.nameless_among.Goals.{in-Nameless+in_ok-push, in_default}

pub loop-position-preserved : goal.loop-position-preserved
loop-position-preserved c =
    let all = c.args.scans.now in
    let i = c.loop-position.position in
    let scan = c.index-scans-position.result in
    let before = c.loop-position.positions.items in
    elim c.match-scan.branch [
      | in-Nameless+in_ok-push w ↦ rw (w.positions-is, w.in_ok-push.ensures.items) (position_more all i scan c.loop-position-test.true c.index-scans-position.is before c.loop-position.invariant w.in-Nameless.is)
      | in_default w ↦ rw w.positions-is (position_same all i scan c.loop-position-test.true c.index-scans-position.is before c.loop-position.invariant w.in_default.not-Nameless)
    ]
