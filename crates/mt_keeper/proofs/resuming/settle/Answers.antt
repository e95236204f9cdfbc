use Rattle.std.proofs.Common.{sym, ◌∙◌}
use Rattle.mt_keeper.proofs.Staging.{settled_followed, settled_kept}
use Rattle.mt_keeper.proofs.resuming.settle.Goals as goal
use Rattle.mt_keeper.proofs.resuming.settle.Goals.{then-has_later+in-Coming-1, then-has_later+in-Writing-1, then-has_later+in-Followed-1, else-has_later}

pub loop-i-preserved : goal.loop-i-preserved
loop-i-preserved c =
    let logs = c.args.logs.now in
    let now = c.loop-i.logs in
    let x = c.index-logs-i.result in
    elim c.if-has_later.branch [
      | then-has_later+in-Coming-1 w ↦ settled_followed logs now c.if-has_later.logs c.loop-i.i w.last-last.result x w.index-logs-i-then-has_later.result w.index-logs-i-then-has_later-2.result c.loop-i.invariant
          c.loop-i-test.true c.index-logs-i.is w.index-logs-i-then-has_later.is w.index-logs-i-then-has_later-2.is (sym c.has_later.ensures ∙ w.if-has_later.true) w.last-last.ensures w.logs-is
      | then-has_later+in-Writing-1 w ↦ settled_followed logs now c.if-has_later.logs c.loop-i.i w.last-last.result x w.index-logs-i-then-has_later.result w.index-logs-i-then-has_later-2.result c.loop-i.invariant
          c.loop-i-test.true c.index-logs-i.is w.index-logs-i-then-has_later.is w.index-logs-i-then-has_later-2.is (sym c.has_later.ensures ∙ w.if-has_later.true) w.last-last.ensures w.logs-is
      | then-has_later+in-Followed-1 w ↦ settled_followed logs now c.if-has_later.logs c.loop-i.i w.last-last.result x w.index-logs-i-then-has_later.result w.index-logs-i-then-has_later-2.result c.loop-i.invariant
          c.loop-i-test.true c.index-logs-i.is w.index-logs-i-then-has_later.is w.index-logs-i-then-has_later-2.is (sym c.has_later.ensures ∙ w.if-has_later.true) w.last-last.ensures w.logs-is
      | else-has_later w ↦ settled_kept logs now c.if-has_later.logs c.loop-i.i x c.loop-i.invariant c.loop-i-test.true c.index-logs-i.is (sym c.has_later.ensures ∙ w.if-has_later.false) w.logs-is
    ]
