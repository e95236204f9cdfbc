use Rattle.std.proofs.Common.{◌≡◌, IsTrue}
use Rattle.mt_scan.proofs.Steps.{HasFed}
use Rattle.mt_scan.proofs.feeding.feed_all.Given as goal

-- what the source returned is fed, and nothing failed
abbrev pub invariant-pieces : goal.invariant-pieces
invariant-pieces g l = record {
  failed : (g.S.Source.seen l.source).failures ≡ (g.S.Source.seen l.fn.source).failures;
  steady : IsTrue (g.S.Source.seen l.fn.source).steady → IsTrue (g.S.Source.seen l.source).steady;
  fed : HasFed (g.F.Fed.was_fed l.fn.feed) (g.S.Source.seen l.fn.source) (g.S.Source.seen l.source) l.feed;
}

abbrev pub decreases-pieces : goal.decreases-pieces
decreases-pieces g l = (g.S.Source.seen l.source).bound
