use Rattle.std.proofs.Common.{◌≡◌, IsTrue}
use Rattle.mt_scan.specs.Steps.Feeding.{LooksOn, IsFedAbove}
use Rattle.mt_scan.proofs.Steps.{HasFed}
use Rattle.mt_scan.proofs.sharing.scan_shared.Given as goal

-- what the source returned is fed with the least number that the pass has seen or a higher one, and nothing failed
abbrev pub invariant-pieces : goal.invariant-pieces
invariant-pieces g l = record {
  failed : (g.S.Source.seen l.source).failures ≡ (g.S.Source.seen l.fn.source).failures;
  steady : IsTrue (g.S.Source.seen l.fn.source).steady → IsTrue (g.S.Source.seen l.source).steady;
  looks : LooksOn l.fn.pass l.pass l.limit;
  fed : HasFed (IsFedAbove l.limit) (g.S.Source.seen l.fn.source) (g.S.Source.seen l.source) l.feed;
}

abbrev pub decreases-pieces : goal.decreases-pieces
decreases-pieces g l = (g.S.Source.seen l.source).bound
