use Rattle.std.proofs.Common.{refl}
use Rattle.mt_scan.proofs.SelectionLemmas.{selection_offered, selection_passed}
use Rattle.mt_scan.proofs.selection.Selection.add.Goals as goal

pub returns-in-Some : goal.returns-in-Some
returns-in-Some c = λ all below is.
    selection_offered all c.args.number c.args.group c.args.cutoff c.in-Some.checkpoint c.args.self.now c.offer.new.self c.in-Some.ensures below
    (record { taken = c.offer.ensures.taken; left = c.offer.ensures.left; skipped = c.offer.ensures.skipped }) is

pub returns-in_ok-push-in-None : goal.returns-in_ok-push-in-None
returns-in_ok-push-in-None c = λ all below is.
    selection_passed all c.args.number c.args.group c.args.cutoff c.args.self.now (record { best = c.args.self.now.best; skipped = c.push.new.self }) c.in-None.ensures below refl c.in_ok-push-in-None.ensures.items is
