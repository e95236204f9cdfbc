use Rattle.std.proofs.lemmas.Result.{on_ok_weaker}
use Rattle.mt_scan.proofs.group.add_scan.Goals as goal

pub returns-in-Whole : goal.returns-in-Whole
returns-in-Whole c = rw c.in-Whole.is c.add_whole.ensures

pub returns-in-Broken : goal.returns-in-Broken
returns-in-Broken c = rw c.in-Broken.is (on_ok_weaker c.add_broken.result (λ more parts. more parts c.in-Broken.entries) c.add_broken.ensures)
