use Rattle.mt_scan.proofs.GroupLemmas.{broken_more}
use Rattle.mt_scan.proofs.group.add_broken.Goals as goal

pub returns : goal.returns
returns c = λ parts entries are.
    broken_more parts c.args.number entries c.args.groups.now c.insert.new.self c.in_ok-insert.ensures.updates.1 c.in_ok-insert.ensures.updates.2 are
