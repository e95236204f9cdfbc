use Rattle.std.proofs.Common.{subst, IfOk, ◌≡◌}
use Rattle.std.specs.List.{enumerate_from}
use Rattle.std.proofs.lemmas.Iterator.{items_from_collect}
use Rattle.std.proofs.lemmas.Iterator.Consumers.{YieldsList-from_enumerate}
use Rattle.std.proofs.lemmas.Iterator.Adapters.{YieldsList-from_vec}
use Rattle.mt_recover.proofs.by_workers.numbered.Goals as goal

pub returns : goal.returns
returns g c =
    let made = items_from_collect c.collect.result c.collect.ensures.ran (YieldsList-from_enumerate (YieldsList-from_vec c.args.items.items (cc) (cc)) (cc)) in
    subst (λ collected. IfOk collected (λ numbered. numbered.items ≡ enumerate_from 0 c.args.items.items)) c.in_ok-collect.was made
