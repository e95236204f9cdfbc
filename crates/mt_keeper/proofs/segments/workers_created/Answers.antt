use Rattle.std.proofs.Common.{◌≡◌, ◌∙◌, rules, tests, length, arith}
use Rattle.std.specs.Prelude.{filter}
use Rattle.std.proofs.lemmas.Iterator.{YieldsList-from_slice}
use Rattle.std.proofs.lemmas.Iterator.Consumers.{YieldsList-from_filter, count_from_yields_List}
use Rattle.mt_keeper.specs.Filing.{has_created}
use Rattle.mt_keeper.proofs.segments.workers_created.Goals as goal

pub returns : goal.returns
returns c =
    let logs = c.args.logs.now in
    let is : c.count-count.result ≡ length (filter has_created logs) =
    count_from_yields_List c.filter.result c.count-count.result c.count-count.ensures.ran
    (YieldsList-from_filter _ has_created (YieldsList-from_slice logs cc) c.filter.ensures.closure (λ x b q k. search (rules, tests))) in
    omega (arith, is, c.min.ensures)
