use Rattle.std.proofs.Common.{◌≡◌, ◌∙◌, rules, tests, length, filter}
use Rattle.std.proofs.lemmas.Iterator.{YieldsList-from_slice}
use Rattle.std.proofs.lemmas.Iterator.Consumers.{YieldsList-from_filter, count_from_yields_List}
use Rattle.mt_scan.proofs.SegmentLemmas.{is_first_front, writer_count}
use Rattle.mt_scan.proofs.segments.writer_count.Goals as goal

pub returns : goal.returns
returns c = λ logs show.
    let fronts = c.args.fronts.now in
    let is : c.count.result ≡ length (filter (is_first_front fronts) fronts) =
    count_from_yields_List c.filter.result c.count.result c.count.ensures.ran
    (YieldsList-from_filter _ (is_first_front fronts) (YieldsList-from_slice fronts cc) c.filter.ensures.closure (λ x b q k. search (rules, tests))) in
    is ∙ writer_count fronts logs show
