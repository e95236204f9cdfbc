use Rattle.std.proofs.Common.{◌≡◌, ◌∙◌, rules, tests, length}
use Rattle.std.specs.Prelude.{filter, is_some}
use Rattle.std.proofs.lemmas.Iterator.{YieldsList-from_slice}
use Rattle.std.proofs.lemmas.Iterator.Consumers.{YieldsList-from_filter, count_from_yields_List}
use Rattle.mt_record.specs.declared.front.LogFront.{LogFront}
use Rattle.mt_recover.specs.Steps.Holes.{front_hole}
use Rattle.mt_recover.proofs.HoleLemmas.{holes_counted}
use Rattle.mt_recover.proofs.holes.hole_count.Goals as goal

pub returns : goal.returns
returns c = λ logs show.
    let fronts = c.args.fronts.now in
    let window = c.args.window in
    let is : c.count.result ≡ length (filter (λ (file : LogFront). is_some (front_hole window fronts file)) fronts) =
    count_from_yields_List c.filter.result c.count.result c.count.ensures.ran
    (YieldsList-from_filter _ (λ (file : LogFront). is_some (front_hole window fronts file)) (YieldsList-from_slice fronts cc) c.filter.ensures.closure (λ x b q k. search (rules, tests))) in
    is ∙ holes_counted window fronts logs show fronts logs show
