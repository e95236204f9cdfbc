use Rattle.std.proofs.Common.{◌∙◌, sym, rules, tests}
use Rattle.std.proofs.lemmas.Iterator.Adapters.{option_map_id}
use Rattle.std.proofs.lemmas.Iterator.{YieldsList-from_slice, YieldsList-from_map}
use Rattle.std.proofs.lemmas.Iterator.Consumers.{min_from_yields_List}
use Rattle.mt_scan.specs.Steps.Lasts.{last_of}
use Rattle.mt_scan.proofs.LeastLast.{cutoff_of}
use Rattle.mt_scan.proofs.lasts.cutoff.Goals as goal

pub returns-clause-found : goal.returns-clause-found
returns-clause-found c = λ logs show.
    let fronts = c.args.fronts.now in
    let least = min_from_yields_List {v = λ n. n} c.map.result c.min.result c.min.ensures.ran
    (YieldsList-from_map _ (last_of fronts) (YieldsList-from_slice fronts cc) c.map.ensures.closure (λ x r q k. search (rules, tests))) in
    cutoff_of fronts logs c.min.result show (sym (option_map_id c.min.result) ∙ least)
