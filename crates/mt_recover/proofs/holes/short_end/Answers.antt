use Rattle.std.proofs.Common.{◌∙◌, Some, ap, rules, tests}
use Rattle.std.specs.Option.{option_map}
use Rattle.std.proofs.lemmas.Iterator.{YieldsList-from_slice}
use Rattle.std.proofs.lemmas.Iterator.Search.{find_from_yields_List}
use Rattle.mt_scan.specs.Scans.{last_in}
use Rattle.mt_recover.specs.Steps.Holes.{ends_short}
use Rattle.mt_recover.proofs.holes.short_end.Goals as goal

pub returns-in-Some : goal.returns-in-Some
returns-in-Some c =
    let found = find_from_yields_List (ends_short c.args.cutoff c.args.file.now) _ _ c.find.result c.find.ensures.ran (YieldsList-from_slice c.args.fronts.now cc) (λ x b q k. search (rules, tests)) in
    let same = rw c.in-Some.is at found in
    ap Some c.last.ensures.value ∙ ap (option_map last_in) same

pub returns-in-None : goal.returns-in-None
returns-in-None c =
    let found = find_from_yields_List (ends_short c.args.cutoff c.args.file.now) _ _ c.find.result c.find.ensures.ran (YieldsList-from_slice c.args.fronts.now cc) (λ x b q k. search (rules, tests)) in
    let same = rw c.in-None.is at found in
    ap (option_map last_in) same
