use Rattle.std.proofs.Common.{rules, refl, sym}
use Rattle.std.proofs.lemmas.Result.{on_ok_weaker}
use Rattle.mt_cli.proofs.Stretch.{shows_range}
use Rattle.mt_cli.proofs.request.Range.visit.Goals as goal

pub returns : goal.returns
returns g c =
    on_ok_weaker c.visit_from.result
    (λ f. let same = sym f.same_target in shows_range g.V.Visitor.shown _ c.visit_from.new.target _ c.start.result.now c.args.store.now c.start.ensures c.visit_from.ensures.lawful.0 refl f (search (rules, same)))
    c.visit_from.ensures.shown
