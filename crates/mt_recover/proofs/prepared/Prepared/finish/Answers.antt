use Rattle.std.proofs.Common.{◌∙◌, length, sym, ap}
use Rattle.mt_recover.specs.Prepared.{PreparedView}
use Rattle.mt_recover.proofs.prepared.Prepared.finish.Goals as goal

pub complete-requires : goal.complete-requires
complete-requires c = c.requires.map

pub returns : goal.returns
returns c =
    let self = c.args.self in
    c.complete.ensures self (ap (λ (p : PreparedView). p.report) (sym c.self.view_is)) c.requires (c.self.invariant.survivors ∙ ap (λ (p : PreparedView). length p.updates) c.self.view_is) c.self.invariant.few
