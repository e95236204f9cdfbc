use Rattle.std.proofs.Common.{[], sym, subst}
use Rattle.mt_c.specs.Added.{AreAdded}
use Rattle.mt_c.proofs.inputs.Inputs.finish.Goals as goal

pub returns : goal.returns
returns c = λ logs parts added.
    let are = subst (AreAdded logs parts) (sym c.self.view_is) added in
    c.in_ok-finish_parts.ensures logs [] parts (c.in_ok-finish_logs.ensures [] [] logs c.new-fed.ensures are.0) are.1
