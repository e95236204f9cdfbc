use Rattle.std.proofs.Common.{subst}
use Rattle.std.proofs.lemmas.Result.{IfOk-weaker}
use Rattle.mt_replay.specs.Pieces.{IsPiece}
use Rattle.mt_tree.specs.Borders.{layer_walk}
use Rattle.mt_recover.specs.Prepared.{PreparedView}
use Rattle.mt_recover.proofs.prepared.Prepared.replay.Goals as goal

pub returns : goal.returns
returns c =
    IfOk-weaker c.replay_into.result _ _ (λ draft is. subst (λ (p : PreparedView). IsPiece p.updates p.cuts c.args.piece (layer_walk draft)) c.self.view_is (is c.self.invariant.apart)) c.replay_into.ensures.walk
