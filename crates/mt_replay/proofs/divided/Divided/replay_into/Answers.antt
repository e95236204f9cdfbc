use Rattle.std.proofs.lemmas.Result.{IfOk-weaker}
use Rattle.mt_replay.proofs.PieceLemmas.{map_made, piece_made}
use Rattle.mt_replay.proofs.divided.Divided.replay_into.Goals as goal

pub returns : goal.returns
returns g c =
    let made = rw c.deref.ensures.value at c.replay_sorted.ensures in
    record {
      map = IfOk-weaker c.replay_sorted.result _ _ (λ filled. map_made c.args.self.now.cuts c.args.piece c.args.self.now.updates _ (g.S.PairSink.pairs filled) c.in_ok-sorted.ensures.same) made;
      walk = IfOk-weaker c.replay_sorted.result _ _ (λ filled. piece_made c.args.self.now.cuts c.args.piece c.args.self.now.updates _ (g.S.PairSink.pairs filled) c.in_ok-sorted.ensures.same) made;
    }
