use Rattle.std.proofs.Common.{List}
use Rattle.std.proofs.lemmas.Result.{IfOk-weaker}
use Rattle.mt_words.specs.declared.update.Update.{Update}
use Rattle.mt_replay.specs.Cuts.{updates_in}
use Rattle.mt_replay.proofs.AuditorLemmas.{moved_clashes}
use Rattle.mt_replay.proofs.divided.Divided.clashes_in.Goals as goal

pub returns : goal.returns
returns c =
    let sorted : List Update = c.in_ok-sorted.sorted.items in
    IfOk-weaker c.clashes_of.result _ _ (λ clashes. moved_clashes (updates_in c.args.self.now.cuts c.args.piece c.args.self.now.updates) sorted clashes.items c.in_ok-sorted.ensures.same) (rw c.deref.ensures.value at c.clashes_of.ensures)
