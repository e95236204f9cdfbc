use Rattle.std.proofs.Common.{◌≡◌, inl, inr, List, refl, ap, ◌∙◌, subst}
use Rattle.mt_keeper.specs.declared.keeper.Log.{Log}
use Rattle.mt_keeper.specs.contracts.keeper.Keeper.{the_view}
use Rattle.mt_keeper.specs.contracts.resuming.Restart.{the_view as seen_by}
use Rattle.mt_keeper.specs.Keeping.{Keeping}
use Rattle.mt_keeper.specs.Restarting.{Resuming, IsBack, HasSame}
use Rattle.mt_keeper.proofs.resuming.Restart.add.Goals as goal

pub returns-then-has_same-clause-fault : goal.returns-then-has_same-clause-fault
returns-then-has_same-clause-fault c =
    let log = c.in_ok-log.log in
    let same : the_view c.self-inside.inside.0.1.0 ≡ c.args.self.now.keeper = ap (λ (r : Resuming). r.keeper) (ap seen_by c.self-inside.view_is ∙ c.self.view_is) in
    let there = subst (λ (logs : List Log). HasSame log.segment logs) c.deref.ensures.value (c.has_same.ensures.0 c.if-has_same.true) in
    inl (refl, inr (log, subst (λ (k : Keeping). IsBack k.clock c.args.bytes.now log) same c.in_ok-log.ensures.ok, subst (λ (k : Keeping). HasSame log.segment k.logs) same there))
