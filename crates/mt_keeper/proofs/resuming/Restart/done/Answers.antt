use Rattle.std.proofs.Common.{◌≡◌, ℕ, List, length, map, max, sym, ap, ◌∙◌, subst, arith}
use Rattle.std.specs.Vec.{with_items}
use Rattle.std.proofs.lemmas.List.{with_items_is, length-map}
use Rattle.mt_keeper.specs.declared.keeper.Log.{Log}
use Rattle.mt_keeper.specs.contracts.keeper.Keeper.{the_view}
use Rattle.mt_keeper.specs.contracts.resuming.Restart.{the_view as seen_by}
use Rattle.mt_keeper.specs.declared.resuming.Found.{Found}
use Rattle.mt_keeper.specs.Restarting.{Resuming, without_logs, AreAdded, segments_of, among, Restarts}
use Rattle.mt_keeper.proofs.Restarts.{restart_of, restarts}
use Rattle.mt_keeper.proofs.resuming.Restart.done.Goals as goal

pub returns-clause-restarts : goal.returns-clause-restarts
returns-clause-restarts c = λ s found number salt files so_far of added.
    let k = the_view c.keeper.inside in
    let r = restart_of c.self.inside.found k in
    let old = c.deref_mut.result.now in
    let same : r ≡ c.args.self = ap (restart_of c.self.inside.found) c.keeper.view_is ∙ c.self.view_is in
    let long = length-map old (among (segments_of old)) in
    let logs : (with_items c.keeper.inside.logs c.settle.new.logs).items ≡ map (among (segments_of k.logs)) k.logs =
    with_items_is c.keeper.inside.logs c.settle.new.logs (omega (arith, ap length c.settle.ensures, long, c.deref_mut.ensures.len))
    ∙ (c.settle.ensures ∙ ap (λ (ls : List Log). map (among (segments_of ls)) ls) c.deref_mut.ensures.value) in
    let known : c.self-inside.inside.0.0 ≡ r.found = ap (λ (x : Resuming). x.found) (ap seen_by c.self-inside.view_is) in
    let clock : c.max.result ≡ max k.clock r.found.version = c.max.ensures ∙ ap (λ (f : Found). max k.clock f.version) known in
    subst (λ (n : ℕ). Restarts s found.cutoff found.begin files of (record k { clock = n; logs = (with_items c.keeper.inside.logs c.settle.new.logs).items })) (sym clock)
    (subst (λ (ls : List Log). Restarts s found.cutoff found.begin files of (record k { clock = max k.clock r.found.version; logs = ls })) (sym logs)
    (restarts s found number salt files r so_far of (subst (λ (x : Resuming). AreAdded (without_logs found number salt) files x) (sym same) added)))
