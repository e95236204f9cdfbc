use Rattle.std.proofs.Common.{sym, refl, subst}
use Rattle.std.specs.Option.{IsSome}
use Rattle.std.proofs.lemmas.Result.{on_ok_weaker}
use Rattle.mt_scan.specs.PartsShown.{shown_by}
use Rattle.mt_scan.proofs.GroupLemmas.{whole_more}
use Rattle.mt_scan.proofs.group.add_whole.Goals as goal

pub returns-in-Some : goal.returns-in-Some
returns-in-Some c =
    let new = c.get_mut.follows.lender c.add.new.self in
    let was = sym c.in-Some.ensures.value in
    let updates = (c.get_mut.follows.holds c.add.new.self).3 (subst IsSome (sym was) refl) in
    on_ok_weaker c.add.result
    (λ adds parts are. whole_more parts (shown_by c.args.text) c.args.groups.now new c.in-Some.group.now c.add.new.self was updates.1 updates.2 adds are)
    c.add.ensures
