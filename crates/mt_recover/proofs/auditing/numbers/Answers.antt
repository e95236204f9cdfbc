use Rattle.std.proofs.Common.{◌≡◌, refl, subst, arith, IfOk}
use Rattle.std.specs.List.{range_with_len}
use Rattle.std.proofs.lemmas.Iterator.{YieldsList-from_range, items_from_collect}
use Rattle.mt_recover.proofs.auditing.numbers.Goals as goal

pub returns : goal.returns
returns c =
    let made = items_from_collect c.collect.result c.collect.ensures.ran (YieldsList-from_range 0 c.args.count c.args.count refl (omega arith)) in
    subst (λ collected. IfOk collected (λ numbers. numbers.items ≡ range_with_len 0 c.args.count)) c.in_ok-collect.was made
