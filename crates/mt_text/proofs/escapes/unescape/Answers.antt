use Rattle.std.proofs.Common.{rules, ◌≡◌, ◌<◌, length, subst, sym}
use Rattle.mt_text.proofs.Reading.{Read, read_all, read_first, read_more, read_none}
use Rattle.mt_text.proofs.escapes.unescape.Goals as goal

pub loop-rest-init : goal.loop-rest-init
loop-rest-init c = search (rules, read_first)

pub returns-in_default : goal.returns-in_default
returns-in_default c =
    let some : 0 < length c.loop-rest.rest.now = search rules in
    read_none c.args.text.now c.loop-rest.bytes.items c.loop-rest.rest.now c.loop-rest.invariant c.in_default.ensures some

pub loop-rest-preserved : goal.loop-rest-preserved
loop-rest-preserved c =
    let some : 0 < length c.loop-rest.rest.now = search rules in
    subst (λ bytes. Read c.args.text.now bytes c.in-Some.after.now) (sym c.in_ok-push.ensures.items)
    (read_more c.args.text.now c.loop-rest.bytes.items c.loop-rest.rest.now c.loop-rest.invariant _ _ c.in-Some.ensures.0 some)

pub returns : goal.returns
returns c =
    let none : length c.loop-rest.rest.now ≡ 0 = search rules in
    read_all c.args.text.now c.loop-rest.bytes.items c.loop-rest.rest.now c.loop-rest.invariant none
