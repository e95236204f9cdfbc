use Rattle.std.proofs.Common.{◌<◌, refl, arith}
use Rattle.std.proofs.lemmas.Bool.{false≢true}
use Rattle.std.proofs.lemmas.Bool.Decides.{nat_tests}
use Rattle.mt_record.proofs.Salvages.{go_on_begins, go_on_begun, go_on_read, go_on_unread, go_on_enough, go_on_ends, go_on_ended, go_on_fault}
use Rattle.mt_record.proofs.salvage.go_on.Goals as goal

pub loop-nth-init : goal.loop-nth-init
loop-nth-init c = (go_on_begins c.args.items c.args.format c.args.enough c.args.bytes.now, go_on_begun c.args.items c.args.format c.args.enough c.args.bytes.now)

pub loop-nth-preserved : goal.loop-nth-preserved
loop-nth-preserved c =
    let found = c.in-Ok-Some in
    let is = rw found.field-0-is at found.ensures.found in
    let I = c.loop-nth.invariant in
    let n = c.loop-nth.nth in
    let bytes = c.loop-nth.rest.now in
    let after = found.after.now in (
      λ goes. go_on_read c.args.items c.args.format c.args.enough n bytes found.field-0-0-0 after is (omega (arith, c.loop-nth-test.true)) (I.0 goes),
      λ goes. I.1 (go_on_unread c.args.items c.args.format c.args.enough n bytes found.field-0-0-0 after is goes),
    )

pub returns-in-Ok-None : goal.returns-in-Ok-None
returns-in-Ok-None c =
    let ends = rw c.in-Ok-None.field-0-is at c.in-Ok-None.ensures.found in
    let I = c.loop-nth.invariant in
    let n = c.loop-nth.nth in
    let bytes = c.loop-nth.rest.now in (
      λ t. I.1 (go_on_ends c.args.items c.args.format c.args.enough n bytes ends (let some : 0 < n = grind (arith, nat_tests, t) in some)),
      λ goes. let some : 0 < n = go_on_ended c.args.items c.args.format c.args.enough n bytes ends (I.0 goes) in grind (arith, nat_tests, some),
    )

pub returns-in-Err : goal.returns-in-Err
returns-in-Err c =
    let n = c.loop-nth.nth in (
      λ t. absurd (false≢true t),
      λ goes. absurd (go_on_fault c.args.items c.args.format c.args.enough n c.loop-nth.rest.now c.in-Err.ensures.fault (omega (arith, c.loop-nth-test.true)) (c.loop-nth.invariant.0 goes)),
    )

pub returns : goal.returns
returns c = (λ t. c.loop-nth.invariant.1 (go_on_enough c.args.items c.args.format c.args.enough c.loop-nth.nth c.loop-nth.rest.now c.requires (omega (arith, c.loop-nth-test.false))), λ h. refl)
