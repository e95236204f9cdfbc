use Rattle.std.proofs.Common.{◌≡◌, drop, [], add-one, drop-cons}
use Rattle.std.proofs.lemmas.List.{drop_all}
use Rattle.mt_crc.specs.Crc.{remainder}
use Rattle.mt_crc.proofs.after_each.Goals as goal

pub loop-byte-preserved : goal.loop-byte-preserved
unfolding remainder
loop-byte-preserved c =
    let e = drop-cons c.args.bytes.now c.loop-byte.byte-index 0 c.loop-byte-test.true in
    let h = rw e at c.loop-byte.invariant in
    rw (c.after_byte-state.ensures, add-one) h

pub returns : goal.returns
unfolding remainder
returns c =
    let e : drop c.loop-byte.byte-index c.args.bytes.now ≡ [] = drop_all c.loop-byte.byte-index c.args.bytes.now c.loop-byte-test.false in
    let h = rw e at c.loop-byte.invariant in
    h
