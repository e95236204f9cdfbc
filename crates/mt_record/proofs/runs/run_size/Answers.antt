use Rattle.std.proofs.Common.{◌≡◌, ◌+◌, ◌-◌, length, take, drop, arith}
use Rattle.std.proofs.lemmas.List.{length-drop, take_all}
use Rattle.mt_record.proofs.RunLemmas.{first_run, next_within, more_run}
use Rattle.mt_record.proofs.runs.run_size.Goals as goal

pub next-init : goal.next-init
next-init c = first_run c.args.records.now c.frame_wanted-size.result c.requires.records c.requires.some c.frame_wanted-size.ensures

pub overflow_add-more : goal.overflow_add-more
overflow_add-more c =
    let bytes = c.args.records.now in
    let n = c.next.size in
    let all : take (length bytes - n) (drop n bytes) ≡ drop n bytes = take_all (length bytes - n) (drop n bytes) (omega (arith, length-drop n bytes)) in
    let within = next_within bytes _ n c.frame_wanted.result c.next.invariant c.next-test.true all c.frame_wanted.ensures in
    omega (arith, c.next.invariant.most, within.1)

pub next-smaller : goal.next-smaller
next-smaller c =
    let bytes = c.args.records.now in
    let n = c.next.size in
    let all : take (length bytes - n) (drop n bytes) ≡ drop n bytes = take_all (length bytes - n) (drop n bytes) (omega (arith, length-drop n bytes)) in
    let within = next_within bytes _ n c.frame_wanted.result c.next.invariant c.next-test.true all c.frame_wanted.ensures in
    omega (arith, c.next-test.true, within.0)

pub next-preserved : goal.next-preserved
next-preserved c =
    let bytes = c.args.records.now in
    let n = c.next.size in
    let all : take (length bytes - n) (drop n bytes) ≡ drop n bytes = take_all (length bytes - n) (drop n bytes) (omega (arith, length-drop n bytes)) in
    more_run bytes _ n c.frame_wanted.result c.next.invariant c.next-test.true all c.frame_wanted.ensures c.if-more.false
