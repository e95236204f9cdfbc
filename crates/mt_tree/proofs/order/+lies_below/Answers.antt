use Rattle.std.proofs.Common.{arith}
use Rattle.std.proofs.lemmas.Bool.{ltb-true, lt-ltb}
use Rattle.mt_tree.proofs.Orders.{by_slices, by_lengths, by_short, by_below, edge_falls}
use Rattle.mt_tree.proofs.order.+lies_below.Goals as goal

pub returns-then-last-first : goal.returns-then-last-first
returns-then-last-first t c =
    let iff = by_slices _ _ _ _ _ _ _ _ c.in-Some.ensures c.in-Some-first_edge.ensures c.if-last-first.true in
    (λ h. iff.0 (ltb-true _ _ h), λ h. lt-ltb _ _ (iff.1 h))

pub returns-then-last-first-2 : goal.returns-then-last-first-2
returns-then-last-first-2 t c =
    let iff = by_lengths _ _ _ _ _ _ _ _ c.in-Some.ensures c.in-Some-first_edge.ensures c.if-last-first.false c.if-last-first-2.true in
    (λ h. iff.0 (ltb-true _ _ h), λ h. lt-ltb _ _ (iff.1 h))

pub returns-then-last-lt9 : goal.returns-then-last-lt9
returns-then-last-lt9 t c =
    let never = by_short _ _ _ _ _ _ _ _ c.in-Some.ensures c.in-Some-first_edge.ensures c.if-last-first.false c.if-last-first-2.false c.if-last-lt9.true in
    (λ h. cc h, λ h. absurd (never h))

pub lies_below-requires : goal.lies_below-requires
lies_below-requires t c =
    let few = c.in-Some.ensures.edge.fits in
    let falls = edge_falls _ _ _ _ c.in-Some.ensures (omega (arith, few, c.if-last-lt9.false)) in
    (omega (arith, falls, c.decreases), tt)

pub returns : goal.returns
returns t c =
    let iff = by_below _ _ _ _ _ _ _ _ c.in-Some.ensures c.in-Some-first_edge.ensures c.if-last-first.false c.if-last-first-2.false c.if-last-lt9.false in
    (λ h. iff.0 (c.lies_below.ensures.0 h), λ h. c.lies_below.ensures.1 (iff.1 h))
