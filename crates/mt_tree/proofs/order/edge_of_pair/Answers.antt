use Rattle.std.proofs.Common.{◌≡◌, min, length, rules}
use Rattle.mt_tree.proofs.Orders.{pair_last, pair_first, rest_past}
use Rattle.mt_tree.proofs.order.edge_of_pair.Goals as goal

pub returns-clause-last : goal.returns-clause-last
returns-clause-last c =
    let m : c.min.result ≡ min (length c.args.key.now) 9 = search rules in
    let k : c.min-2.result ≡ min (length c.args.key.now) 8 = search rules in
    pair_last _ _ _ _ _ c.slice_of.ensures.bytes c.slice_of.ensures.value m (rest_past c.args.key.now _ _ k m)

pub returns-clause-first : goal.returns-clause-first
returns-clause-first c =
    let m : c.min.result ≡ min (length c.args.key.now) 9 = search rules in
    let k : c.min-2.result ≡ min (length c.args.key.now) 8 = search rules in
    pair_first _ _ _ _ _ c.slice_of.ensures.bytes c.slice_of.ensures.value m (rest_past c.args.key.now _ _ k m)
