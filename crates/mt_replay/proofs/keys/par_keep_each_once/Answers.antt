use Rattle.std.proofs.Common.{◌≡◌, ◌∙◌, ap, subst, IsPermutation, arith}
use Rattle.std.specs.Prelude.{nat_eq}
use Rattle.std.specs.Cmp.Lexicographic.{pointwise}
use Rattle.std.specs.List.{dedup}
use Rattle.std.specs.Vec.{with_items}
use Rattle.std.proofs.lemmas.List.{with_items_is}
use Rattle.std.proofs.lemmas.List.Filters.{dedup_is}
use Rattle.mt_replay.proofs.DistinctLemmas.{distinct}
use Rattle.mt_replay.proofs.keys.par_keep_each_once.Goals as goal

pub returns : goal.returns
returns g c =
    let sorted = c.par_sort.new.s in
    let back : (with_items c.args.keys.now sorted).items ≡ sorted = with_items_is c.args.keys.now sorted (omega (arith, c.in_ok-par_sort.ensures.len, c.deref_mut.ensures.len)) in
    let kept = dedup_is (λ a b. pointwise nat_eq a.now b.now) (with_items c.args.keys.now sorted).items c.dedup.new.self.items c.dedup.ensures.filtered ∙ ap (dedup (λ a b. pointwise nat_eq a.now b.now)) back in
    let moved = subst (λ keys. IsPermutation keys sorted) c.deref_mut.ensures.value c.in_ok-par_sort.ensures.permutation in
    distinct (λ key. key.now) c.args.keys.now.items sorted c.dedup.new.self.items moved c.in_ok-par_sort.ensures.sorted kept
