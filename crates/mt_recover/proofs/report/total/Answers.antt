use Rattle.std.proofs.Common.{◌∙◌, refl, ap, take_all, arith}
use Rattle.std.specs.List.{sum_by}
use Rattle.std.proofs.lemmas.Fn.{says_at}
use Rattle.std.proofs.lemmas.List.Sums.{sum_by_more}
use Rattle.mt_recover.proofs.report.total.Goals as goal

pub loop-item-preserved : goal.loop-item-preserved
loop-item-preserved g c = record {
  bounded = omega (arith, c.loop-item.invariant.bounded, c.from-sum.ensures, c.number.type_inv);
  sums = λ of is.
      let item = c.item-item.result in
      let one = is _ _ (says_at g.F.Fn c.number.ensures refl) in
      let more = sum_by_more of c.args.items.now c.loop-item.item-index item c.loop-item-test.true in
      omega (arith, c.loop-item.invariant.sums of is, c.from-sum.ensures, more, one, ap of c.item-item.is);
}

pub returns : goal.returns
returns g c = λ of is. c.loop-item.invariant.sums of is ∙ ap (sum_by of) (take_all c.loop-item.item-index c.args.items.now c.loop-item-test.false)
