use Rattle.std.proofs.Common.{◌∙◌, List, map, refl, ap, take_all, arith}
use Rattle.std.proofs.lemmas.Fn.{says_at}
use Rattle.mt_record.specs.LogTexts.{greatest}
use Rattle.mt_recover.proofs.VersionLemmas.{greatest_more}
use Rattle.mt_recover.proofs.versions.greatest_of.Goals as goal

pub loop-item-preserved : goal.loop-item-preserved
loop-item-preserved g c = λ of is.
    let item = c.item-item.result in
    let one = is _ _ (says_at g.F.Fn c.number.ensures refl) in
    let more = greatest_more of c.args.items.now c.loop-item.item-index item c.number.result c.loop-item-test.true (one ∙ ap of c.item-item.is) in
    omega (arith, c.max-most.ensures, more, c.loop-item.invariant of is)

pub returns : goal.returns
returns g c = λ of is. c.loop-item.invariant of is ∙ ap (λ (xs : List _). greatest (map of xs)) (take_all c.loop-item.item-index c.args.items.now c.loop-item-test.false)
