use Rattle.std.proofs.Common.{◌*◌, ◌∙◌, List, length, sym, ap, arith}
use Rattle.mt_replay.specs.Batches.{BatchView}
use Rattle.mt_recover.proofs.Filling.{all_full}
use Rattle.mt_recover.proofs.batches.take_open.Goals as goal

pub returns-clause-few : goal.returns-clause-few
returns-clause-few c = λ records filled.
    let was = c.in-Some.ensures.items in
    let same = c.in_ok-push.ensures.items ∙ sym was in
    let full = all_full c.args.size records c.args.batches.now.items c.pop.new.self.items c.in-Some.last filled was (omega (arith, c.records.ensures, c.if-records-size.false)) in
    omega (arith, full, ap (λ (batches : List BatchView). c.args.size * length batches) same, ap (λ (b : BatchView). b.records) c.new-2.ensures)
