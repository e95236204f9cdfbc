use Rattle.std.proofs.Common.{Option, Some, sym, subst}
use Rattle.mt_record.specs.declared.front.LogFront.{LogFront}
use Rattle.mt_record.specs.LogFeeding.{StepsLog}
use Rattle.mt_record.proofs.feed.log_items.LogItemsItems.read_next.Goals as goal

pub returns : goal.returns
returns g c = subst (λ (o : Option LogFront).
    StepsLog g.R.Records.listed (record { front = o; ready = c.args.self.now.ready }) (record { front = Some c.read_record.new.front; ready = c.read_record.new.ready }) c.args.bytes.now c.read_record.result)
    (sym c.in-Some.is) c.read_record.ensures
