use Rattle.std.proofs.Common.{refl}
use Rattle.mt_record.proofs.Unsealing.{block_read}
use Rattle.mt_record.proofs.feed.blocks.BlocksItems.read_next.Goals as goal

pub returns-in-Ok-Some : goal.returns-in-Ok-Some
returns-in-Ok-Some g c =
    block_read g.I.Items.holds g.I.Items.is_left g.I.Items.shows c.args.self.now (record c.args.self.now { inner = c.feed.new.self }) c.args.bytes.now c.in-Ok-Some.body.now c.in-Ok-Some.after.now (rw c.in-Ok-Some.field-0-is at c.in-Ok-Some.ensures.found) c.if-self.false refl
    (λ taken text. c.feed.ensures.fed taken text)
