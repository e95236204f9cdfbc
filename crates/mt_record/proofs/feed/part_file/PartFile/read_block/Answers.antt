use Rattle.std.proofs.Common.{refl}
use Rattle.mt_record.proofs.PartSteps.{block_read}
use Rattle.mt_record.proofs.feed.part_file.PartFile.read_block.Goals as goal

pub returns-in-Ok-Some : goal.returns-in-Ok-Some
returns-in-Ok-Some g c =
    block_read g.E.Entries.listed c.args.self.now (record c.args.self.now { text = c.feed.new.self }) c.args.bytes.now c.in-Ok-Some.body.now c.in-Ok-Some.after.now (rw c.in-Ok-Some.field-0-is at c.in-Ok-Some.ensures.found)
    c.requires.sealed c.requires.sealed refl (λ text. c.feed.ensures.fed tt text)
