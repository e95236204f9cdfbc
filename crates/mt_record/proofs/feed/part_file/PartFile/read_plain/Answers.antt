use Rattle.mt_record.specs.PartFeeding.{part_file}
use Rattle.mt_record.proofs.Unsealing.{not_empty}
use Rattle.mt_record.proofs.PartSteps.{all_read, plain_more}
use Rattle.mt_record.proofs.feed.part_file.PartFile.read_plain.Goals as goal

pub returns : goal.returns
returns g c =
    let new = record c.args.self.now { text = c.feed.new.self } in
    all_read g.E.Entries.listed c.args.self.now new c.args.bytes.now (not_empty c.args.bytes.now c.is_empty.result c.is_empty.ensures c.if-is_empty.false) (λ before h.
    plain_more (part_file g.E.Entries.listed c.args.self.now) (part_file g.E.Entries.listed new) before c.args.bytes.now c.requires.plain c.requires.plain (λ text. c.feed.ensures.fed tt text) h)
