use Rattle.mt_record.proofs.Seals.{sealed_file}
use Rattle.mt_record.proofs.resume.seal_log.Goals as goal

pub returns : goal.returns
returns c =
    let records = c.in_ok-append_small_blocks.ensures in
    sealed_file c.args.header c.mark-mark.result c.in_ok-file.file.items c.args.records.now c.args.marks.now records.0 c.append_small_blocks.new.out.items c.append_block.new.out.items
    c.requires.header c.mark-mark.ensures c.in_ok-file.ensures records.1 records.2 c.append_block.ensures.body c.requires.marks.0 c.in_ok-append_block.ensures.ok
