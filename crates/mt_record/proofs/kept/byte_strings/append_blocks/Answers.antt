use Rattle.std.proofs.Common.{arith}
use Rattle.mt_record.proofs.Blocks.{blocks_append}
use Rattle.mt_record.proofs.kept.byte_strings.append_blocks.Goals as goal

pub returns-clause-blocks : goal.returns-clause-blocks
returns-clause-blocks c =
    blocks_append c.args.full.now.items c.args.more.items c.append.new.self.items c.args.last.now c.args.end c.replace.new.dest c.requires.blocks c.requires.more
    (omega (arith, c.if-len-lt-TEXTS.false, c.len-2.ensures, c.requires.blocks.within))
    (omega (arith, c.if-len-ge-MOST_BLOCKS.false, c.len-else-len-lt-TEXTS.ensures, c.len-else-len-lt-TEXTS-2.ensures, c.args.full.now.ok.0, c.args.more.ok.0))
    (rw c.replace.ensures.value at (rw c.in_ok-reserve.ensures.items at (rw c.push_reserved.ensures.items at c.in_ok-append.ensures.items))) c.replace.ensures.after
