use Rattle.std.proofs.Common.{◌∷◌, [], arith}
use Rattle.std.proofs.lemmas.List.{length-append}
use Rattle.std.proofs.lemmas.List.Elements.{All-push}
use Rattle.mt_record.specs.Steps.Blocks.{IsFull}
use Rattle.mt_record.proofs.kept.byte_strings.begin_block.Goals as goal

pub returns-clause-blocks : goal.returns-clause-blocks
returns-clause-blocks c =
    let all = rw c.replace.ensures.value at (rw c.in_ok-reserve.ensures.items at c.push_reserved.ensures.items) in
    let long = length-append c.args.full.now.items (c.args.last.now ∷ []) in
    record {
      filled = rw all (All-push IsFull c.args.full.now.items c.args.last.now c.requires.blocks.filled c.requires.full);
      few = rw all (omega (arith, long, c.if-len-ge-MOST_BLOCKS.false, c.len.ensures, c.args.full.now.ok.0));
      within = rw (c.replace.ensures.after, c.in_ok-next.ensures) (omega arith);
    }
