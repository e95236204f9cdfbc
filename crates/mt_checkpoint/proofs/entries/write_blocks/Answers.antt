use Rattle.std.proofs.Common.{take, rules}
use Rattle.std.proofs.lemmas.Result.{on_ok_weaker}
use Rattle.mt_tree.specs.Trees.{tree_walk}
use Rattle.mt_tree.specs.Range.{from}
use Rattle.mt_checkpoint.proofs.Texts.{only_blocks}
use Rattle.mt_checkpoint.proofs.entries.write_blocks.Goals as goal

pub returns : goal.returns
returns g c =
    let stretch = c.args.stretch.now in
    let pairs = take stretch.count (from stretch.start (tree_walk c.args.tree.now)) in
    let ensures = rw c.as_bytes.ensures.value at c.write.ensures in
    on_ok_weaker c.write.result (λ is. only_blocks g.W.Write.contents _ _ _ c.args.end pairs c.new-body.ensures.items (search rules) is) ensures
