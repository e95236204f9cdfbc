use Rattle.std.proofs.Common.{List, ℕ, subst}
use Rattle.mt_writer.specs.PartFiles.{AreLast}
use Rattle.mt_writer.proofs.PartLemmas.{last_one, last_two}
use Rattle.mt_writer.proofs.part_writer.append_last.Goals as goal

pub returns-then-text-le-SMALL-clause-ok : goal.returns-then-text-le-SMALL-clause-ok
returns-then-text-le-SMALL-clause-ok c = last_one c.args.mark c.args.before c.args.text.now c.args.ready.now.items c.append_block.new.out.items c.if-text-le-SMALL.true c.in_ok-append_block.ensures.ok c.append_block.ensures.body

pub returns-clause-ok : goal.returns-clause-ok
returns-clause-ok c =
    let ready = c.args.ready.now.items in
    let new = c.append_block-3.new.out.items in
    subst (λ (x : List ℕ × List ℕ). AreLast c.args.mark x.0 x.1 ready new) (λ i. (c.split_at.ensures.front i, c.split_at.ensures.back i))
    (last_two c.args.mark _ _ ready c.append_block-2.new.out.items new c.in_ok-append_block-2.ensures.ok c.in_ok-append_block-3.ensures.ok c.append_block-2.ensures.body c.append_block-3.ensures.body)
