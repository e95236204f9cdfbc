use Rattle.std.proofs.Common.{◌≡◌, ◌-◌, length, take, refl, arith}
use Rattle.std.proofs.lemmas.List.{length-take}
use Rattle.std.proofs.lemmas.Result.{on_ok_weaker}
use Rattle.mt_tree.specs.Trees.{tree_walk}
use Rattle.mt_tree.specs.Range.{from}
use Rattle.mt_checkpoint.proofs.Texts.{all_written}
use Rattle.mt_checkpoint.proofs.entries.Rest.write.Goals as goal

pub returns : goal.returns
returns g c =
    let old = c.args.self.now in
    let walk = from c.args.start.now (tree_walk c.args.tree.now) in
    let walked = c.visit_from.new.target in
    let is = c.in_ok-visit_from.ensures in
    let counted : old.left - walked.left ≡ length (take old.left walk) = omega (arith, is.left, length-take old.left walk) in
    on_ok_weaker c.seal.result
    (λ both. all_written g.W.Write.contents old walked _ c.seal.new.self c.args.end (old.left - walked.left) (take old.left walk) is.sealed refl refl refl refl c.in_ok-write_footer.ensures counted both.0 both.1)
    c.seal.ensures
