use Rattle.std.proofs.Common.{ℕ, List, ◌++◌, ◌∙◌, ap, refl, subst}
use Rattle.mt_block.specs.Sealing.{IsSealing}
use Rattle.mt_checkpoint.proofs.Texts.{now_sealed}
use Rattle.mt_checkpoint.proofs.entries.Rest.seal.Goals as goal

pub returns : goal.returns
returns g c =
    let contents = g.W.Write.contents in
    let old = c.args.self.now in
    let made = c.in_ok-append_blocks.ensures in
    let blocks = c.deref-2.ensures.value ∙ made.2 ∙ ap (λ (l : List ℕ). l ++ made.0) c.clear.ensures.items in
    let is = subst (λ (bytes : List ℕ). IsSealing old.mark bytes made.0) c.deref.ensures.value made.1 in
    let written = rw blocks at c.in_ok-write_all.ensures.bytes in
    (now_sealed contents old _ refl refl refl refl c.clear-2.ensures.items made.0 is written, c.clear-2.ensures.items)
