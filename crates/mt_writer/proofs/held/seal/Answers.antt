use Rattle.std.proofs.Common.{◌≡◌, ◌++◌, drop, ap, subst, ◌∙◌, List, ℕ, arith, rules}
use Rattle.std.proofs.lemmas.List.{length-drop}
use Rattle.mt_block.specs.Blocks.{block}
use Rattle.mt_writer.proofs.Framed.{sealed, with_head}
use Rattle.mt_writer.proofs.held.seal.Goals as goal

pub returns-clause-block : goal.returns-clause-block
returns-clause-block c =
    let bytes = c.args.bytes.items in
    let body = drop 12 bytes in
    let frame = c.frame_of-frame.result in
    let written = with_head c.args.bytes.len frame.head c.put_head.new.bytes bytes c.args.bytes.ok.0 (omega (arith, c.if-len-le-HEAD_BYTES.false, c.len.ensures)) (search rules)
    c.put_head.ensures.head (c.put_head.ensures.rest ∙ ap (drop 12) c.deref_mut.ensures.value) in
    let all : c.extend_from_slice.new.self.items ≡ (frame.head ++ body) ++ frame.check = c.in-Ok.ensures.items ∙ ap (λ (l : List ℕ). l ++ frame.check) written in
    let is_block = subst (λ (l : List ℕ). frame.head ++ (l ++ frame.check) ≡ block c.args.mark l) (c.after_room.ensures ∙ ap (drop 12) c.deref.ensures.value) c.frame_of-frame.ensures.block in
    all ∙ sealed c.args.mark frame.head body frame.check (omega (arith, length-drop 12 bytes, c.args.bytes.ok.0, c.if-len-le-HEAD_BYTES.false, c.len.ensures)) is_block
