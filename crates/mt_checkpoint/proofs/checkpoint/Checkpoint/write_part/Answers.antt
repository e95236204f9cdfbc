use Rattle.std.proofs.Common.{◌≡◌, ◌<◌, ◌∙◌, ◌++◌, ℕ, [], length, map, sym, ap, subst, arith, rules}
use Rattle.std.proofs.KnownBytes.{Appends-trans}
use Rattle.std.proofs.lemmas.List.{get_or-map, length-map}
use Rattle.std.proofs.lemmas.Result.{on_ok_weaker}
use Rattle.mt_block.specs.declared.part_header.PartHeader.{PartHeader}
use Rattle.mt_block.specs.Parts.{IsPartHeader}
use Rattle.mt_tree.specs.Trees.{tree_walk}
use Rattle.mt_checkpoint.specs.Checkpoints.{Checkpoint, part_header, IsPartFile}
use Rattle.mt_checkpoint.specs.Steps.Planning.{within}
use Rattle.mt_checkpoint.proofs.Texts.{part_file}
use Rattle.mt_checkpoint.proofs.checkpoint.Checkpoint.write_part.Goals as goal

pub returns : goal.returns
returns g c =
    let inside = c.self.inside in
    let part = c.args.part in
    let of = within (tree_walk inside.tree.now) in
    let made : Checkpoint = record { number = inside.number; cutoff = inside.cutoff; version = inside.version; parts = map of inside.stretches.items } in
    let view : made ≡ c.args.self.now = c.self.view_is in
    let parts = c.parts.ensures ∙ ap (λ (z : Checkpoint). length z.parts) (sym view) in
    let below : part < length inside.stretches.items = subst (λ (n : ℕ). part < n) (ap (λ (z : Checkpoint). length z.parts) (sym view) ∙ length-map inside.stretches.items of) c.requires in
    let here = get_or-map of inside.stretches.items part c.index-stretch.result.now [] below ∙ ap of (sym c.index-stretch.ensures) in
    let header : PartHeader = record { salt = c.args.salt; number = inside.number; part = part; parts = c.parts.result; begin = inside.cutoff } in
    let is_header : IsPartHeader header = record {
      salt = search rules;
      number = c.self.invariant.2;
      part = search rules;
      parts = omega (arith, parts, length-map inside.stretches.items of, c.self.invariant.1);
      begin = omega (arith, c.self.invariant.0);
    } in
    let same : header ≡ part_header c.args.salt made part = λ i. record { salt = c.args.salt; number = inside.number; part = part; parts = parts i; begin = inside.cutoff } in
    on_ok_weaker c.write_blocks.result
    (λ written. (
      c.deref.result.now ++ written.0,
      subst (λ (z : Checkpoint). IsPartFile c.args.salt z part (c.deref.result.now ++ written.0)) view
          (part_file c.args.salt made part header _ c.deref.result.now written.0 same is_header here (c.deref.ensures.value ∙ c.in_ok-bytes.ensures) (rw c.mark.ensures at written.1)),
      Appends-trans _ _ _ c.deref.result.now written.0 c.in_ok-write_all.ensures.bytes written.2,
    ))
    c.write_blocks.ensures
