use Rattle.std.proofs.Common.{◌≡◌, ◌∙◌, [], ◌++◌, ◌+◌, List, ℕ, map, sym, ap, subst, arith, rules}
use Rattle.std.proofs.lemmas.List.{append-nil}
use Rattle.std.proofs.lemmas.List.Elements.{All-cons, All-nil}
use Rattle.mt_block.specs.Blocks.{header_bytes, mark_of as mark_in, block, IsBody}
use Rattle.mt_words.specs.Built.{mark_of}
use Rattle.mt_record.specs.Spelling.{spelling}
use Rattle.mt_tree.specs.Trees.{tree_walk}
use Rattle.mt_checkpoint.specs.Checkpoints.{Checkpoint, log_header, IsLogFile}
use Rattle.mt_checkpoint.specs.Steps.Planning.{within}
use Rattle.mt_checkpoint.proofs.checkpoint.Checkpoint.log.Goals as goal

pub returns : goal.returns
returns c =
    let inside = c.self.inside in
    let made : Checkpoint = record { number = inside.number; cutoff = inside.cutoff; version = inside.version; parts = map (within (tree_walk inside.tree.now)) inside.stretches.items } in
    let view : made ≡ c.args.self.now = c.self.view_is in
    let header = log_header c.args.salt made in
    let mark = c.deref.ensures.value ∙ c.in_ok-encode_record.ensures.ok ∙ (λ i. c.new-mark.ensures.items i ++ spelling (c.mark.ensures i)) in
    let sealed = block (mark_in header) (spelling (mark_of (inside.cutoff + 1))) in
    subst (λ (z : Checkpoint). IsLogFile c.args.salt z c.append_block.new.out.items) view (record {
      spelled =
          c.in_ok-append_block.ensures.ok
          ∙ (λ i. c.in_ok-log.ensures i ++ block (c.mark-2.ensures i) (mark i))
          ∙ ap (λ (l : List ℕ). header_bytes header ++ l) (sym (append-nil (sealed ++ []) ∙ append-nil sealed));
      is_header = record { salt = search rules; worker = omega arith; segment = omega arith; workers = omega arith; from = omega (arith, c.self.invariant.0) };
      are_bodies = All-cons IsBody _ [] (subst IsBody mark c.in_ok-append_block.ensures.body) (All-nil IsBody);
    })
