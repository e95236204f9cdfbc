use Rattle.std.proofs.Common.{◌++◌, ◌∙◌, ◌∷◌, [], List, ℕ, refl, sym, ap, subst, arith}
use Rattle.std.proofs.lemmas.List.{append-nil}
use Rattle.std.proofs.lemmas.List.Elements.{All-nil}
use Rattle.mt_block.specs.Blocks.{IsBody, IsNext}
use Rattle.mt_record.specs.Heads.{head_bytes}
use Rattle.mt_record.specs.Opening.{text_head}
use Rattle.mt_record.specs.OpenFiles.{IsFileEnd}
use Rattle.mt_record.proofs.Opened.{head_not_sealed}
use Rattle.mt_record.proofs.OpenFiles.{begins_more, text_more, begins_size, stand_more}
use Rattle.mt_record.proofs.open.open_file.Goals as goal

pub returns-in_default-clause-fault : goal.returns-in_default-clause-fault
returns-in_default-clause-fault c other =
    let sealed = rw c.if-not-is_sealed.false at c.is_sealed.ensures in
    (λ head more is e. head_not_sealed c.args.bytes.now head more e sealed, c.in_default.ensures.none)

pub read-init : goal.read-init
read-init c =
    let found = c.in-Some.ensures.found in
    let header = c.in-Some.header in
    record {
      mark = c.mark-mark.ensures;
      bodies = [];
      begins = record { spelled = found.1; is_header = found.0; are_bodies = All-nil IsBody };
      is_text = c.in_ok-encode_log_header_3.ensures.ok ∙ ap (λ (l : List ℕ). l ++ head_bytes (text_head header)) c.new-text.ensures.items ∙ sym (append-nil (head_bytes (text_head header)));
      stand = c.new-blocks.ensures.items;
    }

pub overflow_sub-file : goal.overflow_sub-file
overflow_sub-file c =
    let I = c.read.invariant in
    omega (arith, begins_size c.args.bytes.now c.in-Some.header I.bodies c.read.rest.now I.begins)

pub read-preserved : goal.read-preserved
read-preserved c =
    let I = c.read.invariant in
    let found = c.in-Ok-Some in
    let rest = c.read.rest.now in
    let next = subst (λ (m : ℕ). IsNext m rest found.body.now found.after.now) I.mark (rw found.field-0-is at found.ensures.found) in
    let added = c.in_ok-add_block-in-Ok-Some.ensures in
    record {
      mark = I.mark;
      bodies = I.bodies ++ found.body.now ∷ [];
      begins = begins_more c.args.bytes.now c.in-Some.header I.bodies found.body.now rest found.after.now I.begins next;
      is_text = added.text ∙ ap (λ (l : List ℕ). l ++ found.body.now) I.is_text ∙ text_more c.in-Some.header I.bodies found.body.now;
      stand = stand_more c.args.bytes.now c.in-Some.header I.bodies found.body.now rest c.read.blocks.items c.add_block.new.blocks.items c.read.text.items _ _ I.begins I.is_text I.stand refl (c.len.ensures ∙ c.read.text.ok.0) added.blocks;
    }

pub returns-in-Ok-None-clause-opened : goal.returns-in-Ok-None-clause-opened
returns-in-Ok-None-clause-opened c =
    let I = c.read.invariant in
    let found = c.in-Ok-None in
    record {
      bodies = I.bodies;
      rest = c.read.rest.now;
      begins = I.begins;
      is_text = I.is_text;
      stand = I.stand;
      ends = subst (λ (m : ℕ). IsFileEnd m c.read.rest.now c.end_at-end.result) I.mark (c.end_at-end.ensures _ (rw found.field-0-is at found.ensures.found));
    }

pub returns-in-Err-clause-opened : goal.returns-in-Err-clause-opened
returns-in-Err-clause-opened c =
    let I = c.read.invariant in
    record {
      bodies = I.bodies;
      rest = c.read.rest.now;
      begins = I.begins;
      is_text = I.is_text;
      stand = I.stand;
      ends = subst (λ (m : ℕ). IsFileEnd m c.read.rest.now c.end_behind-end.result) I.mark (c.end_behind-end.ensures c.read.rest.now c.in-Err.ensures.broken);
    }
