use Rattle.std.proofs.Common.{◌≡◌, ◌++◌, ◌∷◌, [], length, refl, sym}
use Rattle.std.proofs.lemmas.List.{append-nil}
use Rattle.std.proofs.lemmas.Result.{on_ok_weaker}
use Rattle.std.proofs.lemmas.List.Elements.{All-nil}
use Rattle.mt_block.specs.Blocks.{IsBody}
use Rattle.mt_block.specs.declared.block.TheConstants.{MOST_BODY}
use Rattle.mt_block.proofs.Seals.{joins_more, blocks_more, all_more, sealed_with}
use Rattle.mt_block.proofs.seal.append_blocks.Goals as goal

pub full-init : goal.full-init
full-init c = record {
  full = [];
  joins = refl;
  are_full = All-nil (λ body. length body ≡ MOST_BODY);
  are_bodies = All-nil IsBody;
  spelled = sym (append-nil c.args.out.now.items);
}

pub full-preserved : goal.full-preserved
full-preserved c =
    let I = c.full.invariant in
    let found = c.in-Some.ensures.found in
    let body = c.in-Some.body.now in
    let added = c.in_ok-append_block.ensures in
    record {
      full = I.full ++ body ∷ [];
      joins = joins_more c.args.bytes.now I.full body c.full.rest.now c.in-Some.after.now I.joins found.0;
      are_full = all_more (λ b. length b ≡ MOST_BODY) I.full body I.are_full found.1;
      are_bodies = all_more IsBody I.full body I.are_bodies added.body;
      spelled = blocks_more c.args.mark c.args.out.now.items c.full.out.items c.append_block.new.out.items I.full body I.spelled added.ok;
    }

pub returns : goal.returns
returns c =
    let I = c.full.invariant in
    on_ok_weaker c.append_block-2.result
    (λ appended. sealed_with c.args.mark c.args.bytes.now c.args.out.now.items c.full.out.items c.append_block-2.new.out.items I.full c.full.rest.now c.is_empty.result I.joins I.are_full I.are_bodies I.spelled
    c.in_default.ensures.none c.is_empty.ensures c.if-is_empty.false c.append_block-2.ensures.body appended)
    c.append_block-2.ensures.ok
