use Rattle.std.proofs.Common.{◌≡◌, ◌∙◌, ◌+◌, [], ◌∷◌, ◌++◌, List, ℕ, length, map, All, sym, ap, subst, arith}
use Rattle.std.specs.List.{flat_map}
use Rattle.std.specs.Vec.Iter.{into_iter_items}
use Rattle.mt_words.specs.Walks.{joined}
use Rattle.mt_words.specs.Updates.{updates_from}
use Rattle.mt_words.specs.OneLog.{kept_updates}
use Rattle.mt_record.specs.Shares.{ShareView, updates_of_share}
use Rattle.mt_record.specs.Steps.Bodies.{IsLawfulBody}
use Rattle.mt_record.specs.Decoding.{decode}
use Rattle.mt_record.proofs.ShareLemmas.{next_share, share_more}
use Rattle.mt_record.proofs.kept.updates.Updates.into_shares.Goals as goal

pub loop-block-init : goal.loop-block-init
loop-block-init c =
    let left : List (List (List ℕ)) = into_iter_items c.into_iter-block-iterator.result in
    let blocks : joined left ≡ joined c.in_ok-blocks.blocks.items = ap joined c.into_iter-block-iterator.ensures.into_iter_gives.0 in
    let same : joined left ≡ c.into_bodies.result = blocks ∙ c.in_ok-blocks.ensures.same in
    let log = c.self.inside.log in
    record {
      whole = (λ i. flat_map updates_of_share (c.in_ok-shares.ensures.items i) ++ updates_from log 0 (map decode (same i))) ∙ ap (updates_from log 0) c.into_bodies.ensures.says ∙ ap kept_updates c.self.view_is;
      lawful = subst (All IsLawfulBody) (sym same) c.into_bodies.ensures.lawful;
      fits = omega (arith, ap (λ (texts : List (List ℕ)). length texts) blocks, c.in_ok-blocks.ensures.few);
    }

pub of-requires : goal.of-requires
of-requires c =
    (next_share c.loop-block.from (into_iter_items c.loop-block.block-iterator) (into_iter_items c.next.new.self) c.in-Some.block
    c.in-Some.ensures.steps.0 c.loop-block.invariant.lawful c.loop-block.invariant.fits).0

pub loop-block-preserved : goal.loop-block-preserved
loop-block-preserved c =
    let left = into_iter_items c.loop-block.block-iterator in
    let next = into_iter_items c.next.new.self in
    let after = next_share c.loop-block.from left next c.in-Some.block c.in-Some.ensures.steps.0 c.loop-block.invariant.lawful c.loop-block.invariant.fits in
    let share = c.in_ok-push.ensures.items ∙ ap (λ (share : ShareView). c.loop-block.shares.items ++ share ∷ []) c.of.ensures in
    record {
      whole = share_more c.loop-block.shares.items c.push.new.self.items c.self.inside.log c.loop-block.from (c.loop-block.from + c.len-count.result) left next c.in-Some.block _
          c.in-Some.ensures.steps.0 (ap (λ (n : ℕ). c.loop-block.from + n) c.len-count.ensures) share c.loop-block.invariant.whole;
      lawful = after.1;
      fits = omega (arith, after.2, c.len-count.ensures);
    }
