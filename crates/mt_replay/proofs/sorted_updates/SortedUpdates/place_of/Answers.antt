use Rattle.std.proofs.Common.{ℕ, ◌+◌, ◌-◌, ◌/◌, ◌<◌, List, sym, ap, ◌∙◌, arith}
use Rattle.mt_words.specs.declared.update.Update.{Update}
use Rattle.mt_replay.specs.Cuts.{is_below}
use Rattle.mt_replay.proofs.KeyOrder.{all_under, none_under}
use Rattle.mt_replay.proofs.sorted_updates.SortedUpdates.place_of.Goals as goal

pub loop-low-preserved-then-comes_before : goal.loop-low-preserved-then-comes_before
loop-low-preserved-then-comes_before c =
    let short : c.loop-low.low + (c.loop-low.high - c.loop-low.low) / 2 < c.loop-low.high = omega (arith, c.loop-low-test.true) in
    let here = λ (d : Update). sym (c.comes_before.ensures ∙ ap (λ (k : List ℕ). is_below k c.args.key.now) c.key.ensures.value ∙ ap (λ (u : Update). is_below u.key c.args.key.now) (c.get-update.ensures d)) ∙ c.if-comes_before.true in
    record {
      rises = omega (arith, short);
      within = c.loop-low.invariant.within;
      before = all_under c.args.self.now c.args.key.now (c.loop-low.low + (c.loop-low.high - c.loop-low.low) / 2) c.len-high.ensures.in_order (omega (arith, short, c.loop-low.invariant.within)) here;
      after = c.loop-low.invariant.after;
    }

pub loop-low-preserved : goal.loop-low-preserved
loop-low-preserved c =
    let short : c.loop-low.low + (c.loop-low.high - c.loop-low.low) / 2 < c.loop-low.high = omega (arith, c.loop-low-test.true) in
    let here = λ (d : Update). sym (c.comes_before.ensures ∙ ap (λ (k : List ℕ). is_below k c.args.key.now) c.key.ensures.value ∙ ap (λ (u : Update). is_below u.key c.args.key.now) (c.get-update.ensures d)) ∙ c.if-comes_before.false in
    record {
      rises = omega arith;
      within = omega (arith, short, c.loop-low.invariant.within);
      before = c.loop-low.invariant.before;
      after = none_under c.args.self.now c.args.key.now (c.loop-low.low + (c.loop-low.high - c.loop-low.low) / 2) c.len-high.ensures.in_order here;
    }
