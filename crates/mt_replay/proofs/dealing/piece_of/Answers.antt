use Rattle.std.proofs.Common.{◌∙◌, ◌+◌, ◌-◌, ◌/◌, ◌<◌, ℕ, List, sym, ap, length, arith}
use Rattle.std.proofs.lemmas.List.{get_or_read}
use Rattle.mt_replay.specs.Cuts.{is_below}
use Rattle.mt_replay.proofs.DealLemmas.{none_above, all_above, piece_at}
use Rattle.mt_replay.proofs.dealing.piece_of.Goals as goal

pub loop-low-preserved-then-is_below_by : goal.loop-low-preserved-then-is_below_by
loop-low-preserved-then-is_below_by c =
    let cuts : List (List ℕ) = c.args.cuts.now in
    let key : List ℕ = c.args.key.now in
    let middle = c.loop-low.low + (c.loop-low.high - c.loop-low.low) / 2 in
    let short : middle < c.loop-low.high = omega (arith, c.loop-low-test.true) in
    let within : middle < length cuts = omega (arith, short, c.loop-low.invariant.within) in
    let here = ap (is_below key) (sym c.as_bytes.ensures.value) ∙ sym c.is_below_by.ensures ∙ c.if-is_below_by.true in
    record {
      rises = omega arith;
      within = omega (arith, within);
      before = c.loop-low.invariant.before;
      after = all_above cuts key middle c.requires.rising (λ d. ap (is_below key) (sym (get_or_read cuts middle c.index-cuts-middle.result within c.index-cuts-middle.is d)) ∙ here);
    }

pub loop-low-preserved : goal.loop-low-preserved
loop-low-preserved c =
    let cuts : List (List ℕ) = c.args.cuts.now in
    let key : List ℕ = c.args.key.now in
    let middle = c.loop-low.low + (c.loop-low.high - c.loop-low.low) / 2 in
    let short : middle < c.loop-low.high = omega (arith, c.loop-low-test.true) in
    let within : middle < length cuts = omega (arith, short, c.loop-low.invariant.within) in
    let here = ap (is_below key) (sym c.as_bytes.ensures.value) ∙ sym c.is_below_by.ensures ∙ c.if-is_below_by.false in
    record {
      rises = omega (arith, short);
      within = c.loop-low.invariant.within;
      before = none_above cuts key middle c.requires.rising within (λ d. ap (is_below key) (sym (get_or_read cuts middle c.index-cuts-middle.result within c.index-cuts-middle.is d)) ∙ here);
      after = c.loop-low.invariant.after;
    }

pub returns-clause-piece : goal.returns-clause-piece
returns-clause-piece c =
    piece_at c.args.cuts.now c.loop-low.low c.args.key.now (omega (arith, c.loop-low.invariant.rises, c.loop-low.invariant.within)) c.loop-low.invariant.before
    (λ k d behind within. c.loop-low.invariant.after k d (omega (arith, behind, c.loop-low-test.false)) within)
