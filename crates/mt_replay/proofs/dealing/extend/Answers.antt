use Rattle.std.proofs.Common.{◌<◌, ◌∙◌, ◌++◌, [], ◌∷◌, List, length, sym, ap, append_assoc, arith}
use Rattle.std.specs.Vec.Iter.{into_iter_items}
use Rattle.std.proofs.lemmas.List.{length-set, length-append}
use Rattle.mt_words.specs.declared.update.Update.{Update}
use Rattle.mt_replay.specs.Steps.Dealing.{extended}
use Rattle.mt_replay.proofs.DealLemmas.{range_more, extended_length, extended_past}
use Rattle.mt_replay.proofs.dealing.extend.Goals as goal

pub returns-then-piece-ranges : goal.returns-then-piece-ranges
returns-then-piece-ranges c =
    let I = c.loop-list.invariant in
    let lists : List (List Update) = c.args.ranges.now in
    let yielded : List (List Update) = c.loop-list.yielded in
    let long = ap (λ (ls : List (List Update)). length ls) I.more ∙ extended_length lists yielded in
    I.more ∙ sym (extended_past lists yielded (into_iter_items c.loop-list.list-iterator) (omega (arith, long, I.place, c.if-piece-ranges.true))) ∙ ap (extended lists) I.rest

pub loop-list-preserved : goal.loop-list-preserved
loop-list-preserved c =
    let I = c.loop-list.invariant in
    let ranges : List (List Update) = c.loop-list.ranges in
    let yielded : List (List Update) = c.loop-list.yielded in
    let next : List Update = c.in-Some.list in
    let below : c.loop-list.piece < length ranges = omega (arith, I.within, c.if-piece-ranges.false) in
    let one = length-append yielded (next ∷ []) in
    record {
      rest = append_assoc yielded (next ∷ []) (into_iter_items c.next.new.self) ∙ ap (λ (l : List (List Update)). yielded ++ l) (sym c.in-Some.ensures.steps.0) ∙ I.rest;
      place = omega (arith, one, I.place);
      within = omega (arith, length-set ranges c.loop-list.piece c.push.new.self, I.within, c.if-piece-ranges.false);
      more = range_more c.args.ranges.now ranges yielded next c.index-ranges-piece.result c.push.new.self c.loop-list.piece I.more I.place below c.index-ranges-piece.is (c.in_ok-push.ensures ∙ ap (λ (l : List Update). l ++ next) (sym c.index-ranges-piece.is));
    }
