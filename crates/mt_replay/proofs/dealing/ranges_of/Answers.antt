use Rattle.std.proofs.Common.{◌≡◌, ◌∙◌, ◌++◌, [], ℕ, List, map, fold, append-nil, sym, ap, arith}
use Rattle.std.specs.List.{range_with_len}
use Rattle.std.specs.Vec.Iter.{into_iter_items}
use Rattle.std.proofs.lemmas.List.{nil_from_length}
use Rattle.mt_words.specs.declared.update.Update.{Update}
use Rattle.mt_replay.specs.Ranges.{dealt_by}
use Rattle.mt_replay.specs.Steps.Dealing.{extended}
use Rattle.mt_replay.proofs.DealLemmas.{empty_more, dealt_in_turn}
use Rattle.mt_replay.proofs.dealing.ranges_of.Goals as goal

pub loop-preserved : goal.loop-preserved
loop-preserved c = record {
  within = omega (arith, c.loop-test.true);
  empty = empty_more c.loop.ranges.items c.push.new.self.items c.new.result c.loop.counter c.loop.invariant.empty c.new.ensures c.in_ok-push.ensures.items;
}

pub returns : goal.returns
returns c = λ cuts updates pieces same.
    let I = c.loop-share.invariant in
    let yielded : List (List (List Update)) = c.loop-share.yielded in
    let rest = c.loop-share.share-iterator in
    let none : into_iter_items rest ≡ [] = nil_from_length (into_iter_items rest) (omega (arith, rest.rest.ok.0, c.in-None.ensures.steps.0)) in
    let all : yielded ≡ map (dealt_by cuts) updates = sym (append-nil yielded) ∙ ap (λ (l : List (List (List Update))). yielded ++ l) (sym none) ∙ I.rest ∙ same in
    I.so_far ∙ (λ j. fold extended (map (λ (i : ℕ). []) (range_with_len 0 (pieces j))) (all j)) ∙ dealt_in_turn cuts [] updates
