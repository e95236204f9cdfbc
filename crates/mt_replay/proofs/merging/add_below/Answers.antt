use Rattle.std.proofs.Common.{◌≡◌, ◌<◌, ◌%◌, ◌^◌, ◌++◌, ◌∷◌, [], true, ℕ, List, length, get_or, sym, ap, subst, ◌∙◌}
use Rattle.std.specs.Prelude.{All}
use Rattle.std.proofs.lemmas.List.Elements.{All-tail}
use Rattle.mt_words.specs.declared.update.Update.{Update}
use Rattle.mt_replay.specs.Cuts.{is_below}
use Rattle.mt_replay.specs.Steps.Merging.{IsMerging, numbered}
use Rattle.mt_replay.proofs.KeyOrder.{below_order}
use Rattle.mt_replay.proofs.MergeLemmas.{from_second, next_numbered}
use Rattle.mt_replay.proofs.merging.add_below.Goals as goal

pub loop-number-preserved : goal.loop-number-preserved
loop-number-preserved c =
    let split = c.in-Some.ensures.cases.0 in
    let text : Update = c.index-texts-place_of.result in
    let merged : List Update = c.loop-number.merged.items in
    let within : List ℕ → Type 0 = All (λ (n : ℕ). n % 2 ^ c.args.bits < length c.args.texts.now) in
    record {
      within = All-tail (λ (n : ℕ). n % 2 ^ c.args.bits < length c.args.texts.now) c.in-Some.number.now c.in-Some.after.now (subst within split c.loop-number.invariant.within);
      merged = λ d first second later entry of_key starts.
          let rest : List Update = numbered c.args.texts.now c.args.bits d c.in-Some.after.now in
          let below : is_below text.key entry.key ≡ true = (λ i. is_below (sym c.key.ensures.value i) (of_key i)) ∙ sym c.comes_before.ensures ∙ c.if-not-comes_before.false in
          let was = subst (IsMerging first second merged (entry ∷ later)) (next_numbered c.args.texts.now c.args.bits d c.loop-number.rest.now c.in-Some.number.now c.in-Some.after.now text split c.loop-number.invariant.within (c.index-texts-place_of.is ∙ ap (λ (k : ℕ). get_or c.args.texts.now k text) c.place_of.ensures.value)) (c.loop-number.invariant.merged d first second later entry of_key starts) in
          subst (λ (us : List Update). IsMerging first second us (entry ∷ later) rest) (sym (c.in_ok-push.ensures.items ∙ ap (λ (u : Update). merged ++ u ∷ []) c.copy.ensures))
          (from_second first second merged (entry ∷ later) rest text was (below_order.one_way text.key entry.key below));
    }
