use Rattle.std.proofs.Common.{◌≡◌, ◌<◌, ◌%◌, ◌^◌, ◌++◌, ◌∷◌, [], ℕ, List, length, get_or, take_all, sym, ap, subst, ◌∙◌, arith, rules}
use Rattle.std.specs.Prelude.{All}
use Rattle.std.proofs.lemmas.List.{append-nil}
use Rattle.std.proofs.lemmas.List.Elements.{All-tail}
use Rattle.mt_words.specs.declared.update.Update.{Update}
use Rattle.mt_replay.specs.Steps.Merging.{IsMerging, numbered, updates_of}
use Rattle.mt_replay.proofs.MergeLemmas.{merging_starts, from_second, next_numbered, merging_ends}
use Rattle.mt_replay.proofs.merging.merge.Goals as goal

pub loop-number-init : goal.loop-number-init
loop-number-init c = record {
  within = c.in_ok-rest.ensures.within;
  merging = λ d.
      let turn : List Update = numbered c.args.texts.now c.args.bits d c.args.numbers.now in
      let all : List Update = updates_of c.args.part.now in
      let none : c.in_ok-merged.merged.items ≡ [] = search rules in
      c.in_ok-rest.ensures.merged d all turn [] (subst (λ (us : List Update). IsMerging all turn c.in_ok-merged.merged.items us turn) (sym (append-nil all))
      (subst (λ (us : List Update). IsMerging all turn us all turn) (sym none) (merging_starts all turn c.len_of.ensures (c.requires.sorted d))));
}

pub loop-number-preserved : goal.loop-number-preserved
loop-number-preserved c =
    let us : List Update = c.args.texts.now in
    let split = c.in-Some.ensures.cases.0 in
    let text : Update = c.index-texts-place_of.result in
    let merged : List Update = c.loop-number.merged.items in
    let low : ℕ → Type 0 = λ n. n % 2 ^ c.args.bits < length us in
    record {
      within = All-tail low c.in-Some.number.now c.in-Some.after.now (subst (All low) split c.loop-number.invariant.within);
      merging = λ d.
          let all : List Update = updates_of c.args.part.now in
          let turn : List Update = numbered us c.args.bits d c.args.numbers.now in
          let rest : List Update = numbered us c.args.bits d c.in-Some.after.now in
          let is : text ≡ get_or us (c.in-Some.number.now % 2 ^ c.args.bits) text = c.index-texts-place_of.is ∙ ap (λ (k : ℕ). get_or us k text) c.place_of.ensures.value in
          let was = subst (IsMerging all turn merged []) (next_numbered us c.args.bits d c.loop-number.rest.now c.in-Some.number.now c.in-Some.after.now text split c.loop-number.invariant.within is) (c.loop-number.invariant.merging d) in
          subst (λ (vs : List Update). IsMerging all turn vs [] rest) (sym (c.in_ok-push.ensures.items ∙ ap (λ (u : Update). merged ++ u ∷ []) c.copy.ensures)) (from_second all turn merged [] rest text was tt);
    }

pub returns : goal.returns
returns c = λ d.
    let all : List Update = updates_of c.args.part.now in
    let turn : List Update = numbered c.args.texts.now c.args.bits d c.args.numbers.now in
    merging_ends all turn c.loop-number.merged.items
    (subst (λ (ns : List ℕ). IsMerging all turn c.loop-number.merged.items [] (numbered c.args.texts.now c.args.bits d ns)) (sym (take_all 0 c.loop-number.rest.now (omega (arith, c.in_default.ensures.cases)))) (c.loop-number.invariant.merging d))
