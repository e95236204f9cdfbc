use Rattle.std.proofs.Common.{◌≡◌, [], ℕ, List, take, sym, ◌∙◌, arith}
use Rattle.std.specs.Cmp.Lexicographic.{same_text}
use Rattle.std.proofs.lemmas.List.{take_all, get_or-map, length-map}
use Rattle.std.proofs.lemmas.List.Elements.{All-more, All-same}
use Rattle.std.proofs.lemmas.Bool.{not-false}
use Rattle.mt_replay.specs.Steps.Numbers.{rest_of, rests}
use Rattle.mt_replay.proofs.sorting.are_alike.Goals as goal

pub loop-number-preserved : goal.loop-number-preserved
loop-number-preserved c =
    let xs : List ℕ = c.args.numbers.now in
    let rs : List (List ℕ) = rests c.args.bits c.args.texts.now c.args.depth xs in
    let first : List ℕ = c.rest-first.result.now in
    let i = c.loop-number.number-index in
    let P : List ℕ → Type 0 = λ rest. rest ≡ first in
    let alike : first ≡ c.rest.result.now = same_text first c.rest.result.now (sym (not-false _ (sym c.ne.ensures ∙ c.if-ne.false))) in
    let there = get_or-map (rest_of c.args.bits c.args.texts.now c.args.depth) xs i 0 [] c.loop-number-test.true in
    All-more P rs i [] (omega (arith, c.loop-number-test.true, length-map xs (rest_of c.args.bits c.args.texts.now c.args.depth))) c.loop-number.invariant (there ∙ sym c.rest.ensures.value ∙ sym alike)

pub returns : goal.returns
returns c = λ _.
    let first : List ℕ = c.rest-first.result.now in
    let rs : List (List ℕ) = rests c.args.bits c.args.texts.now c.args.depth c.args.numbers.now in
    let whole = take_all c.loop-number.number-index rs (omega (arith, c.loop-number-test.false, length-map c.args.numbers.now (rest_of c.args.bits c.args.texts.now c.args.depth))) in
    (first, All-same (λ (rest : List ℕ). rest ≡ first) rs (take c.loop-number.number-index rs) (sym whole) c.loop-number.invariant)
