use Rattle.std.proofs.Common.{◌≡◌, ◌+◌, ◌-◌, ℕ, [], List, length, take, sym, ap, subst, ◌∙◌, arith}
use Rattle.std.specs.Prelude.{All}
use Rattle.std.proofs.lemmas.List.{take-take, take_all, get_or-map, length-map}
use Rattle.std.proofs.lemmas.List.Elements.{All-weaker, All-more, All-same}
use Rattle.mt_replay.specs.Steps.Numbers.{rest_of, rests}
use Rattle.mt_replay.proofs.sorting.shared_depth.Goals as goal

pub loop-number-preserved : goal.loop-number-preserved
loop-number-preserved c =
    let bits = c.args.bits in
    let us = c.args.texts.now in
    let old : List ℕ = c.loop-number.shared.now in
    let new : List ℕ = c.common_start-shared.result.now in
    let xs : List ℕ = c.args.numbers.now in
    let rs : List (List ℕ) = rests bits us c.args.depth xs in
    let i = c.loop-number.number-index in
    let P : List ℕ → List ℕ → Type 0 = λ shared rest. take (length shared) rest ≡ shared in
    let kept = All-weaker (P old) (P new) (λ rest is. sym (take-take (length new) (length old) rest c.common_start-shared.ensures.shorter) ∙ ap (take (length new)) is ∙ c.common_start-shared.ensures.first) (take i rs) c.loop-number.invariant.shared in
    let there = get_or-map (rest_of bits us c.args.depth) xs i 0 [] c.loop-number-test.true in
    record {
      fits = omega (arith, c.loop-number.invariant.fits, c.common_start-shared.ensures.shorter);
      shared = All-more (P new) rs i [] (omega (arith, c.loop-number-test.true, length-map xs (rest_of bits us c.args.depth))) kept (subst (P new) (c.rest.ensures.value ∙ sym there) c.common_start-shared.ensures.second);
    }

pub returns-clause-shared : goal.returns-clause-shared
returns-clause-shared c =
    let depth = c.args.depth in
    let shared : List ℕ = c.loop-number.shared.now in
    let rs : List (List ℕ) = rests c.args.bits c.args.texts.now depth c.args.numbers.now in
    let P : ℕ → List ℕ → Type 0 = λ n rest. take n rest ≡ shared in
    let is : length shared ≡ depth + length shared - depth = omega arith in
    let whole = take_all c.loop-number.number-index rs (omega (arith, c.loop-number-test.false, length-map c.args.numbers.now (rest_of c.args.bits c.args.texts.now depth))) in
    let all = All-same (P (length shared)) rs (take c.loop-number.number-index rs) (sym whole) c.loop-number.invariant.shared in
    (shared, subst (λ (n : ℕ). All (P n) rs) is all)
