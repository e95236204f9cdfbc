use Rattle.std.proofs.Common.{◌%◌, ◌^◌, ℕ, List, take, sym, ap, subst, ◌∙◌, arith}
use Rattle.std.specs.Prelude.{All}
use Rattle.std.proofs.Math.Seq.{map-set_same}
use Rattle.std.proofs.lemmas.List.{take_more_set, take_all}
use Rattle.std.proofs.lemmas.List.Elements.{All-push}
use Rattle.mt_replay.specs.Steps.Numbers.{rest_in, rest_of, BeginsWith}
use Rattle.mt_replay.proofs.sorting.begin_all.Goals as goal

pub loop-at-preserved : goal.loop-at-preserved
loop-at-preserved c =
    let bits = c.args.bits in
    let rest : ℕ → List ℕ = rest_in c.args.texts.now c.args.depth in
    let xs : List ℕ = c.loop-at.numbers in
    let at = c.loop-at.at in
    let new = c.begun.result in
    let P : ℕ → Type 0 = λ number. BeginsWith bits number (rest (number % 2 ^ bits)) in
    let here : P new = subst (BeginsWith bits new) (c.rest.ensures.value ∙ ap rest (sym c.begun.ensures.place)) c.begun.ensures.begins in
    record {
      same = map-set_same (λ (number : ℕ). number % 2 ^ bits) xs at new 0 c.begun.ensures.place ∙ c.loop-at.invariant.same;
      heads = subst (λ (ns : List ℕ). All P ns) (sym (take_more_set xs at new (omega (arith, c.loop-at-test.true, c.loop-at.auto.numbers)))) (All-push P (take at xs) new c.loop-at.invariant.heads here);
    }

pub returns-clause-heads : goal.returns-clause-heads
returns-clause-heads c =
    let P : ℕ → Type 0 = λ number. BeginsWith c.args.bits number (rest_of c.args.bits c.args.texts.now c.args.depth number) in
    subst (λ (ns : List ℕ). All P ns) (take_all c.loop-at.at c.loop-at.numbers (omega (arith, c.loop-at-test.false, c.loop-at.auto.numbers))) c.loop-at.invariant.heads
