use Rattle.std.proofs.Common.{◌∷◌, [], ◌++◌, ◌∙◌, List, ap, subst, arith}
use Rattle.mt_replay.specs.Clashes.{Clash}
use Rattle.mt_replay.specs.Steps.Auditor.{AddClashes}
use Rattle.mt_replay.proofs.SeenLemmas.{none_added, later_rise, step_several, step_once}
use Rattle.mt_replay.proofs.auditor.add_clashes.Goals as goal

pub loop-first-preserved-in_ok-push : goal.loop-first-preserved-in_ok-push
loop-first-preserved-in_ok-push c =
    let I = c.loop-first.invariant in
    let split = c.split_at.ensures in
    let first = c.in-Some.first.now in
    let mid = c.loop-first.clashes.items in
    let pushed = c.in_ok-push.ensures.items ∙ ap (λ (clash : Clash). mid ++ clash ∷ []) c.in_ok-clash_of.ensures in
    record {
      rise = later_rise c.loop-first.rest.now _ _ first c.count_like.result split.front split.back I.rise;
      adds = λ new more. I.adds new (step_several c.loop-first.rest.now _ _ first c.count_like.result split.front split.back I.rise c.in-Some.ensures.value c.count_like.ensures.point c.args.key.now mid new (omega arith)
          (subst (λ (clashes : List Clash). AddClashes c.args.key.now c.split_at.result.1.now clashes new) pushed more));
    }

pub loop-first-preserved : goal.loop-first-preserved
loop-first-preserved c =
    let I = c.loop-first.invariant in
    let split = c.split_at.ensures in
    let first = c.in-Some.first.now in
    record {
      rise = later_rise c.loop-first.rest.now _ _ first c.count_like.result split.front split.back I.rise;
      adds = λ new more. I.adds new (step_once c.loop-first.rest.now _ _ first c.count_like.result split.front split.back I.rise c.in-Some.ensures.value c.count_like.ensures.point c.args.key.now c.loop-first.clashes.items new (omega arith) more);
    }

pub returns : goal.returns
returns c = c.loop-first.invariant.adds _ (none_added c.args.key.now c.loop-first.rest.now c.loop-first.clashes.items c.in_default.ensures.value)
