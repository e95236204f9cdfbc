use Rattle.std.proofs.Common.{◌≡◌, ◌+◌, ◌++◌, ◌∷◌, [], ℕ, List, take, take_all, Contains, sym, subst, arith}
use Rattle.std.specs.Prelude.{All}
use Rattle.std.proofs.lemmas.List.Elements.{All-push, Contains-append_left, Contains-push}
use Rattle.std.proofs.lemmas.Grind.{common_steps}
use Rattle.mt_words.specs.declared.update.Update.{Update}
use Rattle.mt_replay.specs.Groups.{HasLawfulWrites, IsGroupOf}
use Rattle.mt_replay.proofs.replay.group_all.Goals as goal

pub loop-text-preserved : goal.loop-text-preserved
loop-text-preserved c =
    let done : List Update = take c.loop-text.text-index c.args.texts.now in
    let next : Update = c.lent.result in
    let more : take (c.loop-text.text-index + 1) c.args.texts.now ≡ done ++ next ∷ [] = let is = c.text-item.is in let lent = c.lent.ensures in grind (arith, common_steps) in
    record {
      group = λ key same.
          let each : (u : Update) → Contains (done ++ next ∷ []) u → u.key ≡ key = subst (λ (us : List Update). (u : Update) → Contains us u → u.key ≡ key) more same in
          subst (λ (us : List Update). IsGroupOf us key c.see.new.self) (sym more)
          (c.see.ensures.group done key (each next (Contains-push done next)) (c.loop-text.invariant.group key (λ u at. each u (Contains-append_left done (next ∷ []) u at))));
      lawful = subst (All HasLawfulWrites) (sym more) (All-push HasLawfulWrites done next c.loop-text.invariant.lawful c.see.ensures.lawful);
    }

pub returns-clause-group : goal.returns-clause-group
returns-clause-group c =
    let all = take_all c.loop-text.text-index c.args.texts.now c.loop-text-test.false in
    subst (λ (us : List Update). (key : List ℕ) → ((u : Update) → Contains us u → u.key ≡ key) → IsGroupOf us key c.loop-text.group) all c.loop-text.invariant.group

pub returns-clause-lawful : goal.returns-clause-lawful
returns-clause-lawful c = subst (All HasLawfulWrites) (take_all c.loop-text.text-index c.args.texts.now c.loop-text-test.false) c.loop-text.invariant.lawful
