use Rattle.std.proofs.Common.{List, take_all, subst, ◌≡◌, ◌∙◌}
use Rattle.std.specs.Prelude.{IsPermutation}
use Rattle.std.proofs.lemmas.Result.{IfOk-weaker}
use Rattle.std.specs.List.{flat_map, filter}
use Rattle.mt_words.specs.declared.update.Update.{Update}
use Rattle.mt_replay.specs.InMemory.{is_logged_in}
use Rattle.mt_replay.proofs.AuditorLemmas.{moved_clashes}
use Rattle.mt_replay.proofs.in_memory.pieces.clashes.Goals as goal

pub returns : goal.returns
returns c =
    let sorted : List Update = c.in_ok-sorted.sorted.items in
    let all : List Update = filter (is_logged_in c.args.window) (flat_map (λ updates. updates.items) c.args.logs.now) in
    let are : c.in_ok-texts.texts.items ≡ all = c.in_ok-texts.ensures ∙ c.loop-updates.invariant
    ∙ (λ i. filter (is_logged_in c.args.window) (flat_map (λ updates. updates.items) (take_all c.loop-updates.updates-index c.args.logs.now c.loop-updates-test.false i))) in
    IfOk-weaker c.clashes_of.result _ _ (λ clashes. moved_clashes all sorted clashes.items (subst (λ (us : List Update). IsPermutation us sorted) are c.in_ok-sorted.ensures.same)) (rw c.deref-2.ensures.value at c.clashes_of.ensures)
