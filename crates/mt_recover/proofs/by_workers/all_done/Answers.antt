use Rattle.std.proofs.Common.{◌≡◌, ◌∙◌, true, inl, ◌∷◌, ◌++◌, [], refl, sym, ap, append_assoc, arith}
use Rattle.std.specs.Prelude.{is_ok}
use Rattle.std.specs.Vec.Iter.{into_iter_items}
use Rattle.std.proofs.lemmas.Result.{err_from_is_err_and}
use Rattle.mt_recover.proofs.SharingLemmas.{done_more, all_yielded}
use Rattle.mt_recover.proofs.by_workers.all_done.Goals as goal

pub loop-answer-init : goal.loop-answer-init
loop-answer-init g c = record {
  rest = c.into_iter-answer-iterator.ensures.into_iter_gives.0;
  done = rw c.new-done.ensures.items refl;
}

pub loop-answer-preserved : goal.loop-answer-preserved
loop-answer-preserved g c =
    let I = c.loop-answer.invariant in
    let yielded = c.loop-answer.yielded in
    let ok : is_ok c.push.result ≡ true = sym c.map_err.ensures.variant ∙ ap is_ok c.in_ok-map_err.was in record {
      rest = append_assoc yielded (c.in-Some.answer ∷ []) (into_iter_items c.next.new.self) ∙ ap (λ l. yielded ++ l) (sym c.in-Some.ensures.steps.0) ∙ I.rest;
      done = done_more yielded c.loop-answer.done.items c.push.new.self.items c.in-Some.answer c.in_ok-answer.field-0 I.done c.in_ok-answer.was (rw ok at c.push.ensures.items);
    }

pub returns-clause-done : goal.returns-clause-done
returns-clause-done g c =
    let I = c.loop-answer.invariant in
    let rest = c.loop-answer.answer-iterator in
    sym (all_yielded c.args.answers.items c.loop-answer.yielded (into_iter_items rest) I.rest (omega (arith, rest.rest.ok.0, c.in-None.ensures.steps.0))) ∙ I.done

pub returns-in_err-answer-clause-fault : goal.returns-in_err-answer-clause-fault
returns-in_err-answer-clause-fault g c =
    let p = err_from_is_err_and c.from_residual.result c.from_residual.ensures.1 in
    let I = c.loop-answer.invariant in
    let next = c.in-Some.ensures.steps.0 ∙ ap (λ answer. answer ∷ into_iter_items c.next.new.self) c.in_err-answer.was in
    rw (p.1, p.2) (inl (record { done = c.loop-answer.done.items; rest = into_iter_items c.next.new.self; stands = sym I.rest ∙ (λ i. I.done i ++ next i) }))
