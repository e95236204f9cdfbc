use Rattle.std.proofs.Common.{◌++◌, ◌∙◌, sym, ap, append-nil, append_assoc, arith}
use Rattle.std.specs.Vec.Iter.{into_iter_items}
use Rattle.mt_recover.proofs.SharingLemmas.{next_gathered, none_left}
use Rattle.mt_recover.proofs.by_workers.gather.Goals as goal

pub loop-answer-preserved : goal.loop-answer-preserved
loop-answer-preserved g c =
    let I = c.loop-answer.invariant in
    record {
      some = omega (arith, c.rotate_left.ensures.len, c.loop-answer.parts.ok.0, I.some);
      same = λ answers dealt.
          let old = I.same answers dealt in
          let next = next_gathered into_iter_items old.0 c.loop-answer.parts.items c.index_mut.result.now c.next.new.self c.in-Some.answer I.some c.index_mut.ensures.value c.in-Some.ensures.items old.2 in
          (next.0, rw (c.in_ok-push.ensures.items, append_assoc, ← next.1) old.1, rw c.rotate_left.ensures.items next.2);
    }

pub returns : goal.returns
returns g c = λ answers dealt.
    let I = c.loop-answer.invariant in
    let old = I.same answers dealt in
    let none = none_left into_iter_items old.0 c.loop-answer.parts.items c.index_mut.result.now I.some c.index_mut.ensures.value (omega (arith, c.in_default.ensures.cases, c.index_mut.result.now.rest.ok.0)) old.2 in
    sym (append-nil c.loop-answer.answers.items) ∙ ap (λ l. c.loop-answer.answers.items ++ l) (sym none) ∙ old.1
