use Rattle.std.proofs.Common.{◌≡◌, ◌∷◌, [], ◌++◌, ◌∙◌, sym, ap, subst, append_assoc}
use Rattle.std.specs.Arc.{arc_value}
use Rattle.std.specs.List.{All}
use Rattle.std.specs.Vec.Iter.{into_iter_items}
use Rattle.std.proofs.lemmas.List.{map_push}
use Rattle.std.proofs.lemmas.List.Elements.{All-head, All-tail}
use Rattle.mt_board.specs.Queue.{fresh_consumer}
use Rattle.mt_recover.specs.declared.replaying.Base.{Base}
use Rattle.mt_recover.specs.Steps.Replaying.{AreRanges, task_of}
use Rattle.mt_recover.proofs.replaying.tasks_of.Goals as goal

pub loop-consumer-init : goal.loop-consumer-init
loop-consumer-init c =
    let given = c.into_iter-consumer-iterator.ensures.into_iter_gives.0 in
    record {
      rest = given;
      tasks = c.in_ok-tasks.ensures.items;
      left = subst (All (λ consumer. consumer ≡ fresh_consumer (arc_value c.args.base.now).pieces consumer.number)) (sym given) c.requires.fresh;
    }

pub invariant_of-push : goal.invariant_of-push
invariant_of-push c =
    let own = arc_value c.args.base.now in
    let left = subst (All (λ consumer. consumer ≡ fresh_consumer own.pieces consumer.number)) c.in-Some.ensures.steps.0 c.loop-consumer.invariant.left in (
      All-head (λ consumer. consumer ≡ fresh_consumer own.pieces consumer.number) c.in-Some.consumer (into_iter_items c.next.new.self) left ∙ ap (λ (base : Base). fresh_consumer base.pieces c.in-Some.consumer.number) (sym c.in_ok-base.ensures),
      subst (λ (base : Base). AreRanges base.cuts base.pieces.jobs) (sym c.in_ok-base.ensures) c.requires.ranges,
    )

pub loop-consumer-preserved : goal.loop-consumer-preserved
loop-consumer-preserved c =
    let I = c.loop-consumer.invariant in
    let own = arc_value c.args.base.now in
    record {
      rest = append_assoc c.loop-consumer.yielded (c.in-Some.consumer ∷ []) (into_iter_items c.next.new.self) ∙ ap (λ xs. c.loop-consumer.yielded ++ xs) (sym c.in-Some.ensures.steps.0) ∙ I.rest;
      tasks = c.in_ok-push.ensures.items
          ∙ (λ i. I.tasks i ++ task_of (c.in_ok-base.ensures i) ∷ [])
          ∙ sym (map_push (λ _. task_of own) c.loop-consumer.yielded c.in-Some.consumer);
      left = All-tail (λ consumer. consumer ≡ fresh_consumer own.pieces consumer.number) c.in-Some.consumer (into_iter_items c.next.new.self) (subst (All (λ consumer. consumer ≡ fresh_consumer own.pieces consumer.number)) c.in-Some.ensures.steps.0 I.left);
    }
