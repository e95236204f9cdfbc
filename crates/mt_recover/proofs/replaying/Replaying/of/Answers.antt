use Rattle.std.proofs.Common.{◌∙◌, ◌++◌, length, sym, ap, subst, arith}
use Rattle.std.specs.Prelude.{replicate}
use Rattle.std.specs.Arc.{arc_value}
use Rattle.std.proofs.lemmas.List.{length-map}
use Rattle.mt_words.specs.Walks.{joined}
use Rattle.mt_replay.specs.Cuts.{AreCuts}
use Rattle.mt_replay.specs.Ranges.{dealt_by}
use Rattle.mt_recover.specs.declared.replaying.Base.{Base}
use Rattle.mt_recover.specs.Prepared.{PreparedView}
use Rattle.mt_recover.specs.Steps.Preparing.{IsSound}
use Rattle.mt_recover.specs.Steps.Replaying.{task_of}
use Rattle.mt_recover.proofs.TaskLemmas.{same_tasks}
use Rattle.mt_recover.proofs.Turns.{fresh_count}
use Rattle.mt_recover.proofs.replaying.Replaying.of.Goals as goal

pub tasks_of-requires : goal.tasks_of-requires
tasks_of-requires c =
    let parts = c.into_parts-cuts in
    let jobs = c.in_ok-pieces.ensures.jobs in
    rw c.in_ok-base.ensures.ok (record {
      fresh = c.in_ok-pieces.ensures.fresh;
      ranges = record {
        cuts_are = subst AreCuts (sym parts.ensures.cuts) parts.ensures.lawful;
        are = jobs ∙ parts.ensures.ranges ∙ (λ i. dealt_by (sym parts.ensures.cuts i) (joined (sym jobs i)));
      };
    })

pub invariant_of-replaying : goal.invariant_of-replaying
invariant_of-replaying c =
    let parts = c.into_parts-cuts in
    let jobs = c.in_ok-pieces.ensures.jobs in
    let same = c.prepared.view_is ∙ sym c.of-of.ensures in
    let cuts = ap (λ (p : PreparedView). p.cuts) same in
    rw c.in_ok-base.ensures.ok (
      sym (ap (λ (p : PreparedView). p.report) same),
      subst IsSound same c.prepared.invariant,
      record {
        ranges = record {
          cuts_are = subst AreCuts cuts parts.ensures.lawful;
          are = jobs ∙ parts.ensures.ranges ∙ (λ i. dealt_by (cuts i) (joined (sym jobs i)));
        };
        updates = (λ i. joined (jobs i) ++ joined parts.result.2.items) ∙ parts.ensures.updates ∙ ap (λ (p : PreparedView). p.updates) same;
        some = omega (arith, c.in_ok-pieces.ensures.many, c.min-most.ensures, c.count.ensures.some, c.pieces.ensures.value);
      },
    )

pub returns-clause-tasks : goal.returns-clause-tasks
returns-clause-tasks c =
    let ok = c.in_ok-base.ensures.ok in
    let base = arc_value c.in_ok-base.base in
    let cuts = ap (λ (b : Base). b.cuts) ok ∙ c.into_parts-cuts.ensures.cuts ∙ ap (λ (p : PreparedView). p.cuts) (c.prepared.view_is ∙ sym c.of-of.ensures) in
    let long = ap length c.in_ok-pieces.ensures.consumers ∙ fresh_count c.in_ok-pieces.pieces c.min-most.result ∙ sym c.in_ok-pieces.ensures.many ∙ ap (λ (b : Base). b.pieces.consumers) (sym ok) in
    c.in_ok-tasks.ensures
    ∙ same_tasks (task_of base) c.in_ok-pieces.consumers.items
    ∙ (λ i. replicate (long i) (record { pieces = base.pieces; entries = joined base.entries.items; cuts = cuts i }))

pub returns-clause-few : goal.returns-clause-few
returns-clause-few c =
    omega (arith, ap length c.in_ok-tasks.ensures, length-map c.in_ok-pieces.consumers.items (λ _. task_of (arc_value c.in_ok-base.base)), ap length c.in_ok-pieces.ensures.consumers, fresh_count c.in_ok-pieces.pieces c.min-most.result, c.min-most.ensures, c.count.ensures.value)
