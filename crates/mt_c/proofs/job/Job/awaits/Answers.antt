use Rattle.std.proofs.Common.{◌≡◌, ◌∙◌, ◌<◌, ◌-◌, Some, length, sym, ap, subst, arith}
use Rattle.std.specs.Prelude.{slice_get}
use Rattle.mt_c.specs.Jobs.{JobView}
use Rattle.mt_c.proofs.JobLemmas.{handed_count, none_if, place_at, true_if}
use Rattle.mt_c.proofs.job.Job.awaits.Goals as goal

pub overflow_sub-handed : goal.overflow_sub-handed
overflow_sub-handed c = omega (arith, handed_count _ c.self.invariant, c.len.ensures, c.len-2.ensures, c.self.inside.back.ok.0, c.self.inside.todo.ok.0)

pub returns : goal.returns
returns c =
    let inside = c.self.inside in
    let number = c.args.worker.now.number in
    let below : number < length inside.back.items - length inside.todo.items = omega (arith, c.len.ensures, c.len-2.ensures, inside.back.ok.0, inside.todo.ok.0, c.if-worker-handed.false) in
    let at = place_at inside.back.items number c.index.result.now (omega (arith, below)) c.index.ensures in (
      λ none. record {
        done = c.has_step_of.ensures.0 c.if-not-has_step_of.false;
        handed = subst (λ (j : JobView). number < length j.back - length j.todo) c.self.view_is below;
        vacant = subst (λ (j : JobView). slice_get j.back number ≡ Some c.index.result.now) c.self.view_is at ∙ ap Some (none_if c.index.result.now c.is_none.result c.is_none.ensures none);
      },
      λ awaits. true_if c.index.result.now c.is_none.result c.is_none.ensures (sym (subst (λ (j : JobView). slice_get j.back number ≡ Some c.index.result.now) c.self.view_is at) ∙ awaits.vacant),
    )
