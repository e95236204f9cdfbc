use Rattle.std.proofs.Common.{◌≡◌, ◌∙◌, ◌++◌, ◌-◌, ◌∷◌, [], List, Some, sym, ap, subst, append_assoc, arith}
use Rattle.std.specs.Prelude.{slice_get}
use Rattle.mt_c.specs.declared.task.Task.{Task}
use Rattle.mt_c.specs.Jobs.{JobView, tasks_of}
use Rattle.mt_c.proofs.JobLemmas.{first_todo, handed_count}
use Rattle.mt_c.proofs.job.Job.hire.Goals as goal

pub overflow_sub-number : goal.overflow_sub-number
overflow_sub-number c = omega (arith, handed_count _ c.self.invariant, c.len.ensures, c.len-2.ensures, c.self.inside.back.ok.0, c.self.inside.todo.ok.0)

pub invariant_of-self-2 : goal.invariant_of-self-2
invariant_of-self-2 c =
    let I = c.self.invariant in
    let task = c.in_ok-task.task in
    let rest = c.pop_front.new.self.items in record {
      handed = I.handed ++ task ∷ [];
      all = I.all ∙ ap (λ (ts : List Task). I.handed ++ ts) c.in_ok-task.ensures.items ∙ sym (append_assoc I.handed (task ∷ []) rest);
      back = I.back;
    }

pub returns : goal.returns
returns c =
    let I = c.self.invariant in
    let inside = c.self.inside in
    let task = c.in_ok-task.task in
    let rest = c.pop_front.new.self.items in
    let all = I.all ∙ ap (λ (ts : List Task). I.handed ++ ts) c.in_ok-task.ensures.items in
    let first = first_todo (tasks_of inside.step) I.handed rest task (c.len.result - c.len-2.result) all (omega (arith, handed_count _ I, c.len.ensures, c.len-2.ensures, inside.back.ok.0, inside.todo.ok.0)) in record {
      task = subst (λ (j : JobView). slice_get (tasks_of j.step) (c.len.result - c.len-2.result) ≡ Some task) c.self.view_is first;
      first = ap (λ (j : JobView). j.todo) (sym c.self.view_is) ∙ c.in_ok-task.ensures.items;
      rest = λ i. record (c.self.view_is i) { todo = rest };
    }
