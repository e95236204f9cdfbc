-- Jobs: recoveries whose tasks threads of C do.
use Rattle.std.specs.Prelude.{◌≡◌, ◌-◌, ◌<◌, ℕ, Option, Some, None, IfSome, IsSome, List, ◌∷◌, length, map, All, slice_get, slice_set}
use Rattle.mt_recover.specs.Prepared.{IsPreparedOf}
use Rattle.mt_recover.specs.Tasks.{IsDividingOf, divide_tasks, replay_tasks}
use Rattle.mt_c.specs.declared.job.Step.{Step}
use Rattle.mt_c.specs.declared.job.Step.TheVariants as steps
use Rattle.mt_c.specs.declared.task.Task.{Task}
use Rattle.mt_c.specs.declared.task.Task.TheVariants as tasks
use Rattle.mt_c.specs.declared.task.Worker.{Worker}

-- what contracts see of a job: its step, the tasks that are not handed out, and by the number of each task, the task once it is back
pub record JobView : Type 0 where
  pub step : Step
  pub todo : List Task
  pub back : List (Option Task)

-- the task, done
abbrev pub done_of : Task → Task
done_of (tasks.Divide task) = tasks.Divided task
done_of (tasks.Divided task) = tasks.Divided task
done_of (tasks.Replay task) = tasks.Replayed task
done_of (tasks.Replayed task) = tasks.Replayed task

-- all tasks of a step, in the order of their numbers
abbrev pub tasks_of : Step → List Task
tasks_of (steps.Dividing dividing) = map tasks.Divide (divide_tasks dividing)
tasks_of (steps.Replaying replaying) = map tasks.Replay (replay_tasks replaying)

-- a step of the recovery of these logs and parts
abbrev pub IsStepOf : List (List ℕ) → List (List ℕ) → Step → Type 0
IsStepOf logs parts (steps.Dividing dividing) = IsDividingOf logs parts dividing
IsStepOf logs parts (steps.Replaying replaying) = IsPreparedOf logs parts replaying.prepared

-- the tasks of the step divide, or replay
abbrev pub Divides : Step → Type 0
Divides (steps.Dividing dividing) = Unit {0}
Divides (steps.Replaying replaying) = ⊥

abbrev pub Replays : Step → Type 0
Replays (steps.Dividing dividing) = ⊥
Replays (steps.Replaying replaying) = Unit {0}

-- the task is done, and may be one of this step
abbrev pub IsDoneIn : Step → Task → Type 0
IsDoneIn (steps.Dividing dividing) (tasks.Divided task) = Unit {0}
IsDoneIn (steps.Replaying replaying) (tasks.Replayed task) = Unit {0}
IsDoneIn step task = ⊥

-- no task is handed out, or back
pub record IsFresh (job : JobView) : Type 0 where
  pub todo : job.todo ≡ tasks_of job.step
  pub back : All (λ slot. slot ≡ None) job.back

-- the worker has the first task that was not handed out, by its number, and the job has the rest
pub record Hires (before after : JobView) (worker : Worker) : Type 0 where
  pub task : slice_get (tasks_of before.step) worker.number ≡ Some worker.task
  pub first : before.todo ≡ worker.task ∷ after.todo
  pub rest : after ≡ record before { todo = after.todo }

-- the worker has the job's task of its number, to be done or done
abbrev pub IsOfJob : JobView → Worker → Type 0
IsOfJob job worker = IfSome (slice_get (tasks_of job.step) worker.number) (λ task. done_of worker.task ≡ done_of task)

-- the job waits for this worker: its task is done, a task of its number was handed out, and none is back
pub record Awaits (job : JobView) (worker : Worker) : Type 0 where
  pub done : IsDoneIn job.step worker.task
  pub handed : worker.number < length job.back - length job.todo
  pub vacant : slice_get job.back worker.number ≡ Some None

-- the job once the worker is back
abbrev pub joined : JobView → Worker → JobView
joined job worker = record job { back = slice_set job.back worker.number (Some worker.task) }

-- all tasks are back
abbrev pub AreAllBack : JobView → Type 0
AreAllBack job = All IsSome job.back

-- all tasks that divide are back
abbrev pub CanReplay : JobView → Type 0
CanReplay job = Divides job.step × AreAllBack job

-- all tasks that replay are back
abbrev pub CanFinish : JobView → Type 0
CanFinish job = Replays job.step × AreAllBack job
