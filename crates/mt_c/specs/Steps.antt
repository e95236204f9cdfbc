-- What the model of a job and private contracts say.
use Rattle.std.specs.Prelude.{◌≡◌, Option, Some, None, IfSome, List, ◌++◌}
use Rattle.std.specs.List.{AllZip}
use Rattle.mt_recover.specs.Tasks.{DivideView, ReplayView}
use Rattle.mt_c.specs.declared.task.Task.{Task}
use Rattle.mt_c.specs.declared.task.Task.TheVariants as tasks
use Rattle.mt_c.specs.Jobs.{JobView, done_of, tasks_of}

-- the place of a task has that task, done, or nothing
abbrev pub IsBackIn : Task → Option Task → Type 0
IsBackIn task place = IfSome place (λ back. back ≡ done_of task)

-- the tasks that are not handed out are the last ones of the step, and those that are back are done, each in its place
pub record IsJob (job : JobView) : Type 0 where
  pub handed : List Task
  pub all : tasks_of job.step ≡ handed ++ job.todo
  pub back : AllZip IsBackIn (tasks_of job.step) job.back

-- the task that has divided, if it is one, or has replayed
abbrev pub divided : Option Task → Option DivideView
divided (Some (tasks.Divided task)) = Some task
divided other = None

abbrev pub replayed : Option Task → Option ReplayView
replayed (Some (tasks.Replayed task)) = Some task
replayed other = None
