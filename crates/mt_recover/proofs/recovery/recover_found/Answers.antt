use Rattle.std.proofs.Common.{◌∙◌, sym, ap}
use Rattle.mt_recover.specs.Tasks.{divide_tasks}
use Rattle.mt_recover.proofs.TaskLemmas.{tasks_done}
use Rattle.mt_recover.proofs.recovery.recover_found.Goals as goal

pub replay-requires : goal.replay-requires
replay-requires c =
    tasks_done _ c.in_ok-divided.divided.items c.in_ok-all_done.field-0.items c.in_ok-divided.ensures c.in_ok-all_done.ensures.done ∙ c.in_ok-dividing.ensures.tasks ∙ ap divide_tasks (sym c.dividing.view_is)

pub finish-requires : goal.finish-requires
finish-requires c =
    tasks_done _ c.in_ok-replayed.replayed.items c.in_ok-done.done.items c.in_ok-replayed.ensures c.in_ok-done.ensures.done ∙ c.in_ok-replaying.ensures.tasks
