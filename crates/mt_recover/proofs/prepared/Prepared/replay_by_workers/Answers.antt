use Rattle.std.proofs.Common.{◌≡◌, ◌∙◌, IfOk, sym, ap}
use denote.Param.Send.{sendable}
use Rattle.std.proofs.Crossing.{crosses}
use Rattle.mt_recover.specs.Tasks.{replay_tasks}
use Rattle.mt_recover.proofs.Sending.{replayed_send}
use Rattle.mt_recover.proofs.SharingLemmas.{zip_says}
use Rattle.mt_recover.proofs.TaskLemmas.{tasks_done}
use Rattle.mt_recover.proofs.prepared.Prepared.replay_by_workers.Goals as goal

pub on_threads-requires-send-X : goal.on_threads-requires-send-X
on_threads-requires-send-X g c κs within = search (sendable, crosses, replayed_send) depth 20

pub finish-requires : goal.finish-requires
finish-requires g c =
    let each = zip_says (λ task answer. IfOk answer (λ done. done ≡ task)) _ c.in_ok-replaying.tasks.items c.in_ok-done.done.items (λ task answer post. post) c.in_ok-done.ensures in
    tasks_done _ c.in_ok-done.done.items c.in_ok-all_done.field-0.items each c.in_ok-all_done.ensures.done ∙ c.in_ok-replaying.ensures.tasks ∙ ap replay_tasks (sym c.replaying.view_is)
