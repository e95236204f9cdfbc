-- A handle may be given to another thread, as the box that it has may.
use Rattle.std.proofs.Common.{Option, Some, None}
use mir.Raw.{raw}
use base.Shift.{Keyless}
use denote.Memory.{lone}
use denote.RawPtr.{Ptr}
use denote.Param.Send.{IsSend, IsSync, owning_send, struct_send, view_send, sendable}
use denote.Param.SendFields.{declared_send, variants_send}
use denote.Builtin.{RawPtr}
use denote.Struct.Struct.{exits_of}
use denote.Struct.Owning.{shape, fields, to}
use Rattle.std_alloc.proofs.SendSync.{quiet, lies}
use Rattle.std.proofs.Crossing.{crosses, frees}
use Rattle.std.specs.contracts.impls.GlobalAllocator.TheImpl.{ghosts}
use Rattle.mt_c.specs.Owning.{heap, boxed_at}
use Rattle.mt_record.below.arrayvec.proofs.array_vec.ArrayVec.TheSendSync as array_vec
use Rattle.mt_recover.below.mt_board.proofs.queue.Queue.TheSendSync as queue
use Rattle.mt_recover.below.mt_board.proofs.consumer.Consumer.TheSendSync as consumer
use Rattle.mt_tree.proofs.place.Place.TheSendSync as place
use Rattle.mt_tree.proofs.node.Node.TheLaws.TheKnot as node
use Rattle.mt_tree.specs.contracts.hit.Hit as hit
use Rattle.mt_recover.specs.contracts.recovery.Recovered as recovered
use Rattle.mt_recover.specs.contracts.dividing.DivideTask as divide
use Rattle.mt_recover.specs.contracts.dividing.DividedTask as divided
use Rattle.mt_recover.specs.contracts.dividing.Dividing as dividing
use Rattle.mt_recover.specs.contracts.replaying.Base as common
use Rattle.mt_recover.specs.contracts.replaying.ReplayTask as replay
use Rattle.mt_recover.specs.contracts.replaying.Replaying as replaying
use Rattle.mt_recover.proofs.Sending.{replayed_send}
use Rattle.mt_writer.proofs.part_writer.PartWriter.TheSendSync as part_writer
use Rattle.mt_keeper.proofs.first.First.TheSendSync as first
use Rattle.mt_keeper.proofs.resuming.Restart.TheSendSync as restart
use Rattle.mt_keeper.proofs.keeper.Keeper.TheSendSync as keeper
use Rattle.mt_keeper.proofs.Sending.{crew_send, crew_sync, lent_log_send}
use Rattle.mt_c.specs.contracts.loan.Shared as shared
use Rattle.mt_c.specs.contracts.loan.Loan as loan
use Rattle.mt_c.specs.contracts.loan.Loan.TheInside as loan_inside
use Rattle.mt_c.specs.contracts.borrower.Borrower as borrower
use Rattle.mt_c.specs.contracts.borrower.Borrower.TheInside as borrower_inside
use Rattle.mt_c.specs.contracts.feeds.FedLog as log
use Rattle.mt_c.specs.contracts.feeds.FedPart as part
use Rattle.mt_c.specs.contracts.inputs.Inputs as inputs
use Rattle.mt_c.specs.contracts.task.Task as task
use Rattle.mt_c.specs.contracts.task.Worker as worker
use Rattle.mt_c.specs.contracts.job.Job as job
use Rattle.mt_c.specs.contracts.held.Held as held
use Rattle.mt_c.specs.contracts.place.Handle.{the_row, the_type}

log_send : IsSend log.the_row
log_send = search (sendable, crosses) depth 100 fits 20000

part_send : IsSend part.the_row
part_send = search (sendable, crosses) depth 100 fits 20000

inputs_send : IsSend inputs.the_row
inputs_send = search (sendable, crosses, log_send, part_send) depth 20 fits 20000

recovered_send : IsSend recovered.the_row
recovered_send = search (sendable, crosses, array_vec.the_send, place.the_send, node.send-Node) depth 40 fits 20000

recovered_sync : IsSync recovered.the_row
recovered_sync = search (sendable, crosses, array_vec.the_sync, place.the_sync, node.sync-Node) depth 40 fits 20000

hit_send : IsSend hit.the_row
hit_send = search (sendable, crosses) depth 40 fits 20000

divide_send : IsSend divide.the_row
divide_send = search (sendable, crosses) depth 40 fits 20000

divided_send : IsSend divided.the_row
divided_send = search (sendable, crosses) depth 40 fits 20000

dividing_send : IsSend dividing.the_row
dividing_send = search (sendable, crosses) depth 40 fits 20000

common_send : IsSend common.the_row
common_send = search (sendable, crosses, queue.the_send) depth 40 fits 20000

common_sync : IsSync common.the_row
common_sync = search (sendable, crosses, queue.the_sync) depth 40 fits 20000

replay_send : IsSend replay.the_row
replay_send = search (sendable, crosses, common_send, common_sync, consumer.the_send) depth 40 fits 20000

replaying_send : IsSend replaying.the_row
replaying_send = search (sendable, crosses, common_send, common_sync) depth 40 fits 20000

task_send : IsSend task.the_row
task_send = search (sendable, crosses, divide_send, divided_send, replay_send, replayed_send) depth 20 fits 20000

job_send : IsSend job.the_row
job_send = search (sendable, crosses, dividing_send, replaying_send, task_send) depth 20 fits 20000

worker_send : IsSend worker.the_row
worker_send = declared_send worker.the_type (search (sendable, crosses), (task_send, tt))

shared_send : IsSend shared.the_row
shared_send = search (sendable, crosses, crew_send, crew_sync) depth 20 fits 20000

loan_inside_send : IsSend loan_inside.the_row
loan_inside_send = declared_send loan_inside.the_type (shared_send, (search (sendable, crosses), (search (sendable, crosses, lent_log_send) depth 20 fits 20000, tt)))

loan_send : IsSend loan.the_row
loan_send = view_send _ _ _ _ _ loan_inside_send

borrower_inside_send : IsSend borrower_inside.the_row
borrower_inside_send = declared_send borrower_inside.the_type (search (sendable, crosses, crew_send, crew_sync) depth 20 fits 20000, (search (sendable, crosses), (lent_log_send, tt)))

borrower_send : IsSend borrower.the_row
borrower_send = view_send _ _ _ _ _ borrower_inside_send

held_send : IsSend held.the_row
held_send = variants_send held.enum (
  (search (sendable, crosses, log_send) depth 20, tt),
  (
    (search (sendable, crosses, part_send) depth 20, tt),
    (
      (inputs_send, tt),
      (
        (job_send, tt),
        (
          (worker_send, tt),
          (
            (search (sendable, crosses, recovered_send, recovered_sync) depth 20, tt),
            (
              (search (sendable, crosses, hit_send) depth 20, tt),
              (
                (first.the_send, tt),
                (
                  (restart.the_send, tt),
                  (
                    (keeper.the_send, tt),
                    (
                      (loan_send, tt),
                      (
                        (borrower_send, tt),
                        (
                          (search (sendable, crosses) depth 20, tt),
                          (
                            (part_writer.the_send, tt),
                            tt,
                          ),
                        ),
                      ),
                    ),
                  ),
                ),
              ),
            ),
          ),
        ),
      ),
    ),
  ),
)

boxed : (p : Ptr) (value : Option (held.the_row).Denot) → Keyless (boxed_at (ghosts.dealloc_token heap) held.the_row p value)
boxed p None = tt
boxed p (Some x) = (lies held.the_row held_send p x, frees.frees heap (raw (lone (held.the_row).mir)) p)

pub send : IsSend the_row
send = let O = the_type in let pointer : IsSend RawPtr = search sendable in
    owning_send O (pointer, tt) (λ h. boxed h.at h.value) (λ k. quiet (to O) (exits_of k (fields O)) ((struct_send (shape O) (pointer, tt)).leaving k))
