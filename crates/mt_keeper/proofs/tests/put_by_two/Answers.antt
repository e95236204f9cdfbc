use denote.Param.Send.{sendable}
use Rattle.std.proofs.Crossing.{crosses}
use Rattle.mt_keeper.proofs.Sending.{lent_log_send, crew_sync}
use Rattle.mt_keeper.proofs.tests.put_by_two.Goals as goal

pub join-first-requires-send-F : goal.join-first-requires-send-F
join-first-requires-send-F g c κs within = search (sendable, crosses, lent_log_send, crew_sync) depth 20
