use denote.Param.Send.{sendable}
use Rattle.std.proofs.Crossing.{crosses}
use Rattle.mt_board.proofs.pass.Pass.TheSendSync as pass
use Rattle.mt_tests.proofs.Sending.{haul_sends}
use Rattle.mt_tests.proofs.claiming.fn.work_in_scope.scope.Goals as goal

pub spawn_with-requires-send-T : goal.spawn_with-requires-send-T
spawn_with-requires-send-T g c κs within = search (sendable, crosses, haul_sends, pass.the_send) depth 20

pub spawn_with-requires-2-send-T : goal.spawn_with-requires-2-send-T
spawn_with-requires-2-send-T g c κs within = search (sendable, crosses, haul_sends, pass.the_send) depth 20
