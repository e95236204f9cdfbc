-- What may go to another thread: each of these is made of what may. A crate that sends them on cites these lemmas.
use denote.Param.Send.{IsSend, IsSync, sendable}
use Rattle.std.proofs.Crossing.{crosses}
use Rattle.mt_record.below.arrayvec.proofs.array_vec.ArrayVec.TheSendSync as array_vec
use Rattle.mt_tree.proofs.finish.Finished.TheSendSync as finished
use Rattle.mt_tree.proofs.place.Place.TheSendSync as place
use Rattle.mt_tree.proofs.node.Node.TheLaws.TheKnot as node
use Rattle.mt_tree.proofs.layer.Layer.TheLaws.TheKnot as layer
use Rattle.mt_board.proofs.queue.Queue.TheSendSync as queue
use Rattle.mt_board.proofs.consumer.Consumer.TheSendSync as consumer
use Rattle.mt_tree.specs.contracts.tree.Draft as draft
use Rattle.mt_recover.specs.contracts.recovery.Recovered as recovered
use Rattle.mt_recover.specs.contracts.dividing.DivideTask as divide
use Rattle.mt_recover.specs.contracts.dividing.DividedTask as divided
use Rattle.mt_recover.specs.contracts.dividing.Dividing as dividing
use Rattle.mt_recover.specs.contracts.replaying.Base as common
use Rattle.mt_recover.specs.contracts.replaying.ReplayTask as replay
use Rattle.mt_recover.specs.contracts.replaying.ReplayedTask as replayed
use Rattle.mt_recover.specs.contracts.replaying.Replaying as replaying

pub recovered_send : IsSend recovered.the_row
recovered_send = search (sendable, crosses, array_vec.the_send, place.the_send, node.send-Node) depth 40 fits 20000

pub recovered_sync : IsSync recovered.the_row
recovered_sync = search (sendable, crosses, array_vec.the_sync, place.the_sync, node.sync-Node) depth 40 fits 20000

pub divide_send : IsSend divide.the_row
divide_send = search (sendable, crosses) depth 40 fits 20000

pub divided_send : IsSend divided.the_row
divided_send = search (sendable, crosses) depth 40 fits 20000

pub dividing_send : IsSend dividing.the_row
dividing_send = search (sendable, crosses) depth 40 fits 20000

common_send : IsSend common.the_row
common_send = search (sendable, crosses, queue.the_send) depth 40 fits 20000

common_sync : IsSync common.the_row
common_sync = search (sendable, crosses, queue.the_sync) depth 40 fits 20000

pub replay_send : IsSend replay.the_row
replay_send = search (sendable, crosses, common_send, common_sync, consumer.the_send) depth 40 fits 20000

pub replaying_send : IsSend replaying.the_row
replaying_send = search (sendable, crosses, common_send, common_sync) depth 40 fits 20000

draft_send : IsSend draft.the_row
draft_send = search (sendable, crosses, array_vec.the_send, finished.the_send, place.the_send, node.send-Node, layer.send-Layer) depth 40

pub replayed_send : IsSend replayed.the_row
replayed_send = search (sendable, crosses, draft_send, consumer.the_send) depth 40 fits 20000
