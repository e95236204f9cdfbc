-- A haul may go to another thread: of what its drafts are made, each does.
use denote.Param.Send.{IsSend, sendable}
use Rattle.std.proofs.Crossing.{crosses}
use Rattle.std.proofs.alloc.Global.TheSendSync as global
use Rattle.mt_record.below.smallvec.proofs.small_vec.SmallVec.TheSendSync as small_vec
use Rattle.mt_record.below.arrayvec.proofs.array_vec.ArrayVec.TheSendSync as array_vec
use Rattle.mt_words.proofs.packed.PackedColumns.TheSendSync as columns
use Rattle.mt_tree.proofs.finish.Finished.TheSendSync as finished
use Rattle.mt_tree.proofs.place.Place.TheSendSync as place
use Rattle.mt_tree.proofs.place.Content.TheSendSync as content
use Rattle.mt_tree.proofs.node.Node.TheLaws.TheKnot as node
use Rattle.mt_tree.proofs.layer.Layer.TheLaws.TheKnot as layer
use Rattle.mt_tree.specs.contracts.tree.Draft as Draft
use Rattle.mt_recover.specs.contracts.haul.Piece as Piece
use Rattle.mt_recover.specs.contracts.haul.Haul as Haul

pub draft_sends : IsSend Draft.the_row
draft_sends = search (sendable, crosses, global.the_send, small_vec.the_send, array_vec.the_send, columns.the_send, finished.the_send, place.the_send, content.the_send, node.send-NodeKind, node.send-Node, layer.send-Layer) depth 40

pub piece_sends : IsSend Piece.the_row
piece_sends = let draft = draft_sends in search sendable depth 20

pub haul_sends : IsSend Haul.the_row
haul_sends = search (sendable, crosses, piece_sends) depth 20
