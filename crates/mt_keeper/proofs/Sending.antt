-- What may go to another thread.
use denote.Param.Send.{IsSend, IsSync, sendable}
use Rattle.std.proofs.Crossing.{crosses}
use Rattle.mt_shared.proofs.hand.Hand.TheSendSync as hand
use Rattle.mt_shared.proofs.words.Words.TheSendSync as words
use Rattle.mt_keeper.proofs.keeper.Keeper.TheSendSync as keeper
use Rattle.mt_keeper.specs.contracts.lent_log.LentLog as lent_log
use Rattle.mt_keeper.specs.contracts.crew.Crew as crew

pub lent_log_send : IsSend lent_log.the_row
lent_log_send = search (sendable, crosses, hand.the_send) depth 40 fits 20000

pub crew_send : IsSend crew.the_row
crew_send = search (sendable, crosses, words.the_send, keeper.the_send) depth 60 fits 20000

pub crew_sync : IsSync crew.the_row
crew_sync = search (sendable, crosses, words.the_sync, keeper.the_sync) depth 60 fits 20000
