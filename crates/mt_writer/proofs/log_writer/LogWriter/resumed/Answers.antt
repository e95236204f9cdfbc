use Rattle.std.proofs.Common.{◌≡◌, ◌↔◌, ◌-◌, [], false, refl, ap}
use Rattle.mt_writer.specs.Framing.{Buffer}
use Rattle.mt_writer.specs.Journals.{MayGoOn, Writer}
use Rattle.mt_writer.proofs.JournalLemmas.{resumed_keeps}
use Rattle.mt_writer.proofs.FileLemmas.{resumed_is_file}
use Rattle.mt_writer.proofs.log_writer.LogWriter.resumed.Goals as goal

pub returns-clause-value : goal.returns-clause-value
returns-clause-value c bytes records is has same =
    let front = c.args.front in
    let may : MayGoOn front c.args.size = c.may_go_on.ensures.0 c.if-not-may_go_on.false in
    let seen : Buffer → Writer = λ h. record { mark = h.mark; buffer = h.records; last = front.latest; taken = front.latest; reach = front.latest; size = front.bytes; taken_size = front.bytes; synced_size = front.bytes; frames = c.args.size - front.bytes; segment = front.head.segment; failed = false } in
    let view = ap seen c.new-2.ensures in
    (resumed_keeps front bytes records _ c.args.mark c.args.size is may view, resumed_is_file front bytes records _ c.args.mark c.args.size is may has same view)
