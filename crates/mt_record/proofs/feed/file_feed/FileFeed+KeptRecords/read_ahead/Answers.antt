use Rattle.std.proofs.Common.{◌∙◌, ◌++◌, sym, ap, subst}
use Rattle.std.specs.Option.{IsSome}
use Rattle.std.proofs.lemmas.Bool.{false≢true}
use Rattle.std.proofs.lemmas.Option.{none-some}
use Rattle.mt_record.specs.LogFeeding.{FedLog, IsLogFed, fed_log}
use Rattle.mt_record.proofs.Joins.{feeds_join}
use Rattle.mt_record.proofs.feed.file_feed.FileFeed+KeptRecords.read_ahead.Goals as goal

pub returns-then-takes-clause-fed : goal.returns-then-takes-clause-fed
returns-then-takes-clause-fed c bytes taken fed =
    let own = fed_log (λ records. records) c.args.self.now in
    let next = fed_log (λ records. records) c.args.ahead in
    let took = rw c.if-takes.true at c.takes.ensures in
    subst (λ (feed : FedLog). IsLogFed feed (bytes ++ c.args.piece.now) taken) (sym took.1) (feeds_join own next bytes c.args.piece.now taken took.0 c.requires fed)

pub returns-then-takes-clause-sound : goal.returns-then-takes-clause-sound
returns-then-takes-clause-sound c =
    let took = rw c.if-takes.true at c.takes.ensures in
    ap (λ (feed : FedLog). feed.fault) took.1 ∙ took.0.own_sound.fault

pub returns-then-takes-clause-again : goal.returns-then-takes-clause-again
returns-then-takes-clause-again c fault is =
    let took = rw c.if-takes.true at c.takes.ensures in
    absurd (none-some fault (sym took.0.own_sound.fault ∙ is))

pub returns-then-takes-clause-stays : goal.returns-then-takes-clause-stays
returns-then-takes-clause-stays c is =
    let took = rw c.if-takes.true at c.takes.ensures in
    absurd (false≢true (subst IsSome took.0.own_sound.fault is))

pub returns-clause-fed : goal.returns-clause-fed
returns-clause-fed c bytes taken fed =
    let same = rw c.if-takes.false at c.takes.ensures in
    c.read.ensures.fed bytes taken (rw (← same) at fed)

pub returns-clause-again : goal.returns-clause-again
returns-clause-again c fault is =
    let same = rw c.if-takes.false at c.takes.ensures in
    c.read.ensures.again fault (rw (← same) at is)

pub returns-clause-stays : goal.returns-clause-stays
returns-clause-stays c is =
    let same = rw c.if-takes.false at c.takes.ensures in
    c.read.ensures.stays (rw (← same) at is) ∙ same
