use Rattle.std.proofs.Common.{◌≡◌, subst}
use Rattle.mt_words.specs.Walks.{joined}
use Rattle.mt_replay.specs.Divided.{DividedView}
use Rattle.mt_replay.specs.Ranges.{dealt_by}
use Rattle.mt_replay.proofs.DealLemmas.{dealt_anew}
use Rattle.mt_replay.proofs.divided.Divided.into_parts.Goals as goal

pub returns-clause-ranges : goal.returns-clause-ranges
returns-clause-ranges c =
    let ranges = c.self.inside.ranges.items in
    subst (λ (d : DividedView). ranges ≡ dealt_by d.cuts (joined ranges)) c.self.view_is (dealt_anew c.self.inside.cuts ranges c.self.invariant)
