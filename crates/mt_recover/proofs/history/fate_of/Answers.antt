use Rattle.std.proofs.Common.{◌∙◌, sym}
use Rattle.mt_replay.proofs.Members.{in_filter}
use Rattle.mt_recover.specs.Steps.Fates.{survives}
use Rattle.mt_recover.proofs.HistoryLemmas.{is_lost}
use Rattle.mt_recover.proofs.history.fate_of.Goals as goal

pub kept-requires : goal.kept-requires
kept-requires c = in_filter (survives c.args.window) c.args.updates.now c.args.update.now (sym c.survives.ensures ∙ c.if-survives.true) c.requires

pub returns : goal.returns
returns c = is_lost c.args.window c.args.updates.now c.args.update.now c.lost.result (sym c.survives.ensures ∙ c.if-survives.false) c.lost.ensures
