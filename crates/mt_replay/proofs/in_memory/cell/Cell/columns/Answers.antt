use Rattle.std.proofs.Common.{sym, subst}
use Rattle.mt_replay.specs.Groups.{IsGroupOf}
use Rattle.std.proofs.lemmas.Result.{IfOk-weaker}
use Rattle.mt_replay.proofs.ExactLemmas.{group_columns}
use Rattle.mt_replay.proofs.in_memory.cell.Cell.columns.Goals as goal

pub returns-clause-exact : goal.returns-clause-exact
returns-clause-exact c = IfOk-weaker c.columns.result _ _
    (λ columns made updates key is apart lawful. group_columns updates key c.self.inside.group columns (subst (IsGroupOf updates key) (sym c.self.view_is) is) made apart lawful)
    c.columns.ensures.value
