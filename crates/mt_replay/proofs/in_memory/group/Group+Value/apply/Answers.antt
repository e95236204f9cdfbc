use Rattle.std.proofs.Common.{Option, sym, subst}
use Rattle.mt_words.specs.declared.update.Stamp.{Stamp}
use Rattle.mt_replay.specs.Cells.{IsCellOf}
use Rattle.mt_replay.specs.Groups.{IsLatestOf}
use Rattle.mt_replay.proofs.GroupLemmas.{group_more}
use Rattle.mt_replay.proofs.in_memory.group.Group+Value.apply.Goals as goal

pub returns-clause-group : goal.returns-clause-group
returns-clause-group c = λ updates key of_key is.
    let old = c.args.self.now in
    let new = c.apply_writes.new.self in
    group_more updates c.args.update key old new c.is_reset.result of_key c.is_reset.ensures
    (subst (IsLatestOf old.reset _) (sym c.apply_writes.ensures.reset) (subst (λ (r : Option Stamp). IsLatestOf old.reset r c.clear_by.new.self.reset) c.then_some.ensures c.clear_by.ensures.reset))
    (λ writes cell. c.apply_writes.ensures.writes writes (subst (IsCellOf writes) (sym c.clear_by.ensures.writes) cell))
    is
