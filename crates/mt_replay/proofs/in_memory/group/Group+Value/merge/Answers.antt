use Rattle.std.proofs.Common.{sym, subst}
use Rattle.mt_replay.specs.Cells.{IsCellOf}
use Rattle.mt_replay.specs.Groups.{Group, IsLatestOf}
use Rattle.mt_replay.proofs.InMemory.{both_groups}
use Rattle.mt_replay.proofs.in_memory.group.Group+Value.merge.Goals as goal

pub returns : goal.returns
returns c =
    let old : Group = c.args.self in
    let add : Group = c.args.other in
    let new : Group = record { reset = c.merged.inside.reset; slots = c.keep_each.new.kept } in
    let inside : IsLatestOf old.reset c.other.inside.reset new.reset = subst (λ (x : Group). IsLatestOf old.reset c.other.inside.reset x.reset) (sym c.merged.view_is) c.clear_by.ensures.reset in
    let latest : IsLatestOf old.reset add.reset new.reset = subst (λ (x : Group). IsLatestOf old.reset x.reset new.reset) c.other.view_is inside in
    λ updates others key was is. both_groups updates others key old add new latest
    (λ seen more cell added. c.keep_each.ensures.cell seen more
    (subst (λ (x : Group). IsCellOf seen x.slots) (sym c.merged.view_is) (subst (IsCellOf seen) (sym c.clear_by.ensures.writes) cell))
    (subst (λ (x : Group). IsCellOf more x.slots) (sym c.other.view_is) added))
    was is
