use Rattle.std.proofs.Common.{◌≡◌, ℕ, subst, arith}
use Rattle.mt_words.specs.declared.limits.TheConstants.{MOST_COLUMNS}
use Rattle.mt_replay.specs.Cells.{Slots}
use Rattle.mt_replay.proofs.InMemory.{AreBoth, both_cells}
use Rattle.mt_replay.proofs.in_memory.group.keep_each.Goals as goal

pub returns-clause-cell : goal.returns-clause-cell
returns-clause-cell c =
    let old : Slots = c.args.kept.now in
    let add : Slots = c.args.writes in
    let new : Slots = c.loop-number.kept in
    let left : Slots = c.loop-number.rest in
    let all : c.loop-number.number ≡ MOST_COLUMNS = omega arith in
    let are : AreBoth old add MOST_COLUMNS new left = subst (λ (n : ℕ). AreBoth old add n new left) all c.loop-number.invariant in
    λ seen others was is. both_cells old add new left seen others are was is
