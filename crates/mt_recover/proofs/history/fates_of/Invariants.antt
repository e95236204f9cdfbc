use Rattle.std.proofs.Common.{take}
use Rattle.std.specs.List.{AllZip}
use Rattle.mt_recover.specs.History.{IsFate}
use Rattle.mt_recover.specs.Steps.Fates.{those_surviving}
use Rattle.mt_recover.proofs.history.fates_of.Given as goal

-- the fates of the updates so far
abbrev pub invariant-loop-update : goal.invariant-loop-update
invariant-loop-update l = AllZip (IsFate l.window (those_surviving l.window l.updates)) (take l.update-index l.updates) l.fates.items
