use Rattle.std.proofs.Common.{◌≡◌, ◌++◌}
use Rattle.std.specs.Vec.Iter.{into_iter_items}
use Rattle.mt_recover.specs.Steps.Assembling.{AreDraftsOf}
use Rattle.mt_recover.proofs.Assembles.{NoneIsNext}
use Rattle.mt_recover.proofs.assembling.in_order.Given as goal

-- the drafts so far
abbrev pub invariant-loop-piece : goal.invariant-loop-piece
invariant-loop-piece l = record {
  rest : l.yielded ++ into_iter_items l.piece-iterator ≡ l.fn.pieces.items;
  drafts : AreDraftsOf l.yielded l.drafts.items;
  passed : NoneIsNext l.yielded l.drafts.items;
}
