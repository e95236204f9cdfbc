use Rattle.std.proofs.Common.{◌≡◌, ◌++◌, ◌-◌, map}
use Rattle.std.specs.List.{All}
use Rattle.mt_board.specs.Board.{above}
use Rattle.mt_recover.proofs.Assembles.{IsHeldBy}
use Rattle.mt_recover.proofs.working.work.Given as goal

-- the pieces drawn so far
abbrev pub invariant-loop-number : goal.invariant-loop-number
invariant-loop-number g l = record {
  pass : l.pass ≡ record l.fn.pass { draws = l.fn.pass.draws ++ map (λ piece. piece.number) l.pieces.items };
  pieces : All (IsHeldBy l.job) l.pieces.items;
}

-- how many numbers the board has left for the pass
abbrev pub decreases-loop-number : goal.decreases-loop-number
decreases-loop-number g l = l.job.board.total - above l.pass.draws
