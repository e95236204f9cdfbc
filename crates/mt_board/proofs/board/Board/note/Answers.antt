use Rattle.std.proofs.Common.{rules}
use Rattle.mt_board.proofs.Keeps.{notes}
use Rattle.mt_board.proofs.board.Board.note.Goals as goal

pub fetch_min-requires : goal.fetch_min-requires
fetch_min-requires c = (
  search rules,
  search rules,
  notes c.self.inside.table.shared.key _ _ c.pass.inside.seat.me (search rules) _,
)
