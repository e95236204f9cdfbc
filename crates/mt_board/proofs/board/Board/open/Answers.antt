use Rattle.std.proofs.Common.{rules, arith, ap}
use Rattle.mt_board.specs.Steps.Rule.{Sitter}
use Rattle.mt_board.proofs.Keeps.{splits}
use Rattle.mt_board.proofs.board.Board.open.Goals as goal

pub split_seat-seat-requires : goal.split_seat-seat-requires
split_seat-seat-requires c = let view = c.loop-number.invariant.view in (
  search rules,
  search rules,
  splits _ _ c.loop-number.seat.me.0 (omega (arith, ap (λ (m : Sitter). m.0.parts) view, c.loop-number-test.true)) (record {
    draws = ap (λ (m : Sitter). m.0.draws) view;
    done = ap (λ (m : Sitter). m.0.done) view;
    noted = ap (λ (m : Sitter). m.0.noted) view;
    looks = ap (λ (m : Sitter). m.0.looks) view;
  }),
)
