use Rattle.std.proofs.Common.{rules, arith, sym, subst, ◌-◌, List, ℕ, []}
use Rattle.atomic_table.specs.Table.{opening, Splits}
use Rattle.mt_shared.specs.Steps.Rule.{Sitter, IsKept, first_known, without_next, next_hand}
use Rattle.mt_shared.proofs.Keeps.{opens, splits}
use Rattle.mt_shared.proofs.words.Words.open.Goals as goal

pub of_words-requires : goal.of_words-requires
of_words-requires c =
    let items = c.of.result.value.items in
    subst (λ (l : List ℕ). IsKept items c.args.hands (opening l [] (first_known c.args.hands))) (let a = c.of.ensures in let b = c.deref.ensures.value in cc) (opens items c.args.hands)

pub split_seat-seat-requires : goal.split_seat-seat-requires
split_seat-seat-requires c =
    let key = c.in_ok-table.table.shared.key in
    let number = c.loop-number.number in (
      c.loop-number.invariant.same,
      search rules,
      subst (λ (m : Sitter). Splits (IsKept key.words.value.items key.hands) c.loop-number.seat.id m.0 (without_next m.0) (next_hand m.0)) (sym c.loop-number.invariant.view)
          (splits key.words.value.items key.hands c.loop-number.seat.id number (c.args.hands - number) (omega (arith, c.loop-number-test.true))),
    )
