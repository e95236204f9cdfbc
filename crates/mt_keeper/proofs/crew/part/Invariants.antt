use Rattle.std.proofs.Common.{◌≡◌, ◌++◌, ◌≤◌, length}
use Rattle.std.specs.Vec.{vec_len, vec_capacity}
use Rattle.std.specs.Vec.Iter.{into_iter_items}
use Rattle.mt_shared.specs.Words.{fresh_hands}
use Rattle.mt_keeper.specs.contracts.keeper.Keeper.{the_view}
use Rattle.mt_keeper.proofs.Lending.{AreTaken}
use Rattle.mt_keeper.proofs.crew.part.Given as goal

abbrev pub invariant-loop-hand : goal.invariant-loop-hand
invariant-loop-hand l = record {
  rest : l.yielded ++ into_iter_items l.hand-iterator ≡ fresh_hands l.words.table (length l.numbers.items);
  len : vec_len l.lent ≡ length l.yielded;
  room : length l.numbers.items ≤ vec_capacity l.lent;
  taken : AreTaken l.before.value l.words.table l.numbers.items (length l.yielded) l.lent.items (the_view l.keeper-inside).logs;
  kept : the_view l.keeper-inside ≡ record l.before.value { logs = (the_view l.keeper-inside).logs };
}
