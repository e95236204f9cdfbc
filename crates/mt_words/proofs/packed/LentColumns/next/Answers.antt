use Rattle.std.proofs.Common.{◌≡◌, ◌-◌, [], rules, sym, ◌∙◌}
use Rattle.mt_words.proofs.ColumnBytes.{next_column, some_left, no_column}
use Rattle.mt_words.proofs.packed.LentColumns.next.Goals as goal

pub returns-in_err-number-clause-none : goal.returns-in_err-number-clause-none
returns-in_err-number-clause-none c =
    let none : c.args.self.now ≡ [] = sym c.self.view_is ∙ no_column c.self.inside.left c.self.inside.bytes.now c.self.invariant c.in_err-number.ensures.none in
    search (rules, none)

pub invariant_of-self : goal.invariant_of-self
invariant_of-self c =
    let left = c.self.inside.left in
    let bytes = c.self.inside.bytes.now in
    let read = c.in_ok-number in
    let some = some_left left bytes read.after.now (read.number, read.bytes.now) read.ensures.found.1 c.self.invariant in
    (next_column (left - 1) left bytes read.after.now (read.number, read.bytes.now) some read.ensures.found.0 read.ensures.found.1 c.self.invariant).2

pub returns-clause-some : goal.returns-clause-some
returns-clause-some c =
    let left = c.self.inside.left in
    let bytes = c.self.inside.bytes.now in
    let read = c.in_ok-number in
    let some = some_left left bytes read.after.now (read.number, read.bytes.now) read.ensures.found.1 c.self.invariant in
    sym c.self.view_is ∙ (next_column (left - 1) left bytes read.after.now (read.number, read.bytes.now) some read.ensures.found.0 read.ensures.found.1 c.self.invariant).0
