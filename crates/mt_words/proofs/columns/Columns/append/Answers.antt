use Rattle.std.proofs.Common.{ℕ, List, sym, subst, arith}
use Rattle.mt_words.specs.Limits.{widest}
use Rattle.mt_words.specs.Columns.{CanFollow}
use Rattle.mt_words.proofs.Rising.{columns_push, columns_room}
use Rattle.mt_words.proofs.columns.Columns.append.Goals as goal

pub push-requires : goal.push-requires
push-requires c =
    let follows = subst (λ (columns : List (ℕ × List ℕ)). CanFollow widest columns c.args.column) (sym c.self.view_is) c.requires in
    (omega arith, omega (arith, follows.0.0, columns_room c.self.inside.columns.items c.args.column.0 c.self.invariant.1 follows.1))

pub invariant_of-self : goal.invariant_of-self
invariant_of-self c =
    let follows = subst (λ (columns : List (ℕ × List ℕ)). CanFollow widest columns c.args.column) (sym c.self.view_is) c.requires in
    rw c.push.ensures.items (columns_push widest c.self.inside.columns.items c.args.column c.self.invariant follows)
