use Rattle.std.proofs.Common.{arith, sym, ap, ◌∙◌, length}
use Rattle.mt_shared.specs.Words.{HandView, WordsView}
use Rattle.mt_shared.specs.Steps.Rule.{acts_in}
use Rattle.mt_shared.proofs.Keeps.{swaps}
use Rattle.mt_shared.proofs.words.Words.swap.Goals as goal

pub swap-requires : goal.swap-requires
swap-requires c = (
  ap (λ (h : HandView). h.table) c.hand.view_is ∙ c.requires.0 ∙ sym (ap (λ (w : WordsView). w.table) c.self.view_is),
  omega (arith, c.requires.1, ap (λ (w : WordsView). length w.first) c.self.view_is, c.self.invariant.0),
  swaps c.self.inside.table.shared.key.words.value.items c.self.inside.table.shared.key.hands _ _ c.hand.inside.number (acts_in c.hand.inside.seat.me.0.owns) c.hand.inside.seat.me c.hand.invariant c.args.word c.args.value,
)
