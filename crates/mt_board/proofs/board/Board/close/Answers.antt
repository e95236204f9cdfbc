use Rattle.std.proofs.Common.{rules, arith, ap, ◌∙◌, ◌≡◌, sym, subst, List, []}
use Rattle.mt_board.specs.declared.view.Counts.{Counts}
use Rattle.mt_board.specs.Board.{BoardId, PassView}
use Rattle.mt_board.specs.Steps.Rule.{Sitter}
use Rattle.mt_board.proofs.Keeps.{joins}
use Rattle.mt_board.proofs.Closes.{Gathers, Tells, last_board, gathers_first, gathers_more, closes}
use Rattle.mt_board.proofs.board.Board.close.Goals as goal

pub loop-pass-init : goal.loop-pass-init
loop-pass-init c = record {
  same = ap (λ (q : PassView). q.board.table) c.last.view_is ∙ ap (λ (b : BoardId). b.table) (last_board _ _ _ _ c.requires c.in-Some.ensures.items);
  slots = c.last.invariant.0;
  gathers = gathers_first c.args.self c.pop.new.self.items c.args.passes.items c.in-Some.last _ _ _ _ c.last.view_is c.last.invariant.1 c.last.invariant.2 (omega (arith, c.self.invariant.3, c.if-len-self.false)) c.requires c.in-Some.ensures.items;
}

pub join_seat-requires : goal.join_seat-requires
join_seat-requires c = let here = ap (λ (b : BoardId). b.table) c.self.view_is in (
  c.loop-pass.invariant.same ∙ sym here,
  ap (λ (q : PassView). q.board.table) c.pass.view_is ∙ ap (λ (b : BoardId). b.table) (last_board _ _ _ _ c.loop-pass.invariant.gathers.boards c.in-Some-pop.ensures.items) ∙ sym here,
  c.pass.invariant.0,
  search rules,
  joins _ _ c.loop-pass.seat.me.0 _ c.pass.inside.seat.me.0 c.loop-pass.invariant.gathers.some,
)

pub loop-pass-preserved : goal.loop-pass-preserved
loop-pass-preserved c = record {
  same = c.join_seat.ensures.0 ∙ c.loop-pass.invariant.same;
  slots = ap (λ (m : Sitter). m.1) c.join_seat.ensures.2 ∙ c.loop-pass.invariant.slots;
  gathers = subst (λ (m : Sitter). Gathers c.args.self c.pop-in-loop-pass.new.self.items c.args.passes.items m.0) (sym c.join_seat.ensures.2)
      (gathers_more c.args.self c.pop-in-loop-pass.new.self.items c.args.passes.items c.in-Some-pop.pass _ _ _ _ c.pass.view_is c.pass.invariant.1 c.pass.invariant.2 c.loop-pass.seat.me.0 c.loop-pass.passes.items c.loop-pass.invariant.gathers c.in-Some-pop.ensures.items);
}

pub returns : goal.returns
returns c =
    let none_left : c.loop-pass.passes.items ≡ [] = search rules in
    let gathered : Gathers c.args.self [] c.args.passes.items c.loop-pass.seat.me.0 = subst (λ (l : List PassView). Gathers c.args.self l c.args.passes.items c.loop-pass.seat.me.0) none_left c.loop-pass.invariant.gathers in
    let key = c.self.inside.table.shared.key in
    let total : key.total ≡ c.args.self.total = ap (λ (k : Counts). k.total) c.self.invariant.0 ∙ ap (λ (b : BoardId). b.total) c.self.view_is in
    let passes : key.passes ≡ c.args.self.passes = ap (λ (k : Counts). k.passes) c.self.invariant.0 ∙ ap (λ (b : BoardId). b.passes) c.self.view_is in
    let told : Tells c.args.self c.word-least.result c.args.passes.items = closes key c.args.self c.args.passes.items total passes (omega (arith, ap (λ (b : BoardId). b.passes) c.self.view_is, c.if-len-self.false)) _ _ gathered _ _ c.word-least.result c.close_with-closed.ensures.values.2 c.word-least.ensures in record {
      missing = search rules;
      back = search rules;
      whole = told.whole;
      once = told.once;
      all = told.all_drawn;
      least = told.noted;
      seen = told.seen;
    }
