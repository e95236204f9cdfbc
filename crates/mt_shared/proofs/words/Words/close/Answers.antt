use Rattle.std.proofs.Common.{rules, sym, ap, ◌∙◌, subst, ◌≡◌, ℕ, List, []}
use Rattle.mt_shared.specs.declared.known.Known.{Known}
use Rattle.mt_shared.specs.Words.{HandView, WordsView, Leads, AreAll}
use Rattle.mt_shared.specs.Steps.Rule.{Sitter, acts_in, both_known}
use Rattle.mt_shared.proofs.Keeps.{joins}
use Rattle.mt_shared.proofs.Closes.{Gathers, all_at, one_of, gathers_first, gathers_more, closes, closes_none}
use Rattle.mt_shared.proofs.words.Words.close.Goals as goal

pub returns-in_default-clause-order : goal.returns-in_default-clause-order
returns-in_default-clause-order c =
    let key = c.self.inside.table.shared.key in
    let are : AreAll key.hands c.args.hands.items = subst (λ (n : ℕ). AreAll n c.args.hands.items) c.self.invariant.1 (subst (AreAll c.self.inside.hands) c.deref.ensures.value (c.if-not-are_all.ensures.0 (search rules))) in
    let o = closes_none key.words.value.items key.hands c.word-first.result c.args.hands.items _ _ are.whole (search rules) c.close-closed.ensures.values.2 c.word-first.ensures in
    (o.history, o.after, subst (λ (ws : List ℕ). Leads ws o.history o.after) (ap (λ (w : WordsView). w.first) c.self.view_is) o.leads, o.is_first, o.each)

pub loop-hand-init : goal.loop-hand-init
loop-hand-init c =
    let key = c.self.inside.table.shared.key in
    let all = c.args.hands.items in
    let rest = c.pop.new.self.items in
    let hand = c.in-Some.last in
    let are : AreAll key.hands all = subst (λ (n : ℕ). AreAll n all) c.self.invariant.1 (subst (AreAll c.self.inside.hands) c.deref.ensures.value (c.if-not-are_all.ensures.0 (search rules))) in record {
      same = ap (λ (h : HandView). h.table) c.last.view_is ∙ all_at (λ (h : HandView). h.table ≡ c.args.self.table) all rest [] hand c.requires c.in-Some.ensures.items ∙ sym (ap (λ (w : WordsView). w.table) c.self.view_is);
      slots = ap (λ (m : Sitter). m.1) c.last.invariant;
      gathers = subst (λ (m : Sitter). Gathers rest all m.0) (sym c.last.invariant)
          (gathers_first key.hands all are rest hand c.last.inside.seat.table_id c.last.inside.number (acts_in c.last.inside.seat.me.0.owns) c.last.view_is c.in-Some.ensures.items);
    }

pub join_seat-requires : goal.join_seat-requires
join_seat-requires c =
    let all = c.args.hands.items in
    let hand = c.in-Some-pop.hand in (
      c.loop-hand.invariant.same,
      ap (λ (h : HandView). h.table) c.hand.view_is
          ∙ one_of (λ (h : HandView). h.table ≡ c.args.self.table) all c.loop-hand.hands.items c.pop-in-loop-hand.new.self.items hand c.loop-hand.seat.me.0 c.requires c.loop-hand.invariant.gathers c.in-Some-pop.ensures.items
          ∙ sym (ap (λ (w : WordsView). w.table) c.self.view_is),
      ap (λ (m : Sitter). m.1) c.hand.invariant,
      c.self.invariant.2,
      joins c.self.inside.table.shared.key.words.value.items c.self.inside.table.shared.key.hands c.loop-hand.seat.id c.loop-hand.seat.me.0 c.hand.inside.seat.id c.hand.inside.seat.me.0,
    )

pub loop-hand-preserved : goal.loop-hand-preserved
loop-hand-preserved c =
    let key = c.self.inside.table.shared.key in
    let all = c.args.hands.items in
    let rest = c.pop-in-loop-hand.new.self.items in
    let hand = c.in-Some-pop.hand in
    let v = c.loop-hand.seat.me.0 in
    let are : AreAll key.hands all = subst (λ (n : ℕ). AreAll n all) c.self.invariant.1 (subst (AreAll c.self.inside.hands) c.deref.ensures.value (c.if-not-are_all.ensures.0 (search rules))) in record {
      same = c.join_seat.ensures.0 ∙ c.loop-hand.invariant.same;
      slots = ap (λ (m : Sitter). m.1) c.join_seat.ensures.2 ∙ c.loop-hand.invariant.slots;
      gathers = subst (λ (m : Sitter). Gathers rest all m.0) (sym c.join_seat.ensures.2)
          (subst (λ (w : Known). Gathers rest all (both_known v w)) (sym (ap (λ (m : Sitter). m.0) c.hand.invariant))
          (gathers_more key.hands all are rest hand c.hand.inside.seat.table_id c.hand.inside.number (acts_in c.hand.inside.seat.me.0.owns) c.hand.view_is c.loop-hand.hands.items v c.loop-hand.invariant.gathers c.in-Some-pop.ensures.items));
    }

pub returns-clause-order : goal.returns-clause-order
returns-clause-order c =
    let key = c.self.inside.table.shared.key in
    let all = c.args.hands.items in
    let are : AreAll key.hands all = subst (λ (n : ℕ). AreAll n all) c.self.invariant.1 (subst (AreAll c.self.inside.hands) c.deref.ensures.value (c.if-not-are_all.ensures.0 (search rules))) in
    let none_left : c.loop-hand.hands.items ≡ [] = search rules in
    let g : Gathers [] all c.loop-hand.seat.me.0 = subst (λ (l : List HandView). Gathers l all c.loop-hand.seat.me.0) none_left c.loop-hand.invariant.gathers in
    let o = closes key.words.value.items key.hands c.loop-hand.seat.id c.word-first-2.result c.loop-hand.seat.me.0 all _ _ are.whole g c.close_with-closed.ensures.values.2 c.word-first-2.ensures in
    (o.history, o.after, subst (λ (ws : List ℕ). Leads ws o.history o.after) (ap (λ (w : WordsView). w.first) c.self.view_is) o.leads, o.is_first, o.each)
