use Rattle.std.proofs.Common.{rules, arith, ◌≡◌, ℕ, ◌<◌, List, [], ◌∷◌, ◌++◌, length, map, get_or, set, refl, sym, ap, ◌∙◌, subst, subst₂, ◌||◌, append_assoc, append-nil}
use Rattle.std.specs.Vec.Iter.{into_iter_items}
use Rattle.std.proofs.lemmas.List.{length_push}
use Rattle.mt_shared.specs.Words.{HandView, Leads, AreAll, acts_at}
use Rattle.mt_keeper.specs.declared.keeper.Stage.TheVariants.{Writing}
use Rattle.mt_keeper.specs.contracts.keeper.Keeper.{the_view}
use Rattle.mt_keeper.specs.Keeping.{Keeping}
use Rattle.mt_keeper.specs.Crews.{CrewView, LentView, log_with, words_of, written_from, HaveOneOrder, have_failed}
use Rattle.mt_keeper.specs.Lending.{AreLent, IsParted, MayLend}
use Rattle.mt_keeper.proofs.Closing.{AreBack, hand_of, apart, no_items, or_none, one_failed, one_back, none_back, none_failed, hands_push, number_near, of_words, all_hands, one_order}
use Rattle.mt_keeper.proofs.crew.Crew.close.Goals as goal

pub loop-log-init : goal.loop-log-init
loop-log-init c =
    let lents = c.args.lent.items in
    let before = c.args.self.before in
    let before_is : c.self.inside.before.value ≡ before = ap (λ (v : CrewView). v.before) c.self.view_is in
    let are_named : AreLent c.self.inside.numbers.items lents = subst₂ AreLent c.deref-2.ensures.value c.deref.ensures.value (c.if-not-are_all.ensures.0 (search rules)) in
    let named : c.self.inside.numbers.items ≡ written_from 0 before.logs = c.self.invariant.3.named ∙ ap (λ (k : Keeping). written_from 0 k.logs) before_is in
    let are : AreLent (written_from 0 before.logs) lents = subst (λ (ns : List ℕ). AreLent ns lents) named are_named in
    let parted : IsParted before c.self.inside.numbers.items (the_view c.keeper.inside)
    = subst (λ (b : Keeping). IsParted b c.self.inside.numbers.items (the_view c.keeper.inside)) before_is (subst (λ (k : Keeping). IsParted c.self.inside.before.value c.self.inside.numbers.items k) (sym c.keeper.view_is) c.self.invariant.2) in record {
      rest = search rules;
      hands = search rules;
      len = search rules;
      room = search rules;
      back = none_back before lents are c.self.inside.numbers.items (the_view c.keeper.inside) named parted;
      kept = none_failed before (the_view c.keeper.inside) parted.rest;
      failed = ap (λ (k : Keeping). k.failed) parted.rest ∙ sym (or_none before.failed);
    }

pub index_mut-requires : goal.index_mut-requires
index_mut-requires c =
    let lents = c.args.lent.items in
    let before = c.args.self.before in
    let I = c.loop-log.invariant in
    let before_is : c.self.inside.before.value ≡ before = ap (λ (v : CrewView). v.before) c.self.view_is in
    let are_named : AreLent c.self.inside.numbers.items lents = subst₂ AreLent c.deref-2.ensures.value c.deref.ensures.value (c.if-not-are_all.ensures.0 (search rules)) in
    let are : AreLent (written_from 0 before.logs) lents = subst (λ (ns : List ℕ). AreLent ns lents) (c.self.invariant.3.named ∙ ap (λ (k : Keeping). written_from 0 k.logs) before_is) are_named in
    let split = sym I.rest ∙ ap (λ (l : List LentView). c.loop-log.yielded ++ l) c.in-Some.ensures.steps.0 in
    let near = number_near before lents are c.loop-log.yielded (into_iter_items c.next.new.self) c.in-Some.log split in
    omega (arith, near, ap (λ (l : LentView). l.number) c.log.view_is, I.back.many, c.loop-log.keeper-inside.logs.ok.0)

pub loop-log-preserved : goal.loop-log-preserved
loop-log-preserved c =
    let lents = c.args.lent.items in
    let before = c.args.self.before in
    let I = c.loop-log.invariant in
    let before_is : c.self.inside.before.value ≡ before = ap (λ (v : CrewView). v.before) c.self.view_is in
    let are_named : AreLent c.self.inside.numbers.items lents = subst₂ AreLent c.deref-2.ensures.value c.deref.ensures.value (c.if-not-are_all.ensures.0 (search rules)) in
    let are : AreLent (written_from 0 before.logs) lents = subst (λ (ns : List ℕ). AreLent ns lents) (c.self.invariant.3.named ∙ ap (λ (k : Keeping). written_from 0 k.logs) before_is) are_named in
    let split = sym I.rest ∙ ap (λ (l : List LentView). c.loop-log.yielded ++ l) c.in-Some.ensures.steps.0 in
    let near = number_near before lents are c.loop-log.yielded (into_iter_items c.next.new.self) c.in-Some.log split in
    let logs = c.loop-log.keeper-inside.logs.items in
    let yielded = c.loop-log.yielded in
    let log = c.in-Some.log in
    let again = append_assoc yielded (log ∷ []) (into_iter_items c.next.new.self) in record {
      rest = again ∙ sym split;
      hands = c.push_reserved.ensures.items ∙ (λ i. I.hands i ++ ap hand_of c.log.view_is i ∷ []) ∙ sym (hands_push yielded log);
      len = omega (arith, c.push_reserved.ensures.len, I.len, length_push yielded log);
      room = search rules;
      back = subst (λ (l : LentView). AreBack before lents (yielded ++ log ∷ []) (set logs l.number (log_with l l.writer))) (sym c.log.view_is)
          (one_back before lents (apart before.logs lents are) yielded (into_iter_items c.next.new.self) log logs (split ∙ sym again) near I.back);
      kept = ap (λ (k : Keeping). record k { logs = set logs c.log.inside.number (record { segment = c.log.inside.segment; from = c.log.inside.from; stage = Writing c.log.inside.writer }); failed = c.loop-log.keeper-inside.failed || c.log.inside.failed }) I.kept;
      failed = ap (λ (l : LentView). c.loop-log.keeper-inside.failed || l.failed) c.log.view_is ∙ one_failed before.failed c.loop-log.keeper-inside.failed yielded log I.failed;
    }

pub close-requires : goal.close-requires
close-requires c =
    let lents = c.args.lent.items in
    let I = c.loop-log.invariant in
    let none : into_iter_items c.loop-log.log-iterator ≡ [] = no_items (into_iter_items c.loop-log.log-iterator) (omega (arith, c.in-None.ensures.steps.0, c.loop-log.log-iterator.rest.ok.0)) in
    let all : c.loop-log.yielded ≡ lents = sym (append-nil c.loop-log.yielded) ∙ ap (λ (l : List LentView). c.loop-log.yielded ++ l) (sym none) ∙ I.rest in
    subst (λ (hs : List HandView). (k : ℕ) (d : HandView) → k < length hs → (get_or hs k d).table ≡ c.self.inside.words.table) (sym (I.hands ∙ ap (map hand_of) all))
    (of_words lents c.self.inside.words.table (λ k d near. c.requires k d near ∙ sym (ap (λ (v : CrewView). v.table) c.self.view_is)))

pub unreachable-requires : goal.unreachable-requires
unreachable-requires c =
    let lents = c.args.lent.items in
    let I = c.loop-log.invariant in
    let none : into_iter_items c.loop-log.log-iterator ≡ [] = no_items (into_iter_items c.loop-log.log-iterator) (omega (arith, c.in-None.ensures.steps.0, c.loop-log.log-iterator.rest.ok.0)) in
    let all : c.loop-log.yielded ≡ lents = sym (append-nil c.loop-log.yielded) ∙ ap (λ (l : List LentView). c.loop-log.yielded ++ l) (sym none) ∙ I.rest in
    let are_named : AreLent c.self.inside.numbers.items lents = subst₂ AreLent c.deref-2.ensures.value c.deref.ensures.value (c.if-not-are_all.ensures.0 (search rules)) in
    c.in_default-close.ensures.missing.0 refl (subst₂ AreAll (sym c.self.invariant.3.many) (sym (I.hands ∙ ap (map hand_of) all)) (all_hands c.self.inside.numbers.items lents are_named))

pub returns-clause-order : goal.returns-clause-order
returns-clause-order c = λ s deeds holds done.
    let lents = c.args.lent.items in
    let before = c.args.self.before in
    let I = c.loop-log.invariant in
    let logs = c.loop-log.keeper-inside.logs.items in
    let none : into_iter_items c.loop-log.log-iterator ≡ [] = no_items (into_iter_items c.loop-log.log-iterator) (omega (arith, c.in-None.ensures.steps.0, c.loop-log.log-iterator.rest.ok.0)) in
    let all : c.loop-log.yielded ≡ lents = sym (append-nil c.loop-log.yielded) ∙ ap (λ (l : List LentView). c.loop-log.yielded ++ l) (sym none) ∙ I.rest in
    let before_is : c.self.inside.before.value ≡ before = ap (λ (v : CrewView). v.before) c.self.view_is in
    let are_named : AreLent c.self.inside.numbers.items lents = subst₂ AreLent c.deref-2.ensures.value c.deref.ensures.value (c.if-not-are_all.ensures.0 (search rules)) in
    let named : c.self.inside.numbers.items ≡ written_from 0 before.logs = c.self.invariant.3.named ∙ ap (λ (k : Keeping). written_from 0 k.logs) before_is in
    let are : AreLent (written_from 0 before.logs) lents = subst (λ (ns : List ℕ). AreLent ns lents) named are_named in
    let o = c.in-Ok-close.ensures.order in
    let leads : Leads (words_of before) o.0 o.1 = subst (λ (ws : List ℕ). Leads ws o.0 o.1) (c.self.invariant.3.first ∙ ap words_of before_is) o.2 in
    let keeper : Keeping = record (the_view c.loop-log.keeper-inside) { clock = c.in-Ok-close.clock } in
    let ordered : HaveOneOrder (written_from 0 before.logs) deeds s keeper
    = one_order before (subst MayLend before_is c.self.invariant.1) lents are o.0 o.1 leads (λ k. o.4 k ∙ ap (acts_at k) (I.hands ∙ ap (map hand_of) all)) s deeds keeper holds done o.3
    (subst (λ (l : List LentView). AreBack before lents l logs) all I.back) (ap (λ (k : Keeping). record k { clock = c.in-Ok-close.clock }) I.kept) in
    subst (λ (ns : List ℕ). HaveOneOrder ns deeds s keeper) (sym (sym (ap (λ (v : CrewView). v.numbers) c.self.view_is) ∙ named)) ordered

pub returns-clause-failed : goal.returns-clause-failed
returns-clause-failed c =
    let I = c.loop-log.invariant in
    let none : into_iter_items c.loop-log.log-iterator ≡ [] = no_items (into_iter_items c.loop-log.log-iterator) (omega (arith, c.in-None.ensures.steps.0, c.loop-log.log-iterator.rest.ok.0)) in
    let all : c.loop-log.yielded ≡ c.args.lent.items = sym (append-nil c.loop-log.yielded) ∙ ap (λ (l : List LentView). c.loop-log.yielded ++ l) (sym none) ∙ I.rest in
    I.failed ∙ ap (λ (l : List LentView). c.args.self.before.failed || have_failed l) all
