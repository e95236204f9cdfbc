use Rattle.std.proofs.Common.{◌≡◌, ◌-◌, ◌∙◌, [], ℕ, List, take, take_all, drop, get_or, sym, ap, subst, arith}
use Rattle.mt_words.specs.declared.update.Update.{Update}
use Rattle.mt_replay.specs.declared.auditor.Seen.{Seen}
use Rattle.mt_replay.specs.Clashes.{Clash, AreClashes}
use Rattle.mt_replay.specs.Steps.Auditor.{AddClashes}
use Rattle.mt_replay.proofs.AuditorLemmas.{no_clash, close_some}
use Rattle.mt_replay.proofs.SeenLemmas.{of_kept}
use Rattle.mt_replay.proofs.WalkerLemmas.{key_taken, next_start, last_key}
use Rattle.mt_replay.proofs.auditor.clashes_of.Goals as goal

pub loop-at-init : goal.loop-at-init
loop-at-init c = record {
  within = omega arith;
  start = λ d some. absurd (omega (arith, some));
  are = subst (AreClashes []) (sym c.new-clashes.ensures.items) no_clash;
}

pub loop-at-preserved : goal.loop-at-preserved
loop-at-preserved c =
    let sorted : List Update = c.args.sorted.now in
    let at = c.loop-at.at in
    let end = c.end_of_key-end.result in
    let first : Update = c.index-sorted-at.result in
    let run : List Update = take (end - at) (drop at sorted) in
    let old : List Clash = c.loop-at.clashes.items in
    let new : List Clash = c.add_clashes.new.clashes.items in
    let ensured = c.end_of_key-end.ensures in
    let of_key = last_key sorted at end ensured.within.0 ensured.within.1 ensured.alike c.requires c.loop-at.invariant.start first in
    let key : c.key.result.now ≡ (get_or sorted at first).key = c.key.ensures.value ∙ ap (λ (u : Update). u.key) c.index-sorted-at.is in
    let kept : List Seen = c.keep_each_once.new.seen.items in
    let adds : AddClashes (get_or sorted at first).key kept old new = subst (λ (k : List ℕ). AddClashes k kept old new) key (subst (λ (ss : List Seen). AddClashes c.key.result.now ss old new) c.deref.ensures.value c.in_ok-add_clashes.ensures) in
    record {
      within = ensured.within.1;
      start = next_start sorted at end ensured.within.0 ensured.within.1 ensured.alike ensured.ends;
      are = subst (λ (us : List Update). AreClashes us new) (key_taken sorted at end ensured.within.0 ensured.within.1 ensured.alike)
          (close_some (take at sorted) run (get_or sorted at first).key c.note_all.new.seen.items old new c.loop-at.invariant.are of_key c.in_ok-note_all.ensures
          (of_kept (get_or sorted at first).key c.note_all.new.seen.items kept old new c.keep_each_once.ensures.same adds));
    }

pub returns : goal.returns
returns c = subst (λ (us : List Update). AreClashes us c.loop-at.clashes.items) (take_all c.loop-at.at c.args.sorted.now (omega (arith, c.loop-at-test.false))) c.loop-at.invariant.are
