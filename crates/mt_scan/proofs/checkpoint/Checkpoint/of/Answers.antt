use Rattle.std.proofs.Common.{◌≡◌, ◌∙◌, List, Some, None, refl, sym, ap, subst, rules}
use Rattle.std.specs.List.{slice_get}
use Rattle.std.proofs.lemmas.Bool.{false≢true}
use Rattle.std.proofs.lemmas.List.Sorted.{IsNonDecreasingBy-from_sort_by_key}
use Rattle.mt_words.specs.declared.record.Change.{Change}
use Rattle.mt_words.specs.Words.{AreRising}
use Rattle.mt_scan.specs.Choice.{entry_keys}
use Rattle.mt_scan.specs.PartsShown.{KeptPart}
use Rattle.mt_scan.proofs.CheckpointLemmas.{entries_shown, made, none_made, none_of_none}
use Rattle.mt_scan.proofs.checkpoint.Checkpoint.of.Goals as goal

pub returns-in_err-first : goal.returns-in_err-first
returns-in_err-first c =
    let sorted : List KeptPart = c.sort_unstable_by_key.new.self.items in
    let none : slice_get sorted 0 ≡ None = ap (λ (xs : List KeptPart). slice_get xs 0) (sym c.deref.ensures.value) ∙ sym c.in_err-first.ensures.value in
    rw c.from_residual.ensures (none_of_none c.args.parts.items sorted c.sort_unstable_by_key.ensures.permutation none)

pub returns-then-not-make_up : goal.returns-then-not-make_up
returns-then-not-make_up c =
    let sorted : List KeptPart = c.sort_unstable_by_key.new.self.items in
    let first : KeptPart = c.in_ok-first.first.now in
    let at : slice_get sorted 0 ≡ Some first = ap (λ (xs : List KeptPart). slice_get xs 0) (sym c.deref.ensures.value) ∙ sym c.in_ok-first.ensures.value in
    none_made c.args.parts.items sorted first c.sort_unstable_by_key.ensures.permutation
    (IsNonDecreasingBy-from_sort_by_key (λ (text : KeptPart). text.part) sorted c.sort_unstable_by_key.ensures.sorted (λ a r q k. search rules)) at
    (λ number make_up. false≢true ((rw c.deref-2.ensures.value at c.if-not-make_up.ensures number).1 make_up))

pub invariant_of-result : goal.invariant_of-result
invariant_of-result c = record {
  rise = subst (λ (entries : List Change). AreRising (entry_keys entries)) (entries_shown c.sort_unstable_by_key.new.self.items) ((rw c.deref-2.ensures.value at c.if-not-make_up.ensures c.args.number).0 refl).rise;
}

pub returns : goal.returns
returns c = made c.args.number c.args.parts.items _ refl c.sort_unstable_by_key.ensures.permutation ((rw c.deref-2.ensures.value at c.if-not-make_up.ensures c.args.number).0 refl)
