use Rattle.std.proofs.Common.{◌≡◌, ◌+◌, ◌++◌, ◌∷◌, ℕ, List, drop, sym, ap, subst, ◌∙◌, arith}
use Rattle.std.specs.Prelude.{Option}
use Rattle.std.proofs.lemmas.List.{drop_more, drop_all}
use Rattle.mt_words.specs.declared.update.Update.{Update}
use Rattle.mt_replay.specs.Steps.Merging.{IsFrom, IsMerging, numbered, updates_of}
use Rattle.mt_replay.proofs.MergeLemmas.{from_first}
use Rattle.mt_replay.proofs.merging.add_part.Goals as goal

pub loop-at-preserved : goal.loop-at-preserved
loop-at-preserved c = record {
  within = c.in_ok-rest.ensures.within;
  merged = λ d first second later starts.
      let part : List Update = c.in-Some.entries in
      let at = c.loop-at.at in
      let entry : Update = c.text-entry.result in
      let left : List Update = drop (at + 1) part ++ later in
      let right : List Update = numbered c.args.texts.now c.args.bits d c.in_ok-rest.rest.now in
      let merged : List Update = c.add_below.new.merged.items in
      let item : drop at part ≡ entry ∷ drop (at + 1) part = drop_more part at entry (omega (arith, c.loop-at-test.true, c.len-at-end.ensures.value)) ∙ ap (λ (u : Update). u ∷ drop (at + 1) part) (sym (c.text-entry.ensures entry)) in
      let was = subst (λ (us : List Update). IsMerging first second c.loop-at.merged.items (us ++ later) (numbered c.args.texts.now c.args.bits d c.loop-at.rest.now)) item (c.loop-at.invariant.merged d first second later starts) in
      subst (λ (us : List Update). IsMerging first second us left right) (sym c.in_ok-push.ensures.items)
      (from_first first second merged left right entry (c.in_ok-rest.ensures.merged d first second left entry (sym c.key.ensures.value) was) (subst (λ (k : List ℕ). IsFrom k right) c.key.ensures.value (c.in_ok-rest.ensures.ends d)));
}

pub returns-clause-merged : goal.returns-clause-merged
returns-clause-merged c = λ d first second later starts.
    subst (λ (us : List Update). IsMerging first second c.loop-at.merged.items (us ++ later) (numbered c.args.texts.now c.args.bits d c.loop-at.rest.now)) (drop_all c.loop-at.at c.in-Some.entries (omega (arith, c.loop-at-test.false, c.len-at-end.ensures.value)))
    (c.loop-at.invariant.merged d first second later
    (subst (λ (part : Option (List Update)). IsMerging first second c.args.merged.now.items (updates_of part ++ later) (numbered c.args.texts.now c.args.bits d c.args.numbers.now)) c.in-Some.is starts))
