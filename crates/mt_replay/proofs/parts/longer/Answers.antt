use Rattle.std.proofs.Common.{◌++◌, List, sym, subst}
use Rattle.std.specs.Prelude.{Option, IsPermutation}
use Rattle.std.proofs.lemmas.List.Sorted.{IsPermutation-trans, IsPermutation-append_right}
use Rattle.mt_words.specs.declared.update.Update.{Update}
use Rattle.mt_replay.specs.Steps.Merging.{updates_of}
use Rattle.mt_replay.proofs.MergeLemmas.{exchanged, other_first, other_last}
use Rattle.mt_replay.proofs.parts.longer.Goals as goal

pub returns-in_default : goal.returns-in_default
returns-in_default c = λ updates is.
    let texts : List Update = c.args.texts.now.items in
    let was = subst (λ (part : Option (List Update)). IsPermutation updates (updates_of part ++ texts)) c.in_default.is is in
    IsPermutation-trans (updates ++ c.args.other) (c.args.other ++ updates) (c.args.other ++ texts) (exchanged updates c.args.other) (IsPermutation-append_right c.args.other updates texts was)

pub returns-then-count-more : goal.returns-then-count-more
returns-then-count-more c = λ updates is.
    let texts : List Update = c.args.texts.now.items in
    let was = subst (λ (part : Option (List Update)). IsPermutation updates (updates_of part ++ texts)) c.in-Some.is is in
    subst (λ (us : List Update). IsPermutation (updates ++ c.args.other) (c.args.other ++ us)) (sym c.in_ok-add_to.ensures) (other_first updates c.in-Some.part texts c.args.other was)

pub returns : goal.returns
returns c = λ updates is.
    let texts : List Update = c.args.texts.now.items in
    let was = subst (λ (part : Option (List Update)). IsPermutation updates (updates_of part ++ texts)) c.in-Some.is is in
    subst (λ (us : List Update). IsPermutation (updates ++ c.args.other) (c.in-Some.part ++ us)) (sym c.in_ok-add_to-2.ensures) (other_last updates c.in-Some.part texts c.args.other was)
