use Rattle.std.proofs.Common.{◌≡◌, ◌∙◌, ◌++◌, [], ◌∷◌, List, map, rules, sym, ap, subst}
use Rattle.std.specs.Vec.Iter.{into_iter_items}
use Rattle.std.proofs.lemmas.List.{append_assoc, map-id, map_push}
use Rattle.std.proofs.lemmas.Iterator.Consumers.{YieldsList-end}
use Rattle.std.proofs.lemmas.Iterator.Adapters.{YieldsList-from_vec}
use Rattle.mt_words.specs.declared.record.Change.{Change}
use Rattle.mt_words.specs.Words.{AreRising}
use Rattle.mt_words.specs.Walks.{joined}
use Rattle.mt_scan.specs.PartsShown.{KeptPart, shown_by_all}
use Rattle.mt_scan.specs.Choice.{entry_keys}
use Rattle.mt_scan.specs.Steps.Checkpoints.{entries_of}
use Rattle.mt_scan.proofs.CheckpointLemmas.{entries_shown}
use Rattle.mt_scan.proofs.RisingLemmas.{part_rises}
use Rattle.mt_replay.specs.Survivors.{wholes}
use Rattle.mt_recover.proofs.ReplayLemmas.{cells_of_all_parts}
use Rattle.mt_recover.proofs.prepared.entries_of.Goals as goal

pub of_rising-requires : goal.of_rising-requires
of_rising-requires c =
    let g = c.into_iter-part-iterator.ensures.into_iter_gives in
    let rest : List KeptPart = into_iter_items c.next.new.self in
    let first : into_iter_items c.loop-part.part-iterator ≡ c.in-Some-part.part ∷ rest = search rules in
    let all : c.loop-part.yielded ++ c.in-Some-part.part ∷ rest ≡ c.in-Some.checkpoint.parts.items = ap (λ (parts : List KeptPart). c.loop-part.yielded ++ parts) (sym first) ∙ c.loop-part.invariant.rest ∙ g.0 in
    let rise : AreRising (entry_keys (entries_of (shown_by_all c.in-Some.checkpoint.parts.items))) = subst (λ (entries : List Change). AreRising (entry_keys entries)) (sym (entries_shown c.in-Some.checkpoint.parts.items)) c.in-Some.checkpoint.rise in
    part_rises c.loop-part.yielded c.in-Some-part.part rest (subst (λ (parts : List KeptPart). AreRising (entry_keys (entries_of (shown_by_all parts)))) (sym all) rise)

pub loop-part-preserved : goal.loop-part-preserved
loop-part-preserved c =
    let rest : List KeptPart = into_iter_items c.next.new.self in
    let first : into_iter_items c.loop-part.part-iterator ≡ c.in-Some-part.part ∷ rest = search rules in
    record {
      rest = append_assoc c.loop-part.yielded (c.in-Some-part.part ∷ []) rest ∙ ap (λ (parts : List KeptPart). c.loop-part.yielded ++ parts) (sym first) ∙ c.loop-part.invariant.rest;
      cells = c.in_ok-push.ensures.items ∙ (λ i. c.loop-part.invariant.cells i ++ c.of_rising.ensures i ∷ []) ∙ sym (map_push (λ (part : KeptPart). wholes part.entries) c.loop-part.yielded c.in-Some-part.part);
    }

pub returns : goal.returns
returns c =
    let parts = c.in-Some.checkpoint.parts.items in
    let g = c.into_iter-part-iterator.ensures.into_iter_gives in
    let seen = YieldsList-end (YieldsList-from_vec {s = c.into_iter-part-iterator.result} parts g.0 (g.1 ∙ c.in-Some.checkpoint.parts.ok.0)) c.loop-part.yielded c.loop-part.part-iterator c.loop-part.yielded_by c.next.result c.next.new.self c.in-None.is c.next.ensures.steps in
    let all : c.loop-part.yielded ≡ parts = sym (map-id c.loop-part.yielded) ∙ seen.0 in
    let lists : joined c.loop-part.lists.items ≡ wholes (entries_of (shown_by_all parts)) = ap joined (c.loop-part.invariant.cells ∙ ap (map (λ (part : KeptPart). wholes part.entries)) all) ∙ cells_of_all_parts parts in
    rw c.in-Some.is lists
