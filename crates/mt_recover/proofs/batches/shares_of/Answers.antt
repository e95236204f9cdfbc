use Rattle.std.proofs.Common.{◌∷◌, [], ◌++◌, ◌∙◌, sym, ap, append_assoc, arith}
use Rattle.std.specs.List.{flat_map}
use Rattle.std.specs.Vec.Iter.{into_iter_items}
use Rattle.std.proofs.lemmas.Grind.{flat_map-append}
use Rattle.std.proofs.lemmas.List.{flat_map_more}
use Rattle.mt_record.specs.Shares.{updates_of_share}
use Rattle.mt_recover.specs.Steps.LogScans.{kept, kept_by}
use Rattle.mt_recover.proofs.SharingLemmas.{all_yielded}
use Rattle.mt_recover.proofs.batches.shares_of.Goals as goal

pub loop-scan-preserved : goal.loop-scan-preserved
loop-scan-preserved c = record {
  rest = append_assoc c.loop-scan.yielded (c.in-Some.scan ∷ []) (into_iter_items c.next.new.self) ∙ ap (λ xs. c.loop-scan.yielded ++ xs) (sym c.in-Some.ensures.steps.0) ∙ c.loop-scan.invariant.rest;
  updates =
      ap (flat_map updates_of_share) c.in_ok-append.ensures.items
      ∙ flat_map-append updates_of_share c.loop-scan.shares.items c.in_ok-into_shares.field-0.items
      ∙ (λ i. c.loop-scan.invariant.updates i ++ c.in_ok-into_shares.ensures i)
      ∙ flat_map_more kept_by [] c.loop-scan.yielded c.in-Some.scan;
}

pub returns : goal.returns
returns c =
    let left = c.loop-scan.scan-iterator in
    c.loop-scan.invariant.updates ∙ ap kept (all_yielded c.args.scans.items c.loop-scan.yielded (into_iter_items left) c.loop-scan.invariant.rest (omega (arith, left.rest.ok.0, c.in-None.ensures.steps.0)))
