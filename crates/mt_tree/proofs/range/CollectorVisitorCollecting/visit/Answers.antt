use Rattle.std.proofs.Common.{◌<◌, ◌++◌, ◌∷◌, [], length, refl, sym, ◌∙◌, arith, length-append}
use Rattle.std.proofs.lemmas.List.{take_all}
use Rattle.mt_tree.specs.Range.{hit_of}
use Rattle.mt_tree.proofs.range.CollectorVisitorCollecting.visit.Goals as goal

pub returns : goal.returns
returns c =
    let old = c.args.target.now.hits.items in
    let hit = hit_of c.args.target.now.wanted (c.args.key.now, c.args.columns.now) in
    let room : length old < c.args.target.now.count = c.if-is_full.ensures in
    record {
      count = refl;
      wanted = refl;
      hits = λ few.
          c.in_ok-push.ensures.items
          ∙ (λ i. old ++ record { key = c.in_ok-key.ensures i; columns = c.in_ok-columns.ensures i } ∷ [])
          ∙ sym (take_all c.args.target.now.count (old ++ hit ∷ []) (omega (arith, room, length-append old (hit ∷ []))));
    }
