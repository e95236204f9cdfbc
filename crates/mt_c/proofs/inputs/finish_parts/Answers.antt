use Rattle.std.proofs.Common.{◌∙◌, List, [], ◌∷◌, ◌++◌, sym, ap, subst, append_assoc, arith}
use Rattle.std.specs.Vec.Iter.{into_iter_items}
use Rattle.std.specs.List.{AllZip}
use Rattle.mt_recover.specs.Fed.{Input, AreFed}
use Rattle.mt_c.specs.Added.{IsPart}
use Rattle.mt_c.proofs.Lasts.{has_last, none_more, all_yielded}
use Rattle.mt_c.proofs.inputs.finish_parts.Goals as goal

pub loop-part-init : goal.loop-part-init
loop-part-init c = record {
  rest = c.into_iter-part-iterator.ensures.into_iter_gives.0;
  fed = λ logs before more fed all. none_more IsPart (λ (parts : List Input). AreFed logs parts c.args.fed.now) before more all fed;
}

pub loop-part-preserved : goal.loop-part-preserved
loop-part-preserved c =
    let I = c.loop-part.invariant in
    record {
      rest = rw append_assoc (rw c.in-Some.ensures.steps.0 at I.rest);
      fed = λ logs before more fed all.
          let end = has_last IsPart more c.loop-part.yielded c.in-Some.part all in
          let parts = append_assoc before end.front (end.last ∷ []) ∙ ap (λ (l : List Input). before ++ l) (sym end.split) in
          subst (λ (parts : List Input). AreFed logs parts c.finish_part.new.fed) parts (c.in_ok-finish_part.ensures logs (before ++ end.front) end.last (I.fed logs before end.front fed end.are) end.is);
    }

pub returns : goal.returns
returns c = λ logs before more fed all.
    let I = c.loop-part.invariant in
    let rest = c.loop-part.part-iterator in
    let yielded = all_yielded c.args.parts.items c.loop-part.yielded (into_iter_items rest) I.rest (omega (arith, rest.rest.ok.0, c.in-None.ensures.steps.0)) in
    I.fed logs before more fed (subst (AllZip IsPart more) yielded all)
