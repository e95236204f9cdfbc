use Rattle.std.proofs.Common.{◌∙◌, List, [], ◌∷◌, ◌++◌, sym, ap, subst, append_assoc, arith}
use Rattle.std.specs.Vec.Iter.{into_iter_items}
use Rattle.std.specs.List.{AllZip}
use Rattle.mt_recover.specs.Fed.{Input, AreFed}
use Rattle.mt_c.specs.Added.{IsLog}
use Rattle.mt_c.proofs.Lasts.{has_last, none_more, all_yielded}
use Rattle.mt_c.proofs.inputs.finish_logs.Goals as goal

pub loop-log-init : goal.loop-log-init
loop-log-init c = record {
  rest = c.into_iter-log-iterator.ensures.into_iter_gives.0;
  fed = λ before parts more fed all. none_more IsLog (λ (logs : List Input). AreFed logs parts c.args.fed.now) before more all fed;
}

pub loop-log-preserved : goal.loop-log-preserved
loop-log-preserved c =
    let I = c.loop-log.invariant in
    record {
      rest = rw append_assoc (rw c.in-Some.ensures.steps.0 at I.rest);
      fed = λ before parts more fed all.
          let end = has_last IsLog more c.loop-log.yielded c.in-Some.log all in
          let logs = append_assoc before end.front (end.last ∷ []) ∙ ap (λ (l : List Input). before ++ l) (sym end.split) in
          subst (λ (logs : List Input). AreFed logs parts c.finish_log.new.fed) logs (c.in_ok-finish_log.ensures (before ++ end.front) parts end.last (I.fed before parts end.front fed end.are) end.is);
    }

pub returns : goal.returns
returns c = λ before parts more fed all.
    let I = c.loop-log.invariant in
    let rest = c.loop-log.log-iterator in
    let yielded = all_yielded c.args.logs.items c.loop-log.yielded (into_iter_items rest) I.rest (omega (arith, rest.rest.ok.0, c.in-None.ensures.steps.0)) in
    I.fed before parts more fed (subst (AllZip IsLog more) yielded all)
