use Rattle.std.proofs.Common.{[], ◌∷◌, ◌++◌, Some, sym, subst, arith}
use Rattle.mt_recover.specs.Fed.{AreFed}
use Rattle.mt_recover.proofs.FedLemmas.{log_more}
use Rattle.mt_recover.proofs.fed.Fed.add_log.Goals as goal

pub invariant_of-self-2 : goal.invariant_of-self-2
invariant_of-self-2 c =
    let held = c.self.inside.outcomes in
    let was = c.self.invariant in
    let had = c.requires in (
      was.0 ++ Some had.0 ∷ [],
      was.1,
      log_more was.0 was.1 (record { logs = held.logs.items; parts = held.parts.items }) c.push.new.self.items c.len-log.result (Some had.0) c.finish_log.result
          (omega (arith, c.len-log.ensures, held.logs.ok.0)) (c.finish_log.ensures.scan had.0 had.1, c.finish_log.ensures.fault had.0 had.1) c.in_ok-push.ensures.items was.2,
    )

pub returns-clause-added : goal.returns-clause-added
returns-clause-added c = λ logs parts bytes fed had.
    let held = c.self.inside.outcomes in
    log_more logs parts (record { logs = held.logs.items; parts = held.parts.items }) c.push.new.self.items c.len-log.result (Some bytes) c.finish_log.result
    (omega (arith, c.len-log.ensures, held.logs.ok.0)) (c.finish_log.ensures.scan bytes had, c.finish_log.ensures.fault bytes had) c.in_ok-push.ensures.items (subst (AreFed logs parts) (sym c.self.view_is) fed)
