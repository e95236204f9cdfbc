use Rattle.std.proofs.Common.{[], ◌∷◌, ◌++◌, Some, length, refl, sym, subst}
use Rattle.mt_recover.specs.Fed.{AreFed}
use Rattle.mt_recover.proofs.FedLemmas.{part_more, part_memory}
use Rattle.mt_recover.proofs.fed.Fed.add_part.Goals as goal

pub invariant_of-self-2 : goal.invariant_of-self-2
invariant_of-self-2 c =
    let held = c.self.inside.outcomes in
    let was = c.self.invariant in
    let had = c.requires in (
      was.0,
      was.1 ++ Some had.0 ∷ [],
      part_more was.0 was.1 (record { logs = held.logs.items; parts = held.parts.items }) c.push.new.self.items (length held.parts.items) (Some had.0) c.finish_part.result
          refl (c.finish_part.ensures.scan had.0 had.1, part_memory 0 c.finish_part.result (c.finish_part.ensures.fault 0) c.finish_part.ensures.no_source) c.in_ok-push.ensures.items was.2,
    )

pub returns-clause-added : goal.returns-clause-added
returns-clause-added c = λ logs parts bytes fed had.
    let held = c.self.inside.outcomes in
    part_more logs parts (record { logs = held.logs.items; parts = held.parts.items }) c.push.new.self.items (length held.parts.items) (Some bytes) c.finish_part.result
    refl (c.finish_part.ensures.scan bytes had, part_memory 0 c.finish_part.result (c.finish_part.ensures.fault 0) c.finish_part.ensures.no_source) c.in_ok-push.ensures.items (subst (AreFed logs parts) (sym c.self.view_is) fed)
