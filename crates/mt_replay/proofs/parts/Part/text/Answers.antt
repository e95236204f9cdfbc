use Rattle.std.proofs.Common.{◌-◌, List, length, drop, ap, arith}
use Rattle.std.proofs.lemmas.List.{length-take}
use Rattle.mt_words.specs.declared.update.Update.{Update}
use Rattle.mt_replay.proofs.parts.Part.text.Goals as goal

pub overflow_add-self-inside : goal.overflow_add-self-inside
overflow_add-self-inside c =
    let part = c.self.inside in
    omega (arith, c.requires, ap (λ (us : List Update). length us) c.self.view_is, length-take (part.end - part.start) (drop part.start part.updates.now), c.self.invariant.1)
