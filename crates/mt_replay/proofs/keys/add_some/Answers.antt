use Rattle.std.proofs.Common.{◌≡◌, ◌<◌, length, ap, ◌∙◌, arith}
use Rattle.std.specs.Prelude.{slice_index_or}
use Rattle.std.proofs.lemmas.Grind.{common_steps}
use Rattle.mt_replay.proofs.DistinctLemmas.{every_place, every_count}
use Rattle.mt_replay.proofs.keys.add_some.Goals as goal

pub loop-number-preserved : goal.loop-number-preserved
loop-number-preserved c = record {
  lawful = grind (arith, common_steps);
  all = λ one.
      let updates = c.args.updates.now in
      let number = c.loop-number.number in
      let below : number < length updates = omega (arith, every_count c.len.result c.args.distance one) in
      let is : c.get.result ≡ slice_index_or updates number c.get.result = c.get.ensures c.get.result ∙ ap (λ n. slice_index_or updates n c.get.result) (every_place number c.args.distance one) in
      let so_far = c.loop-number.invariant.all one in
      grind (arith, common_steps);
}
