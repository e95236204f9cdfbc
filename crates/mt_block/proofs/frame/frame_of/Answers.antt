use Rattle.std.proofs.Common.{◌<◌, ◌^◌}
use Rattle.std.proofs.lemmas.List.Elements.{All-from_get_or}
use Rattle.mt_block.proofs.frame.frame_of.Goals as goal

pub returns-clause-body : goal.returns-clause-body
returns-clause-body c = (All-from_get_or (λ b. b < 2 ^ 8) c.args.body.now 0 (λ i h. (c.type_inv.body i).fits), c.requires)
