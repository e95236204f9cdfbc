use Rattle.mt_tree.proofs.Behind.{own_followed}
use Rattle.mt_tree.proofs.layer.push_own.Goals as goal

pub returns : goal.returns
returns c = own_followed _ _ _ _ _ c.requires.can c.requires.apart c.in_ok-place_for.ensures.lawful c.in_ok-place_for.ensures.links c.in_ok-place_for.ensures.pairs c.in_ok-push.ensures.items
