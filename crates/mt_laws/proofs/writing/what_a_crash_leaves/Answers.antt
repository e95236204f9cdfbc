use Rattle.mt_laws.proofs.LeftBlocks.{whole_left, anything_left, part_left, torn_left}
use Rattle.mt_laws.proofs.writing.what_a_crash_leaves.Goals as goal

pub returns : goal.returns
returns c = record { whole = whole_left; anything = anything_left; part = part_left; torn = torn_left }
