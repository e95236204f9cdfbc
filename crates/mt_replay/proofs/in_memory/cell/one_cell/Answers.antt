use Rattle.mt_replay.proofs.InMemory.{one_group}
use Rattle.mt_replay.proofs.in_memory.cell.one_cell.Goals as goal

pub returns : goal.returns
returns c = one_group
