use Rattle.mt_laws.proofs.SomePart.{part_or_fault, known_of}
use Rattle.mt_laws.proofs.readings.some_part.Goals as goal

pub returns : goal.returns
returns c = record { part = part_or_fault; known = known_of }
