use Rattle.std.proofs.Common.{[]}
use Rattle.mt_words.proofs.Elements.{no_element}
use Rattle.mt_laws.proofs.ChosenParts.{fresh_parts, of_none}
use Rattle.mt_laws.proofs.part_files.the_parts_of_a_fresh_start.Goals as goal

pub returns-clause-start : goal.returns-clause-start
returns-clause-start c = λ logs parts pairs checkpoint files store is all synced. fresh_parts pairs checkpoint files store.walk.map is all synced

pub returns-clause-none : goal.returns-clause-none
returns-clause-none c = of_none [] [] (record { are_known = tt; synced = λ file at. absurd (no_element file at) })
