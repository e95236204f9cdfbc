use Rattle.mt_laws.proofs.ChosenParts.{chosen_left}
use Rattle.mt_laws.proofs.part_files.a_resume_leaves_the_chosen_parts.Goals as goal

pub returns : goal.returns
returns c = λ left parts facts files are. chosen_left left parts facts files are
