use Rattle.mt_block.proofs.Files.{one_file_of, not_both_of, one_damage_of}
use Rattle.mt_block.proofs.laws.one_file.Goals as goal

pub returns-clause-one_file : goal.returns-clause-one_file
returns-clause-one_file c = one_file_of

pub returns-clause-not_both : goal.returns-clause-not_both
returns-clause-not_both c = not_both_of

pub returns-clause-one_damage : goal.returns-clause-one_damage
returns-clause-one_damage c = one_damage_of
