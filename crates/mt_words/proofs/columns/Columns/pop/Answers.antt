use Rattle.std.proofs.Common.{subst}
use Rattle.std.specs.Option.{option_to_list}
use Rattle.mt_words.specs.Limits.{widest}
use Rattle.mt_words.specs.Words.{AreColumns}
use Rattle.mt_words.proofs.Rising.{columns_front}
use Rattle.mt_words.proofs.columns.Columns.pop.Goals as goal

pub invariant_of-self : goal.invariant_of-self
invariant_of-self c = columns_front widest c.pop.new.self.items (option_to_list c.pop.result) (subst (AreColumns widest) c.pop.ensures.items c.self.invariant)
