use Rattle.std.proofs.Common.{List, sym, subst}
use Rattle.std.specs.Prelude.{Option}
use Rattle.mt_words.specs.declared.update.Update.{Update}
use Rattle.mt_replay.specs.Cuts.{InKeyOrder}
use Rattle.mt_replay.specs.Steps.Merging.{updates_of}
use Rattle.mt_replay.proofs.MergeLemmas.{none_in_order}
use Rattle.mt_replay.proofs.parts.len_of.Goals as goal

pub returns-in-Some : goal.returns-in-Some
returns-in-Some c = subst (λ (part : Option (List Update)). InKeyOrder (updates_of part)) (sym c.in-Some.is) c.len.ensures.in_order

pub returns-in-None : goal.returns-in-None
returns-in-None c = subst (λ (part : Option (List Update)). InKeyOrder (updates_of part)) (sym c.in-None.is) none_in_order
