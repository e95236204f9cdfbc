use Rattle.mt_words.specs.Limits.{limits_of}
use Rattle.mt_record.specs.Salvage.{StartsNowhere}
use Rattle.mt_record.proofs.salvage.place_in.Given as goal

abbrev pub invariant-loop-at : goal.invariant-loop-at
invariant-loop-at l = StartsNowhere l.items (limits_of l.format) l.bytes l.at
