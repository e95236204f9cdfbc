use Rattle.std.proofs.Common.{◌++◌, List, length}
use Rattle.mt_words.specs.Limits.{limits_of}
use Rattle.mt_record.specs.declared.salvage.Found.{Found}
use Rattle.mt_record.specs.Salvage.{AreFound}
use Rattle.mt_record.proofs.salvage.find_items.Given as goal

-- the items are these, if those of the rest follow
abbrev pub invariant-items : goal.invariant-items
invariant-items l = (others : List Found) → AreFound l.items (limits_of l.format) l.rest others → AreFound l.items (limits_of l.format) l.bytes (l.all.items ++ others)

abbrev pub decreases-items : goal.decreases-items
decreases-items l = length l.rest
