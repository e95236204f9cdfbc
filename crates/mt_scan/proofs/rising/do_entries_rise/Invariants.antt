use Rattle.std.proofs.Common.{take}
use Rattle.mt_scan.specs.Steps.Checkpoints.{none_or_one}
use Rattle.mt_scan.proofs.RisingLemmas.{RiseTo, keys_in}
use Rattle.mt_scan.proofs.rising.do_entries_rise.Given as goal

-- the keys of the parts so far rise, and this is the last of them
abbrev pub invariant-loop-text : goal.invariant-loop-text
invariant-loop-text l = RiseTo (keys_in (take l.text-index l.texts)) (none_or_one l.last)
