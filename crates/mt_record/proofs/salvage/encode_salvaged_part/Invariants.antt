use Rattle.std.proofs.Common.{◌≡◌, ◌++◌, drop}
use Rattle.mt_record.specs.Parts.{part_head_bytes}
use Rattle.mt_record.specs.Salvage.{bytes_of}
use Rattle.mt_record.proofs.salvage.encode_salvaged_part.Given as goal

abbrev pub invariant-loop-entry : goal.invariant-loop-entry
invariant-loop-entry l = l.bytes.items ++ bytes_of (drop l.entry-index l.entries) ≡ part_head_bytes l.fn.head ++ bytes_of l.entries
