use Rattle.std.proofs.Common.{◌≡◌, ◌++◌, take}
use Rattle.std.specs.List.{flat_map}
use Rattle.mt_record.specs.Parts.{entry_spelling}
use Rattle.mt_record.proofs.encode.parts.append_rest.Given as goal

-- the first entries were appended
abbrev pub invariant-loop-entry : goal.invariant-loop-entry
invariant-loop-entry l = l.out.items ≡ l.fn.out.items ++ flat_map entry_spelling (take l.entry-index l.entries)
