use Rattle.std.specs.Prelude.{◌↔◌}
use Rattle.mt_words.specs.Limits.{limits_of}
use Rattle.mt_record.specs.Salvage.{GoOn}
use Rattle.mt_record.proofs.Salvages.{GoOnAfter}
use Rattle.mt_record.proofs.salvage.go_on.Given as goal

-- items go on if they go on after those that were read
abbrev pub invariant-loop-nth : goal.invariant-loop-nth
invariant-loop-nth l = GoOn l.items (limits_of l.format) l.enough l.bytes ↔ GoOnAfter l.items l.format l.enough l.nth l.rest
