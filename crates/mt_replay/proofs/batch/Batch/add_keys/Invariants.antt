use Rattle.std.proofs.Common.{map}
use Rattle.std.specs.Prelude.{All}
use Rattle.mt_words.specs.Limits.{widest}
use Rattle.mt_words.specs.Words.{IsKey}
use Rattle.mt_replay.proofs.batch.Batch.add_keys.Given as goal

-- the keys so far are lawful
abbrev pub invariant-loop-share : goal.invariant-loop-share
invariant-loop-share l = All (IsKey widest) (map (λ key. key.now) l.keys.items)
