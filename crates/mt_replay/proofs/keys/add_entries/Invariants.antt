use Rattle.std.proofs.Common.{◌≡◌, ◌++◌, map, take}
use Rattle.std.specs.Prelude.{All}
use Rattle.mt_words.specs.Limits.{widest}
use Rattle.mt_words.specs.Words.{IsKey}
use Rattle.mt_words.specs.Walks.{joined}
use Rattle.mt_replay.specs.Cuts.{keys_in}
use Rattle.mt_replay.proofs.keys.add_entries.Given as goal

-- keys of the first lists are added
abbrev pub invariant-loop-updates : goal.invariant-loop-updates
invariant-loop-updates l = record {
  lawful : All (IsKey widest) (map (λ key. key.now) l.keys.items);
  all : l.fn.distance ≡ 1 → map (λ key. key.now) l.keys.items ≡ map (λ key. key.now) l.fn.keys.items ++ keys_in (joined (take l.updates-index l.entries));
}
