use Rattle.std.proofs.Common.{◌≡◌, ◌++◌, map, take}
use Rattle.std.specs.Prelude.{All}
use Rattle.mt_words.specs.Limits.{widest}
use Rattle.mt_words.specs.Words.{IsKey}
use Rattle.mt_replay.specs.Cuts.{keys_in}
use Rattle.mt_replay.proofs.keys.add_some.Given as goal

-- keys of the first updates are added
abbrev pub invariant-loop-number : goal.invariant-loop-number
invariant-loop-number l = record {
  lawful : All (IsKey widest) (map (λ key. key.now) l.keys.items);
  all : l.fn.distance ≡ 1 → map (λ key. key.now) l.keys.items ≡ map (λ key. key.now) l.fn.keys.items ++ keys_in (take l.number l.updates);
}
