use Rattle.std.proofs.Common.{◌≡◌, ◌++◌, map, take}
use Rattle.std.specs.Prelude.{All}
use Rattle.mt_words.specs.Limits.{widest}
use Rattle.mt_words.specs.Words.{IsKey}
use Rattle.mt_replay.specs.Cuts.{keys_in}
use Rattle.mt_replay.proofs.keys.add_survivors.Given as goal

-- the keys of the first survivors are added
abbrev pub invariant-loop-update : goal.invariant-loop-update
invariant-loop-update l = record {
  lawful : All (IsKey widest) (map (λ key. key.now) l.keys.items);
  all : map (λ key. key.now) l.keys.items ≡ map (λ key. key.now) l.fn.keys.items ++ keys_in (take l.update-index l.update-items);
}
