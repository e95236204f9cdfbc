use Rattle.std.proofs.Common.{◌≡◌, ℕ, List, take, Contains}
use Rattle.std.specs.Prelude.{All}
use Rattle.mt_words.specs.declared.update.Update.{Update}
use Rattle.mt_replay.specs.Groups.{HasLawfulWrites, IsGroupOf}
use Rattle.mt_replay.proofs.replay.group_all.Given as goal

-- the group of the updates so far
abbrev pub invariant-loop-text : goal.invariant-loop-text
invariant-loop-text l = record {
  group : (key : List ℕ) → ((u : Update) → Contains (take l.text-index l.texts) u → u.key ≡ key) → IsGroupOf (take l.text-index l.texts) key l.group;
  lawful : All HasLawfulWrites (take l.text-index l.texts);
}
