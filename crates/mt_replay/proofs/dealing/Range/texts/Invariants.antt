use Rattle.std.proofs.Common.{◌≡◌, take}
use Rattle.mt_words.specs.Walks.{joined}
use Rattle.mt_replay.proofs.dealing.Range.texts.Given as goal

-- the texts of the lists so far
abbrev pub invariant-loop-list : goal.invariant-loop-list
invariant-loop-list l = l.texts.items ≡ joined (take l.list-index l.list-items)
