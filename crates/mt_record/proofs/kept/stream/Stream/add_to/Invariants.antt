use Rattle.std.proofs.Common.{◌≡◌, ◌++◌, take}
use Rattle.mt_words.specs.Walks.{joined}
use Rattle.mt_record.proofs.kept.stream.Stream.add_to.Given as goal

-- the texts of the blocks so far
abbrev pub invariant-loop-block : goal.invariant-loop-block
invariant-loop-block l = l.texts.items ≡ l.initial.texts.items ++ joined (take l.block-index l.block-items)
