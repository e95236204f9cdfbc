use Rattle.std.proofs.Common.{◌<◌, ◌%◌, ◌^◌, ◌++◌, List, drop, length}
use Rattle.std.specs.Prelude.{All}
use Rattle.mt_words.specs.declared.update.Update.{Update}
use Rattle.mt_replay.specs.Steps.Merging.{IsMerging, numbered}
use Rattle.mt_replay.proofs.merging.add_part.Given as goal

-- the updates so far, and the texts below them, are merged
abbrev pub invariant-loop-at : goal.invariant-loop-at
invariant-loop-at l = record {
  within : All (λ number. number % 2 ^ l.bits < length l.texts) l.rest;
  merged : (d : Update) (first second later : List Update) → IsMerging first second l.initial.merged.items (l.entries ++ later) (numbered l.texts l.bits d l.numbers)
      → IsMerging first second l.merged.items (drop l.at l.entries ++ later) (numbered l.texts l.bits d l.rest);
}
