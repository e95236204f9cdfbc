use Rattle.std.proofs.Common.{◌<◌, ◌%◌, ◌^◌, [], length}
use Rattle.std.specs.Prelude.{All}
use Rattle.mt_words.specs.declared.update.Update.{Update}
use Rattle.mt_replay.specs.Steps.Merging.{IsMerging, numbered, updates_of}
use Rattle.mt_replay.proofs.merging.merge.Given as goal

-- the updates of the part, and the texts so far, are merged
abbrev pub invariant-loop-number : goal.invariant-loop-number
invariant-loop-number l = record {
  within : All (λ number. number % 2 ^ l.bits < length l.texts) l.rest;
  merging : (d : Update) → IsMerging (updates_of l.part) (numbered l.texts l.bits d l.numbers) l.merged.items [] (numbered l.texts l.bits d l.rest);
}

abbrev pub decreases-loop-number : goal.decreases-loop-number
decreases-loop-number l = length l.rest
