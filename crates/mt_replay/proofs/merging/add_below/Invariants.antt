use Rattle.std.proofs.Common.{◌≡◌, ◌<◌, ◌%◌, ◌^◌, ◌∷◌, List, length}
use Rattle.std.specs.Prelude.{All}
use Rattle.mt_words.specs.declared.update.Update.{Update}
use Rattle.mt_replay.specs.Steps.Merging.{IsMerging, numbered}
use Rattle.mt_replay.proofs.merging.add_below.Given as goal

-- the texts so far are merged
abbrev pub invariant-loop-number : goal.invariant-loop-number
invariant-loop-number l = record {
  within : All (λ number. number % 2 ^ l.bits < length l.texts) l.rest;
  merged : (d : Update) (first second later : List Update) (entry : Update) → entry.key ≡ l.key → IsMerging first second l.initial.merged.items (entry ∷ later) (numbered l.texts l.bits d l.numbers)
      → IsMerging first second l.merged.items (entry ∷ later) (numbered l.texts l.bits d l.rest);
}

abbrev pub decreases-loop-number : goal.decreases-loop-number
decreases-loop-number l = length l.rest
