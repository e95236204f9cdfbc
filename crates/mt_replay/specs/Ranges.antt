-- Updates that are dealt to the pieces of their keys.
use Rattle.std.specs.Prelude.{ℕ, ◌+◌, List, length, map}
use Rattle.std.specs.List.{range_with_len}
use Rattle.mt_words.specs.declared.update.Update.{Update}
use Rattle.mt_replay.specs.Cuts.{updates_in}

-- the updates of each piece that the cuts make, in the order of the pieces
abbrev pub dealt_by : List (List ℕ) → List Update → List (List Update)
dealt_by cuts updates = map (λ i. updates_in cuts i updates) (range_with_len 0 (length cuts + 1))
