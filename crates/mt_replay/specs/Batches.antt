-- Batches: log records that are dealt together.
use Rattle.std.specs.Prelude.{ℕ, List}
use Rattle.std.specs.List.{flat_map}
use Rattle.mt_words.specs.declared.update.Update.{Update}

-- the updates of a batch, and the number of records that they come from
pub record BatchView : Type 0 where
  pub updates : List Update
  pub records : ℕ

-- the updates of some batches, one batch after the other
abbrev pub batched : List BatchView → List Update
batched batches = flat_map (λ batch. batch.updates) batches
