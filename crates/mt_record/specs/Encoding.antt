-- The headers that encoders append.
use Rattle.std.specs.Prelude.{ℕ, Some, None}
use Rattle.mt_words.specs.declared.limits.Format.{Format}
use Rattle.mt_words.specs.declared.limits.Format.TheVariants.{Two}
use Rattle.mt_record.specs.declared.feed.head.Head.{Head}

-- the header of a log with this format and this `from`, which is no segment
abbrev pub head_of : Format → ℕ → Head
head_of format from = record { format = format; from = from; segment = None }

-- the header of this segment of this worker's log, with this `from`
abbrev pub segment_head : ℕ → ℕ → ℕ → Head
segment_head from worker number = record { format = Two; from = from; segment = Some (record { worker = worker; number = number }) }
