use Rattle.std.proofs.Common.{◌≡◌, All, vec_len}
use Rattle.mt_scan.specs.Advancing.{HoldsBufferOf}
use Rattle.mt_scan.proofs.slot.Rack.new.Given as goal

-- there is one full slot for each turn so far
abbrev pub invariant-loop-place : goal.invariant-loop-place
invariant-loop-place l = (vec_len l.slots ≡ l._place) × All (HoldsBufferOf l.size) l.slots.items
