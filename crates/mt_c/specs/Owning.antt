-- What a place of C owns.
use Rattle.std.specs.Prelude.{Option, None, Some}
use mir.Syntax.{Ty}
use base.Fml.{Fml, ftrue}
use denote.RattleType.{RattleType}
use denote.RawPtr.{Ptr}
use Rattle.std.specs.contracts.alloc.Global as global
use Rattle.std.specs.Box.Ownership.{box_owns}

-- the allocator of the C library, which has no state
abbrev pub heap : (global.the_row).Denot
heap = record { memory = record { seal = tt } }

-- a boxed value at the pointer, with the right to free its block; or nothing
abbrev pub boxed_at : (Ty → Ptr → Fml) → (R : RattleType) → Ptr → Option R.Denot → Fml
boxed_at frees R at None = ftrue
boxed_at frees R at (Some value) = box_owns frees R at value
