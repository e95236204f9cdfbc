-- The segments that scanned files are.
use Rattle.std.specs.Prelude.{◌≡◌, ◌<◌, ◌⊎◌, ℕ, Option, IsSomeAnd, List, take, slice_get}
use Rattle.std.specs.List.{Any}
use Rattle.mt_record.specs.declared.feed.head.Segment.{Segment}
use Rattle.mt_record.specs.declared.front.Rest.TheVariants.{Torn}
use Rattle.mt_record.specs.declared.front.LogFront.{LogFront}
use Rattle.mt_scan.specs.Segments.{IsEarlier, IsJustBefore, IsSame}

-- `P` holds for the segment of one of the scanned files
abbrev pub HasFront : List LogFront → (Option Segment → Type 0) → Type 0
HasFront fronts P = Any (λ front. P front.head.segment) fronts

-- scanned file i is the same segment as one before it
abbrev pub IsFrontDoubled : List LogFront → ℕ → Type 0
IsFrontDoubled fronts i = IsSomeAnd (slice_get fronts i) (λ front. HasFront (take i fronts) (IsSame front.head.segment))

-- the scanned file is torn, but a later segment of its worker's log is there
abbrev pub IsFrontTornAmid : List LogFront → LogFront → Type 0
IsFrontTornAmid fronts front = (front.rest ≡ Torn) × HasFront fronts (IsEarlier front.head.segment)

-- updates at or after `begin` may be missing before the scanned file
abbrev pub HasFrontGap : ℕ → List LogFront → LogFront → Type 0
HasFrontGap begin fronts front =
    (HasFront fronts (λ other. IsEarlier other front.head.segment) × (HasFront fronts (λ other. IsJustBefore other front.head.segment) → ⊥)) ⊎ ((HasFront fronts (λ other. IsEarlier other front.head.segment) → ⊥) × (begin < front.head.from))
