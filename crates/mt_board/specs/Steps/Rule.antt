-- The rule that every step at a board's table keeps, and what each step guarantees its caller.
use Rattle.std.specs.Prelude.{◌≡◌, ℕ, ◌+◌, ◌-◌, ◌^◌, ◌<◌, ◌≤◌, Bool, List, [], ◌∷◌, ◌++◌, map, length, min, sum_by, slice_index, All, if◌then◌else◌, nat_lt}
use mathlib.Core.Option.{some}
use lib.ListN.{get_elem?}
use Rattle.atomic_table.specs.Seated.{TableId}
use Rattle.atomic_table.specs.Table.{State, Me, Step}
use Rattle.mt_board.specs.declared.view.Counts.{Counts}
use Rattle.mt_board.specs.declared.view.SeatView.{SeatView}
use Rattle.mt_board.specs.Board.{PassView, times, once_below, least_of, nothing_noted}

-- the table between two steps: its words, and the views of all its seats
abbrev pub BoardTable : Type 0
BoardTable = State (Unit {0}) SeatView

-- a seat: its view, and the slots that it holds, which are none
abbrev pub Sitter : Type 0
Sitter = Me (Unit {0}) SeatView

-- the view of a seat that represents this number of passes and has done nothing
abbrev pub idle_view : Counts → ℕ → SeatView
idle_view k parts = record { counts = k; parts = parts; draws = []; done = 0; noted = nothing_noted; looks = [] }

-- the view of the first seat: it represents all passes and has done nothing
abbrev pub first_view : Counts → SeatView
first_view k = idle_view k k.passes

-- the number of passes that all seats together represent
abbrev pub parts_in : List SeatView → ℕ
parts_in views = sum_by (λ (v : SeatView). v.parts) views

-- how often x was drawn
abbrev pub drawn_in : ℕ → List SeatView → ℕ
drawn_in x views = sum_by (λ (v : SeatView). times x v.draws) views

-- how many passes found that no number is left
abbrev pub done_in : List SeatView → ℕ
done_in views = sum_by (λ (v : SeatView). v.done) views

-- the least number that any seat noted
abbrev pub noted_in : List SeatView → ℕ
noted_in views = least_of (map (λ (v : SeatView). v.noted) views)

-- a pass with this seat, as contracts see it
abbrev pub pass_view : TableId → ℕ → Bool → SeatView → PassView
pass_view t number done v = record { board = record { table = t; total = v.counts.total; passes = v.counts.passes }; number = number; draws = v.draws; done = done; noted = v.noted; looks = v.looks }

-- the view of a seat that was joined to another: it represents no pass and has done nothing
abbrev pub spent_view : SeatView
spent_view = idle_view (record { total = 0; passes = 0 }) 0

-- the seat has done nothing
pub record IsIdle (v : SeatView) : Type 0 where
  pub draws : v.draws ≡ []
  pub done : v.done ≡ 0
  pub noted : v.noted ≡ nothing_noted
  pub looks : v.looks ≡ []

-- The rule for one seat. It has the board's counts if it represents a pass. At most as many passes are done as it represents. If it represents
-- none, it has done nothing. No look found a number below `least`.
pub record IsSeatOf (k : Counts) (least : ℕ) (v : SeatView) : Type 0 where
  pub counts : 0 < v.parts → v.counts ≡ k
  pub done : v.done ≤ v.parts
  pub idles : v.parts ≡ 0 → IsIdle v
  pub looks : All (λ look. least ≤ look) v.looks

-- the rule for the two words and the views of all seats
pub record IsBoardState (k : Counts) (next least : ℕ) (views : List SeatView) : Type 0 where
  -- the counts are so small that the next number never wraps around
  pub small : k.total + k.passes + 1 < 2 ^ 64
  pub parts : parts_in views ≡ k.passes
  -- the numbers below both the next one and the total were drawn, each once, and no other
  pub draws : (x : ℕ) → drawn_in x views ≡ once_below x (min next k.total)
  pub done : 0 < done_in views → k.total ≤ next
  -- after all numbers are drawn, each pass takes at most one more step
  pub bound : next ≤ k.total + done_in views
  pub noted : least ≡ noted_in views
  pub each : (id : ℕ) (v : SeatView) → get_elem? views id ≡ some v → IsSeatOf k least v

-- the rule: it holds between any two steps
abbrev pub IsBoard : Counts → BoardTable → Type 0
IsBoard k s = (length s.words ≡ 2) × IsBoardState k (slice_index s.words 0) (slice_index s.words 1) s.views

-- a seat's view after a draw that found the number n
abbrev pub drew : ℕ → SeatView → SeatView
drew n v = if nat_lt n v.counts.total then record v { draws = v.draws ++ n ∷ [] } else record v { done = v.done + 1 }

-- a draw that found n changes the view as `drew` says; if n is below the total, it is above all that the seat drew before
abbrev pub Draws : Step (Unit {0}) → Sitter → ℕ → Sitter → Type 0
Draws s me n me' = (me' ≡ (drew n me.0, me.1)) × (n < me.0.counts.total → All (λ drawn. drawn < n) me.0.draws)

abbrev pub Notes : Step (Unit {0}) → Sitter → ℕ → Sitter → Type 0
Notes s me n me' = me' ≡ (record me.0 { noted = min me.0.noted s.first }, me.1)

-- a look that found n adds it to the view, and n is at most what this seat noted or found before
abbrev pub Looks : Step (Unit {0}) → Sitter → ℕ → Sitter → Type 0
Looks s me n me' = (me' ≡ (record me.0 { looks = me.0.looks ++ n ∷ [] }, me.1)) × (n ≤ me.0.noted) × All (λ look. n ≤ look) me.0.looks

-- the view of a seat after the seat of one pass was split off, and the view of that new seat
abbrev pub without_one : SeatView → SeatView
without_one v = record v { parts = v.parts - 1 }

abbrev pub one_part : SeatView → SeatView
one_part v = idle_view v.counts 1

-- the view of two seats after they were joined
abbrev pub both_views : SeatView → SeatView → SeatView
both_views v w = record { counts = v.counts; parts = v.parts + w.parts; draws = v.draws ++ w.draws; done = v.done + w.done; noted = min v.noted w.noted; looks = v.looks ++ w.looks }
