-- The steps of assembling: the drafts of pieces in the order of their numbers.
use Rattle.std.specs.Prelude.{◌≡◌, ℕ, ◌<◌, List, map, length, Contains, slice_index_or}
use Rattle.std.specs.List.{flat_map}
use Rattle.mt_words.specs.declared.fault.Fault.{Fault}
use Rattle.mt_words.specs.declared.fault.Fault.TheVariants as faults
use Rattle.mt_board.specs.Board.{times}
use Rattle.mt_tree.specs.Borders.{DraftView}
use Rattle.mt_recover.specs.declared.haul.Haul.{Haul}
use Rattle.mt_recover.specs.declared.haul.Piece.{Piece}
use Rattle.mt_recover.specs.Hauls.{held_by}

-- the pieces of all hauls
abbrev pub all_held : List Haul → List Piece
all_held hauls = flat_map held_by hauls

-- each draft is that of a piece whose number is the place of the draft
abbrev pub AreDraftsOf : List Piece → List DraftView → Type 0
AreDraftsOf pieces drafts = (k : ℕ) (d : DraftView) → k < length drafts → Contains pieces (record { number = k; draft = slice_index_or drafts k d })

-- how many pieces have this number
abbrev pub times_numbered : ℕ → List Piece → ℕ
times_numbered number pieces = times number (map (λ piece. piece.number) pieces)

-- the least number below the count that no piece has
pub record IsFirstLacking (pieces : List Piece) (count number : ℕ) : Type 0 where
  pub within : number < count
  pub lacking : times_numbered number pieces ≡ 0
  pub first : (other : ℕ) → other < number → 0 < times_numbered other pieces

-- the fault is `Missing` with the least number below the count that no piece has, or it is `Memory`
abbrev pub IsLacking : List Piece → ℕ → Fault → Type 0
IsLacking pieces count (faults.Missing piece) = IsFirstLacking pieces count piece
IsLacking pieces count faults.Memory = Unit {0}
IsLacking pieces count fault = ⊥
