-- Hauls: the pieces that workers replayed, and what is missing of a job.
use Rattle.std.specs.Prelude.{◌≡◌, ℕ, ◌<◌, ◌≤◌, List, map, length, sum_by, All, IsTrue}
use Rattle.mt_words.specs.declared.fault.Fault.{Fault}
use Rattle.mt_words.specs.declared.fault.Fault.TheVariants as faults
use Rattle.mt_board.specs.Board.{PassView, times, times_drawn, SomeIsDone}
use Rattle.mt_tree.specs.Borders.{layer_walk}
use Rattle.mt_recover.specs.declared.haul.Haul.{Haul}
use Rattle.mt_recover.specs.declared.haul.Piece.{Piece}
use Rattle.mt_recover.specs.Job.{JobView, IsPieceOf}

-- the pieces that a haul holds, in the order in which they were drawn
abbrev pub held_by : Haul → List Piece
held_by haul = haul.pieces.items

-- the numbers of the pieces that a haul holds
abbrev pub numbers : Haul → List ℕ
numbers haul = map (λ piece. piece.number) (held_by haul)

-- a haul of this job: each piece that it holds is the job's piece of that number
pub record IsHaulOf (job : JobView) (haul : Haul) : Type 0 where
  pub same : haul.of.value ≡ job
  pub pieces : All (λ piece. IsPieceOf job piece.number (layer_walk piece.draft)) (held_by haul)

-- how often the hauls hold the piece of this number
abbrev pub times_held : ℕ → List Haul → ℕ
times_held number hauls = sum_by (λ haul. times number (numbers haul)) hauls

-- the least piece of the job that no haul holds
pub record IsFirstMissing (job : JobView) (hauls : List Haul) (number : ℕ) : Type 0 where
  pub within : number < job.board.total
  pub missing : times_held number hauls ≡ 0
  pub first : (other : ℕ) → other < number → 0 < times_held other hauls

-- each piece of the job is held by a haul
abbrev pub AreAllHeld : JobView → List Haul → Type 0
AreAllHeld job hauls = (number : ℕ) → number < job.board.total → 0 < times_held number hauls

-- the fault is `Missing` with the least piece that no haul holds, or it is `Memory`
abbrev pub IsLeftOut : JobView → List Haul → Fault → Type 0
IsLeftOut job hauls (faults.Missing piece) = IsFirstMissing job hauls piece
IsLeftOut job hauls faults.Memory = Unit {0}
IsLeftOut job hauls fault = ⊥

-- all passes came back, one of them found that no piece is left, and a haul holds each piece that the passes drew
pub record AllCameBack (job : JobView) (hauls : List Haul) (passes : List PassView) : Type 0 where
  pub many : job.board.passes ≤ length passes
  pub done : SomeIsDone passes
  pub held : (number : ℕ) → 0 < times_drawn number passes → 0 < times_held number hauls

-- the result of a worker that drew in one call only: its pass, which found that no piece is left, and the haul of all that it drew
pub record HasWorked (job : JobView) (pass : PassView) (haul : Haul) : Type 0 where
  pub board : pass.board ≡ job.board
  pub done : IsTrue pass.done
  pub is_haul : IsHaulOf job haul
  pub draws : pass.draws ≡ numbers haul
