-- Reaches of several files.
use Rattle.std.proofs.Common.{inl, inr, ℕ, suc, ◌<◌, ◌≤◌, List, [], ◌∷◌, length, get_or, subst, arith}
use Rattle.std.specs.Prelude.{Contains}
use Rattle.std.specs.List.{AllZip}
use Rattle.mt_words.proofs.Elements.{no_element, head_or_tail}
use Rattle.mt_writer.specs.Files.{OpenFile}
use Rattle.mt_writer.specs.Journals.{IsReached}

-- a file is reached as far as the least of all reaches
pub all_reached : (least : ℕ) (reaches : List ℕ) (files : List OpenFile) → ((k : ℕ) → k < length reaches → least ≤ get_or reaches k 0) → AllZip IsReached reaches files
    → (file : OpenFile) → Contains files file → IsReached least file
all_reached least [] [] below are file at = absurd (no_element file at)
all_reached least [] (f ∷ fs) below are file at = absurd are
all_reached least (r ∷ rs) [] below are file at = absurd (no_element file at)
all_reached least (r ∷ rs) (f ∷ fs) below are file at = elim (head_or_tail f file fs at) as (λ _. IsReached least file) [
  | inl e ↦ subst (IsReached least) e (λ time lt. are.0 time (let first = below 0 (omega arith) in omega (arith, first, lt)))
  | inr later ↦ all_reached least rs fs (λ k lt. below (suc k) (omega (arith, lt))) are.1 file later
]
