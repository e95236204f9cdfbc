-- Bytes in blocks.
use Rattle.std.specs.Prelude.{◌≡◌, ℕ, ◌<◌, List, [], ◌∷◌, ◌++◌, length, All}
use Rattle.std.specs.List.{flat_map}
use Rattle.mt_block.specs.declared.block.TheConstants.{MOST_BODY}
use Rattle.mt_block.specs.Blocks.{IsBody, blocks}

-- the bodies, one after the other
abbrev pub joined : List (List ℕ) → List ℕ
joined bodies = flat_map (λ body. body) bodies

-- a body with these bytes, or none for no bytes
abbrev pub bodies_of : List ℕ → List (List ℕ)
bodies_of [] = []
bodies_of left = left ∷ []

-- The blocks have these bytes: as many as there are with `MOST_BODY` bytes, and what is left.
pub record IsSealing (mark : ℕ) (bytes sealed : List ℕ) : Type 0 where
  pub full : List (List ℕ)
  pub left : List ℕ
  pub joins : bytes ≡ joined full ++ left
  pub are_full : All (λ body. length body ≡ MOST_BODY) full
  pub few : length left < MOST_BODY
  pub are_bodies : All IsBody (full ++ bodies_of left)
  pub spelled : sealed ≡ blocks mark (full ++ bodies_of left)
