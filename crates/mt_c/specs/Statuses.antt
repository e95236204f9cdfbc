-- The statuses that a call may answer, and when.
use Rattle.std.specs.Prelude.{◌≡◌, ◌≢◌, ◌⊎◌, ℕ, List, [], ◌∷◌}
use Rattle.mt_c.specs.declared.status.TheConstants.{DONE, WRONG, FAULT}

-- the status is one of these, and no other number
abbrev pub IsOneOf : List ℕ → ℕ → Type 0
IsOneOf [] status = ⊥
IsOneOf (one ∷ []) status = status ≡ one
IsOneOf (one ∷ others) status = (status ≡ one) ⊎ IsOneOf others status

-- the call is refused if and only if it lacks what it needs
abbrev pub IsRefusedUnless : Type 0 → ℕ → Type 0
IsRefusedUnless Needed status = (Needed → status ≢ WRONG) × ((Needed → ⊥) → status ≡ WRONG)

-- the status tells whether the bytes show a fault, if it tells anything of them
pub record IsJudged {F : Type 0} (Shows : F → Type 0) (status : ℕ) : Type 0 where
  pub sound : status ≡ DONE → (fault : F) → Shows fault → ⊥
  pub faulty : status ≡ FAULT → (fault : F) × Shows fault
