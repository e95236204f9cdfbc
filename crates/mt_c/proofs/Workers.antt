-- What a worker's log has done.
use Rattle.std.proofs.Common.{◌≡◌, ◌⊎◌, inl, inr, ◌++◌, ◌∷◌, [], ℕ, List, subst}
use Rattle.mt_keeper.specs.Crews.{CrewView, Deed, HasDone, spent}
use Rattle.mt_c.specs.Borrowing.{BorrowerView}
use Rattle.mt_c.specs.Loans.{Did}

-- a call that is refused does nothing, or spends a stamp
pub did_at_most : (now crew : CrewView) (number : ℕ) (deeds : List Deed) (after : BorrowerView) → after.crew ≡ crew → after.number ≡ number → now ≡ crew
    → HasDone now.before after.log deeds ⊎ HasDone now.before after.log (deeds ++ spent ∷ []) → Did crew number deeds after ⊎ Did crew number (deeds ++ spent ∷ []) after
did_at_most now crew number deeds after own_crew own_number same (inl done) = inl (own_crew, own_number, subst (λ (x : CrewView). HasDone x.before after.log deeds) same done)
did_at_most now crew number deeds after own_crew own_number same (inr done) = inr (own_crew, own_number, subst (λ (x : CrewView). HasDone x.before after.log (deeds ++ spent ∷ [])) same done)
