-- Which timestamps a window has, and which updates.
use Rattle.std.proofs.Common.{◌≡◌, inl, inr, ℕ, ◌<◌, ◌≤◌, Bool, true, false, cond, nat_le, Option, Some, None, [], ◌∷◌, filter, refl, ap, arith}
use Rattle.std.proofs.lemmas.Bool.{cases_Bool}
use Rattle.std.proofs.lemmas.Bool.Decides.{nat_tests}
use Rattle.mt_words.specs.declared.record.Change.{Change}
use Rattle.mt_words.specs.declared.update.Origin.{Origin}
use Rattle.mt_words.specs.Updates.{update_at, update_by}
use Rattle.mt_replay.specs.declared.window.Window.{Window}
use Rattle.mt_replay.specs.Survivors.{is_within, in_window}

pub is_least : (a b : ℕ) → a ≤ b → nat_le a b ≡ true
is_least a b h = grind (arith, nat_tests)

pub at_least : (a b : ℕ) → nat_le a b ≡ true → a ≤ b
at_least a b e = grind (arith, nat_tests)

pub within : (window : Window) (time : ℕ) → window.begin ≤ time → time < window.cutoff → is_within window time ≡ true
within window time low high = grind (arith, nat_tests)

pub not_early : (window : Window) (time : ℕ) → is_within window time ≡ true → window.begin ≤ time
not_early window time is = grind (arith, nat_tests)

pub not_late : (window : Window) (time : ℕ) → is_within window time ≡ true → time < window.cutoff
not_late window time is = grind (arith, nat_tests)

pub outside : (window : Window) (time : ℕ) → (window.begin ≤ time → time < window.cutoff → ⊥) → is_within window time ≡ false
outside window time out = elim (cases_Bool (is_within window time)) as (λ _. is_within window time ≡ false) [
  | inl is ↦ absurd (out (not_early window time is) (not_late window time is))
  | inr is ↦ is
]

-- a change outside the window has no survivor
pub one_outside : (window : Window) (origin : Origin) (time : ℕ) (change : Option Change) → is_within window time ≡ false
    → filter (in_window window) (update_by origin time change) ≡ []
one_outside window origin time None out = refl
one_outside window origin time (Some change) out = ap (λ (b : Bool). cond b (update_at origin time change ∷ []) []) out
