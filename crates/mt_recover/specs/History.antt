-- The history of a key: its updates, and what became of each.
use Rattle.std.specs.Prelude.{◌≡◌, ◌<◌, ◌≤◌, ◌⊎◌, ◌++◌, ℕ, Bool, nat_eq, Option, List, [], ◌∷◌, Contains, filter}
use Rattle.std.specs.List.{AllZip}
use Rattle.std.specs.Cmp.Lexicographic.{pointwise}
use Rattle.mt_words.specs.declared.update.Update.{Update}
use Rattle.mt_words.specs.Changes.{Write, Writes, IsReset, writes_of}
use Rattle.mt_words.specs.Stamps.{IsAtMost}
use Rattle.mt_replay.specs.declared.window.Window.{Window}
use Rattle.mt_replay.specs.Survivors.{in_window}
use Rattle.mt_recover.specs.declared.history.Fate.{Fate}
use Rattle.mt_recover.specs.declared.history.Fate.TheVariants.{Early, Late, Older, Won}

-- whether the update is of the key
abbrev pub is_of : List ℕ → Update → Bool
is_of key u = pointwise nat_eq u.key key

-- the update decides what its key has in the column: it writes the column, or resets the key
abbrev pub Decides : Update → ℕ → Type 0
Decides u number = ((bytes : Option (List ℕ)) × Writes u.kind number bytes) ⊎ IsReset u.kind

-- no survivor of the update's key for which `P` holds is newer
abbrev pub IsNewestOf : (Update → Type 0) → List Update → Update → Type 0
IsNewestOf P survivors u = (v : Update) → Contains survivors v → v.key ≡ u.key → P v → IsAtMost v.stamp u.stamp

-- no newer survivor decides what the key has in the column: what the update writes there stands
abbrev pub Stands : List Update → Update → ℕ → Type 0
Stands survivors u number = IsNewestOf (λ v. Decides v number) survivors u

-- these are the columns of the writes for which `P` holds, in order
abbrev pub AreThose : (ℕ → Type 0) → List Write → List ℕ → Type 0
AreThose P [] numbers = numbers ≡ []
AreThose P (write ∷ writes) numbers = (P write.0 × ((others : List ℕ) × (numbers ≡ write.0 ∷ others) × AreThose P writes others)) ⊎ ((¬ (P write.0)) × AreThose P writes numbers)

-- these are the columns, in order, in which the key has what the update wrote: bytes, or none if it erased them
abbrev pub AreStanding : List Update → Update → List ℕ → Type 0
AreStanding survivors u numbers = AreThose (Stands survivors u) (writes_of u.kind) numbers

-- the update is a remove: it resets its key, and writes nothing
abbrev pub IsRemove : Update → Type 0
IsRemove u = IsReset u.kind × (writes_of u.kind ≡ [])

-- the update is a remove, and no newer survivor resets its key
pub record IsLastRemove (survivors : List Update) (u : Update) : Type 0 where
  pub removes : IsRemove u
  pub newest : IsNewestOf (λ v. IsReset v.kind) survivors u

-- what became of the update, if these survive in this window
abbrev pub IsFate : Window → List Update → Update → Fate → Type 0
IsFate window survivors u Early = (Contains survivors u → ⊥) × (u.timestamp < window.begin)
IsFate window survivors u Late = (Contains survivors u → ⊥) × (window.cutoff ≤ u.timestamp)
IsFate window survivors u Older = Contains survivors u × AreStanding survivors u [] × (IsLastRemove survivors u → ⊥)
IsFate window survivors u (Won numbers) = Contains survivors u × AreStanding survivors u numbers.items × (numbers.items ≡ [] → IsLastRemove survivors u)

-- The history of the key, if logs have the first updates, and the checkpoint of the window the others, all of which survive:
-- exactly the updates of the key, in order, each with what became of it.
pub record IsHistory (key : List ℕ) (window : Window) (logged entered updates : List Update) (fates : List Fate) : Type 0 where
  pub exact : updates ≡ filter (is_of key) (logged ++ entered)
  pub fates_are : AllZip (IsFate window (filter (in_window window) logged ++ entered)) updates fates
