-- Which updates survive, by where they come from, and which undo others.
use Rattle.std.specs.Prelude.{◌≡◌, ◌<◌, ◌≤◌, ◌⊎◌, ◌++◌, ℕ, Bool, true, Option, Some, None, List, [], ◌∷◌, filter}
use Rattle.std.specs.List.{flat_map}
use Rattle.mt_words.specs.declared.update.Origin.{Origin}
use Rattle.mt_words.specs.declared.update.Origin.TheVariants.{Log, Checkpoint}
use Rattle.mt_words.specs.declared.update.Update.{Update}
use Rattle.mt_words.specs.Changes.{IsReset}
use Rattle.mt_words.specs.Stamps.{IsOlder}
use Rattle.mt_words.specs.OneLog.{kept_updates}
use Rattle.mt_scan.specs.declared.log_scan.LogScan.{LogScan}
use Rattle.mt_replay.specs.declared.window.Window.{Window}
use Rattle.mt_replay.specs.Survivors.{in_window}
use Rattle.mt_recover.specs.declared.history.Fate.{Fate}
use Rattle.mt_recover.specs.declared.history.Fate.TheVariants.{Early, Late, Older, Won}
use Rattle.mt_recover.specs.History.{Decides}

-- the updates of these scans of logs, in order
abbrev pub updates_in : List LogScan → List Update
updates_in scans = flat_map (λ scan. kept_updates scan.updates) scans

-- a log update survives in the window, an entry always
abbrev pub survives : Window → Update → Bool
survives window u = by u.stamp.origin
  where
    by : Origin → Bool
    by (Log log nth) = in_window window u
    by Checkpoint = true

abbrev pub those_surviving : Window → List Update → List Update
those_surviving window updates = filter (survives window) updates

-- the fate of an update that does not survive
abbrev pub IsLost : Window → Update → Fate → Type 0
IsLost window u Early = u.timestamp < window.begin
IsLost window u Late = window.cutoff ≤ u.timestamp
IsLost window u Older = ⊥
IsLost window u (Won numbers) = ⊥

-- the update decides the column; without a number, it resets its key
abbrev pub DecidesAt : Option ℕ → Update → Type 0
DecidesAt None u = IsReset u.kind
DecidesAt (Some number) u = Decides u number

-- the update is newer than another one of its key, and decides the column
pub record Undoes (number : Option ℕ) (update older : Update) : Type 0 where
  pub of_key : update.key ≡ older.key
  pub newer : IsOlder older.stamp update.stamp
  pub decides : DecidesAt number update

-- the other update survives, and undoes this one
pub record IsUndoneBy (window : Window) (number : Option ℕ) (u other : Update) : Type 0 where
  pub survives : survives window other ≡ true
  pub undoes : Undoes number other u

-- the numbers are as before, and this one more if `P` holds
abbrev pub HasAdded : List ℕ → ℕ → Type 0 → List ℕ → Type 0
HasAdded old number P new = (P × (new ≡ old ++ number ∷ [])) ⊎ ((¬ P) × (new ≡ old))
