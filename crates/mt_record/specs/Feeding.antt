-- Reading the bytes of a log or a part in chunks, whatever its items are.
use Rattle.std.specs.Prelude.{◌≡◌, ℕ, ◌<◌, Option, Some, None, Result, Ok, Err, List, ◌++◌, length}
use Rattle.std.specs.Borrow.{Bor}
use Rattle.mt_record.specs.declared.feed.Feed.{Feed}

-- ---- items

-- the input, `text`, is the bytes that were read, for which `holds` is true, and then `rest`
pub record HasRead (holds : List ℕ → Type 0) (text rest : List ℕ) : Type 0 where
  pub front : List ℕ
  pub joins : text ≡ front ++ rest
  pub read : holds front

-- items at the front of the bytes were read, after what was read before, and `after` is left
abbrev pub Reads : {T I : Type 0} → (T → I → List ℕ → Type 0) → I → I → List ℕ → List ℕ → Type 0
Reads {T} holds old new bytes after = HasRead (λ items. (taken : T) (front : List ℕ) → holds taken old front → holds taken new (front ++ items)) bytes after

-- the bytes that show the fault follow what was read, and then any others
pub record HasShown (is_read shows : List ℕ → Type 0) : Type 0 where
  pub shown : List ℕ
  pub more : List ℕ
  pub read : is_read (shown ++ more)
  pub fault : shows shown

-- One step. `Ok(None)`: nothing changed, and nothing more can be read. `Ok(Some)`: an item was read, and fewer bytes are left.
-- `Err`: the bytes show the fault, and what was read is what was read before.
abbrev pub Steps : {T I F : Type 0} → (T → I → List ℕ → Type 0) → (I → List ℕ → Type 0) → (I → F → List ℕ → Type 0) → I → I → List ℕ → Result (Option (Bor (List ℕ))) F → Type 0
Steps holds is_left shows old new bytes (Ok None) = (new ≡ old) × is_left old bytes
Steps holds is_left shows old new bytes (Ok (Some after)) = Reads holds old new bytes after.now × (length after.now < length bytes)
Steps {T} holds is_left shows old new bytes (Err fault) = ((taken : T) (front : List ℕ) → holds taken old front → holds taken new front) × shows new fault bytes

-- all steps: items were read until nothing more could be read, or until the bytes left showed a fault
abbrev pub StepsOn : {T I F : Type 0} → (T → I → List ℕ → Type 0) → (I → List ℕ → Type 0) → (I → F → List ℕ → Type 0) → I → I → List ℕ → Result (Bor (List ℕ)) F → Type 0
StepsOn holds is_left shows old new bytes (Ok after) = Reads holds old new bytes after.now × is_left new after.now
StepsOn holds is_left shows old new bytes (Err fault) = (after : List ℕ) × Reads holds old new bytes after × shows new fault after

-- ---- feeds

-- what a contract sees of a feed: what was read, the bytes held back, and the fault that it returned, if any
pub record Fed (S F : Type 0) : Type 0 where
  pub so_far : S
  pub held : List ℕ
  pub fault : Option F

-- what a contract sees of this feed; `so_far` says what its items have read
abbrev pub fed_by : {S I F : Type 0} → (I → S) → Feed I F → Fed S F
fed_by so_far feed = record { so_far = so_far feed.items; held = feed.held.items; fault = feed.fault }

-- the input was read, except for the held bytes, and nothing more can be read from these
abbrev pub HoldsAll : {I : Type 0} → (I → List ℕ → Type 0) → (I → List ℕ → Type 0) → I → List ℕ → List ℕ → Type 0
HoldsAll holds is_left items held text = HasRead (holds items) text held × is_left items held

-- The feed was fed this input. Without a fault, all of it is read or held back; a fault is one that the input shows.
abbrev pub IsFedBy : {I F : Type 0} → (I → List ℕ → Type 0) → (I → List ℕ → Type 0) → (I → F → List ℕ → Type 0) → I → List ℕ → Option F → List ℕ → Type 0
IsFedBy {F = F} holds is_left shows items held answered text =
    (answered ≡ None → HoldsAll holds is_left items held text) × ((fault : F) → answered ≡ Some fault → HasShown (HasRead (holds items) text) (shows items fault))
