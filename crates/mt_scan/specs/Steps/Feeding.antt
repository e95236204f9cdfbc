-- The steps of a scan, and of one that shares a cutoff.
use Rattle.std.specs.Prelude.{◌≡◌, ◌⊎◌, ℕ, ◌+◌, ◌≤◌, ◌<◌, ◌^◌, List, ◌∷◌, ◌++◌, length, Bool, true, false}
use Rattle.std.specs.Io.KnownBytes.{Consumes, IsAtEnd}
use Rattle.mt_board.specs.Board.{PassView, least_of}
use Rattle.mt_scan.specs.declared.dropping_feed.DroppingFeed.{DroppingFeed}
use Rattle.mt_scan.specs.Steps.DroppingFeeds.{IsFedBelow, HasStopped}
use Rattle.mt_scan.specs.Sources.{Seen}

-- more bytes change nothing: the feed would be the same, whatever bytes had followed those that were fed
abbrev pub NeedsNoMore : {F : Type 0} → (F → List ℕ → Type 0) → F → Type 0
NeedsNoMore was_fed feed = (bytes more : List ℕ) → was_fed feed bytes → was_fed feed (bytes ++ more)

-- the bytes that were fed and those still to come are fewer than 2 ^ 64, if the latter are
abbrev pub AreFew : Seen → List ℕ → Type 0
AreFew seen bytes = seen.bound < 2 ^ 64 → seen.bound + length bytes < 2 ^ 64

-- The next chunk of the source was fed, or no byte at the end. `more` is false only at the end, or if the feed needs no more.
pub record FeedsPiece {F : Type 0} (was_fed : F → List ℕ → Type 0) (before after : Seen) (new : F) (bytes : List ℕ) (more : Bool) : Type 0 where
  pub piece : List ℕ
  pub next : Consumes before.told after.told piece
  pub fed : was_fed new (bytes ++ piece)
  pub falls : after.bound + length piece ≤ before.bound
  pub few : AreFew after (bytes ++ piece)
  pub some : more ≡ true → 0 < length piece
  pub stops : more ≡ false → IsAtEnd after.told ⊎ NeedsNoMore was_fed new

-- since it began, the pass noted nothing and looked at least once, and `limit` is the least number that it has seen
pub record LooksOn (begun now : PassView) (limit : ℕ) : Type 0 where
  pub first : ℕ
  pub more : List ℕ
  pub looked : now ≡ record begun { looks = begun.looks ++ first ∷ more }
  pub least : limit ≡ least_of now.looks
  pub low : limit ≤ begun.noted

-- these bytes were fed with this limit or a higher one
abbrev pub IsFedAbove : ℕ → DroppingFeed → List ℕ → Type 0
IsFedAbove limit feed bytes = (was : ℕ) × (limit ≤ was) × IsFedBelow feed was bytes

-- these bytes were fed with this limit, and they are fewer than 2 ^ 64, or the feed has stopped
pub record IsFedUnder (limit : ℕ) (feed : DroppingFeed) (bytes : List ℕ) : Type 0 where
  pub fed : IsFedBelow feed limit bytes
  pub few : HasStopped feed ⊎ (length bytes < 2 ^ 64)
