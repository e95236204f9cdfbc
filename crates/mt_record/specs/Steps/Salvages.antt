-- Salvaging a damaged log or a broken part, step by step.
use Rattle.std.specs.Prelude.{◌≡◌, ◌≢◌, ℕ, List, ◌++◌}
use Rattle.mt_words.specs.declared.limits.Limits.{Limits}
use Rattle.mt_words.specs.Changes.{Logged}
use Rattle.mt_record.specs.declared.salvage.Items.{Items}
use Rattle.mt_record.specs.Fronts.{IsNext}
use Rattle.mt_record.specs.Salvage.{IsItem, IsEnd}

-- the bytes are an item with this timestamp and then `after`
pub record IsNextItem (items : Items) (limits : Limits) (bytes : List ℕ) (timestamp : ℕ) (after : List ℕ) : Type 0 where
  pub item : List ℕ
  pub is : IsItem items limits timestamp item
  pub spelled : bytes ≡ item ++ after

abbrev pub HasNoItem : Items → Limits → List ℕ → Type 0
HasNoItem items limits bytes = (timestamp : ℕ) (item after : List ℕ) → IsItem items limits timestamp item → bytes ≢ item ++ after

-- the bytes begin with no item, and do not end in its place
pub record IsFault (items : Items) (limits : Limits) (bytes : List ℕ) : Type 0 where
  pub no_item : HasNoItem items limits bytes
  pub no_end : IsEnd items limits bytes → ⊥

-- the bytes begin with a lawful record, with this timestamp, and `after` follows
pub record IsNextAt (limits : Limits) (low : ℕ) (bytes : List ℕ) (timestamp : ℕ) (after : List ℕ) : Type 0 where
  pub next : Logged
  pub is_next : IsNext limits low bytes next after
  pub same_time : timestamp ≡ next.timestamp
