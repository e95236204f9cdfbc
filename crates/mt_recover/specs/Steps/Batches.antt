-- How batches are filled.
use Rattle.std.specs.Prelude.{◌≡◌, ◌≤◌, ◌<◌, ◌+◌, ◌*◌, ℕ, List, [], ◌∷◌, ◌++◌, length, sum_by}
use Rattle.mt_record.specs.Shares.{ShareView}
use Rattle.mt_replay.specs.Batches.{BatchView}

-- the number of records in these shares
abbrev pub records_in : List ShareView → ℕ
records_in shares = sum_by (λ (share : ShareView). length share.records) shares

-- the batches have this number of records in all or fewer: each but the last at least `size` of them, and the last at least one
abbrev pub AreFilled : ℕ → ℕ → List BatchView → Type 0
AreFilled size records batches = (front : List BatchView) (last : BatchView) → batches ≡ front ++ last ∷ [] → (size * length front + last.records ≤ records) × (0 < last.records)
