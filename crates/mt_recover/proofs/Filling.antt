-- Batches that are filled one after another: how many they are.
use Rattle.std.proofs.Common.{◌≡◌, ◌∙◌, ℕ, ◌+◌, ◌*◌, ◌<◌, ◌≤◌, List, [], ◌∷◌, ◌++◌, length, refl, sym, ap, arith}
use Rattle.std.proofs.Math.Nat.{lt_of_mul-lt-mul_left}
use Rattle.std.proofs.lemmas.List.{length_push, same_from_push}
use Rattle.mt_words.specs.Changes.{Logged}
use Rattle.mt_words.specs.Updates.{updates_from}
use Rattle.mt_record.specs.Shares.{ShareView, updates_of_share}
use Rattle.mt_replay.specs.Batches.{BatchView}
use Rattle.mt_recover.specs.Steps.Batches.{AreFilled}

-- a share without records has no updates
pub no_updates : (share : ShareView) → length share.records ≡ 0 → updates_of_share share ≡ []
no_updates share none = by share.records none
  where
    by : (records : List Logged) → length records ≡ 0 → updates_from share.log share.from records ≡ []
    by [] none = refl
    by (r ∷ rs) none = absurd (omega (arith, none))

pub none_filled : (size : ℕ) (batches : List BatchView) → batches ≡ [] → AreFilled size 0 batches
none_filled size batches none front last is = absurd (omega (arith, length_push front last, ap length (sym none ∙ is)))

-- the last batch is taken out, or a batch begins since the last one is full
pub took_open : (size records : ℕ) (batches front : List BatchView) (last : BatchView) → AreFilled size records batches → batches ≡ front ++ last ∷ [] → size * length front + last.records ≤ records
took_open size records batches front last filled is = (filled front last is).0

pub all_full : (size records : ℕ) (batches front : List BatchView) (last : BatchView) → AreFilled size records batches → batches ≡ front ++ last ∷ [] → size ≤ last.records → size * length batches + 0 ≤ records
all_full size records batches front last filled is full =
    let long : length batches ≡ length front + 1 = ap length is ∙ length_push front last in
    let more : size * (length front + 1) ≡ size * length front + size = omega arith in
    omega (arith, (filled front last is).0, full, ap (λ n. size * n) long, more)

-- a share with records goes into the open batch
pub filled_more : (size records : ℕ) (others new : List BatchView) (batch : BatchView) (before more : ℕ) → new ≡ others ++ batch ∷ [] → batch.records ≡ before + more → 0 < more → size * length others + before ≤ records → AreFilled size (records + more) new
filled_more size records others new batch before more are is some room front last same =
    let parts = same_from_push others front batch last (sym are ∙ same) in
    let last_is = ap (λ (b : BatchView). b.records) parts.1 in
    (omega (arith, room, is, last_is, ap (λ (bs : List BatchView). size * length bs) parts.0), omega (arith, is, last_is, some))

split_last : {A : Type 0} (x : A) (xs : List A) → (front : List A) × (last : A) × (x ∷ xs ≡ front ++ last ∷ [])
split_last x [] = ([], x, refl)
split_last {A} x (y ∷ ys) = let more = split_last y ys in (x ∷ more.0, more.1, ap (λ (zs : List A). x ∷ zs) more.2)

-- no more batches than workers
pub few_batches : (size records workers : ℕ) (batches : List BatchView) → AreFilled size records batches → records ≤ size * workers → length batches ≤ workers
few_batches size records workers [] filled room = omega arith
few_batches size records workers (b ∷ bs) filled room =
    let parts = split_last b bs in
    let is = filled parts.0 parts.1 parts.2 in
    let fewer : length parts.0 < workers = lt_of_mul-lt-mul_left size (omega (arith, is.0, is.1, room)) in
    omega (arith, fewer, ap length parts.2, length_push parts.0 parts.1)
