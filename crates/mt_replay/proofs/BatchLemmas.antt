-- The updates of a batch, share by share and record by record.
use Rattle.std.proofs.Common.{◌≡◌, ℕ, ◌+◌, ◌<◌, ◌≤◌, Bool, not, Option, Some, None, List, ◌++◌, length, take, drop, get_or, refl, sym, ap, cond, ◌∙◌, arith}
use Rattle.std.specs.Prelude.{filter}
use Rattle.std.specs.List.{flat_map, list_any}
use Rattle.std.proofs.lemmas.Bool.Decides.{nat_tests}
use Rattle.std.proofs.lemmas.List.{length-take-le, length-append, take-append-drop}
use Rattle.std.proofs.lemmas.List.Concat.{flat_map-append}
use Rattle.std.proofs.lemmas.List.Filters.{length-filter_both}
use Rattle.std.proofs.lemmas.Grind.{common_steps}
use Rattle.mt_words.specs.declared.update.Update.{Update}
use Rattle.mt_words.specs.Changes.{Logged}
use Rattle.mt_words.specs.Built.{mark_of}
use Rattle.mt_words.specs.Updates.{update_of, updates_from}
use Rattle.mt_words.specs.OneLog.{as_list}
use Rattle.mt_words.specs.Walks.{joined}
use Rattle.mt_record.specs.Shares.{ShareView, updates_of_share}
use Rattle.mt_record.proofs.RecordLemmas.{updates_push, marks_and_updates}
use Rattle.mt_replay.specs.declared.window.Window.{Window}
use Rattle.mt_replay.specs.Survivors.{in_window, is_early}
use Rattle.mt_replay.proofs.FilterLemmas.{filter_none}

-- ---- records of a share

-- the updates of the first records of a share
abbrev pub first_of : ShareView → ℕ → List Update
first_of share n = updates_from share.log share.from (take n share.records)

-- one record more
pub share_step : (share : ShareView) (i : ℕ) (more : List Update) → i < length share.records → ((d : Logged) → more ≡ update_of share.log (share.from + i) (get_or share.records i d))
    → first_of share (i + 1) ≡ first_of share i ++ more
share_step share i more below is =
    let few = length-take-le i share.records (omega (arith, below)) in
    let next = is (mark_of 0) in
    let pushed = updates_push share.log share.from (share.from + i) (take i share.records) (get_or share.records i (mark_of 0)) (omega (arith, few)) in
    grind (arith, common_steps)

-- and its survivors
pub survivors_step : (window : Window) (share : ShareView) (i : ℕ) (start old new more : List Update) → i < length share.records → ((d : Logged) → more ≡ update_of share.log (share.from + i) (get_or share.records i d))
    → old ≡ start ++ filter (in_window window) (first_of share i) → new ≡ old ++ filter (in_window window) more
    → new ≡ start ++ filter (in_window window) (first_of share (i + 1))
survivors_step window share i start old new more below is so_far added = let one = share_step share i more below is in grind (arith, common_steps)

-- a share has at most as many updates as records
pub share_few : (share : ShareView) → length (updates_of_share share) ≤ length share.records
share_few share = omega (arith, marks_and_updates share.log share.from share.records)

-- ---- lists and shares

-- the updates of one more
pub flat_step : {X : Type 0} (f : X → List Update) (xs : List X) (i : ℕ) (next : X) → i < length xs → next ≡ get_or xs i next → flat_map f (take (i + 1) xs) ≡ flat_map f (take i xs) ++ f next
flat_step f xs i next below is = grind (arith, common_steps)

-- the updates of one list more
pub joined_step : (lists : List (List Update)) (i : ℕ) (next : List Update) → i < length lists → next ≡ get_or lists i next → joined (take (i + 1) lists) ≡ joined (take i lists) ++ next
joined_step = flat_step (λ us. us)

-- the first shares have no more updates than all
pub shares_few : (shares : List ShareView) (i : ℕ) → length (flat_map updates_of_share (take i shares)) ≤ length (flat_map updates_of_share shares)
shares_few shares i =
    let parts : flat_map updates_of_share (take i shares) ++ flat_map updates_of_share (drop i shares) ≡ flat_map updates_of_share shares = sym (flat_map-append updates_of_share (take i shares) (drop i shares)) ∙ ap (flat_map updates_of_share) (take-append-drop i shares) in
    omega (arith, sym (ap length parts) ∙ length-append (flat_map updates_of_share (take i shares)) (flat_map updates_of_share (drop i shares)))

-- ---- early updates

-- what a test adds to a count
abbrev pub one_if : Bool → ℕ
one_if test = cond test 1 0

pub early_one : (begin : ℕ) (update : Option Update) → length (filter (is_early begin) (as_list update)) ≡ one_if (list_any (is_early begin) (as_list update))
early_one begin None = refl
early_one begin (Some u) = grind (arith, common_steps)

-- the early updates of some updates and then of others are those of all
pub early_both : (begin : ℕ) (us ws : List Update) → length (filter (is_early begin) (us ++ ws)) ≡ length (filter (is_early begin) us) + length (filter (is_early begin) ws)
early_both begin us ws = grind (arith, common_steps)

-- no timestamp is below 0
pub none_early : (begin : ℕ) (updates : List Update) → begin ≡ 0 → length (filter (is_early begin) updates) ≡ 0
none_early begin updates zero = ap length (filter_none (is_early begin) updates (λ k d lt. grind (arith, nat_tests)))

-- the early updates of one share more
pub early_step : (begin : ℕ) (shares : List ShareView) (i : ℕ) (next : ShareView) → i < length shares → next ≡ get_or shares i next
    → length (filter (is_early begin) (flat_map updates_of_share (take (i + 1) shares))) ≡ length (filter (is_early begin) (flat_map updates_of_share (take i shares))) + length (filter (is_early begin) (updates_of_share next))
early_step begin shares i next below is = let one = flat_step updates_of_share shares i next below is in grind (arith, common_steps)

-- the early updates of the first shares are no more than the updates of all
pub early_few : (begin : ℕ) (shares : List ShareView) (i : ℕ) → length (filter (is_early begin) (flat_map updates_of_share (take i shares))) ≤ length (flat_map updates_of_share shares)
early_few begin shares i = omega (arith, length-filter_both (is_early begin) (λ u. not (is_early begin u)) (λ u. refl) (flat_map updates_of_share (take i shares)), shares_few shares i)
