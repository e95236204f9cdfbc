-- What only callers with updates in memory need: the cells of two lists of writes, and the groups of two lists of updates, merged; and that a key has only one cell, in whatever order its updates come.
use Rattle.std.proofs.Common.{append_assoc, ◌≡◌, ◌↔◌, ℕ, ◌<◌, List, ◌++◌, length, Option, Some, None, Contains, subst, arith, refl, sym, ap, ◌∙◌}
use Rattle.std.specs.Prelude.{slice_get, slice_index_or}
use Rattle.std.proofs.lemmas.List.Sorted.{IsPermutation-append_right, IsPermutation-append_comm, IsPermutation-sym, Contains-permutation}
use Rattle.mt_words.specs.declared.update.Update.{Update}
use Rattle.mt_replay.specs.Cells.{Written, Slots, IsNewestOf, IsCellOf, AreApart}
use Rattle.mt_replay.specs.Groups.{Group, IsLatestOf, IsGroupOf, HasLawfulWrites, IsWriteOf, IsGreatestReset, IsResetOf}
use Rattle.mt_replay.proofs.CellLemmas.{IsRight, cell_both}
use Rattle.mt_replay.proofs.ColumnsLemmas.{IsLeft}
use Rattle.std.proofs.lemmas.Option.{slice_get-get_or}
use Rattle.mt_words.specs.declared.limits.TheConstants.{MOST_COLUMNS}
use Rattle.mt_replay.proofs.GroupLemmas.{both_resets, group_with}
use Rattle.std.specs.List.{All}
use Rattle.std.proofs.lemmas.List.{same_lists}
use Rattle.std.proofs.lemmas.List.Elements.{All-contains}
use Rattle.mt_words.specs.declared.update.Stamp.{Stamp}
use Rattle.mt_words.specs.Changes.{Writes}
use Rattle.mt_words.specs.Stamps.{IsAtMost}
use Rattle.mt_replay.proofs.StampLemmas.{same_stamp}
use Rattle.mt_replay.proofs.ExactLemmas.{same_bytes}

-- ---- the same writes in another order

same_right : (writes others : List Written) (number : ℕ) (slot : Option Written) → ((w : Written) → Contains writes w ↔ Contains others w) → IsRight writes number slot → IsRight others number slot
same_right writes others number None same none = λ w at. none w ((same w).1 at)
same_right writes others number (Some g) same is = record {
  stands = (same g).0 is.stands;
  of_column = is.of_column;
  greatest = λ w at of. is.greatest w ((same w).1 at) of;
}

-- a cell of some writes is a cell of any list of the same writes
pub same_cell : (writes others : List Written) (slots : Slots) → ((w : Written) → Contains writes w ↔ Contains others w) → IsCellOf writes slots → IsCellOf others slots
same_cell writes others slots same is = record {
  within = λ w at. is.within w ((same w).1 at);
  places = is.places;
  each = λ number slot at. same_right writes others number slot same (is.each number slot at);
}

-- the writes that came last may stand before others
pub cell_swapped : (a b c : List Written) (slots : Slots) → IsCellOf ((a ++ b) ++ c) slots → IsCellOf (a ++ (c ++ b)) slots
cell_swapped a b c slots is =
    let moved = IsPermutation-append_right a (b ++ c) (c ++ b) (IsPermutation-append_comm b c) in
    same_cell (a ++ (b ++ c)) (a ++ (c ++ b)) slots (λ w. (Contains-permutation (a ++ (b ++ c)) (a ++ (c ++ b)) w moved, Contains-permutation (a ++ (c ++ b)) (a ++ (b ++ c)) w (IsPermutation-sym (a ++ (b ++ c)) (a ++ (c ++ b)) moved)))
    (subst (λ (ws : List Written). IsCellOf ws slots) (append_assoc a b c) is)

-- ---- the slots, one by one

-- the old slots below n have taken in the added slots below n, and all other slots are as they were
pub record AreBoth (old add : Slots) (n : ℕ) (new left : Slots) : Type 0 where
  pub places : length new ≡ length old
  pub stays : IsLeft old n new
  pub waits : IsLeft add n left
  pub newest : (k : ℕ) (a b slot : Option Written) → k < n → slice_get old k ≡ Some a → slice_get add k ≡ Some b → slice_get new k ≡ Some slot → IsNewestOf a b slot

-- once all slots have taken in the added ones, they are the cell of both lists
pub both_cells : (old add : Slots) (new left : Slots) (writes others : List Written) → AreBoth old add MOST_COLUMNS new left → IsCellOf writes old → IsCellOf others add → IsCellOf (writes ++ others) new
both_cells old add new left writes others are was is = cell_both writes others old new is.within are.places (λ number lt.
    let b = slice_index_or add number None in
    let there : slice_get add number ≡ Some b = slice_get-get_or add number None (omega (arith, lt, was.places, is.places)) in (
      b,
      is.each number b there,
      are.newest number (slice_index_or old number None) b (slice_index_or new number None) (omega (arith, lt, was.places))
          (slice_get-get_or old number None lt) there (slice_get-get_or new number None (omega (arith, lt, are.places))),
    )) was

-- the group of the updates of two groups
pub both_groups : (updates others : List Update) (key : List ℕ) (old add new : Group) → IsLatestOf old.reset add.reset new.reset
    → ((writes more : List Written) → IsCellOf writes old.slots → IsCellOf more add.slots → IsCellOf (writes ++ more) new.slots) → IsGroupOf updates key old → IsGroupOf others key add → IsGroupOf (updates ++ others) key new
both_groups updates others key old add new latest cell was is = group_with updates others key old new is.writes
    (λ writes has. cell writes is.writes has is.cell) is.each (both_resets updates others key old.reset add.reset new.reset latest was.reset is.reset) was

-- ---- resets

-- the greatest reset of some updates is at most that of updates that include them
below_other : (updates others : List Update) (key : List ℕ) (a b : Stamp) → ((u : Update) → Contains updates u → Contains others u) → IsGreatestReset updates key a → IsGreatestReset others key b → IsAtMost a b
below_other updates others key a b all is other = subst (λ (s : Stamp). IsAtMost s b) is.at_stamp (other.greatest is.update (all is.update is.stands) is.of_key is.resets)

one_reset : (updates others : List Update) (key : List ℕ) (a b : Option Stamp) → ((u : Update) → Contains updates u ↔ Contains others u) → IsResetOf updates key a → IsResetOf others key b → a ≡ b
one_reset updates others key None None same none never = refl
one_reset updates others key None (Some b) same none is = absurd (none is.update ((same is.update).1 is.stands) is.of_key is.resets)
one_reset updates others key (Some a) None same is none = absurd (none is.update ((same is.update).0 is.stands) is.of_key is.resets)
one_reset updates others key (Some a) (Some b) same is other =
    ap Some (same_stamp a b (below_other updates others key a b (λ u. (same u).0) is other) (below_other others updates key b a (λ u. (same u).1) other is))

-- ---- writes

-- two writes of a column at one stamp are the same write
abbrev IsOnce : List Written → Type 0
IsOnce writes = (a b : Written) → Contains writes a → Contains writes b → a.1.0 ≡ b.1.0 → a.0 ≡ b.0 → a ≡ b

one_write : (updates : List Update) (key : List ℕ) (a b : Written) → AreApart updates → All HasLawfulWrites updates → IsWriteOf updates key a → IsWriteOf updates key b → a.1.0 ≡ b.1.0 → a.0 ≡ b.0 → a ≡ b
one_write updates key a b apart lawful is other number stamp =
    let one : other.update ≡ is.update = apart other.update is.update other.stands is.stands (other.of_key ∙ sym is.of_key) (other.stamp ∙ sym stamp ∙ sym is.stamp) in
    let writes : Writes is.update.kind a.1.0 b.1.1 = subst (λ (n : ℕ). Writes is.update.kind n b.1.1) (sym number) (subst (λ (u : Update). Writes u.kind b.1.0 b.1.1) one other.writes) in
    let bytes : a.1.1 ≡ b.1.1 = same_bytes is.update.kind a.1.0 a.1.1 b.1.1 (All-contains HasLawfulWrites updates is.update lawful is.stands) is.writes writes in
    λ i. (stamp i, (number i, bytes i))

-- a write of some updates is a write of any updates that include them
same_writes : (updates others : List Update) (key : List ℕ) (w : Written) → ((u : Update) → Contains updates u → Contains others u) → IsWriteOf updates key w → IsWriteOf others key w
same_writes updates others key w all is = record { update = is.update; stands = all is.update is.stands; of_key = is.of_key; stamp = is.stamp; writes = is.writes }

one_slot : (writes : List Written) (number : ℕ) (a b : Option Written) → IsOnce writes → IsRight writes number a → IsRight writes number b → a ≡ b
one_slot writes number None None once none never = refl
one_slot writes number None (Some b) once none is = absurd (none b is.stands is.of_column)
one_slot writes number (Some a) None once is none = absurd (none a is.stands is.of_column)
one_slot writes number (Some a) (Some b) once is other =
    ap Some (once a b is.stands other.stands (is.of_column ∙ sym other.of_column) (same_stamp a.0 b.0 (other.greatest a is.stands is.of_column) (is.greatest b other.stands other.of_column)))

-- ---- slots

one_slots : (writes : List Written) (slots others : Slots) → IsOnce writes → IsCellOf writes slots → IsCellOf writes others → slots ≡ others
one_slots writes slots others once is other = same_lists slots others (is.places ∙ sym other.places) (λ k d lt.
    let too : k < length others = omega (arith, lt, is.places, other.places) in
    one_slot writes k (slice_index_or slots k d) (slice_index_or others k d) once (is.each k (slice_index_or slots k d) (slice_get-get_or slots k d lt)) (other.each k (slice_index_or others k d) (slice_get-get_or others k d too)))

-- two groups of the same updates are equal, if no two of the updates share a stamp
pub one_group : (updates others : List Update) (key : List ℕ) (group other : Group) → AreApart updates → All HasLawfulWrites updates → ((u : Update) → Contains updates u ↔ Contains others u)
    → IsGroupOf updates key group → IsGroupOf others key other → group ≡ other
one_group updates others key group other apart lawful same is also =
    let reset : group.reset ≡ other.reset = one_reset updates others key group.reset other.reset same is.reset also.reset in
    let cell : IsCellOf is.writes other.slots = same_cell also.writes is.writes other.slots
    (λ w. (
      λ at. (is.each w).1 (same_writes others updates key w (λ u. (same u).1) ((also.each w).0 at)),
      λ at. (also.each w).1 (same_writes updates others key w (λ u. (same u).0) ((is.each w).0 at)),
    )) also.cell in
    let once : IsOnce is.writes = λ a b at there. one_write updates key a b apart lawful ((is.each a).0 at) ((is.each b).0 there) in
    let slots : group.slots ≡ other.slots = one_slots is.writes group.slots other.slots once is.cell cell in
    λ i. record { reset = reset i; slots = slots i }
