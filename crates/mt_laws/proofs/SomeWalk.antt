-- Updates have a walk, if no two of a key share a stamp and all are lawful.
use Rattle.std.proofs.Common.{◌≡◌, inl, inr, ◌↔◌, ℕ, Some, None, List, [], ◌∷◌, map, Contains, refl, sym, ap, ◌∙◌, subst}
use Rattle.std.specs.List.{flat_map}
use Rattle.mt_words.specs.declared.update.Kind.{Kind}
use Rattle.mt_words.specs.declared.update.Kind.TheVariants.{Put, Remove, Whole, Erase}
use Rattle.mt_words.specs.declared.update.Stamp.{Stamp}
use Rattle.mt_words.specs.declared.update.Update.{Update}
use Rattle.mt_words.specs.Limits.{widest}
use Rattle.mt_words.specs.Words.{IsKey, IsColumn}
use Rattle.mt_words.specs.Changes.{Write, Writes, writes_of, AllowsKind, IsReset}
use Rattle.mt_words.specs.Writes.{IsWrite, AreWrites}
use Rattle.mt_words.specs.Stamps.{IsAtMost}
use Rattle.mt_words.specs.Walks.{Pair}
use Rattle.mt_words.proofs.Elements.{no_element, head_or_tail, head_in, tail_in}
use Rattle.mt_words.proofs.WriteLemmas.{set_writes, erase_writes}
use Rattle.mt_replay.specs.KeyColumns.{HasColumn}
use Rattle.mt_replay.specs.Walk.{IsWalk}
use Rattle.mt_replay.specs.Cells.{AreApart}
use Rattle.mt_replay.proofs.Members.{of_each, of_map, in_map, of_flat_map, in_flat_map}
use Rattle.mt_replay.proofs.ExactLemmas.{same_bytes}
use Rattle.mt_replay.proofs.StampLemmas.{same_stamp, not_newer, older_or_not}
use Rattle.mt_laws.proofs.Decided.{Decided, both, alike, same_bytes as same_key}
use Rattle.mt_laws.proofs.Finite.{implied, same_number, each_of, filtered}
use Rattle.mt_laws.proofs.Maps.{Cell, map_of_cells}

-- ---- lawful updates

-- a lawful key, and a kind that some format allows
abbrev pub IsLawfulUpdate : Update → Type 0
IsLawfulUpdate update = IsKey widest update.key × AllowsKind widest update.kind

lawful_writes : (kind : Kind) → AllowsKind widest kind → AreWrites widest (writes_of kind)
lawful_writes (Put columns) allows = set_writes widest columns allows.0
lawful_writes Remove allows = (tt, tt)
lawful_writes (Whole columns) allows = set_writes widest columns allows.0
lawful_writes (Erase numbers) allows = erase_writes widest numbers allows.1

-- ---- which columns updates leave

-- a claim: an update, and a column that it writes
abbrev Claim : Type 0
Claim = Update × ℕ × List ℕ

-- the columns that an update writes are its claims
abbrev claims_by : Update → List Write → List Claim
claims_by update [] = []
claims_by update ((number, None) ∷ writes) = claims_by update writes
claims_by update ((number, Some bytes) ∷ writes) = (update, number, bytes) ∷ claims_by update writes

abbrev claims_of : List Update → List Claim
claims_of updates = flat_map (λ update. claims_by update (writes_of update.kind)) updates

is_claim : (update : Update) (writes : List Write) (claim : Claim) → Contains (claims_by update writes) claim
    → (update ≡ claim.0) × Contains writes (claim.1, Some claim.2)
is_claim update [] claim at = absurd (no_element claim at)
is_claim update ((number, None) ∷ writes) claim at =
    let rest = is_claim update writes claim at in (rest.0, tail_in (number, None) (claim.1, Some claim.2) writes rest.1)
is_claim update ((number, Some bytes) ∷ writes) claim at = elim (head_or_tail (update, number, bytes) claim (claims_by update writes) at)
    as (λ _. (update ≡ claim.0) × Contains ((number, Some bytes) ∷ writes) (claim.1, Some claim.2)) [
      | inl e ↦ (ap (λ (c : Claim). c.0) e, subst (λ (c : Claim). Contains ((number, Some bytes) ∷ writes) (c.1, Some c.2)) e (head_in (number, Some bytes) writes))
      | inr later ↦ let rest = is_claim update writes claim later in (rest.0, tail_in (number, Some bytes) (claim.1, Some claim.2) writes rest.1)
    ]

has_claim : (update : Update) (writes : List Write) (number : ℕ) (bytes : List ℕ) → Contains writes (number, Some bytes) → Contains (claims_by update writes) (update, number, bytes)
has_claim update [] number bytes at = absurd (no_element (number, Some bytes) at)
has_claim update ((n, None) ∷ writes) number bytes at = elim (head_or_tail (n, None) (number, Some bytes) writes at) as (λ _. Contains (claims_by update writes) (update, number, bytes)) [
  | inl e ↦ let none : None ≡ Some bytes = ap (λ (w : Write). w.1) e in absurd cc
  | inr later ↦ has_claim update writes number bytes later
]
has_claim update ((n, Some b) ∷ writes) number bytes at = elim (head_or_tail (n, Some b) (number, Some bytes) writes at) as (λ _. Contains ((update, n, b) ∷ claims_by update writes) (update, number, bytes)) [
  | inl e ↦
      let of_number : n ≡ number = ap (λ (w : Write). w.0) e in
      let some : Some b ≡ Some bytes = ap (λ (w : Write). w.1) e in
      let of_bytes : b ≡ bytes = cc in
      subst (Contains ((update, n, b) ∷ claims_by update writes)) (λ i. (update, of_number i, of_bytes i)) (head_in (update, n, b) (claims_by update writes))
  | inr later ↦ tail_in (update, n, b) (update, number, bytes) (claims_by update writes) (has_claim update writes number bytes later)
]

-- no write of the column is newer than this update of its key, and no reset of the key
record IsLeft (updates : List Update) (claim : Claim) : Type 0 where
  greatest : (u : Update) → Contains updates u → u.key ≡ claim.0.key → (write : Write) → Contains (writes_of u.kind) write → write.0 ≡ claim.1 → IsAtMost u.stamp claim.0.stamp
  kept : (u : Update) → Contains updates u → u.key ≡ claim.0.key → IsReset u.kind → IsAtMost u.stamp claim.0.stamp

stamp_decided : (a b : Stamp) → Decided (IsAtMost a b)
stamp_decided a b = elim (older_or_not b a) as (λ _. Decided (IsAtMost a b)) [ inl older ↦ inr (λ at_most. not_newer b a at_most older) | inr at_most ↦ inl at_most ]

reset_decided : (kind : Kind) → Decided (IsReset kind)
reset_decided (Put columns) = inr (λ none. none)
reset_decided Remove = inl tt
reset_decided (Whole columns) = inl tt
reset_decided (Erase numbers) = inr (λ none. none)

left_decided : (updates : List Update) (claim : Claim) → Decided (IsLeft updates claim)
left_decided updates claim = alike (λ two. record { greatest = two.0; kept = two.1 }) (λ is. (is.greatest, is.kept)) (both (each_of Greatest greatest updates) (each_of Kept kept updates))
  where
    AtMost : Update → Type 0
    AtMost u = IsAtMost u.stamp claim.0.stamp

    Greatest : Update → Type 0
    Greatest u = u.key ≡ claim.0.key → (write : Write) → Contains (writes_of u.kind) write → write.0 ≡ claim.1 → AtMost u

    greatest : (u : Update) → Decided (Greatest u)
    greatest u = implied (same_key u.key claim.0.key) (each_of (λ (write : Write). write.0 ≡ claim.1 → AtMost u)
        (λ write. implied (same_number write.0 claim.1) (stamp_decided u.stamp claim.0.stamp)) (writes_of u.kind))

    Kept : Update → Type 0
    Kept u = u.key ≡ claim.0.key → IsReset u.kind → AtMost u

    kept : (u : Update) → Decided (Kept u)
    kept u = implied (same_key u.key claim.0.key) (implied (reset_decided u.kind) (stamp_decided u.stamp claim.0.stamp))

-- ---- the cells of a walk

abbrev cell_of : Claim → Cell
cell_of claim = (claim.0.key, claim.1, claim.2)

-- the cells are the columns that the updates leave
abbrev AreLeft : List Update → List Cell → Type 0
AreLeft updates cells = (key : List ℕ) (number : ℕ) (bytes : List ℕ) → Contains cells (key, number, bytes) ↔ HasColumn updates key number bytes

left_cells : (updates : List Update) → (cells : List Cell) × AreLeft updates cells
left_cells updates =
    let claims : List Claim = claims_of updates in
    let left = filtered (IsLeft updates) (left_decided updates) claims in (
      map cell_of left.0,
      λ key number bytes. (
        λ at.
            let from = of_map cell_of left.0 (key, number, bytes) at in
            let is = (left.1 from.0).0 from.1 in
            subst (λ (c : Cell). HasColumn updates c.0 c.1 c.2) from.2 (left_column updates from.0 is.0 is.1),
        λ has.
            let claim : Claim = (has.write, number, bytes) in
            let stands : Contains claims claim = in_flat_map (λ (u : Update). claims_by u (writes_of u.kind)) updates has.write claim has.stands (has_claim has.write (writes_of has.write.kind) number bytes has.writes) in
            let is : IsLeft updates claim = record {
              greatest = λ u at of_key write among same. has.greatest u write.1 at (of_key ∙ has.of_key) (subst (λ (n : ℕ). Contains (writes_of u.kind) (n, write.1)) same among);
              kept = λ u at of_key resets. has.kept u at (of_key ∙ has.of_key) resets;
            } in
            subst (λ (k : List ℕ). Contains (map cell_of left.0) (k, number, bytes)) has.of_key (in_map cell_of left.0 claim ((left.1 claim).1 (stands, is))),
      ),
    )
  where
    left_column : (updates : List Update) (claim : Claim) → Contains (claims_of updates) claim → IsLeft updates claim → HasColumn updates claim.0.key claim.1 claim.2
    left_column updates claim at is =
        let from = of_flat_map (λ (u : Update). claims_by u (writes_of u.kind)) updates claim at in
        let by = is_claim from.0 (writes_of from.0.kind) claim from.2 in
        record {
          write = claim.0;
          stands = subst (Contains updates) by.0 from.1;
          of_key = refl;
          writes = subst (λ (u : Update). Writes u.kind claim.1 (Some claim.2)) by.0 by.1;
          greatest = λ u other stands of_key writes. is.greatest u stands of_key (claim.1, other) writes refl;
          kept = is.kept;
        }

-- updates leave a column at most one value
one_column : (updates : List Update) (key : List ℕ) (number : ℕ) (a b : List ℕ) → AreApart updates → ((u : Update) → Contains updates u → IsLawfulUpdate u)
    → HasColumn updates key number a → HasColumn updates key number b → a ≡ b
one_column updates key number a b apart lawful is too =
    let up : IsAtMost too.write.stamp is.write.stamp = is.greatest too.write (Some b) too.stands too.of_key too.writes in
    let down : IsAtMost is.write.stamp too.write.stamp = too.greatest is.write (Some a) is.stands is.of_key is.writes in
    let same : is.write ≡ too.write = apart is.write too.write is.stands too.stands (is.of_key ∙ sym too.of_key) (same_stamp is.write.stamp too.write.stamp down up) in
    let writes : Writes too.write.kind number (Some a) = subst (λ (u : Update). Writes u.kind number (Some a)) same is.writes in
    let one : Some a ≡ Some b = same_bytes too.write.kind number (Some a) (Some b) (lawful_writes too.write.kind (lawful too.write too.stands).1) writes too.writes in
    cc

lawful_column : (updates : List Update) (key : List ℕ) (number : ℕ) (bytes : List ℕ) → ((u : Update) → Contains updates u → IsLawfulUpdate u)
    → HasColumn updates key number bytes → IsKey widest key × IsColumn widest (number, bytes)
lawful_column updates key number bytes lawful has =
    let own = lawful has.write has.stands in
    let write : IsWrite widest (number, Some bytes) = of_each (IsWrite widest) (writes_of has.write.kind) (number, Some bytes) (lawful_writes has.write.kind own.1).0 has.writes in
    (subst (IsKey widest) has.of_key own.0, write)

-- there is a walk
pub some_walk : (updates : List Update) → AreApart updates → ((u : Update) → Contains updates u → IsLawfulUpdate u) → (pairs : List Pair) × IsWalk updates pairs
some_walk updates apart lawful =
    let left = left_cells updates in
    let made = map_of_cells left.0 (record {
      lawful = λ cell at. lawful_column updates cell.0 cell.1 cell.2 lawful ((left.1 cell.0 cell.1 cell.2).0 at);
      one = λ key number a b at here. one_column updates key number a b apart lawful ((left.1 key number a).0 at) ((left.1 key number b).0 here);
    }) in (
      made.0,
      record {
        map = made.1.map;
        exact = λ key number bytes. (
          λ holds. (left.1 key number bytes).0 ((made.1.exact key number bytes).0 holds),
          λ has. (made.1.exact key number bytes).1 ((left.1 key number bytes).1 has),
        );
      },
    )
