-- A sound checkpoint stays sound when newer updates are added, and when updates are dropped that it has not seen.
use Rattle.std.proofs.Common.{◌≡◌, ◌⊎◌, ◌↔◌, inl, inr, ℕ, ◌<◌, ◌≤◌, List, [], ◌∷◌, Contains, refl, sym, ap, ◌∙◌, arith}
use Rattle.std.proofs.lemmas.Bool.{cases_lt}
use Rattle.mt_words.specs.declared.record.Change.{Change}
use Rattle.mt_words.specs.declared.update.Update.{Update}
use Rattle.mt_words.specs.Stamps.{IsOlder}
use Rattle.mt_words.proofs.Elements.{no_element, head_or_tail, head_in, tail_in}
use Rattle.mt_scan.specs.Choice.{CheckpointReading}
use Rattle.mt_replay.specs.KeyColumns.{HasColumn}
use Rattle.mt_laws.specs.Crashes.{up_to, IsSeenAt, IsSoundEntry, IsSoundAbsence, IsSound}
use Rattle.mt_laws.specs.Lives.{IsNewOver}
use Rattle.mt_laws.proofs.Decided.{same_bytes}
use Rattle.mt_laws.proofs.Moved.{moved}
use Rattle.mt_laws.proofs.Sound.{in_up, of_up}

-- updates that agree on a key leave it the same columns
pub of_same_key : (us vs : List Update) (key : List ℕ) (number : ℕ) (bytes : List ℕ) → ((u : Update) → u.key ≡ key → Contains us u → Contains vs u)
    → ((u : Update) → u.key ≡ key → Contains vs u → Contains us u) → HasColumn us key number bytes → HasColumn vs key number bytes
of_same_key us vs key number bytes to from h = moved us vs key number bytes h (to h.write h.of_key h.stands) (λ u at decides. inl (from u decides.of_key at))

-- ---- updates are dropped

seen_less : (us vs : List Update) (checkpoint : CheckpointReading) (key : List ℕ) (version : ℕ) → ((u : Update) → Contains vs u → Contains us u)
    → IsSeenAt us checkpoint key version → IsSeenAt vs checkpoint key version
seen_less us vs checkpoint key version less seen = record { before = λ u at. seen.before u (less u at); by_end = λ u at. seen.by_end u (less u at) }

-- what a checkpoint has seen of a key is not dropped
seen_columns : (us vs : List Update) (checkpoint : CheckpointReading) (cutoff : ℕ) (key : List ℕ) (version number : ℕ) (bytes : List ℕ) → checkpoint.end < cutoff
    → ((u : Update) → Contains vs u ↔ Contains us u × (u.timestamp < cutoff)) → IsSeenAt us checkpoint key version
    → HasColumn (up_to version us) key number bytes ↔ HasColumn (up_to version vs) key number bytes
seen_columns us vs checkpoint cutoff key version number bytes ends same seen =
    (of_same_key (up_to version us) (up_to version vs) key number bytes to from, of_same_key (up_to version vs) (up_to version us) key number bytes from to)
  where
    to : (u : Update) → u.key ≡ key → Contains (up_to version us) u → Contains (up_to version vs) u
    to u of_key at =
        let is = of_up version us u at in
        let by_end : u.timestamp ≤ checkpoint.end = seen.by_end u is.0 of_key is.1 in
        in_up version vs u ((same u).1 (is.0, omega (arith, by_end, ends))) is.1

    from : (u : Update) → u.key ≡ key → Contains (up_to version vs) u → Contains (up_to version us) u
    from u of_key at = let is = of_up version vs u at in in_up version us u ((same u).0 is.0).0 is.1

pub sound_of_fewer : (us vs : List Update) (checkpoint : CheckpointReading) (cutoff : ℕ) → checkpoint.end < cutoff
    → ((u : Update) → Contains vs u ↔ Contains us u × (u.timestamp < cutoff)) → IsSound us checkpoint → IsSound vs checkpoint
sound_of_fewer us vs checkpoint cutoff ends same sound = record {
  entries = λ entry at.
      let is = sound.entries entry at in record {
        whole = is.whole;
        seen = seen_less us vs checkpoint entry.key entry.version less is.seen;
        columns = λ number bytes.
            let both = seen_columns us vs checkpoint cutoff entry.key entry.version number bytes ends same is.seen in
            (λ writes. both.0 ((is.columns number bytes).0 writes), λ column. (is.columns number bytes).1 (both.1 column));
      };
  others = λ key none.
      let is = sound.others key none in record {
        version = is.version;
        seen = seen_less us vs checkpoint key is.version less is.seen;
        no_column = λ number bytes column. is.no_column number bytes ((seen_columns us vs checkpoint cutoff key is.version number bytes ends same is.seen).1 column);
        rise = λ u w at_u at_w. is.rise u w (less u at_u) (less w at_w);
      };
}
  where
    less : (u : Update) → Contains vs u → Contains us u
    less u at = ((same u).0 at).0

-- ---- updates are added

-- each update is one of before, or is new over the checkpoint
abbrev AddOver : CheckpointReading → List Update → List Update → Type 0
AddOver checkpoint us vs = (u : Update) → Contains vs u → Contains us u ⊎ IsNewOver us checkpoint u

-- an update from before the checkpoint's begin is not new
early_is_old : (us vs : List Update) (checkpoint : CheckpointReading) (u : Update) → AddOver checkpoint us vs → Contains vs u → u.timestamp < checkpoint.begin
    → Contains us u
early_is_old us vs checkpoint u new at early = elim (new u at) as (λ _. Contains us u) [
  | inl old ↦ old
  | inr over ↦ let late : checkpoint.begin ≤ u.timestamp = over.late in absurd (omega (arith, early, late))
]

-- a version above those of a key's updates: what the checkpoint has seen of the key up to it is not changed by new updates
record IsBelowNew (us vs : List Update) (key : List ℕ) (version : ℕ) : Type 0 where
  old : (u : Update) → Contains vs u → u.key ≡ key → u.stamp.version ≤ version → Contains us u

seen_more : (us vs : List Update) (checkpoint : CheckpointReading) (key : List ℕ) (version : ℕ) → AddOver checkpoint us vs → IsBelowNew us vs key version
    → IsSeenAt us checkpoint key version → IsSeenAt vs checkpoint key version
seen_more us vs checkpoint key version new below seen = record {
  before = λ u at of_key early. seen.before u (early_is_old us vs checkpoint u new at early) of_key early;
  by_end = λ u at of_key most. seen.by_end u (below.old u at of_key most) of_key most;
}

more_columns : (us vs : List Update) (key : List ℕ) (version number : ℕ) (bytes : List ℕ) → ((u : Update) → Contains us u → Contains vs u)
    → IsBelowNew us vs key version → HasColumn (up_to version us) key number bytes ↔ HasColumn (up_to version vs) key number bytes
more_columns us vs key version number bytes more below =
    (of_same_key (up_to version us) (up_to version vs) key number bytes to from, of_same_key (up_to version vs) (up_to version us) key number bytes from to)
  where
    to : (u : Update) → u.key ≡ key → Contains (up_to version us) u → Contains (up_to version vs) u
    to u of_key at = let is = of_up version us u at in in_up version vs u (more u is.0) is.1

    from : (u : Update) → u.key ≡ key → Contains (up_to version vs) u → Contains (up_to version us) u
    from u of_key at = let is = of_up version vs u at in in_up version us u (below.old u is.0 of_key is.1) is.1

-- the greatest version of a key's updates up to a bound: 0, or that of one of them
record HasTop (us : List Update) (key : List ℕ) (bound : ℕ) : Type 0 where
  top : ℕ
  most : top ≤ bound
  reached : (top ≡ 0) ⊎ ((u : Update) × Contains us u × (u.key ≡ key) × (u.stamp.version ≡ top))
  all : (u : Update) → Contains us u → u.key ≡ key → u.stamp.version ≤ bound → u.stamp.version ≤ top

has_top : (us : List Update) (key : List ℕ) (bound : ℕ) → HasTop us key bound
has_top [] key bound = record { top = 0; most = omega arith; reached = inl refl; all = λ u at. absurd (no_element u at) }
has_top (x ∷ xs) key bound = by (has_top xs key bound) (same_bytes x.key key) (cases_lt bound x.stamp.version)
  where
    -- the update is no such one
    skip : HasTop xs key bound → (x.key ≡ key → x.stamp.version ≤ bound → ⊥) → HasTop (x ∷ xs) key bound
    skip rest not = record {
      top = rest.top;
      most = rest.most;
      reached = elim rest.reached as (λ _. (rest.top ≡ 0) ⊎ ((u : Update) × Contains (x ∷ xs) u × (u.key ≡ key) × (u.stamp.version ≡ rest.top))) [
        | inl zero ↦ inl zero
        | inr found ↦ inr (found.0, tail_in x found.0 xs found.1, found.2, found.3)
      ];
      all = λ u at of_key low. elim (head_or_tail x u xs at) as (λ _. u.stamp.version ≤ rest.top) [
        | inl e ↦ absurd (not (ap (λ (w : Update). w.key) e ∙ of_key) (let same : x.stamp.version ≡ u.stamp.version = ap (λ (w : Update). w.stamp.version) e in omega (arith, same, low)))
        | inr later ↦ rest.all u later of_key low
      ];
    }

    -- the update is one
    take : HasTop xs key bound → x.key ≡ key → x.stamp.version ≤ bound → HasTop (x ∷ xs) key bound
    take rest of_x low = elim (cases_lt rest.top x.stamp.version) as (λ _. HasTop (x ∷ xs) key bound) [
      | inl above ↦ record {
        top = x.stamp.version;
        most = low;
        reached = inr (x, head_in x xs, of_x, refl);
        all = λ u at of_key under. elim (head_or_tail x u xs at) as (λ _. u.stamp.version ≤ x.stamp.version) [
          | inl e ↦ let same : x.stamp.version ≡ u.stamp.version = ap (λ (w : Update). w.stamp.version) e in omega (arith, same)
          | inr later ↦ let less : u.stamp.version ≤ rest.top = rest.all u later of_key under in omega (arith, less, above)
        ];
      }
      | inr least ↦ record {
        top = rest.top;
        most = rest.most;
        reached = elim rest.reached as (λ _. (rest.top ≡ 0) ⊎ ((u : Update) × Contains (x ∷ xs) u × (u.key ≡ key) × (u.stamp.version ≡ rest.top))) [
          | inl zero ↦ inl zero
          | inr found ↦ inr (found.0, tail_in x found.0 xs found.1, found.2, found.3)
        ];
        all = λ u at of_key under. elim (head_or_tail x u xs at) as (λ _. u.stamp.version ≤ rest.top) [
          | inl e ↦ let same : x.stamp.version ≡ u.stamp.version = ap (λ (w : Update). w.stamp.version) e in omega (arith, same, least)
          | inr later ↦ rest.all u later of_key under
        ];
      }
    ]

    by : HasTop xs key bound → (x.key ≡ key) ⊎ (x.key ≡ key → ⊥) → (bound < x.stamp.version) ⊎ (x.stamp.version ≤ bound) → HasTop (x ∷ xs) key bound
    by rest (inr not) order = skip rest (λ is low. not is)
    by rest (inl is) (inl above) = skip rest (λ same low. omega (arith, above, low))
    by rest (inl is) (inr low) = take rest is low

-- new updates are above the greatest version of the key's updates
below_top : (us vs : List Update) (checkpoint : CheckpointReading) (key : List ℕ) (bound : ℕ) → AddOver checkpoint us vs
    → ((u : Update) → Contains vs u → 0 < u.stamp.version) → (has : HasTop us key bound) → IsBelowNew us vs key has.top
below_top us vs checkpoint key bound new positive has = record {
  old = λ u at of_key low. elim (new u at) as (λ _. Contains us u) [
    | inl there ↦ there
    | inr over ↦ elim has.reached as (λ _. Contains us u) [
      | inl zero ↦ let some : 0 < u.stamp.version = positive u at in absurd (omega (arith, zero, low, some))
      | inr found ↦
          let less : found.0.stamp.version < u.stamp.version = over.newer found.0 found.1 (found.2 ∙ sym of_key) in
          let same : found.0.stamp.version ≡ has.top = found.3 in
          absurd (omega (arith, less, same, low))
    ]
  ];
}

pub sound_of_more : (us vs : List Update) (checkpoint : CheckpointReading) → ((u : Update) → Contains us u → Contains vs u) → AddOver checkpoint us vs
    → ((u : Update) → Contains vs u → 0 < u.stamp.version) → IsSound us checkpoint → IsSound vs checkpoint
sound_of_more us vs checkpoint more new positive sound = record { entries = entry_stays; others = absence_stays }
  where
    entry_stays : (entry : Change) → Contains checkpoint.entries entry → IsSoundEntry vs checkpoint entry
    entry_stays entry at =
        let is = sound.entries entry at in
        let below : IsBelowNew us vs entry.key entry.version = record {
          old = λ u among of_key low. elim (new u among) as (λ _. Contains us u) [
            | inl there ↦ there
            | inr over ↦ let above : entry.version < u.stamp.version = over.above_entry entry at (sym of_key) in absurd (omega (arith, above, low))
          ];
        } in record {
          whole = is.whole;
          seen = seen_more us vs checkpoint entry.key entry.version new below is.seen;
          columns = λ number bytes.
              let both = more_columns us vs entry.key entry.version number bytes more below in
              (λ writes. both.0 ((is.columns number bytes).0 writes), λ column. (is.columns number bytes).1 (both.1 column));
        }

    absence_stays : (key : List ℕ) → ((entry : Change) → Contains checkpoint.entries entry → entry.key ≡ key → ⊥) → IsSoundAbsence vs checkpoint key
    absence_stays key none =
        let is = sound.others key none in
        let has = has_top us key is.version in
        let below = below_top us vs checkpoint key is.version new positive has in
        let seen : IsSeenAt us checkpoint key has.top = record {
          before = λ u at of_key early. has.all u at of_key (is.seen.before u at of_key early);
          by_end = λ u at of_key low. is.seen.by_end u at of_key (let most : has.top ≤ is.version = has.most in omega (arith, low, most));
        } in record {
          version = has.top;
          seen = seen_more us vs checkpoint key has.top new below seen;
          no_column = λ number bytes column. is.no_column number bytes (of_same_key (up_to has.top us) (up_to is.version us) key number bytes
              (λ u of_key at. let up = of_up has.top us u at in let most : has.top ≤ is.version = has.most in let low : u.stamp.version ≤ has.top = up.1 in in_up is.version us u up.0 (omega (arith, low, most)))
              (λ u of_key at. let up = of_up is.version us u at in in_up has.top us u up.0 (has.all u up.0 of_key up.1))
              ((more_columns us vs key has.top number bytes more below).1 column));
          rise = λ u w at_u at_w of_u of_w early late.
              let old = early_is_old us vs checkpoint u new at_u early in
              elim (new w at_w) as (λ _. IsOlder u.stamp w.stamp) [
                | inl there ↦ is.rise u w old there of_u of_w early late
                | inr over ↦ inl (over.newer u old (of_u ∙ sym of_w))
              ];
        }
