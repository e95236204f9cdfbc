-- A sound checkpoint and the updates from its begin on leave what the whole history leaves, key by key.
use Rattle.std.proofs.Common.{◌≡◌, ◌⊎◌, ◌↔◌, inl, inr, ℕ, ◌<◌, ◌≤◌, nat_le, Some, None, List, [], ◌∷◌, Contains, sym, ap, ◌∙◌, subst, arith}
use Rattle.std.proofs.lemmas.Bool.{cases_lt}
use Rattle.std.proofs.lemmas.List.Elements.{Contains-append_cases, Contains-append_left, Contains-append_right}
use Rattle.mt_words.specs.declared.record.Change.{Change}
use Rattle.mt_words.specs.declared.update.Update.{Update}
use Rattle.mt_words.specs.Changes.{Logged, Writes}
use Rattle.mt_words.specs.Stamps.{IsAtMost}
use Rattle.mt_words.specs.Walks.{Pair}
use Rattle.mt_words.proofs.Elements.{no_element, head_or_tail, head_in, tail_in}
use Rattle.mt_scan.specs.Choice.{CheckpointReading}
use Rattle.mt_replay.specs.declared.window.Window.{Window}
use Rattle.mt_replay.specs.KeyColumns.{HasColumn}
use Rattle.mt_replay.specs.Survivors.{log_updates, in_window, log_survivors, wholes}
use Rattle.mt_replay.specs.Walk.{IsWalk}
use Rattle.mt_replay.proofs.Members.{of_map, in_map, of_filter, in_filter}
use Rattle.mt_recover.specs.Recovery.{survivors}
use Rattle.mt_laws.specs.Crashes.{up_to, IsSeenAt, IsSoundAbsence, IsSound}
use Rattle.mt_laws.proofs.Decided.{same_bytes}
use Rattle.mt_laws.proofs.Windows.{is_least, at_least, within, not_early, not_late}
use Rattle.mt_laws.proofs.Moved.{version_at_most, version_below, at_most, column_by, moved, same_walk}
use Rattle.mt_laws.proofs.Entries.{entry_stamp, below_entry, above_entry, whole_resets, of_a_log, entry_update}

-- ---- the entry of a key

-- an entry of the key, of the greatest version that one has
pub record HasEntry (entries : List Change) (key : List ℕ) : Type 0 where
  pub entry : Change
  pub stands : Contains entries entry
  pub of_key : entry.key ≡ key
  pub greatest : (other : Change) → Contains entries other → other.key ≡ key → other.version ≤ entry.version

-- no entry is of the key
abbrev pub HasNone : List Change → List ℕ → Type 0
HasNone entries key = (entry : Change) → Contains entries entry → entry.key ≡ key → ⊥

-- a further entry, of the key, with the greatest version so far or without
one_more : (entry : Change) (entries : List Change) (key : List ℕ) → entry.key ≡ key → HasEntry entries key ⊎ HasNone entries key → HasEntry (entry ∷ entries) key
one_more entry entries key is (inr none) = record {
  entry = entry;
  stands = head_in entry entries;
  of_key = is;
  greatest = λ other at same. elim (head_or_tail entry other entries at) as (λ _. other.version ≤ entry.version) [
    | inl e ↦ let version : entry.version ≡ other.version = ap (λ (x : Change). x.version) e in omega arith
    | inr later ↦ absurd (none other later same)
  ];
}
one_more entry entries key is (inl has) = elim (cases_lt has.entry.version entry.version) as (λ _. HasEntry (entry ∷ entries) key) [
  | inl greater ↦ record {
    entry = entry;
    stands = head_in entry entries;
    of_key = is;
    greatest = λ other at same. elim (head_or_tail entry other entries at) as (λ _. other.version ≤ entry.version) [
      | inl e ↦ let version : entry.version ≡ other.version = ap (λ (x : Change). x.version) e in omega arith
      | inr later ↦ omega (arith, greater, has.greatest other later same)
    ];
  }
  | inr no_greater ↦ record {
    entry = has.entry;
    stands = tail_in entry has.entry entries has.stands;
    of_key = has.of_key;
    greatest = λ other at same. elim (head_or_tail entry other entries at) as (λ _. other.version ≤ has.entry.version) [
      | inl e ↦ let version : entry.version ≡ other.version = ap (λ (x : Change). x.version) e in omega (arith, no_greater, version)
      | inr later ↦ has.greatest other later same
    ];
  }
]

-- a further entry, of another key
one_other : (entry : Change) (entries : List Change) (key : List ℕ) → (entry.key ≡ key → ⊥) → HasEntry entries key ⊎ HasNone entries key
    → HasEntry (entry ∷ entries) key ⊎ HasNone (entry ∷ entries) key
one_other entry entries key not (inr none) = inr (λ other at same. elim (head_or_tail entry other entries at) as (λ _. ⊥) [
  | inl e ↦ not (ap (λ (x : Change). x.key) e ∙ same)
  | inr later ↦ none other later same
])
one_other entry entries key not (inl has) = inl (record {
  entry = has.entry;
  stands = tail_in entry has.entry entries has.stands;
  of_key = has.of_key;
  greatest = λ other at same. elim (head_or_tail entry other entries at) as (λ _. other.version ≤ has.entry.version) [
    | inl e ↦ absurd (not (ap (λ (x : Change). x.key) e ∙ same))
    | inr later ↦ has.greatest other later same
  ];
})

pub has_or_not : (entries : List Change) (key : List ℕ) → HasEntry entries key ⊎ HasNone entries key
has_or_not [] key = inr (λ entry at same. no_element entry at)
has_or_not (e ∷ es) key = elim (same_bytes e.key key) as (λ _. HasEntry (e ∷ es) key ⊎ HasNone (e ∷ es) key) [
  | inl is ↦ inl (one_more e es key is (has_or_not es key))
  | inr not ↦ one_other e es key not (has_or_not es key)
]

-- ---- what survives with the checkpoint and without

abbrev history_window : ℕ → Window
history_window cutoff = record { begin = 0; cutoff = cutoff }

abbrev window_over : ℕ → CheckpointReading → Window
window_over cutoff checkpoint = record { begin = checkpoint.begin; cutoff = cutoff }

pub in_history : (cutoff : ℕ) (logs : List (List Logged)) (u : Update) → Contains (log_updates logs) u → u.timestamp < cutoff → Contains (survivors cutoff None logs) u
in_history cutoff logs u at below =
    let window = history_window cutoff in
    Contains-append_left (log_survivors window logs) [] u (in_filter (in_window window) (log_updates logs) u (within window u.timestamp (omega arith) below) at)

pub of_history : (cutoff : ℕ) (logs : List (List Logged)) (u : Update) → Contains (survivors cutoff None logs) u → Contains (log_updates logs) u × (u.timestamp < cutoff)
of_history cutoff logs u at =
    let window = history_window cutoff in
    elim (Contains-append_cases (log_survivors window logs) [] u at) as (λ _. Contains (log_updates logs) u × (u.timestamp < cutoff)) [
      | inl log ↦ let is = of_filter (in_window window) (log_updates logs) u log in (is.0, not_late window u.timestamp is.1)
      | inr none ↦ absurd (no_element u none)
    ]

in_logs : (cutoff : ℕ) (checkpoint : CheckpointReading) (logs : List (List Logged)) (u : Update) → Contains (log_updates logs) u → checkpoint.begin ≤ u.timestamp
    → u.timestamp < cutoff → Contains (survivors cutoff (Some checkpoint) logs) u
in_logs cutoff checkpoint logs u at late below =
    let window = window_over cutoff checkpoint in
    Contains-append_left (log_survivors window logs) (wholes checkpoint.entries) u
    (in_filter (in_window window) (log_updates logs) u (within window u.timestamp late below) at)

in_entries : (cutoff : ℕ) (checkpoint : CheckpointReading) (logs : List (List Logged)) (entry : Change) → Contains checkpoint.entries entry
    → Contains (survivors cutoff (Some checkpoint) logs) (entry_update entry)
in_entries cutoff checkpoint logs entry at =
    Contains-append_right (log_survivors (window_over cutoff checkpoint) logs) (wholes checkpoint.entries) (entry_update entry)
    (in_map entry_update checkpoint.entries entry at)

-- an update of the logs, from the checkpoint's begin on
record IsLate (cutoff : ℕ) (checkpoint : CheckpointReading) (logs : List (List Logged)) (u : Update) : Type 0 where
  stands : Contains (log_updates logs) u
  late : checkpoint.begin ≤ u.timestamp
  below : u.timestamp < cutoff

-- the update of an entry
record IsOfEntry (checkpoint : CheckpointReading) (u : Update) : Type 0 where
  entry : Change
  stands : Contains checkpoint.entries entry
  same : entry_update entry ≡ u

of_both : (cutoff : ℕ) (checkpoint : CheckpointReading) (logs : List (List Logged)) (u : Update) → Contains (survivors cutoff (Some checkpoint) logs) u
    → IsLate cutoff checkpoint logs u ⊎ IsOfEntry checkpoint u
of_both cutoff checkpoint logs u at =
    let window = window_over cutoff checkpoint in
    elim (Contains-append_cases (log_survivors window logs) (wholes checkpoint.entries) u at) as (λ _. IsLate cutoff checkpoint logs u ⊎ IsOfEntry checkpoint u) [
      | inl log ↦ let is = of_filter (in_window window) (log_updates logs) u log in
          inl (record { stands = is.0; late = not_early window u.timestamp is.1; below = not_late window u.timestamp is.1 })
      | inr whole ↦ let is = of_map entry_update checkpoint.entries u whole in inr (record { entry = is.0; stands = is.1; same = is.2 })
    ]

pub in_up : (version : ℕ) (us : List Update) (u : Update) → Contains us u → u.stamp.version ≤ version → Contains (up_to version us) u
in_up version us u at most = in_filter (λ (w : Update). nat_le w.stamp.version version) us u (is_least u.stamp.version version most) at

pub of_up : (version : ℕ) (us : List Update) (u : Update) → Contains (up_to version us) u → Contains us u × (u.stamp.version ≤ version)
of_up version us u at = let is = of_filter (λ (w : Update). nat_le w.stamp.version version) us u at in (is.0, at_least u.stamp.version version is.1)

-- an update that a checkpoint has seen is from below the cutoff
seen_below : (cutoff : ℕ) (checkpoint : CheckpointReading) (logs : List (List Logged)) (key : List ℕ) (version : ℕ) (u : Update)
    → checkpoint.end < cutoff → IsSeenAt (log_updates logs) checkpoint key version → Contains (up_to version (log_updates logs)) u → u.key ≡ key
    → Contains (survivors cutoff None logs) u
seen_below cutoff checkpoint logs key version u ends seen at same =
    let is = of_up version (log_updates logs) u at in
    let by_end : u.timestamp ≤ checkpoint.end = seen.by_end u is.0 same is.1 in
    in_history cutoff logs u is.0 (omega (arith, ends, by_end))

-- a column that the history leaves, by a write that a checkpoint has seen, is left up to the version
pub seen_column : (cutoff : ℕ) (checkpoint : CheckpointReading) (logs : List (List Logged)) (key : List ℕ) (version number : ℕ) (bytes : List ℕ)
    → checkpoint.end < cutoff → IsSeenAt (log_updates logs) checkpoint key version → (h : HasColumn (survivors cutoff None logs) key number bytes)
    → h.write.stamp.version ≤ version → HasColumn (up_to version (log_updates logs)) key number bytes
seen_column cutoff checkpoint logs key version number bytes ends seen h most =
    moved (survivors cutoff None logs) (up_to version (log_updates logs)) key number bytes h
    (in_up version (log_updates logs) h.write (of_history cutoff logs h.write h.stands).0 most)
    (λ u at decides. inl (seen_below cutoff checkpoint logs key version u ends seen at decides.of_key))

-- an update of a greater version than a checkpoint has seen survives over it
unseen : (cutoff : ℕ) (checkpoint : CheckpointReading) (logs : List (List Logged)) (key : List ℕ) (version : ℕ) (u : Update)
    → IsSeenAt (log_updates logs) checkpoint key version → Contains (survivors cutoff None logs) u → u.key ≡ key → version < u.stamp.version
    → Contains (survivors cutoff (Some checkpoint) logs) u
unseen cutoff checkpoint logs key version u seen at same more =
    let is = of_history cutoff logs u at in
    elim (cases_lt u.timestamp checkpoint.begin) as (λ _. Contains (survivors cutoff (Some checkpoint) logs) u) [
      | inl early ↦ let most : u.stamp.version ≤ version = seen.before u is.0 same early in absurd (omega (arith, more, most))
      | inr late ↦ in_logs cutoff checkpoint logs u is.0 late is.1
    ]

-- ---- a key with an entry

-- the key of an update that is an entry's
key_of : (checkpoint : CheckpointReading) (u : Update) (key : List ℕ) (is : IsOfEntry checkpoint u) → u.key ≡ key → is.entry.key ≡ key
key_of checkpoint u key is same = ap (λ (x : Update). x.key) is.same ∙ same

-- the version of an update that is an entry's
version_of : (checkpoint : CheckpointReading) (u : Update) (is : IsOfEntry checkpoint u) → is.entry.version ≡ u.stamp.version
version_of checkpoint u is = ap (λ (x : Update). x.stamp.version) is.same

-- what a log's write leaves over the checkpoint, it leaves in the history
log_write_stays : (cutoff : ℕ) (checkpoint : CheckpointReading) (logs : List (List Logged)) (key : List ℕ) (number : ℕ) (bytes : List ℕ)
    → IsSound (log_updates logs) checkpoint → HasEntry checkpoint.entries key → (h : HasColumn (survivors cutoff (Some checkpoint) logs) key number bytes)
    → IsLate cutoff checkpoint logs h.write → HasColumn (survivors cutoff None logs) key number bytes
log_write_stays cutoff checkpoint logs key number bytes sound has h log =
    let both = survivors cutoff (Some checkpoint) logs in
    let entry = has.entry in
    let is = sound.entries entry has.stands in
    let low : IsAtMost (entry_stamp entry.version) h.write.stamp =
    at_most both key number bytes h (entry_update entry) (in_entries cutoff checkpoint logs entry has.stands)
    (record { of_key = has.of_key; how = inr (whole_resets entry.kind is.whole) }) in
    let more : entry.version < h.write.stamp.version = above_entry h.write.stamp entry.version (of_a_log logs h.write log.stands) low in
    moved both (survivors cutoff None logs) key number bytes h (in_history cutoff logs h.write log.stands log.below) (λ u at decides.
    let at_u = of_history cutoff logs u at in
    elim (cases_lt u.timestamp checkpoint.begin) as (λ _. Contains both u ⊎ IsAtMost u.stamp h.write.stamp) [
      | inl early ↦
          let most : u.stamp.version ≤ entry.version = is.seen.before u at_u.0 (decides.of_key ∙ sym has.of_key) early in
          inr (version_below u.stamp h.write.stamp (omega (arith, more, most)))
      | inr late ↦ inl (in_logs cutoff checkpoint logs u at_u.0 late at_u.1)
    ])

-- what an entry leaves over the checkpoint, the history leaves
entry_write_stays : (cutoff : ℕ) (checkpoint : CheckpointReading) (logs : List (List Logged)) (key : List ℕ) (number : ℕ) (bytes : List ℕ)
    → checkpoint.end < cutoff → IsSound (log_updates logs) checkpoint → (h : HasColumn (survivors cutoff (Some checkpoint) logs) key number bytes)
    → IsOfEntry checkpoint h.write → HasColumn (survivors cutoff None logs) key number bytes
entry_write_stays cutoff checkpoint logs key number bytes ends sound h of =
    let both = survivors cutoff (Some checkpoint) logs in
    let entry = of.entry in
    let up = up_to entry.version (log_updates logs) in
    let is = sound.entries entry of.stands in
    let same : entry.key ≡ key = key_of checkpoint h.write key of h.of_key in
    let version : entry.version ≡ h.write.stamp.version = version_of checkpoint h.write of in
    let writes : Writes entry.kind number (Some bytes) = subst (λ (u : Update). Writes u.kind number (Some bytes)) (sym of.same) h.writes in
    let column = subst (λ (k : List ℕ). HasColumn up k number bytes) same ((is.columns number bytes).0 writes) in
    let seen = subst (λ (k : List ℕ). IsSeenAt (log_updates logs) checkpoint k entry.version) same is.seen in
    moved up (survivors cutoff None logs) key number bytes column
    (seen_below cutoff checkpoint logs key entry.version column.write ends seen column.stands column.of_key) (λ u at decides.
    elim (cases_lt entry.version u.stamp.version) as (λ _. Contains up u ⊎ IsAtMost u.stamp column.write.stamp) [
      | inl more ↦
          let over = unseen cutoff checkpoint logs key entry.version u seen at decides.of_key more in
          let most : u.stamp.version ≤ h.write.stamp.version = version_at_most u.stamp h.write.stamp (at_most both key number bytes h u over decides) in
          absurd (omega (arith, more, most, version))
      | inr most ↦ inl (in_up entry.version (log_updates logs) u (of_history cutoff logs u at).0 most)
    ])

-- two stamps of entries, by their versions
entries_at_most : (a b : ℕ) → a ≤ b → IsAtMost (entry_stamp a) (entry_stamp b)
entries_at_most a b most = elim (cases_lt a b) as (λ _. IsAtMost (entry_stamp a) (entry_stamp b)) [
  | inl less ↦ inr (inl less)
  | inr no_less ↦ let same : a ≡ b = omega (arith, most, no_less) in inl (ap entry_stamp same)
]

-- what a write that the entry has not seen leaves in the history, it leaves over the checkpoint
later_write_stays : (cutoff : ℕ) (checkpoint : CheckpointReading) (logs : List (List Logged)) (key : List ℕ) (number : ℕ) (bytes : List ℕ)
    → (has : HasEntry checkpoint.entries key) → IsSeenAt (log_updates logs) checkpoint key has.entry.version
    → (h : HasColumn (survivors cutoff None logs) key number bytes) → has.entry.version < h.write.stamp.version
    → HasColumn (survivors cutoff (Some checkpoint) logs) key number bytes
later_write_stays cutoff checkpoint logs key number bytes has seen h more =
    let history = survivors cutoff None logs in
    moved history (survivors cutoff (Some checkpoint) logs) key number bytes h
    (unseen cutoff checkpoint logs key has.entry.version h.write seen h.stands h.of_key more) (λ u at decides.
    elim (of_both cutoff checkpoint logs u at) as (λ _. Contains history u ⊎ IsAtMost u.stamp h.write.stamp) [
      | inl log ↦ inl (in_history cutoff logs u log.stands log.below)
      | inr of ↦
          let version = version_of checkpoint u of in
          let most : of.entry.version ≤ has.entry.version = has.greatest of.entry of.stands (key_of checkpoint u key of decides.of_key) in
          inr (version_below u.stamp h.write.stamp (omega (arith, version, most, more)))
    ])

-- what a write that the entry has seen leaves in the history, the entry leaves over the checkpoint
seen_write_stays : (cutoff : ℕ) (checkpoint : CheckpointReading) (logs : List (List Logged)) (key : List ℕ) (number : ℕ) (bytes : List ℕ)
    → (has : HasEntry checkpoint.entries key) → Writes has.entry.kind number (Some bytes)
    → (h : HasColumn (survivors cutoff None logs) key number bytes) → h.write.stamp.version ≤ has.entry.version
    → HasColumn (survivors cutoff (Some checkpoint) logs) key number bytes
seen_write_stays cutoff checkpoint logs key number bytes has writes h most =
    let entry = has.entry in
    column_by (survivors cutoff (Some checkpoint) logs) key number bytes (entry_update entry) (in_entries cutoff checkpoint logs entry has.stands) has.of_key
    writes (λ u at decides.
    elim (of_both cutoff checkpoint logs u at) as (λ _. IsAtMost u.stamp (entry_stamp entry.version)) [
      | inl log ↦
          let low = at_most (survivors cutoff None logs) key number bytes h u (in_history cutoff logs u log.stands log.below) decides in
          let version : u.stamp.version ≤ h.write.stamp.version = version_at_most u.stamp h.write.stamp low in
          below_entry u.stamp entry.version (of_a_log logs u log.stands) (omega (arith, version, most))
      | inr of ↦
          let low = entries_at_most of.entry.version entry.version (has.greatest of.entry of.stands (key_of checkpoint u key of decides.of_key)) in
          subst (λ (x : Update). IsAtMost x.stamp (entry_stamp entry.version)) of.same low
    ])

with_entry : (cutoff : ℕ) (checkpoint : CheckpointReading) (logs : List (List Logged)) (key : List ℕ) (number : ℕ) (bytes : List ℕ)
    → checkpoint.end < cutoff → IsSound (log_updates logs) checkpoint → HasEntry checkpoint.entries key
    → HasColumn (survivors cutoff (Some checkpoint) logs) key number bytes ↔ HasColumn (survivors cutoff None logs) key number bytes
with_entry cutoff checkpoint logs key number bytes ends sound has =
    let entry = has.entry in
    let is = sound.entries entry has.stands in
    let seen = subst (λ (k : List ℕ). IsSeenAt (log_updates logs) checkpoint k entry.version) has.of_key is.seen in (
      λ h. elim (of_both cutoff checkpoint logs h.write h.stands) as (λ _. HasColumn (survivors cutoff None logs) key number bytes) [
        | inl log ↦ log_write_stays cutoff checkpoint logs key number bytes sound has h log
        | inr of ↦ entry_write_stays cutoff checkpoint logs key number bytes ends sound h of
      ],
      λ h. elim (cases_lt entry.version h.write.stamp.version) as (λ _. HasColumn (survivors cutoff (Some checkpoint) logs) key number bytes) [
        | inl more ↦ later_write_stays cutoff checkpoint logs key number bytes has seen h more
        | inr most ↦
            let up = seen_column cutoff checkpoint logs key entry.version number bytes ends seen h most in
            let writes = (is.columns number bytes).1
            (subst (λ (k : List ℕ). HasColumn (up_to entry.version (log_updates logs)) k number bytes) (sym has.of_key) up) in
            seen_write_stays cutoff checkpoint logs key number bytes has writes h most
      ],
    )

-- ---- a key without an entry

no_entry : (checkpoint : CheckpointReading) (u : Update) (key : List ℕ) → HasNone checkpoint.entries key → IsOfEntry checkpoint u → u.key ≡ key → ⊥
no_entry checkpoint u key none of same = none of.entry of.stands (key_of checkpoint u key of same)

stays_without : (cutoff : ℕ) (checkpoint : CheckpointReading) (logs : List (List Logged)) (key : List ℕ) (number : ℕ) (bytes : List ℕ)
    → IsSoundAbsence (log_updates logs) checkpoint key → HasNone checkpoint.entries key
    → HasColumn (survivors cutoff (Some checkpoint) logs) key number bytes → HasColumn (survivors cutoff None logs) key number bytes
stays_without cutoff checkpoint logs key number bytes absence none h =
    let both = survivors cutoff (Some checkpoint) logs in
    elim (of_both cutoff checkpoint logs h.write h.stands) as (λ _. HasColumn (survivors cutoff None logs) key number bytes) [
      | inl log ↦ moved both (survivors cutoff None logs) key number bytes h (in_history cutoff logs h.write log.stands log.below) (λ u at decides.
          let is = of_history cutoff logs u at in
          elim (cases_lt u.timestamp checkpoint.begin) as (λ _. Contains both u ⊎ IsAtMost u.stamp h.write.stamp) [
            | inl early ↦ inr (inr (absence.rise u h.write is.0 log.stands decides.of_key h.of_key early log.late))
            | inr late ↦ inl (in_logs cutoff checkpoint logs u is.0 late is.1)
          ])
      | inr of ↦ absurd (no_entry checkpoint h.write key none of h.of_key)
    ]

came_without : (cutoff : ℕ) (checkpoint : CheckpointReading) (logs : List (List Logged)) (key : List ℕ) (number : ℕ) (bytes : List ℕ)
    → checkpoint.end < cutoff → IsSoundAbsence (log_updates logs) checkpoint key → HasNone checkpoint.entries key
    → HasColumn (survivors cutoff None logs) key number bytes → HasColumn (survivors cutoff (Some checkpoint) logs) key number bytes
came_without cutoff checkpoint logs key number bytes ends absence none h =
    let history = survivors cutoff None logs in
    let is = of_history cutoff logs h.write h.stands in
    elim (cases_lt h.write.timestamp checkpoint.begin) as (λ _. HasColumn (survivors cutoff (Some checkpoint) logs) key number bytes) [
      | inl early ↦ absurd (absence.no_column number bytes (seen_column cutoff checkpoint logs key absence.version number bytes ends absence.seen h
          (absence.seen.before h.write is.0 h.of_key early)))
      | inr late ↦ moved history (survivors cutoff (Some checkpoint) logs) key number bytes h (in_logs cutoff checkpoint logs h.write is.0 late is.1) (λ u at decides.
          elim (of_both cutoff checkpoint logs u at) as (λ _. Contains history u ⊎ IsAtMost u.stamp h.write.stamp) [
            | inl log ↦ inl (in_history cutoff logs u log.stands log.below)
            | inr of ↦ absurd (no_entry checkpoint u key none of decides.of_key)
          ])
    ]

-- ---- all keys

same_column : (cutoff : ℕ) (checkpoint : CheckpointReading) (logs : List (List Logged)) (key : List ℕ) (number : ℕ) (bytes : List ℕ)
    → checkpoint.end < cutoff → IsSound (log_updates logs) checkpoint
    → HasColumn (survivors cutoff (Some checkpoint) logs) key number bytes ↔ HasColumn (survivors cutoff None logs) key number bytes
same_column cutoff checkpoint logs key number bytes ends sound =
    elim (has_or_not checkpoint.entries key)
    as (λ _. HasColumn (survivors cutoff (Some checkpoint) logs) key number bytes ↔ HasColumn (survivors cutoff None logs) key number bytes) [
      | inl has ↦ with_entry cutoff checkpoint logs key number bytes ends sound has
      | inr none ↦ (
        λ h. stays_without cutoff checkpoint logs key number bytes (sound.others key none) none h,
        λ h. came_without cutoff checkpoint logs key number bytes ends (sound.others key none) none h,
      )
    ]

pub same_over_sound : (logs : List (List Logged)) (cutoff : ℕ) (checkpoint : CheckpointReading) (pairs : List Pair)
    → checkpoint.end < cutoff → IsSound (log_updates logs) checkpoint
    → IsWalk (survivors cutoff (Some checkpoint) logs) pairs ↔ IsWalk (survivors cutoff None logs) pairs
same_over_sound logs cutoff checkpoint pairs ends sound =
    let both = survivors cutoff (Some checkpoint) logs in
    let history = survivors cutoff None logs in (
      λ walk. same_walk both history pairs (λ key number bytes. same_column cutoff checkpoint logs key number bytes ends sound) walk,
      λ walk. same_walk history both pairs
          (λ key number bytes. let same = same_column cutoff checkpoint logs key number bytes ends sound in (same.1, same.0)) walk,
    )
