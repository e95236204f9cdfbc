-- A file that is added to open ones: all are open then.
use Rattle.std.proofs.Common.{◌≡◌, ◌⊎◌, inl, inr, ℕ, ◌<◌, ◌≤◌, true, Option, Some, None, List, [], ◌∷◌, ◌++◌, map, Contains, sym, subst, arith}
use Rattle.std.proofs.lemmas.List.Elements.{Contains-append_left, Contains-append_right, Contains-push_cases}
use Rattle.mt_words.specs.Changes.{is_mark}
use Rattle.mt_words.proofs.Elements.{no_element, head_in, tail_in}
use Rattle.mt_record.specs.declared.feed.head.Segment.{Segment}
use Rattle.mt_record.specs.Logs.{LogReading, times_of}
use Rattle.mt_scan.specs.Segments.{IsEarlier, IsJustBefore, IsSame, HasFile, HasGap}
use Rattle.mt_replay.proofs.Members.{of_map, in_map}
use Rattle.mt_writer.specs.Files.{OpenFile, file_bytes, file_reading, HasSynced, IsOpenFile}
use Rattle.mt_laws.specs.Lives.{IsBehind, AreOpen}
use Rattle.mt_laws.specs.Writing.{IsOneWorkers, IsFresh}
use Rattle.mt_laws.proofs.LeftFiles.{none_at}
use Rattle.mt_laws.proofs.Doubled.{AreApart, apart_of, once_of, none_of}
use Rattle.mt_laws.proofs.LostNames.{file_of, has_file}
use Rattle.mt_laws.proofs.Successors.{not_earlier, just_is_earlier}

-- The file is open, and the last of its log. The segment directly before it is there, or it begins its log. What is behind it is synced whole, and it has a synced
-- mark at or past each time of that.
pub record MayBeAdded (begin : ℕ) (files : List OpenFile) (new : OpenFile) : Type 0 where
  pub is_open : IsOpenFile new
  pub once : (x : OpenFile) → Contains files x → IsSame new.head.segment x.head.segment → ⊥
  pub last : (x : OpenFile) → Contains files x → IsBehind new x → ⊥
  pub follows : ((x : OpenFile) × Contains files x × IsJustBefore x.head.segment new.head.segment)
      ⊎ (((x : OpenFile) → Contains files x → IsBehind x new → ⊥) × (new.head.from ≤ begin))
  pub whole : (x : OpenFile) → Contains files x → IsBehind x new → x.synced ≡ file_bytes x
  pub beyond : (x : OpenFile) → Contains files x → IsBehind x new → (time : ℕ) → Contains (times_of (file_reading x)) time
      → HasSynced (λ r. (is_mark r ≡ true) × (time ≤ r.timestamp)) new

apart_with : (files : List OpenFile) (new : OpenFile) → ((x : OpenFile) → Contains files x → IsSame new.head.segment x.head.segment → ⊥)
    → AreApart (map file_reading files) → AreApart (map file_reading (files ++ new ∷ []))
apart_with [] new once apart = (λ x none. absurd (no_element x none), tt)
apart_with (f ∷ fs) new once apart = (
  λ x at same.
      let y = of_map file_reading (fs ++ new ∷ []) x at in
      let again = subst (λ (l : LogReading). IsSame l.head.segment f.head.segment) (sym y.2) same in
      elim (Contains-push_cases fs new y.0 y.1) as (λ _. ⊥) [
        | inl old ↦ apart.0 (file_reading y.0) (in_map file_reading fs y.0 old) again
        | inr e ↦ once f (head_in f fs) (subst (λ (z : OpenFile). IsSame z.head.segment f.head.segment) (sym e) again)
      ],
  apart_with fs new (λ x at. once x (tail_in f x fs at)) apart.1,
)

pub opens_with : (begin : ℕ) (files : List OpenFile) (new : OpenFile) → AreOpen begin files → MayBeAdded begin files new → AreOpen begin (files ++ new ∷ [])
opens_with begin files new opens may = record {
  each = λ x at. elim (Contains-push_cases files new x at) as (λ _. IsOpenFile x) [ inl old ↦ opens.each x old | inr e ↦ subst IsOpenFile e may.is_open ];
  once = once_of readings (apart_with files new may.once (apart_of (map file_reading files) opens.once));
  no_gap = λ i. none_at (HasGap begin readings) readings i (λ x at gap.
      let file = of_map file_reading all x at in
      let has = subst (HasGap begin readings) (sym file.2) gap in
      elim (Contains-push_cases files new file.0 file.1) as (λ _. ⊥) [
        | inl old ↦ none_of (HasGap begin (map file_reading files)) (map file_reading files) (file_reading file.0) opens.no_gap (in_map file_reading files file.0 old) (old_gap file.0 old has)
        | inr e ↦ new_gap (subst (λ (f : OpenFile). HasGap begin readings (file_reading f)) (sym e) has)
      ]);
  whole = λ a b at_a at_b behind. elim (amid a b at_a at_b behind) as (λ _. a.synced ≡ file_bytes a) [
    | inl both ↦ opens.whole a b both.0 both.1 behind
    | inr one ↦ may.whole a one.0 one.1
  ];
  beyond = λ a b at_a at_b behind time at. elim (Contains-push_cases files new b at_b) as (λ _. HasSynced (λ r. (is_mark r ≡ true) × (time ≤ r.timestamp)) b) [
    | inl old ↦ opens.beyond a b (first a b at_a at_b behind) old behind time at
    | inr e ↦ subst (HasSynced (λ r. (is_mark r ≡ true) × (time ≤ r.timestamp))) e
        (may.beyond a (first a b at_a at_b behind) (subst (IsBehind a) (sym e) behind) time at)
  ];
}
  where
    all : List OpenFile
    all = files ++ new ∷ []

    readings : List LogReading
    readings = map file_reading all

    -- what is behind another was there
    first : (a b : OpenFile) → Contains all a → Contains all b → IsBehind a b → Contains files a
    first a b at_a at_b behind = elim (Contains-push_cases files new a at_a) as (λ _. Contains files a) [
      | inl old ↦ old
      | inr e ↦
          let later = subst (λ (f : OpenFile). IsBehind f b) (sym e) behind in
          elim (Contains-push_cases files new b at_b) as (λ _. Contains files a) [
            | inl old ↦ absurd (may.last b old later)
            | inr same ↦ absurd (not_earlier new.head.segment (subst (IsBehind new) (sym same) later))
          ]
    ]

    amid : (a b : OpenFile) → Contains all a → Contains all b → IsBehind a b → (Contains files a × Contains files b) ⊎ (Contains files a × IsBehind a new)
    amid a b at_a at_b behind = elim (Contains-push_cases files new b at_b) as (λ _. (Contains files a × Contains files b) ⊎ (Contains files a × IsBehind a new)) [
      | inl old ↦ inl (first a b at_a at_b behind, old)
      | inr e ↦ inr (first a b at_a at_b behind, subst (IsBehind a) (sym e) behind)
    ]

    more : (P : Option Segment → Type 0) → HasFile (map file_reading files) P → HasFile readings P
    more P has = let file = file_of P files has in has_file P all file.0 (Contains-append_left files (new ∷ []) file.0 file.1) file.2

    old_gap : (x : OpenFile) → Contains files x → HasGap begin readings (file_reading x) → HasGap begin (map file_reading files) (file_reading x)
    old_gap x at gap = elim gap as (λ _. HasGap begin (map file_reading files) (file_reading x)) [
      | inl has ↦ inl (
        let file = file_of (λ other. IsEarlier other x.head.segment) all has.0 in
            has_file (λ other. IsEarlier other x.head.segment) files file.0
            (first file.0 x file.1 (Contains-append_left files (new ∷ []) x at) file.2) file.2,
        λ just. has.1 (more (λ other. IsJustBefore other x.head.segment) just),
      )
      | inr none ↦ inr (λ earlier. none.0 (more (λ other. IsEarlier other x.head.segment) earlier), none.1)
    ]

    new_in : Contains all new
    new_in = Contains-append_right files (new ∷ []) new (head_in new [])

    new_gap : HasGap begin readings (file_reading new) → ⊥
    new_gap gap = elim may.follows as (λ _. ⊥) [
      | inl one ↦
          let is = Contains-append_left files (new ∷ []) one.0 one.1 in
          elim gap as (λ _. ⊥) [
            | inl has ↦ has.1 (has_file (λ other. IsJustBefore other new.head.segment) all one.0 is one.2)
            | inr none ↦ none.0 (has_file (λ other. IsEarlier other new.head.segment) all one.0 is (just_is_earlier one.0.head.segment new.head.segment one.2))
          ]
      | inr begins ↦ elim gap as (λ _. ⊥) [
        | inl has ↦
            let file = file_of (λ other. IsEarlier other new.head.segment) all has.0 in
            begins.0 file.0 (first file.0 new file.1 new_in file.2) file.2
        | inr none ↦ let late : begin < new.head.from = none.1 in omega (arith, begins.1, late)
      ]
    ]

-- ---- a file of a new log

pub one_worker : (a b : Option Segment) → IsEarlier a b → IsOneWorkers a b
one_worker (Some a) (Some b) is = is.0
one_worker (Some a) None is = absurd is
one_worker None b is = absurd is

pub worker_too : (a b : Option Segment) → IsOneWorkers a b → IsOneWorkers b a
worker_too (Some a) (Some b) is = sym is
worker_too (Some a) None is = absurd is
worker_too None b is = absurd is

pub not_alone : (a b : Option Segment) → b ≡ None → IsOneWorkers a b → ⊥
not_alone (Some a) (Some b) e is = absurd cc
not_alone (Some a) None e is = is
not_alone None b e is = is

same_worker : (a b : Option Segment) → IsSame a b → IsOneWorkers a b
same_worker (Some a) (Some b) is = is.0
same_worker (Some a) None is = absurd is
same_worker None b is = absurd is

-- a file of a log that has no file yet, with a `from` of at most `begin`
pub fresh_added : (begin : ℕ) (files : List OpenFile) (new : OpenFile) → IsOpenFile new → IsFresh files new.head → new.head.from ≤ begin → MayBeAdded begin files new
fresh_added begin files new is fresh from = record {
  is_open = is;
  once = λ x at same. fresh x at (worker_too new.head.segment x.head.segment (same_worker new.head.segment x.head.segment same));
  last = λ x at behind. fresh x at (worker_too new.head.segment x.head.segment (one_worker new.head.segment x.head.segment behind));
  follows = inr (none, from);
  whole = λ x at behind. absurd (none x at behind);
  beyond = λ x at behind time among. absurd (none x at behind);
}
  where
    none : (x : OpenFile) → Contains files x → IsBehind x new → ⊥
    none x at behind = fresh x at (one_worker x.head.segment new.head.segment behind)
