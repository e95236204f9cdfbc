-- A crash that loses names: what is left is what a deletion leaves.
use Rattle.std.proofs.Common.{◌⊎◌, inl, inr, ℕ, ◌<◌, ◌≤◌, Option, List, [], ◌∷◌, map, Contains, sym, subst, arith}
use Rattle.std.specs.List.{AllZip}
use Rattle.mt_words.specs.declared.update.Update.{Update}
use Rattle.mt_record.specs.declared.feed.head.Segment.{Segment}
use Rattle.mt_record.specs.Logs.{LogReading}
use Rattle.mt_scan.specs.Segments.{IsEarlier, IsJustBefore, IsSame, HasFile, HasGap}
use Rattle.mt_replay.proofs.Members.{of_map, in_map}
use Rattle.mt_recover.specs.Recovery.{begin_of}
use Rattle.mt_writer.specs.Files.{OpenFile, file_reading}
use Rattle.mt_laws.specs.Lives.{IsBehind, AreOpen, IsSyncedAbove, AllSyncedAbove, LogOf, there, deleted, those_there, Checkpoints, IsStillOrDeleted, AreDeleted, running, delete, Life, then}
use Rattle.mt_laws.specs.Names.{IsNew, IsLowest, AreNamesLeft}
use Rattle.mt_laws.proofs.LeftFiles.{none_at}
use Rattle.mt_laws.proofs.Doubled.{AreApart, apart_of, once_of, none_of}
use Rattle.mt_laws.proofs.KeptLogs.{was_there}
use Rattle.mt_laws.proofs.Living.{life_holds}
use Rattle.mt_laws.proofs.Successors.{just_is_earlier, just_or_earlier}

-- ---- fewer files

-- files that are apart still are if some are deleted
apart_fewer : (begin : ℕ) (xs ys : List (LogOf OpenFile)) → AllZip (IsStillOrDeleted begin) xs ys → AreApart (map file_reading (those_there xs))
    → AreApart (map file_reading (those_there ys))
apart_fewer begin [] [] are apart = tt
apart_fewer begin [] (y ∷ ys) are apart = absurd are
apart_fewer begin (x ∷ xs) [] are apart = absurd are
apart_fewer begin (there a ∷ xs) (there b ∷ ys) are apart = (
  λ x at same.
      let file = of_map file_reading (those_there ys) x at in
      let among = subst (Contains (map file_reading (those_there xs))) file.2 (in_map file_reading (those_there xs) file.0 (was_there begin xs ys file.0 are.1 file.1)) in
      apart.0 x among (subst (λ (f : OpenFile). IsSame x.head.segment f.head.segment) are.0 same),
  apart_fewer begin xs ys are.1 apart.1,
)
apart_fewer begin (there a ∷ xs) (deleted rs ∷ ys) are apart = apart_fewer begin xs ys are.1 apart.1
apart_fewer begin (deleted rs ∷ xs) (there b ∷ ys) are apart = absurd are.0
apart_fewer begin (deleted rs ∷ xs) (deleted ts ∷ ys) are apart = apart_fewer begin xs ys are.1 apart

-- the file of one of these segments
pub file_of : (P : Option Segment → Type 0) (files : List OpenFile) → HasFile (map file_reading files) P → (file : OpenFile) × Contains files file × P file.head.segment
file_of P files has =
    let file = of_map file_reading files has.1 (has.0, has.2, has.3) in
    (file.0, file.1, subst (λ (f : LogReading). P f.head.segment) (sym file.2) has.4)

pub has_file : (P : Option Segment → Type 0) (files : List OpenFile) (file : OpenFile) → Contains files file → P file.head.segment → HasFile (map file_reading files) P
has_file P files file at is = let among = in_map file_reading files file at in (among.0, file_reading file, among.1, among.2, is)

-- ---- the files that are left

left_open : (begin : ℕ) (before after : List (LogOf OpenFile)) → AreOpen begin (those_there before) → AreNamesLeft begin before after
    → AreOpen begin (those_there after)
left_open begin before after opens are = record {
  each = λ file at. opens.each file (was file at);
  once = once_of (map file_reading now) (apart_fewer begin before after are.each (apart_of (map file_reading files) opens.once));
  no_gap = λ i. none_at (HasGap begin (map file_reading now)) (map file_reading now) i (λ x at gap.
      let file = of_map file_reading now x at in
      no_gap file.0 file.1 (subst (HasGap begin (map file_reading now)) (sym file.2) gap));
  whole = λ a b at_a at_b behind. opens.whole a b (was a at_a) (was b at_b) behind;
  beyond = λ a b at_a at_b behind. opens.beyond a b (was a at_a) (was b at_b) behind;
}
  where
    files : List OpenFile
    files = those_there before

    now : List OpenFile
    now = those_there after

    was : (file : OpenFile) → Contains now file → Contains files file
    was file at = was_there begin before after file are.each at

    none_before : (file : OpenFile) → Contains files file → HasGap begin (map file_reading files) (file_reading file) → ⊥
    none_before file at = none_of (HasGap begin (map file_reading files)) (map file_reading files) (file_reading file) opens.no_gap (in_map file_reading files file at)

    -- the segment directly before a file that is left is left, or was the lowest
    just_left : (x file : OpenFile) → Contains now file → Contains files x → IsJustBefore x.head.segment file.head.segment → Contains now x ⊎ IsLowest begin files x
    just_left x file at_file at just = elim (are.lost x at) as (λ _. Contains now x ⊎ IsLowest begin files x) [
      | inl left ↦ inl left
      | inr lost ↦ elim lost as (λ _. Contains now x ⊎ IsLowest begin files x) [
        | inl new ↦ absurd (new.last file (was file at_file) (just_is_earlier x.head.segment file.head.segment just))
        | inr lowest ↦ inr lowest
      ]
    ]

    no_gap : (file : OpenFile) → Contains now file → HasGap begin (map file_reading now) (file_reading file) → ⊥
    no_gap file at gap = elim gap as (λ _. ⊥) [
      | inl amid ↦
          let e = file_of (λ other. IsEarlier other file.head.segment) now amid.0 in
          none_before file (was file at) (inl (
            has_file (λ other. IsEarlier other file.head.segment) files e.0 (was e.0 e.1) e.2,
            λ has.
                let x = file_of (λ other. IsJustBefore other file.head.segment) files has in
                elim (just_left x.0 file at x.1 x.2) as (λ _. ⊥) [
                  | inl left ↦ amid.1 (has_file (λ other. IsJustBefore other file.head.segment) now x.0 left x.2)
                  | inr lowest ↦ elim (just_or_earlier e.0.head.segment x.0.head.segment file.head.segment e.2 x.2) as (λ _. ⊥) [
                    | inl just ↦ amid.1 (has_file (λ other. IsJustBefore other file.head.segment) now e.0 e.1 just)
                    | inr earlier ↦ lowest.first e.0 (was e.0 e.1) earlier
                  ]
                ],
          ))
      | inr first ↦ none_before file (was file at) (inr (
        λ earlier. none_before file (was file at) (inl (
          earlier,
          λ has.
              let x = file_of (λ other. IsJustBefore other file.head.segment) files has in
              elim (just_left x.0 file at x.1 x.2) as (λ _. ⊥) [
                | inl left ↦ first.0 (has_file (λ other. IsEarlier other file.head.segment) now x.0 left (just_is_earlier x.0.head.segment file.head.segment x.2))
                | inr lowest ↦
                    let low : file.head.from ≤ begin = lowest.next file (was file at) x.2 in
                    let late : begin < file.head.from = first.1 in
                    omega (arith, low, late)
              ],
        )),
        first.1,
      ))
    ]

-- what is synced above a timestamp is so in the files that are left
left_above : (time begin : ℕ) (before after : List (LogOf OpenFile)) → AreNamesLeft begin before after → AllSyncedAbove time (those_there before)
    → AllSyncedAbove time (those_there after)
left_above time begin before after are above file at = by (above file (was_there begin before after file are.each at))
  where
    files : List OpenFile
    files = those_there before

    now : List OpenFile
    now = those_there after

    was : Contains files file
    was = was_there begin before after file are.each at

    -- the same record in a file that is left
    kept : (is : IsSyncedAbove time files file) → Contains now is.last → IsSyncedAbove time now file
    kept is left = record { last = is.last; stands = left; of_log = is.of_log; above = is.above }

    -- unless it is lost as the lowest, or as a new one
    unless_new : (is : IsSyncedAbove time files file) → (IsNew files is.last → IsBehind file is.last → IsSyncedAbove time now file) → IsSyncedAbove time now file
    unless_new is new = elim is.of_log as (λ _. IsSyncedAbove time now file) [
      | inl e ↦ kept is (subst (Contains now) e at)
      | inr behind ↦ elim (are.lost is.last is.stands) as (λ _. IsSyncedAbove time now file) [
        | inl left ↦ kept is left
        | inr lost ↦ elim lost as (λ _. IsSyncedAbove time now file) [ inl is_new ↦ new is_new behind | inr lowest ↦ absurd (lowest.first file was behind) ]
      ]
    ]

    by : IsSyncedAbove time files file → IsSyncedAbove time now file
    by is = unless_new is (λ new behind.
        let earlier = new.reach time file was behind is.above in
        unless_new earlier.above (λ newer _. absurd (newer.last is.last is.stands earlier.earlier)))

names_deleted : (begin : ℕ) (before after : List (LogOf OpenFile)) → AreOpen begin (those_there before) → AreNamesLeft begin before after
    → AreDeleted begin before after
names_deleted begin before after opens are = record {
  each = are.each;
  some = are.some;
  reach = λ time. left_above time begin before after are;
  opens = left_open begin before after opens are;
}

-- ---- the law

pub life_without : (acked : List Update) (before after : List (LogOf OpenFile)) (checkpoints : Checkpoints) → Life (running acked before checkpoints)
    → AreNamesLeft (begin_of checkpoints.base) before after → Life (running acked after checkpoints)
life_without acked before after checkpoints life are =
    let is = life_holds (running acked before checkpoints) life in
    then (running acked before checkpoints) (running acked after checkpoints) life
    (delete acked before after checkpoints (names_deleted (begin_of checkpoints.base) before after is.opens are))
