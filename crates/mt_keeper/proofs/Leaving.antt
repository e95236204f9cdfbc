-- Segments that are deleted.
use Rattle.std.proofs.Common.{◌≡◌, ◌⊎◌, inl, inr, ℕ, ◌<◌, true, false, Option, None, Some, IfSome, List, ◌∷◌, ◌++◌, map, slice_set, Contains, refl, sym, ap, ◌∙◌, subst, arith}
use Rattle.std.specs.Prelude.{slice_get}
use Rattle.std.proofs.lemmas.Bool.{false≢true}
use Rattle.std.proofs.lemmas.Option.{none-some, same_Some}
use Rattle.std.proofs.lemmas.List.Elements.{Contains-append_left, Contains-append_right, Contains-append_cases, All-contains}
use Rattle.mt_words.specs.Changes.{Logged}
use Rattle.mt_words.proofs.Elements.{head_or_tail, tail_in}
use Rattle.mt_record.specs.declared.feed.head.Segment.{Segment}
use Rattle.mt_scan.specs.Segments.{IsEarlier, IsJustBefore}
use Rattle.mt_replay.proofs.Members.{of_map, in_map}
use Rattle.mt_writer.specs.Files.{OpenFile}
use Rattle.mt_writer.specs.Journals.{Journal, Writer, NewFile, records_of, file_of}
use Rattle.mt_laws.specs.Lives.{there, AreOld}
use Rattle.mt_laws.specs.Names.{IsLowest}
use Rattle.mt_laws.specs.Writing.{Slot, coming, writing, sealed, going, gone, log_of, files_there, begin_now, Server, with_slot, IsCall, delete, told_deleted}
use Rattle.mt_laws.proofs.Slots.{of_files, amid, was_in}
use Rattle.mt_keeper.specs.declared.keeper.Stage.{Stage}
use Rattle.mt_keeper.specs.declared.keeper.Stage.TheVariants.{Coming, Writing, Followed, Going, Gone}
use Rattle.mt_keeper.specs.declared.keeper.Log.{Log}
use Rattle.mt_keeper.specs.Keeping.{Keeping, Holds, numbered, IsInStage, IsWhole, IsLogOf, segment_in, from_in, is_newest, Place, place_of, AreInPlace, LetsGo, MayGo}
use Rattle.mt_keeper.specs.Calling.{Steps, with_changed, place_at, with_going, with_gone, if_sealed, if_going}
use Rattle.mt_keeper.proofs.OneChanged.{SlotOf, slot_of, all_kept, same_of_all, in_numbered, of_numbered}
use Rattle.mt_keeper.proofs.Writes.{written_slot}
use Rattle.mt_keeper.proofs.Following.{Around, around}
use Rattle.mt_keeper.proofs.Reaching.{log_at, slot_at, segment_there}

pub sealed_slot : (last : ℕ) (x : Slot) → IsInStage (Followed last) x → (j : Journal) × (x ≡ sealed j) × IsWhole last j
sealed_slot last (coming j) is = absurd is
sealed_slot last (writing j) is = absurd is
sealed_slot last (sealed j) is = (j, refl, is)
sealed_slot last (going j) is = absurd is
sealed_slot last (gone records) is = absurd is

pub going_slot : (x : Slot) → IsInStage Going x → (j : Journal) × (x ≡ going j)
going_slot (coming j) is = absurd is
going_slot (writing j) is = absurd is
going_slot (sealed j) is = absurd is
going_slot (going j) is = (j, refl)
going_slot (gone records) is = absurd is

from_there : (x : Slot) (file : OpenFile) → log_of x ≡ there file → from_in x ≡ file.head.from
from_there (coming j) file is = cc
from_there (writing j) file is = cc
from_there (sealed j) file is = cc
from_there (going j) file is = cc
from_there (gone records) file is = absurd cc

-- the newest file of a log is coming or written
newest_stage : (stage : Stage) → is_newest stage ≡ true → ((new : NewFile) × (stage ≡ Coming new)) ⊎ ((w : Writer) × (stage ≡ Writing w))
newest_stage (Coming new) is = inl (new, refl)
newest_stage (Writing w) is = inr (w, refl)
newest_stage (Followed last) is = absurd (false≢true is)
newest_stage Going is = absurd (false≢true is)
newest_stage Gone is = absurd (false≢true is)

-- another element stands before or behind
beside : {A : Type 0} (front back : List A) (x z : A) → Contains (front ++ x ∷ back) z → (x ≡ z → ⊥) → Contains (front ++ back) z
beside front back x z at other = elim (Contains-append_cases front (x ∷ back) z at) as (λ _. Contains (front ++ back) z) [
  | inl before ↦ Contains-append_left front back z before
  | inr rest ↦ elim (head_or_tail x z back rest) as (λ _. Contains (front ++ back) z) [
    | inl same ↦ absurd (other same)
    | inr later ↦ Contains-append_right front back z later
  ]
]

-- ---- a segment is being deleted

pub goes : (keeper : Keeping) (s : Server) (number : ℕ) → Holds keeper s → (may : MayGo keeper number)
    → Steps s (with_going s number) (record keeper { logs = slice_set keeper.logs number (record may.log { stage = Going }) })
goes keeper s number holds may = (
  subst (λ (slots : List Slot). IsCall (record s { slots = slots }) (with_going s number)) (sym before)
      (subst (λ (slots : List Slot). IsCall (with_slot s of.front (sealed j) of.back) (record s { slots = slots })) (sym now) (delete s of.front of.back j firm.0 old lowest (inl firm.1))),
  record {
    clock = holds.clock;
    acked = holds.acked;
    base = holds.base;
    numbers = of.numbers if_sealed;
    logs = all_kept keeper.clock keeper.clock keeper.logs s number may.log (record may.log { stage = Going }) if_sealed holds.numbers holds.logs may.stands (λ l x is. is) kept;
    places = subst (AreInPlace keeper.workers)
        (sym (same_of_all place_of keeper.logs number may.log (record may.log { stage = Going }) may.stands (ap (λ (stage : Stage). (is_newest stage, may.log.segment)) (sym may.stage)))) holds.places;
    checkpoints = holds.checkpoints;
  },
)
  where
    of : SlotOf (IsLogOf keeper.clock) s number may.log
    of = slot_of (IsLogOf keeper.clock) keeper.logs s number may.log holds.numbers holds.logs may.stands

    here : (j : Journal) × (of.slot ≡ sealed j) × IsWhole may.last j
    here = sealed_slot may.last of.slot (subst (λ (stage : Stage). IsInStage stage of.slot) may.stage of.keeps.stage)

    j : Journal
    j = here.0

    segment : Some may.segment ≡ j.head.segment
    segment = sym may.is ∙ of.keeps.segment ∙ ap segment_in here.1

    before : s.slots ≡ of.front ++ sealed j ∷ of.back
    before = of.split ∙ ap (λ (x : Slot). of.front ++ x ∷ of.back) here.1

    now : with_changed s.slots (place_at s number) if_sealed ≡ of.front ++ going j ∷ of.back
    now = of.changed if_sealed ∙ ap (λ (x : Slot). of.front ++ if_sealed x ∷ of.back) here.1

    old : AreOld (begin_now s) (records_of j)
    old r at not =
        let below = here.2.2.times r.timestamp (tail_in j.head.from r.timestamp _ (in_map (λ (r : Logged). r.timestamp) (records_of j) r at)) in
        omega (arith, below, may.old, holds.checkpoints.of_base)

    -- the log of a file lets this one go
    let_go : (file : OpenFile) → Contains (files_there s) file → (l : Log) × (l.segment ≡ file.head.segment) × (l.from ≡ file.head.from) × LetsGo keeper.base may.segment l
    let_go file at =
        let x = of_files s.slots file at in
        let l = log_at (IsLogOf keeper.clock) keeper.logs (numbered s) x.0 holds.logs (in_numbered s x.0 file holds.numbers x.1 x.2) in
        (l.0, l.2.segment ∙ segment_there x.0 file x.2, l.2.from ∙ from_there x.0 file x.2, All-contains (LetsGo keeper.base may.segment) keeper.logs l.0 may.lowest l.1)

    lowest : IsLowest (begin_now s) (files_there (with_slot s of.front (sealed j) of.back)) (file_of j)
    lowest = subst (λ (slots : List Slot). IsLowest (begin_now s) (files_there (record s { slots = slots })) (file_of j)) before (record {
      first = λ file at behind.
          let l = let_go file at in
          l.3.first (subst (λ (a : Option Segment). IsEarlier a (Some may.segment)) (sym l.1) (subst (IsEarlier file.head.segment) (sym segment) behind));
      next = λ file at just.
          let l = let_go file at in
          let low = l.3.next (subst (IsJustBefore (Some may.segment)) (sym l.1) (subst (λ (a : Option Segment). IsJustBefore a file.head.segment) (sym segment) just)) in
          omega (arith, low, l.2, holds.checkpoints.of_base);
    })

    -- the newest segment of the log is written
    firm : (other : Journal) × Contains (of.front ++ of.back) (writing other)
    firm =
        let logs = around keeper.logs number may.log may.stands in
        let stands : Contains keeper.logs may.log = subst (λ (ls : List Log). Contains ls may.log) (sym logs.split) (amid logs.front logs.back may.log) in
        let place = subst (Contains (map place_of keeper.logs)) (ap (λ (stage : Stage). (is_newest stage, may.log.segment)) may.stage ∙ ap (λ (segment : Option Segment). (false, segment)) may.is)
        (in_map place_of keeper.logs may.log stands) in
        let later = holds.places.followed may.segment place in
        let m = of_map place_of keeper.logs (true, later.0) later.1 in
        let y = slot_at (IsLogOf keeper.clock) keeper.logs (numbered s) m.0 holds.logs m.1 in
        let lets = All-contains (LetsGo keeper.base may.segment) keeper.logs m.0 may.lowest m.1 in
        elim (newest_stage m.0.stage (ap (λ (p : Place). p.0) m.2)) as (λ _. (other : Journal) × Contains (of.front ++ of.back) (writing other)) [
          | inl new ↦ absurd (lets.created new.0 (subst (IsEarlier (Some may.segment)) (sym (ap (λ (p : Place). p.1) m.2)) later.2) new.1)
          | inr w ↦
              let is = written_slot w.0 y.0 (subst (λ (stage : Stage). IsInStage stage y.0) w.1 y.2.stage) in
              (is.0, beside of.front of.back (sealed j) (writing is.0) (subst (λ (slots : List Slot). Contains slots (writing is.0)) before (subst (Contains s.slots) is.1 (of_numbered s y.0 holds.numbers y.1))) (λ same. absurd cc))
        ]

    kept : (x : Slot) → IsLogOf keeper.clock may.log x → IsLogOf keeper.clock (record may.log { stage = Going }) (if_sealed x)
    kept x is =
        let one = sealed_slot may.last x (subst (λ (stage : Stage). IsInStage stage x) may.stage is.stage) in
        subst (λ (y : Slot). IsLogOf keeper.clock (record may.log { stage = Going }) (if_sealed y)) (sym one.1) (record {
          stage = (may.last, one.2);
          segment = is.segment ∙ ap segment_in one.1;
          from = is.from ∙ ap from_in one.1;
          latest = omega arith;
        })

-- the same, of the log that is read
pub goes_as : (keeper : Keeping) (s : Server) (number : ℕ) (log : Log) → Holds keeper s → MayGo keeper number → slice_get keeper.logs number ≡ Some log
    → Steps s (with_going s number) (record keeper { logs = slice_set keeper.logs number (record log { stage = Going }) })
goes_as keeper s number log holds may at =
    subst (λ (l : Log). Steps s (with_going s number) (record keeper { logs = slice_set keeper.logs number (record l { stage = Going }) }))
    (same_Some may.log log (sym may.stands ∙ at)) (goes keeper s number holds may)

-- ---- a segment is gone

-- the log of a file that is gone
abbrev pub gone_log : Log
gone_log = record { segment = None; from = 0; stage = Gone }

-- A file goes that is not the newest: all are in place still.
gone_in_place : (workers : ℕ) (front back : List Log) (log : Log) → AreInPlace workers (map place_of (front ++ log ∷ back)) → is_newest log.stage ≡ false
    → AreInPlace workers (map place_of (front ++ gone_log ∷ back))
gone_in_place workers front back log are older = record {
  known = λ place at.
      let x = of_map place_of now place at in
      elim (was_in front back log gone_log x.0 x.1) as (λ _. IfSome place.1 (λ s. s.worker < workers)) [
        | inl e ↦ subst (λ (p : Place). IfSome p.1 (λ s. s.worker < workers)) (ap place_of e ∙ x.2) tt
        | inr old ↦ are.known place (subst (Contains (map place_of was)) x.2 (in_map place_of was x.0 old))
      ];
  followed = λ segment at.
      let x = of_map place_of now (false, Some segment) at in
      elim (was_in front back log gone_log x.0 x.1) as (λ _. (later : Option Segment) × Contains (map place_of now) (true, later) × IsEarlier (Some segment) later) [
        | inl e ↦ absurd (none-some segment (ap (λ (p : Place). p.1) (ap place_of e ∙ x.2)))
        | inr old ↦
            let later = are.followed segment (subst (Contains (map place_of was)) x.2 (in_map place_of was x.0 old)) in
            let y = of_map place_of was (true, later.0) later.1 in
            let z = subst (Contains (map place_of now)) y.2 (in_map place_of now y.0 (not_log y.0 y.1 (ap (λ (p : Place). p.0) y.2))) in
            (later.0, z, later.2)
      ];
}
  where
    was : List Log
    was = front ++ log ∷ back

    now : List Log
    now = front ++ gone_log ∷ back

    not_log : (y : Log) → Contains was y → is_newest y.stage ≡ true → Contains now y
    not_log y at newest = elim (was_in front back gone_log log y at) as (λ _. Contains now y) [
      | inl e ↦ absurd (false≢true (sym older ∙ ap (λ (l : Log). is_newest l.stage) e ∙ newest))
      | inr still ↦ still
    ]

pub went : (keeper : Keeping) (s : Server) (number : ℕ) (log : Log) → Holds keeper s → slice_get keeper.logs number ≡ Some log → log.stage ≡ Going
    → Steps s (with_gone s number) (record keeper { logs = slice_set keeper.logs number gone_log })
went keeper s number log holds at going_is = (
  subst (λ (slots : List Slot). IsCall (record s { slots = slots }) (with_gone s number)) (sym before)
      (subst (λ (slots : List Slot). IsCall (with_slot s of.front (going here.0) of.back) (record s { slots = slots })) (sym now) (told_deleted s of.front of.back here.0)),
  record {
    clock = holds.clock;
    acked = holds.acked;
    base = holds.base;
    numbers = of.numbers if_going;
    logs = all_kept keeper.clock keeper.clock keeper.logs s number log gone_log if_going holds.numbers holds.logs at (λ l x is. is) kept;
    places = subst (λ (ls : List Log). AreInPlace keeper.workers (map place_of ls)) (sym (logs.changed gone_log))
        (gone_in_place keeper.workers logs.front logs.back log (subst (λ (ls : List Log). AreInPlace keeper.workers (map place_of ls)) logs.split holds.places) (ap is_newest going_is));
    checkpoints = holds.checkpoints;
  },
)
  where
    of : SlotOf (IsLogOf keeper.clock) s number log
    of = slot_of (IsLogOf keeper.clock) keeper.logs s number log holds.numbers holds.logs at

    logs : Around keeper.logs number log
    logs = around keeper.logs number log at

    here : (j : Journal) × (of.slot ≡ going j)
    here = going_slot of.slot (subst (λ (stage : Stage). IsInStage stage of.slot) going_is of.keeps.stage)

    before : s.slots ≡ of.front ++ going here.0 ∷ of.back
    before = of.split ∙ ap (λ (x : Slot). of.front ++ x ∷ of.back) here.1

    now : with_changed s.slots (place_at s number) if_going ≡ of.front ++ gone (records_of here.0) ∷ of.back
    now = of.changed if_going ∙ ap (λ (x : Slot). of.front ++ if_going x ∷ of.back) here.1

    kept : (x : Slot) → IsLogOf keeper.clock log x → IsLogOf keeper.clock gone_log (if_going x)
    kept x is =
        let one = going_slot x (subst (λ (stage : Stage). IsInStage stage x) going_is is.stage) in
        subst (λ (y : Slot). IsLogOf keeper.clock gone_log (if_going y)) (sym one.1) (record { stage = tt; segment = refl; from = refl; latest = omega arith })
