-- Logs that go on after a crash: those that a later segment follows are written no more.
use Rattle.std.proofs.Common.{◌≡◌, ◌⊎◌, inl, inr, ℕ, zero, suc, ◌+◌, ◌≤◌, ◌<◌, Bool, true, false, ◌||◌, Option, None, Some, IfSome, List, [], ◌∷◌, ◌++◌, map, take, drop, length, get_or, slice_set, Contains, refl, sym, ap, ◌∙◌, subst, arith}
use Rattle.std.specs.Prelude.{◌==◌, nat_lt, if◌then◌else◌}
use Rattle.std.specs.List.{AllZip, list_any}
use Rattle.std.proofs.lemmas.Bool.{false≢true, true≢false, and_parts, and_from, or_cases, or_parts, cases_Bool, eqb-true, eq-eqb, ltb-true, lt-ltb, false_from_ne_true}
use Rattle.std.proofs.lemmas.Option.{none-some, same_Some}
use Rattle.std.proofs.lemmas.List.{append-nil, length-map}
use Rattle.std.proofs.lemmas.List.Elements.{Contains-push_cases}
use Rattle.mt_words.specs.Changes.{Logged}
use Rattle.mt_words.proofs.Elements.{no_element, head_or_tail, head_in, tail_in}
use Rattle.mt_words.specs.declared.update.Update.{Update}
use Rattle.mt_record.specs.declared.feed.head.Segment.{Segment}
use Rattle.mt_record.specs.declared.front.LogFront.{LogFront}
use Rattle.mt_record.specs.Logs.{latest, log_bytes}
use Rattle.mt_record.specs.LogFronts.{IsFrontOf}
use Rattle.mt_scan.specs.Segments.{IsEarlier, is_earlier}
use Rattle.mt_recover.specs.Recovery.{begin_of}
use Rattle.mt_replay.proofs.Members.{of_map, in_map}
use Rattle.mt_writer.specs.Journals.{Journal, Writer, Keeps, IsFileOf, records_of, read_back, IsSealed}
use Rattle.mt_writer.proofs.JournalLemmas.{reached, times_below}
use Rattle.mt_laws.specs.Writing.{Slot, writing, sealed, Server}
use Rattle.mt_laws.proofs.Successors.{earlier_too, not_earlier}
use Rattle.mt_keeper.specs.declared.keeper.Stage.{Stage}
use Rattle.mt_keeper.specs.declared.keeper.Stage.TheVariants.{Coming, Writing, Followed, Going, Gone}
use Rattle.mt_keeper.specs.declared.keeper.Log.{Log}
use Rattle.mt_keeper.specs.declared.keeper.Making.{Making}
use Rattle.mt_keeper.specs.Keeping.{Keeping, Holds, numbered, AreNumbered, IsInStage, IsLogOf, latest_in, is_newest, Place, place_of, AreInPlace}
use Rattle.mt_keeper.specs.Restarting.{has_later, segments_of, among, IsBack, workers_with}
use Rattle.mt_keeper.proofs.OneChanged.{reads, put_back}

-- ---- later segments

earlier_is : (a b : Option Segment) → is_earlier a b ≡ true → IsEarlier a b
earlier_is (Some a) (Some b) is =
    let both = and_parts (a.worker == b.worker) (nat_lt a.number b.number) is in
    (eqb-true a.worker b.worker both.0, ltb-true a.number b.number both.1)
earlier_is (Some a) None is = absurd (false≢true is)
earlier_is None b is = absurd (false≢true is)

earlier_from : (a b : Option Segment) → IsEarlier a b → is_earlier a b ≡ true
earlier_from (Some a) (Some b) is = and_from (a.worker == b.worker) (nat_lt a.number b.number) (eq-eqb a.worker b.worker is.0) (lt-ltb a.number b.number is.1)
earlier_from (Some a) None is = absurd is
earlier_from None b is = absurd is

-- a later segment that is there
later_in : (a : Option Segment) (xs : List (Option Segment)) → has_later a xs ≡ true → (t : Option Segment) × Contains xs t × IsEarlier a t
later_in a [] is = absurd (false≢true is)
later_in a (x ∷ xs) is = elim (or_cases (is_earlier a x) (has_later a xs) is) as (λ _. (t : Option Segment) × Contains (x ∷ xs) t × IsEarlier a t) [
  | inl here ↦ (x, head_in x xs, earlier_is a x here)
  | inr there ↦ let l = later_in a xs there in (l.0, tail_in x l.0 xs l.1, l.2)
]

pub none_later : (a : Option Segment) (xs : List (Option Segment)) (t : Option Segment) → has_later a xs ≡ false → Contains xs t → IsEarlier a t → ⊥
none_later a [] t lacks at is = no_element t at
none_later a (x ∷ xs) t lacks at is =
    let p = or_parts (is_earlier a x) (has_later a xs) lacks in
    elim (head_or_tail x t xs at) as (λ _. ⊥) [
      | inl e ↦ true≢false (sym (earlier_from a x (subst (IsEarlier a) (sym e) is)) ∙ p.0)
      | inr l ↦ none_later a xs t p.1 l is
    ]

-- the segment, or a later one, has no later one among these
record Newest (s : Segment) (xs : List (Option Segment)) : Type 0 where
  t : Segment
  stands : (t ≡ s) ⊎ Contains xs (Some t) × IsEarlier (Some s) (Some t)
  last : (x : Option Segment) → Contains xs x → IsEarlier (Some t) x → ⊥

newest_of : (s : Segment) (xs : List (Option Segment)) → Newest s xs
newest_of s [] = record { t = s; stands = inl refl; last = λ x at is. no_element x at }
newest_of s (x ∷ xs) =
    let m = newest_of s xs in
    elim (cases_Bool (is_earlier (Some m.t) x)) as (λ _. Newest s (x ∷ xs)) [
      | inl has ↦ above x m (earlier_is (Some m.t) x has)
      | inr lacks ↦ record {
        t = m.t;
        stands = elim m.stands as (λ _. (m.t ≡ s) ⊎ Contains (x ∷ xs) (Some m.t) × IsEarlier (Some s) (Some m.t)) [ inl e ↦ inl e | inr is ↦ inr (tail_in x (Some m.t) xs is.0, is.1) ];
        last = λ y at is. elim (head_or_tail x y xs at) as (λ _. ⊥) [
          | inl e ↦ true≢false (sym (earlier_from (Some m.t) x (subst (IsEarlier (Some m.t)) (sym e) is)) ∙ lacks)
          | inr l ↦ m.last y l is
        ];
      }
    ]
  where
    above : (x : Option Segment) (m : Newest s xs) → IsEarlier (Some m.t) x → Newest s (x ∷ xs)
    above None m is = absurd is
    above (Some u) m is = record {
      t = u;
      stands = inr (
        head_in (Some u) xs,
        elim m.stands as (λ _. IsEarlier (Some s) (Some u)) [
          | inl e ↦ subst (λ (z : Segment). IsEarlier (Some z) (Some u)) e is
          | inr has ↦ earlier_too (Some s) (Some m.t) (Some u) has.1 is
        ],
      );
      last = λ y at after. elim (head_or_tail (Some u) y xs at) as (λ _. ⊥) [
        | inl e ↦ not_earlier (Some u) (subst (IsEarlier (Some u)) (sym e) after)
        | inr l ↦ m.last y l (earlier_too (Some m.t) (Some u) y is after)
      ];
    }

-- ---- a log among segments

abbrev with_stage : Bool → Log → Log
with_stage b log = if b then record log { stage = Followed (latest_in log.stage) } else log

same_segment : (b : Bool) (log : Log) → (with_stage b log).segment ≡ log.segment
same_segment true log = refl
same_segment false log = refl

among_segment : (segments : List (Option Segment)) (log : Log) → (among segments log).segment ≡ log.segment
among_segment segments log = same_segment (has_later log.segment segments) log

not_followed : (b : Bool) (log : Log) → is_newest log.stage ≡ true → is_newest (with_stage b log).stage ≡ false → b ≡ true
not_followed true log newest is = refl
not_followed false log newest is = absurd (true≢false (sym newest ∙ is))

among_kept : (segments : List (Option Segment)) (log : Log) → has_later log.segment segments ≡ false → among segments log ≡ log
among_kept segments log lacks = ap (λ (b : Bool). with_stage b log) lacks

among_followed : (segments : List (Option Segment)) (log : Log) → has_later log.segment segments ≡ true → among segments log ≡ record log { stage = Followed (latest_in log.stage) }
among_followed segments log has = ap (λ (b : Bool). with_stage b log) has

-- the worker of each segment is below `workers`
abbrev pub AreKnown : ℕ → List Log → Type 0
AreKnown workers logs = (log : Log) → Contains logs log → IfSome log.segment (λ segment. segment.worker < workers)

-- all are in place
in_place : (workers : ℕ) (logs : List Log) → AreKnown workers logs → ((log : Log) → Contains logs log → is_newest log.stage ≡ true)
    → AreInPlace workers (map place_of (map (among (segments_of logs)) logs))
in_place workers logs known newest = record {
  known = λ place at.
      let x = of_map place_of now place at in
      let y = of_map (among segments) logs x.0 x.1 in
      subst (λ (o : Option Segment). IfSome o (λ s. s.worker < workers)) (segment_is place x y) (known y.0 y.1);
  followed = λ segment at.
      let x = of_map place_of now (false, Some segment) at in
      let y = of_map (among segments) logs x.0 x.1 in
      let is : y.0.segment ≡ Some segment = segment_is (false, Some segment) x y in
      let has : has_later y.0.segment segments ≡ true =
      not_followed (has_later y.0.segment segments) y.0 (newest y.0 y.1) (ap (λ (l : Log). is_newest l.stage) y.2 ∙ ap (λ (p : Place). p.0) x.2) in
      let l = later_in (Some segment) segments (ap (λ (o : Option Segment). has_later o segments) (sym is) ∙ has) in
      let m = newest_of segment segments in
      elim m.stands as (λ _. (later : Option Segment) × Contains (map place_of now) (true, later) × IsEarlier (Some segment) later) [
        | inl e ↦ absurd (m.last l.0 l.1 (subst (λ (z : Segment). IsEarlier (Some z) l.0) (sym e) l.2))
        | inr after ↦ (Some m.t, stands m.t after.0 m.last, after.1)
      ];
}
  where
    segments : List (Option Segment)
    segments = segments_of logs

    now : List Log
    now = map (among segments) logs

    segment_is : (place : Place) (x : (l : Log) × Contains now l × (place_of l ≡ place)) (y : (l : Log) × Contains logs l × (among segments l ≡ x.0)) → y.0.segment ≡ place.1
    segment_is place x y = sym (among_segment segments y.0) ∙ ap (λ (l : Log). l.segment) y.2 ∙ ap (λ (p : Place). p.1) x.2

    stands : (t : Segment) → Contains segments (Some t) → ((x : Option Segment) → Contains segments x → IsEarlier (Some t) x → ⊥) → Contains (map place_of now) (true, Some t)
    stands t at last =
        let z = of_map (λ (l : Log). l.segment) logs (Some t) at in
        let lacks : has_later z.0.segment segments ≡ false = false_from_ne_true (has_later z.0.segment segments) (λ has.
        let k = later_in z.0.segment segments has in last k.0 k.1 (subst (λ (o : Option Segment). IsEarlier o k.0) z.2 k.2)) in
        let place : place_of (among segments z.0) ≡ (true, Some t) =
        ap place_of (among_kept segments z.0 lacks) ∙ ap (λ (b : Bool). (b, z.0.segment)) (newest z.0 z.1) ∙ ap (λ (o : Option Segment). (true, o)) z.2 in
        subst (Contains (map place_of now)) place (in_map place_of now (among segments z.0) (in_map (among segments) logs z.0 z.1))

-- ---- files that were read back

pub writer_in : (stage : Stage) (j : Journal) → IsInStage stage (writing j) → (w : Writer) × (stage ≡ Writing w) × Keeps w j
writer_in (Coming new) j is = absurd is
writer_in (Writing w) j is = (w, refl, is.0)
writer_in (Followed last) j is = absurd is
writer_in Going j is = absurd is
writer_in Gone j is = absurd is

-- a file that was read back is synced whole, so it is a sealed segment
sealed_as : (w : Writer) (j : Journal) (segment : Segment) → Keeps w j → j ≡ read_back j.head j.synced → j.head.segment ≡ Some segment → IsSealed w.last segment.worker segment.number j
sealed_as w j segment keeps back is =
    let all : records_of j ≡ j.synced = ap records_of back ∙ append-nil (j.synced ++ []) ∙ append-nil j.synced in record {
      segment = is;
      whole = ap (log_bytes j.head) (sym all);
      reached = λ time below. reached w j keeps time (omega (arith, below, keeps.last, keeps.reach, ap (latest 0) all));
      times = times_below w j keeps;
    }

some_later : (o : Option Segment) (xs : List (Option Segment)) → has_later o xs ≡ true → (segment : Segment) × (o ≡ Some segment)
some_later (Some segment) xs is = (segment, refl)
some_later None xs is = let l = later_in None xs is in absurd l.2

-- the log is this file, which was read back, and is written
abbrev pub IsOf : ℕ → Log → Journal → Type 0
IsOf clock log j = IsLogOf clock log (writing j) × (j ≡ read_back j.head j.synced)

-- the slot of a file that was read back: it is sealed, or written
abbrev pub slot_by : Bool → Journal → Slot
slot_by true j = sealed j
slot_by false j = writing j

-- the same, among these segments
abbrev pub slot_among : List (Option Segment) → Journal → Slot
slot_among segments j = slot_by (has_later j.head.segment segments) j

one_among : (clock : ℕ) (b : Bool) (log : Log) (j : Journal) → IsOf clock log j → (b ≡ true → (segment : Segment) × (j.head.segment ≡ Some segment))
    → IsLogOf clock (with_stage b log) (slot_by b j)
one_among clock false log j is whose = is.0
one_among clock true log j is whose =
    let w = writer_in log.stage j is.0.stage in
    let s = whose refl in
    let last : latest_in log.stage ≡ w.0.last = ap latest_in w.1 in record {
      stage = (s.0.worker, s.0.number, subst (λ (n : ℕ). IsSealed n s.0.worker s.0.number j) (sym last) (sealed_as w.0 j s.0 w.2 is.1 s.1));
      segment = is.0.segment;
      from = is.0.from;
      latest = is.0.latest;
    }

all_among : (clock : ℕ) (segments : List (Option Segment)) (logs : List Log) (js : List Journal) → AllZip (IsOf clock) logs js
    → AllZip (IsLogOf clock) (map (among segments) logs) (map (slot_among segments) js)
all_among clock segments [] [] are = tt
all_among clock segments [] (j ∷ js) are = absurd are
all_among clock segments (l ∷ ls) [] are = absurd are
all_among clock segments (l ∷ ls) (j ∷ js) are = (
  subst (λ (o : Option Segment). IsLogOf clock (among segments l) (slot_by (has_later o segments) j)) are.0.0.segment
      (one_among clock (has_later l.segment segments) l j are.0 (λ has.
      let s = some_later l.segment segments has in (s.0, sym are.0.0.segment ∙ s.1))),
  all_among clock segments ls js are.1,
)

all_newest : (clock : ℕ) (logs : List Log) (js : List Journal) → AllZip (IsOf clock) logs js → (log : Log) → Contains logs log → is_newest log.stage ≡ true
all_newest clock [] js are log at = absurd (no_element log at)
all_newest clock (l ∷ ls) [] are log at = absurd are
all_newest clock (l ∷ ls) (j ∷ js) are log at = elim (head_or_tail l log ls at) as (λ _. is_newest log.stage ≡ true) [
  | inl e ↦ let w = writer_in l.stage j are.0.0.stage in ap (λ (x : Log). is_newest x.stage) (sym e) ∙ ap is_newest w.1
  | inr later ↦ all_newest clock ls js are.1 log later
]

-- The server goes on with these files, which the logs are. Nothing after the clock was acknowledged, or is in the checkpoint that the server stands on.
pub record GoesOnWith (keeper : Keeping) (js : List Journal) (s : Server) : Type 0 where
  pub known : AreKnown keeper.workers keeper.logs
  pub none : keeper.making ≡ None
  pub logs : AllZip (IsOf keeper.clock) keeper.logs js
  pub clock : s.clock ≡ keeper.clock
  pub numbers : AreNumbered s.slots s.places
  pub slots : numbered s ≡ map (slot_among (segments_of keeper.logs)) js
  pub acked : (u : Update) → Contains s.acked u → u.timestamp ≤ keeper.clock
  pub base : IfSome s.checkpoints.base (λ base. base.end ≤ keeper.clock)
  pub of_base : begin_of s.checkpoints.base ≡ keeper.base

pub goes_on : (keeper : Keeping) (js : List Journal) (s : Server) → GoesOnWith keeper js s
    → Holds (record keeper { logs = map (among (segments_of keeper.logs)) keeper.logs }) s
goes_on keeper js s goes = record {
  clock = goes.clock;
  acked = goes.acked;
  base = goes.base;
  numbers = goes.numbers;
  logs = subst (AllZip (IsLogOf keeper.clock) (map (among (segments_of keeper.logs)) keeper.logs)) (sym goes.slots)
      (all_among keeper.clock (segments_of keeper.logs) keeper.logs js goes.logs);
  places = in_place keeper.workers keeper.logs goes.known (all_newest keeper.clock keeper.logs js goes.logs);
  checkpoints = record {
    of_base = goes.of_base;
    begun = subst (λ (m : Option Making). IfSome m (λ making. (keeper.base ≤ making.begin) × (making.begin ≤ keeper.clock))) (sym goes.none) tt;
    later = λ begin c is at. absurd (none-some _ (sym goes.none ∙ is));
  };
}

-- ---- one log after the other

abbrev between : List (Option Segment) → ℕ → List Log → List Log
between segments n logs = map (among segments) (take n logs) ++ drop n logs

between_segments : (segments : List (Option Segment)) (n : ℕ) (logs : List Log) → segments_of (map (among segments) (take n logs) ++ drop n logs) ≡ segments_of logs
between_segments segments zero logs = refl
between_segments segments (suc n) [] = refl
between_segments segments (suc n) (l ∷ ls) =
    ap (λ (o : Option Segment). o ∷ segments_of (between segments n ls)) (among_segment segments l) ∙ ap (λ (os : List (Option Segment)). l.segment ∷ os) (between_segments segments n ls)

later_among : (segment : Option Segment) (logs : List Log) → list_any (λ (other : Log). is_earlier segment other.segment) logs ≡ has_later segment (segments_of logs)
later_among segment [] = refl
later_among segment (l ∷ ls) = ap (λ (b : Bool). is_earlier segment l.segment || b) (later_among segment ls)

next_set : (segments : List (Option Segment)) (n : ℕ) (logs : List Log) (x new : Log) → n < length logs → x ≡ get_or (map (among segments) (take n logs) ++ drop n logs) n x
    → new ≡ among segments x → slice_set (map (among segments) (take n logs) ++ drop n logs) n new ≡ map (among segments) (take (suc n) logs) ++ drop (suc n) logs
next_set segments n [] x new lt is e = absurd (omega (arith, lt))
next_set segments zero (l ∷ ls) x new lt is e = ap (λ (y : Log). y ∷ ls) (e ∙ ap (among segments) is)
next_set segments (suc n) (l ∷ ls) x new lt is e = ap (λ (ys : List Log). among segments l ∷ ys) (next_set segments n ls x new (omega (arith, lt)) is e)

-- the first logs are among all, and the others are as they were
abbrev pub AreSettled : List Log → ℕ → List Log → Type 0
AreSettled logs n now = now ≡ map (among (segments_of logs)) (take n logs) ++ drop n logs

settled_segments : (logs now : List Log) (n : ℕ) → AreSettled logs n now → segments_of now ≡ segments_of logs
settled_segments logs now n are = ap segments_of are ∙ between_segments (segments_of logs) n logs

settled_length : (logs now : List Log) (n : ℕ) → AreSettled logs n now → length now ≡ length logs
settled_length logs now n are =
    sym (length-map now (λ (l : Log). l.segment)) ∙ ap length (settled_segments logs now n are) ∙ length-map logs (λ (l : Log). l.segment)

-- the same log is read
same_read : (logs : List Log) (n : ℕ) (x y : Log) → n < length logs → x ≡ get_or logs n x → y ≡ get_or logs n y → x ≡ y
same_read logs n x y lt is_x is_y = same_Some x y (sym (reads logs n x lt is_x) ∙ reads logs n y lt is_y)

settled_with : (logs now after : List Log) (n : ℕ) (x new : Log) → AreSettled logs n now → n < length logs → x ≡ get_or now n x → new ≡ among (segments_of logs) x
    → after ≡ slice_set now n new → AreSettled logs (n + 1) after
settled_with logs now after n x new are lt is e set =
    let one : suc n ≡ n + 1 = omega arith in
    subst (λ (m : ℕ). AreSettled logs m after) one
    (set ∙ ap (λ (ls : List Log). slice_set ls n new) are ∙ next_set (segments_of logs) n logs x new lt (subst (λ (ls : List Log). x ≡ get_or ls n x) are is) e)

-- one more log is settled, which a later one follows: it is read, then its last timestamp, and its stage is set
pub settled_followed : (logs now after : List Log) (n last : ℕ) (x y z : Log) → AreSettled logs n now → n < length logs → x ≡ get_or now n x → y ≡ get_or now n y → z ≡ get_or now n z
    → list_any (λ (other : Log). is_earlier (get_or now n x).segment other.segment) now ≡ true → last ≡ latest_in (get_or now n y).stage → after ≡ slice_set now n (record (get_or now n z) { stage = Followed last }) → AreSettled logs (n + 1) after
settled_followed logs now after n last x y z are lt is_x is_y is_z has last_is set =
    let below : n < length now = omega (arith, lt, settled_length logs now n are) in
    let later : has_later x.segment (segments_of logs) ≡ true = ap (has_later x.segment) (sym (settled_segments logs now n are)) ∙ sym (later_among x.segment now) ∙ (ap (λ (l : Log). list_any (λ (other : Log). is_earlier l.segment other.segment) now) is_x ∙ has) in
    let e : record z { stage = Followed last } ≡ among (segments_of logs) x =
    ap (λ (l : Log). record l { stage = Followed last }) (same_read now n z x below is_z is_x)
    ∙ ap (λ (m : ℕ). record x { stage = Followed m }) (last_is ∙ ap (λ (l : Log). latest_in l.stage) (sym is_y ∙ same_read now n y x below is_y is_x))
    ∙ sym (among_followed (segments_of logs) x later) in
    settled_with logs now after n x (record z { stage = Followed last }) are lt is_x e (set ∙ ap (λ (l : Log). slice_set now n (record l { stage = Followed last })) (sym is_z))

-- the same of one that no later one follows
pub settled_kept : (logs now after : List Log) (n : ℕ) (x : Log) → AreSettled logs n now → n < length logs → x ≡ get_or now n x
    → list_any (λ (other : Log). is_earlier (get_or now n x).segment other.segment) now ≡ false → after ≡ now → AreSettled logs (n + 1) after
settled_kept logs now after n x are lt is lacks same =
    let none : has_later x.segment (segments_of logs) ≡ false = ap (has_later x.segment) (sym (settled_segments logs now n are)) ∙ sym (later_among x.segment now) ∙ (ap (λ (l : Log). list_any (λ (other : Log). is_earlier l.segment other.segment) now) is ∙ lacks) in
    settled_with logs now after n x x are lt is (sym (among_kept (segments_of logs) x none)) (same ∙ sym (put_back now n x is))

-- ---- a log that is added

pub is_back : (clock : ℕ) (bytes : List ℕ) (front : LogFront) (records : List Logged) (w : Writer) → IsFrontOf bytes records front → front.latest ≤ clock + 1
    → Keeps w (read_back front.head records) × IsFileOf w (read_back front.head records) bytes → w.failed ≡ false
    → IsBack clock bytes (record { segment = front.head.segment; from = front.head.from; stage = Writing w })
is_back clock bytes front records w is low keeps failed =
    let all : records_of (read_back front.head records) ≡ records = append-nil (records ++ []) ∙ append-nil records in
    let last : front.latest ≡ latest 0 records = ap (λ (f : LogFront). f.latest) is.numbers in record {
      head = front.head;
      records = records;
      writer = w;
      written = refl;
      is_file = keeps.1;
      kept = record {
        stage = (keeps.0, failed);
        segment = refl;
        from = refl;
        latest = omega (arith, low, last, keeps.0.last, ap (latest 0) all);
      };
    }

-- the logs with one more are known
pub known_more : (workers : ℕ) (logs : List Log) (log : Log) → AreKnown workers logs → AreKnown (workers_with workers log.segment) (logs ++ log ∷ [])
known_more workers logs log known x at = elim (Contains-push_cases logs log x at) as (λ _. IfSome x.segment (λ s. s.worker < workers_with workers log.segment)) [
  | inl old ↦ more workers log.segment x.segment (known x old)
  | inr e ↦ subst (λ (l : Log). IfSome l.segment (λ s. s.worker < workers_with workers log.segment)) e (own workers log.segment)
]
  where
    more : (workers : ℕ) (o p : Option Segment) → IfSome p (λ s. s.worker < workers) → IfSome p (λ s. s.worker < workers_with workers o)
    more workers o None is = tt
    more workers None (Some p) is = is
    more workers (Some s) (Some p) is = omega (arith, is)

    own : (workers : ℕ) (o : Option Segment) → IfSome o (λ s. s.worker < workers_with workers o)
    own workers None = tt
    own workers (Some s) = omega arith
