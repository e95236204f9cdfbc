-- New logs.
use Rattle.std.proofs.Common.{◌≡◌, inl, inr, ℕ, suc, ◌+◌, ◌-◌, ◌^◌, ◌<◌, ◌≤◌, min, true, false, Option, None, Some, IfSome, List, [], ◌∷◌, ◌++◌, length, map, slice_set, Contains, refl, sym, ap, ◌∙◌, subst, arith}
use Rattle.std.specs.Prelude.{slice_get}
use Rattle.std.specs.List.{AllZip}
use Rattle.std.proofs.lemmas.Bool.{false≢true}
use Rattle.std.proofs.lemmas.List.Elements.{Contains-append_left, Contains-push_cases}
use Rattle.std.proofs.lemmas.Slice.Zip.{all_zipped_more}
use Rattle.mt_words.specs.declared.update.Update.{Update}
use Rattle.mt_words.proofs.Elements.{no_element, head_or_tail, head_in}
use Rattle.mt_record.specs.declared.feed.head.Segment.{Segment}
use Rattle.mt_record.specs.declared.feed.head.Head.{Head}
use Rattle.mt_record.specs.Encoding.{segment_head}
use Rattle.mt_scan.specs.Segments.{IsEarlier}
use Rattle.mt_scan.specs.Choice.{CheckpointReading}
use Rattle.mt_replay.proofs.Members.{of_map, in_map}
use Rattle.mt_writer.specs.Journals.{Writer, NewFile, Keeps, Begins, begun}
use Rattle.mt_writer.proofs.JournalLemmas.{begun_keeps}
use Rattle.mt_laws.specs.Lives.{only}
use Rattle.mt_laws.specs.Writing.{Slot, coming, writing, IsOneWorkers, IsFresh, files_there, Server, with_slot, with_more, IsCall, begin_log, told_created, Called, new_server}
use Rattle.mt_laws.proofs.Slots.{of_files}
use Rattle.mt_keeper.specs.declared.keeper.Stage.{Stage}
use Rattle.mt_keeper.specs.declared.keeper.Stage.TheVariants.{Coming, Writing}
use Rattle.mt_keeper.specs.declared.keeper.Log.{Log}
use Rattle.mt_keeper.specs.Keeping.{Keeping, Holds, numbered, IsInStage, IsLogOf, segment_in, from_in, latest_in, is_newest, Place, place_of, AreInPlace}
use Rattle.mt_keeper.specs.Calling.{Steps, acknowledged, with_new_log, with_changed, place_at, with_created, if_coming, first}
use Rattle.mt_keeper.specs.Filing.{next_salt, BeginsFile}
use Rattle.mt_keeper.specs.Refusals.{IsNotComing}
use Rattle.mt_keeper.specs.declared.keeper_fault.KeeperFault.TheVariants as faults
use Rattle.mt_keeper.proofs.Refused.{not_in}
use Rattle.mt_keeper.proofs.OneChanged.{slot_of, all_kept, same_of_all, in_numbered, numbers_more, numbered_more, one_apart}
use Rattle.mt_keeper.proofs.Following.{writer_of}
use Rattle.mt_keeper.proofs.Reaching.{log_at, segment_there, coming_slot}

-- ---- a new worker's log

-- the first segment of this worker's log, which is to be created
abbrev pub new_log : (worker : ℕ) → NewFile → Log
new_log worker new = record { segment = Some (record { worker = worker; number = 0 }); from = 0; stage = Coming new }

other_worker : (worker : ℕ) (segment : Option Segment) → IfSome segment (λ s. s.worker < worker) → IsOneWorkers segment (Some (record { worker = worker; number = 0 })) → ⊥
other_worker worker None below same = same
other_worker worker (Some s) below same = omega (arith, below, same)

-- no log of this worker is there
pub is_fresh : (keeper : Keeping) (s : Server) → Holds keeper s → IsFresh (files_there s) (segment_head 0 keeper.workers 0)
is_fresh keeper s holds file at same =
    let x = of_files s.slots file at in
    let l = log_at (IsLogOf keeper.clock) keeper.logs (numbered s) x.0 holds.logs (in_numbered s x.0 file holds.numbers x.1 x.2) in
    let known = holds.places.known (place_of l.0) (in_map place_of keeper.logs l.0 l.1) in
    let is : l.0.segment ≡ file.head.segment = l.2.segment ∙ segment_there x.0 file x.2 in
    other_worker keeper.workers file.head.segment (subst (λ (segment : Option Segment). IfSome segment (λ s. s.worker < keeper.workers)) is known) same

above_base : (clock mark : ℕ) (base : Option CheckpointReading) → mark ≡ clock + 1 → IfSome base (λ b. b.end ≤ clock) → IfSome base (λ b. b.end < mark)
above_base clock mark None is low = tt
above_base clock mark (Some b) is low = omega (arith, is, low)

known_still : (workers : ℕ) (segment : Option Segment) → IfSome segment (λ s. s.worker < workers) → IfSome segment (λ s. s.worker < workers + 1)
known_still workers None known = tt
known_still workers (Some s) known = omega (arith, known)

-- all are in place, with the new log
pub begun_in_place : (workers : ℕ) (logs : List Log) (new : NewFile) → AreInPlace workers (map place_of logs) → AreInPlace (workers + 1) (map place_of (logs ++ new_log workers new ∷ []))
begun_in_place workers logs new are = record {
  known = λ place at.
      let x = of_map place_of now place at in
      elim (Contains-push_cases logs (new_log workers new) x.0 x.1) as (λ _. IfSome place.1 (λ s. s.worker < workers + 1)) [
        | inl old ↦ known_still workers place.1 (are.known place (subst (Contains (map place_of logs)) x.2 (in_map place_of logs x.0 old)))
        | inr e ↦ subst (λ (p : Place). IfSome p.1 (λ s. s.worker < workers + 1)) (ap place_of e ∙ x.2) (omega arith)
      ];
  followed = λ older at.
      let x = of_map place_of now (false, Some older) at in
      elim (Contains-push_cases logs (new_log workers new) x.0 x.1) as (λ _. (later : Option Segment) × Contains (map place_of now) (true, later) × IsEarlier (Some older) later) [
        | inl old ↦
            let is = are.followed older (subst (Contains (map place_of logs)) x.2 (in_map place_of logs x.0 old)) in
            let y = of_map place_of logs (true, is.0) is.1 in
            (is.0, subst (Contains (map place_of now)) y.2 (in_map place_of now y.0 (Contains-append_left logs (new_log workers new ∷ []) y.0 y.1)), is.2)
        | inr e ↦ absurd (false≢true (ap (λ (p : Place). p.0) (sym x.2 ∙ sym (ap place_of e))))
      ];
}
  where
    now : List Log
    now = logs ++ new_log workers new ∷ []

-- as many logs as slots
pub same_length : (R : Log → Slot → Type 0) (logs : List Log) (slots : List Slot) → AllZip R logs slots → length logs ≡ length slots
same_length R [] [] are = refl
same_length R [] (x ∷ xs) are = absurd are
same_length R (l ∷ ls) [] are = absurd are
same_length R (l ∷ ls) (x ∷ xs) are = ap suc (same_length R ls xs are.1)

pub begins_log : (keeper : Keeping) (s : Server) (new : NewFile) (salt : ℕ) → Holds keeper s → Begins new (segment_head 0 keeper.workers 0) → new.mark ≡ keeper.clock + 1
    → (length keeper.logs ≡ length (numbered s)) × Steps s (with_new_log s keeper.workers) (record keeper { logs = keeper.logs ++ new_log keeper.workers new ∷ []; workers = keeper.workers + 1; salt = salt })
begins_log keeper s new salt holds begins at = (
  same_length (IsLogOf keeper.clock) keeper.logs (numbered s) holds.logs,
  (
    subst (λ (mark : ℕ). IsCall s (with_more s (coming (begun head mark)))) is
        (begin_log s (writer_of new) new head (begun_keeps new (writer_of new) head begins refl) begins (λ u stands. let low = holds.acked u stands in omega (arith, low, at))
        (above_base keeper.clock new.mark s.checkpoints.base at holds.base) (omega arith) (is_fresh keeper s holds)),
    record {
      clock = holds.clock;
      acked = holds.acked;
      base = holds.base;
      numbers = numbers_more s.slots s.places (coming (begun head (s.clock + 1))) holds.numbers;
      logs = subst (AllZip (IsLogOf keeper.clock) (keeper.logs ++ new_log keeper.workers new ∷ [])) (sym (numbered_more s.slots s.places (coming (begun head (s.clock + 1))) holds.numbers.within))
          (all_zipped_more (IsLogOf keeper.clock) keeper.logs (numbered s) (new_log keeper.workers new) (coming (begun head (s.clock + 1))) holds.logs (record {
            stage = (head, begins, ap (begun head) (sym is));
            segment = refl;
            from = refl;
            latest = omega (arith, at);
          }));
      places = begun_in_place keeper.workers keeper.logs new holds.places;
      checkpoints = holds.checkpoints;
    },
  ),
)
  where
    head : Head
    head = segment_head 0 keeper.workers 0

    is : new.mark ≡ s.clock + 1
    is = omega (arith, at, holds.clock)

-- ---- a file that has its name

pub is_created : (keeper : Keeping) (s : Server) (number : ℕ) (log : Log) (new : NewFile) (w : Writer) → Holds keeper s → slice_get keeper.logs number ≡ Some log → log.stage ≡ Coming new
    → ((head : Head) → Begins new head → Keeps w (begun head new.mark)) → w.failed ≡ false
    → Steps s (with_created s number) (record keeper { logs = slice_set keeper.logs number (record log { stage = Writing w }) })
is_created keeper s number log new w holds at is keeps failed =
    let of = slot_of (IsLogOf keeper.clock) keeper.logs s number log holds.numbers holds.logs at in
    let here = coming_slot new of.slot (subst (λ (stage : Stage). IsInStage stage of.slot) is of.keeps.stage) in
    let j = begun here.0 new.mark in
    let before : s.slots ≡ of.front ++ coming j ∷ of.back = of.split ∙ ap (λ (x : Slot). of.front ++ x ∷ of.back) here.1 in
    let after : with_changed s.slots (place_at s number) if_coming ≡ of.front ++ writing j ∷ of.back = of.changed if_coming ∙ ap (λ (x : Slot). of.front ++ if_coming x ∷ of.back) here.1 in (
      subst (λ (slots : List Slot). IsCall (record s { slots = slots }) (with_created s number)) (sym before)
          (subst (λ (slots : List Slot). IsCall (with_slot s of.front (coming j) of.back) (record s { slots = slots })) (sym after) (told_created s of.front of.back j)),
      record {
        clock = holds.clock;
        acked = holds.acked;
        base = holds.base;
        numbers = of.numbers if_coming;
        logs = all_kept keeper.clock keeper.clock keeper.logs s number log now if_coming holds.numbers holds.logs at (λ l x still. still) kept;
        places = subst (AreInPlace keeper.workers) (sym (same_of_all place_of keeper.logs number log now at (ap (λ (stage : Stage). (is_newest stage, log.segment)) (sym is)))) holds.places;
        checkpoints = holds.checkpoints;
      },
    )
  where
    now : Log
    now = record log { stage = Writing w }

    kept : (x : Slot) → IsLogOf keeper.clock log x → IsLogOf keeper.clock now (if_coming x)
    kept x of =
        let here = coming_slot new x (subst (λ (stage : Stage). IsInStage stage x) is of.stage) in
        let mark : new.mark ≤ keeper.clock + 1 = subst (λ (stage : Stage). latest_in stage ≤ keeper.clock + 1) is of.latest in
        let kept = keeps here.0 here.2 in
        subst (λ (y : Slot). IsLogOf keeper.clock now (if_coming y)) (sym here.1) (record {
          stage = (kept, failed);
          segment = of.segment ∙ ap segment_in here.1;
          from = of.from ∙ ap from_in here.1;
          latest = omega (arith, kept.last, mark);
        })

-- ---- the first log

abbrev pub first_log : Writer → Log
first_log w = record { segment = Some (record { worker = 0; number = 0 }); from = 0; stage = Writing w }

pub first_called : (new : NewFile) → Begins new (segment_head 0 0 0) → new.mark ≡ 1 → Called first
first_called new begins at =
    subst (λ (mark : ℕ). Called (record { clock = mark; acked = []; slots = writing (begun (segment_head 0 0 0) mark) ∷ []; places = 0 ∷ []; checkpoints = only None })) at
    (new_server (writer_of new) new (segment_head 0 0 0) (begun_keeps new (writer_of new) (segment_head 0 0 0) begins refl) refl)

pub first_holds : (new : NewFile) (w : Writer) (logs : List Log) (salt : ℕ) → Begins new (segment_head 0 0 0) → new.mark ≡ 1 → ((head : Head) → Begins new head → Keeps w (begun head new.mark))
    → w.failed ≡ false → logs ≡ first_log w ∷ []
    → Holds (record { clock = 1; logs = logs; workers = 1; base = 0; making = None; next = 1; salt = salt; failed = false }) first
first_holds new w logs salt begins at keeps failed is =
    subst (λ (ls : List Log). Holds (record { clock = 1; logs = ls; workers = 1; base = 0; making = None; next = 1; salt = salt; failed = false }) first) (sym is) (record {
      clock = refl;
      acked = λ u stands. absurd (no_element u stands);
      base = tt;
      numbers = record {
        apart = one_apart 0;
        within = λ place at. elim (head_or_tail 0 place [] at) as (λ _. place < 1) [
          | inl e ↦ omega (arith, e)
          | inr none ↦ absurd (no_element place none)
        ];
        all = λ place file below of. subst (Contains (0 ∷ [])) (omega (arith, below)) (head_in 0 []);
      };
      logs = (record { stage = (kept, failed); segment = refl; from = refl; latest = omega (arith, kept.last) }, tt);
      places = record {
        known = λ place stands. elim (head_or_tail here place [] stands) as (λ _. IfSome place.1 (λ s. s.worker < 1)) [
          | inl e ↦ subst (λ (p : Place). IfSome p.1 (λ s. s.worker < 1)) e (omega arith)
          | inr none ↦ absurd (no_element place none)
        ];
        followed = λ older stands. elim (head_or_tail here (false, Some older) [] stands) as (λ _. (later : Option Segment) × Contains (here ∷ []) (true, later) × IsEarlier (Some older) later) [
          | inl e ↦ absurd (false≢true (ap (λ (p : Place). p.0) (sym e)))
          | inr none ↦ absurd (no_element (false, Some older) none)
        ];
      };
      checkpoints = record { of_base = refl; begun = tt; later = λ begin c reading stands. absurd (no_element c stands) };
    })
  where
    here : Place
    here = place_of (first_log w)

    kept : Keeps w (begun (segment_head 0 0 0) 1)
    kept = subst (λ (mark : ℕ). Keeps w (begun (segment_head 0 0 0) mark)) at (keeps (segment_head 0 0 0) begins)

-- ---- an update that is acknowledged

pub still_acknowledged : (keeper : Keeping) (s : Server) (u : Update) → Holds keeper s → u.timestamp ≤ keeper.clock → Holds keeper (acknowledged s u)
still_acknowledged keeper s u holds low = record {
  clock = holds.clock;
  acked = λ x stands. elim (head_or_tail u x s.acked stands) as (λ _. x.timestamp ≤ keeper.clock) [
    | inl e ↦ subst (λ (y : Update). y.timestamp ≤ keeper.clock) e low
    | inr before ↦ holds.acked x before
  ];
  base = holds.base;
  numbers = holds.numbers;
  logs = holds.logs;
  places = holds.places;
  checkpoints = holds.checkpoints;
}

-- ---- why a file is not created

pub not_coming : (inside keeper : Keeping) (number : ℕ) (x : Log) → inside ≡ keeper → slice_get inside.logs number ≡ Some x → ((new : NewFile) → x.stage ≡ Coming new → ⊥)
    → IsNotComing keeper number faults.Log
not_coming inside keeper number x is stands not =
    subst (λ (k : Keeping). IsNotComing k number faults.Log) is (refl, λ new at. not_in inside number x (Coming new) stands (not new) at)

-- ---- a file that is to be created

last_log : (logs : List Log) (log : Log) → slice_get (logs ++ log ∷ []) (length logs) ≡ Some log
last_log [] log = refl
last_log (x ∷ logs) log = last_log logs log

-- the log that was added last is to be created
pub begins_last : (before after : Keeping) (workers number : ℕ) (logs : List Log) (log : Log) (new : NewFile) → after.logs ≡ logs ++ log ∷ [] → number ≡ length logs → log.stage ≡ Coming new
    → new.header.salt ≡ before.salt → new.header.workers ≡ min workers (2 ^ 32 - 1) → after.salt ≡ next_salt before.salt → BeginsFile before after workers number
begins_last before after workers number logs log new all at is salt said next = record {
  new = new;
  stands = record { log = log; stands = (λ i. slice_get (all i) (at i)) ∙ last_log logs log; is = is };
  salt = salt;
  workers = said;
  next = next;
}
