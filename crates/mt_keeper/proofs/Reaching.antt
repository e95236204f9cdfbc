-- How far all logs are synced.
use Rattle.std.proofs.Common.{◌≡◌, inl, inr, ℕ, ◌≤◌, Bool, true, false, Option, Some, IfSome, List, [], ◌∷◌, map, Contains, refl, sym, ap, ◌∙◌, subst, arith}
use Rattle.std.specs.List.{AllZip}
use Rattle.std.proofs.lemmas.Bool.{false≢true, true≢false}
use Rattle.mt_words.proofs.Elements.{no_element, head_or_tail, head_in, tail_in}
use Rattle.mt_record.specs.declared.feed.head.Segment.{Segment}
use Rattle.mt_record.specs.declared.feed.head.Head.{Head}
use Rattle.mt_scan.specs.Segments.{IsEarlier}
use Rattle.mt_replay.proofs.Members.{of_map, in_map}
use Rattle.mt_writer.specs.Files.{OpenFile}
use Rattle.mt_writer.specs.Journals.{Journal, NewFile, Begins, begun, file_of, IsReached}
use Rattle.mt_writer.proofs.JournalLemmas.{begun_keeps, reached}
use Rattle.mt_laws.specs.Lives.{there}
use Rattle.mt_laws.specs.Writing.{Slot, coming, writing, sealed, going, gone, log_of, files_there, IsLogReached, AllReached, Server}
use Rattle.mt_laws.proofs.Slots.{same_there, in_files, of_files}
use Rattle.mt_keeper.specs.declared.keeper.Stage.{Stage}
use Rattle.mt_keeper.specs.declared.keeper.Stage.TheVariants.{Coming, Writing, Followed, Going, Gone}
use Rattle.mt_keeper.specs.declared.keeper.Log.{Log}
use Rattle.mt_keeper.specs.Keeping.{Keeping, Holds, numbered, IsInStage, IsLogOf, segment_in, is_newest, Place, place_of, reach_in}
use Rattle.mt_keeper.proofs.OneChanged.{in_numbered, of_numbered}
use Rattle.mt_keeper.proofs.Writes.{written_slot}
use Rattle.mt_keeper.proofs.Following.{writer_of}

-- ---- a log and its slot

-- the log that keeps a slot
pub log_at : (R : Log → Slot → Type 0) (logs : List Log) (slots : List Slot) (x : Slot) → AllZip R logs slots → Contains slots x → (l : Log) × Contains logs l × R l x
log_at R [] [] x are at = absurd (no_element x at)
log_at R [] (y ∷ ys) x are at = absurd are
log_at R (l ∷ ls) [] x are at = absurd are
log_at R (l ∷ ls) (y ∷ ys) x are at = elim (head_or_tail y x ys at) as (λ _. (k : Log) × Contains (l ∷ ls) k × R k x) [
  | inl e ↦ (l, head_in l ls, subst (R l) e are.0)
  | inr later ↦ let is = log_at R ls ys x are.1 later in (is.0, tail_in l is.0 ls is.1, is.2)
]

-- the slot that a log keeps
pub slot_at : (R : Log → Slot → Type 0) (logs : List Log) (slots : List Slot) (l : Log) → AllZip R logs slots → Contains logs l → (x : Slot) × Contains slots x × R l x
slot_at R [] slots l are at = absurd (no_element l at)
slot_at R (k ∷ ks) [] l are at = absurd are
slot_at R (k ∷ ks) (y ∷ ys) l are at = elim (head_or_tail k l ks at) as (λ _. (x : Slot) × Contains (y ∷ ys) x × R l x) [
  | inl e ↦ (y, head_in y ys, subst (λ (m : Log). R m y) e are.0)
  | inr later ↦ let is = slot_at R ks ys l are.1 later in (is.0, tail_in y is.0 ys is.1, is.2)
]

pub segment_there : (x : Slot) (file : OpenFile) → log_of x ≡ there file → segment_in x ≡ file.head.segment
segment_there (coming j) file is = ap (λ (f : OpenFile). f.head.segment) (same_there (file_of j) file is)
segment_there (writing j) file is = ap (λ (f : OpenFile). f.head.segment) (same_there (file_of j) file is)
segment_there (sealed j) file is = ap (λ (f : OpenFile). f.head.segment) (same_there (file_of j) file is)
segment_there (going j) file is = ap (λ (f : OpenFile). f.head.segment) (same_there (file_of j) file is)
segment_there (gone records) file is = absurd cc

pub coming_slot : (new : NewFile) (x : Slot) → IsInStage (Coming new) x → (head : Head) × (x ≡ coming (begun head new.mark)) × Begins new head
coming_slot new (coming j) is = (is.0, ap coming is.2, is.1)
coming_slot new (writing j) is = absurd is
coming_slot new (sealed j) is = absurd is
coming_slot new (going j) is = absurd is
coming_slot new (gone records) is = absurd is

-- the file of a newest slot is reached
pub newest_reached : (reach : ℕ) (stage : Stage) (x : Slot) → IsInStage stage x → is_newest stage ≡ true → IfSome (reach_in stage) (λ r. reach ≤ r)
    → (j : Journal) × (log_of x ≡ there (file_of j)) × IsReached reach (file_of j)
newest_reached reach (Coming new) x is newest low =
    let here = coming_slot new x is in
    let j = begun here.0 new.mark in
    (j, ap log_of here.1, λ time below. reached (writer_of new) j (begun_keeps new (writer_of new) here.0 here.2 refl) time (omega (arith, below, low)))
newest_reached reach (Writing w) x is newest low =
    let here = written_slot w x is in
    (here.0, ap log_of here.1, λ time below. reached w here.0 here.2 time (omega (arith, below, low)))
newest_reached reach (Followed last) x is newest low = absurd (false≢true newest)
newest_reached reach Going x is newest low = absurd (false≢true newest)
newest_reached reach Gone x is newest low = absurd (false≢true newest)

-- an older file is a segment
pub older_segment : (stage : Stage) (x : Slot) (file : OpenFile) → IsInStage stage x → is_newest stage ≡ false → log_of x ≡ there file → (segment : Segment) × (segment_in x ≡ Some segment)
older_segment (Coming new) x file is older of = absurd (true≢false older)
older_segment (Writing w) x file is older of = absurd (true≢false older)
older_segment (Followed last) (sealed j) file is older of = (record { worker = is.0; number = is.1 }, is.2.segment)
older_segment Going (going j) file is older of = (record { worker = is.1.0; number = is.1.1 }, is.1.2.segment)
older_segment Gone (gone records) file is older of = absurd cc
older_segment stage x file is older of = absurd is

-- ---- all logs

-- No log's newest file reaches less: this reach is true of all.
pub all_reached : (keeper : Keeping) (s : Server) (reach : ℕ) → Holds keeper s → ((l : Log) → Contains keeper.logs l → IfSome (reach_in l.stage) (λ r. reach ≤ r))
    → AllReached reach (files_there s)
all_reached keeper s reach holds above file at =
    let x = of_files s.slots file at in
    let l = log_at (IsLogOf keeper.clock) keeper.logs (numbered s) x.0 holds.logs (in_numbered s x.0 file holds.numbers x.1 x.2) in
    by_age x.0 l.0 x.2 l.1 l.2 (is_newest l.0.stage) refl
  where
    by_age : (x : Slot) (l : Log) → log_of x ≡ there file → Contains keeper.logs l → IsLogOf keeper.clock l x → (newest : Bool) → is_newest l.stage ≡ newest
        → IsLogReached reach (files_there s) file
    by_age x l of stands keeps true age =
        let is = newest_reached reach l.stage x keeps.stage age (above l stands) in record {
          last = file;
          stands = at;
          of_log = inl refl;
          reached = subst (IsReached reach) (same_there (file_of is.0) file (sym is.1 ∙ of)) is.2;
        }
    by_age x l of stands keeps false age =
        let older = older_segment l.stage x file keeps.stage age of in
        let place = subst (Contains (map place_of keeper.logs)) (ap (λ (newest : Bool). (newest, l.segment)) age ∙ ap (λ (segment : Option Segment). (false, segment)) (keeps.segment ∙ older.1))
        (in_map place_of keeper.logs l stands) in
        let later = holds.places.followed older.0 place in
        let m = of_map place_of keeper.logs (true, later.0) later.1 in
        let y = slot_at (IsLogOf keeper.clock) keeper.logs (numbered s) m.0 holds.logs m.1 in
        let is = newest_reached reach m.0.stage y.0 y.2.stage (ap (λ (p : Place). p.0) m.2) (above m.0 m.1) in
        let before : Some older.0 ≡ file.head.segment = sym older.1 ∙ segment_there x file of in
        let after : later.0 ≡ is.0.head.segment = sym (ap (λ (p : Place). p.1) m.2) ∙ y.2.segment ∙ segment_there y.0 (file_of is.0) is.1 in record {
          last = file_of is.0;
          stands = in_files s.slots y.0 (file_of is.0) (of_numbered s y.0 holds.numbers y.1) is.1;
          of_log = inr (subst (λ (segment : Option Segment). IsEarlier segment is.0.head.segment) before (subst (IsEarlier (Some older.0)) after later.2));
          reached = is.2;
        }
