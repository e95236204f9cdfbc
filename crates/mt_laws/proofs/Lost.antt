-- What a crash loses of the updates in a window: nothing, where each log reaches the cutoff.
use Rattle.std.proofs.Common.{◌≡◌, ◌⊎◌, inl, inr, ℕ, suc, ◌<◌, ◌≤◌, false, max, Option, None, List, [], ◌∷◌, ◌++◌, filter, Contains, refl, sym, ap, ◌∙◌, subst, append_assoc, arith}
use Rattle.std.proofs.lemmas.Bool.{cases_lt}
use Rattle.std.proofs.lemmas.List.Elements.{All-head, All-tail, filter-append, Contains-append_left}
use Rattle.std.specs.List.{AllZip, AllByRecursion}
use Rattle.mt_words.specs.declared.limits.Limits.{Limits}
use Rattle.mt_words.specs.declared.update.Origin.TheVariants as origins
use Rattle.mt_words.specs.declared.update.Update.{Update}
use Rattle.mt_words.specs.Limits.{limits_of}
use Rattle.mt_words.specs.Changes.{Logged}
use Rattle.mt_words.specs.Walks.{Pair}
use Rattle.mt_words.specs.Updates.{update_of, updates_from}
use Rattle.mt_words.proofs.Elements.{head_in, tail_in}
use Rattle.mt_record.specs.declared.feed.head.Head.{Head}
use Rattle.mt_record.specs.Logs.{AreRecords, latest, LogReading, IsReading, IsGreatestOf}
use Rattle.mt_record.specs.LogTexts.{IsLast}
use Rattle.mt_record.proofs.Records.{last_is}
use Rattle.mt_record.proofs.OneReading.{one_reading_of}
use Rattle.mt_scan.specs.Cutoff.{HasLast, IsCutoff}
use Rattle.mt_replay.specs.declared.window.Window.{Window}
use Rattle.mt_replay.specs.Survivors.{all_updates, log_updates, is_within, in_window, log_survivors}
use Rattle.mt_replay.specs.Walk.{IsWalk}
use Rattle.mt_replay.proofs.Members.{in_filter}
use Rattle.mt_scan.specs.Choice.{CheckpointReading}
use Rattle.mt_scan.specs.Segments.{IsGap}
use Rattle.mt_scan.proofs.SegmentCases.{from_begin}
use Rattle.mt_recover.specs.Recovery.{AreReadings, entry_updates, begin_of, survivors, records_of, IsStoreOf}
use Rattle.mt_recover.proofs.FoundLemmas.{alone}
use Rattle.mt_writer.specs.Files.{IsCutFileOf}
use Rattle.mt_laws.specs.Crashes.{IsBeginningOf, IsAlone, NoSegments, IsCrash}
use Rattle.mt_laws.proofs.Windows.{within, outside, one_outside}
use Rattle.mt_laws.proofs.CutLogs.{cut_file}

-- ---- timestamps and the window

-- lawful records rise from low on
from_low : (limits : Limits) (low bound : ℕ) (rs : List Logged) → bound ≤ low → AreRecords limits low rs
    → AllByRecursion (λ (r : Logged). bound ≤ r.timestamp) rs
from_low limits low bound [] most are = tt
from_low limits low bound (r ∷ rs) most are =
    let rises : low ≤ r.timestamp = are.1 in
    let above : bound ≤ r.timestamp = omega (arith, most, rises) in
    (above, from_low limits r.timestamp bound rs above are.2)

-- what was lost is not before what was kept
pub behind_latest : (limits : Limits) (low : ℕ) (kept lost : List Logged) → AreRecords limits low (kept ++ lost)
    → AllByRecursion (λ (r : Logged). latest low kept ≤ r.timestamp) lost
behind_latest limits low [] lost are = from_low limits low low lost (omega arith) are
behind_latest limits low (r ∷ rs) lost are = behind_latest limits r.timestamp rs lost are.2

-- the window ends at the cutoff, and may be empty
is_outside : (window : Window) (time : ℕ) → (window.cutoff ≤ time) ⊎ (window.cutoff ≤ window.begin) → is_within window time ≡ false
is_outside window time (inl late) = outside window time (λ low high. omega (arith, late, high))
is_outside window time (inr empty) = outside window time (λ low high. omega (arith, empty, low, high))

-- ---- one log

-- records outside the window have no survivor
none_survives : (window : Window) (log nth : ℕ) (rs : List Logged) → AllByRecursion (λ (r : Logged). is_within window r.timestamp ≡ false) rs
    → filter (in_window window) (updates_from log nth rs) ≡ []
none_survives window log nth [] out = refl
none_survives window log nth (r ∷ rs) out =
    filter-append (in_window window) (update_of log nth r) (updates_from log (suc nth) rs)
    ∙ (λ i. one_outside window (origins.Log log nth) r.timestamp r.change out.0 i ++ none_survives window log (suc nth) rs out.1 i)

-- records behind others have their updates behind theirs
updates_behind : (log nth : ℕ) (kept lost : List Logged) → (k : ℕ) × (updates_from log nth (kept ++ lost) ≡ updates_from log nth kept ++ updates_from log k lost)
updates_behind log nth [] lost = (nth, refl)
updates_behind log nth (r ∷ rs) lost =
    let later = updates_behind log (suc nth) rs lost in (
      later.0,
      ap (λ (us : List Update). update_of log nth r ++ us) later.1
          ∙ sym (append_assoc (update_of log nth r) (updates_from log (suc nth) rs) (updates_from log later.0 lost)),
    )

append_none : {A : Type 0} (xs ys : List A) → ys ≡ [] → xs ++ ys ≡ xs
append_none [] ys e = e
append_none (x ∷ xs) ys e = ap (λ zs. x ∷ zs) (append_none xs ys e)

-- if the last records are outside the window, the survivors are those of the first
pub first_survive : (window : Window) (log : ℕ) (kept lost : List Logged) → AllByRecursion (λ (r : Logged). is_within window r.timestamp ≡ false) lost
    → filter (in_window window) (updates_from log 0 (kept ++ lost)) ≡ filter (in_window window) (updates_from log 0 kept)
first_survive window log kept lost out =
    let more = updates_behind log 0 kept lost in
    ap (filter (in_window window)) more.1
    ∙ filter-append (in_window window) (updates_from log 0 kept) (updates_from log more.0 lost)
    ∙ append_none (filter (in_window window) (updates_from log 0 kept)) (filter (in_window window) (updates_from log more.0 lost)) (none_survives window log more.0 lost out)

pub all_outside : (window : Window) (bound : ℕ) (rs : List Logged) → (window.cutoff ≤ bound) ⊎ (window.cutoff ≤ window.begin)
    → AllByRecursion (λ (r : Logged). bound ≤ r.timestamp) rs → AllByRecursion (λ (r : Logged). is_within window r.timestamp ≡ false) rs
all_outside window bound [] out low = tt
all_outside window bound (r ∷ rs) (inl late) low =
    let above : bound ≤ r.timestamp = low.0 in
    (is_outside window r.timestamp (inl (omega (arith, late, above))), all_outside window bound rs (inl late) low.1)
all_outside window bound (r ∷ rs) (inr empty) low = (is_outside window r.timestamp (inr empty), all_outside window bound rs (inr empty) low.1)

-- what is left of a log begins it, and reaches the cutoff, or nothing is in the window
record LosesNothing (window : Window) (left history : LogReading) : Type 0 where
  begins : IsBeginningOf left history
  limits : Limits
  lawful : AreRecords limits 0 history.records
  reaches : (window.cutoff ≤ latest 0 left.records) ⊎ (window.cutoff ≤ window.begin)

one_survives : (window : Window) (log : ℕ) (left history : LogReading) → LosesNothing window left history
    → filter (in_window window) (updates_from log 0 left.records) ≡ filter (in_window window) (updates_from log 0 history.records)
one_survives window log left history h =
    let lost = h.begins.lost in
    let lawful = subst (AreRecords h.limits 0) h.begins.records h.lawful in
    let out = all_outside window (latest 0 left.records) lost h.reaches (behind_latest h.limits 0 left.records lost lawful) in
    sym (ap (λ (rs : List Logged). filter (in_window window) (updates_from log 0 rs)) h.begins.records ∙ first_survive window log left.records lost out)

-- ---- all logs

all_survive : (window : Window) (log : ℕ) (ls hs : List LogReading) → AllZip (LosesNothing window) ls hs
    → filter (in_window window) (all_updates log (records_of ls)) ≡ filter (in_window window) (all_updates log (records_of hs))
all_survive window log [] [] are = refl
all_survive window log [] (h ∷ hs) are = absurd are
all_survive window log (l ∷ ls) [] are = absurd are
all_survive window log (l ∷ ls) (h ∷ hs) are =
    filter-append (in_window window) (updates_from log 0 l.records) (all_updates (suc log) (records_of ls))
    ∙ (λ i. one_survives window log l h are.0 i ++ all_survive window (suc log) ls hs are.1 i)
    ∙ sym (filter-append (in_window window) (updates_from log 0 h.records) (all_updates (suc log) (records_of hs)))

-- the greater of two numbers that is at least the cutoff is one of them
one_reaches : (cutoff from begin last : ℕ) → from ≤ begin → cutoff ≤ max from last → (cutoff ≤ last) ⊎ (cutoff ≤ begin)
one_reaches cutoff from begin last low reaches = elim (cases_lt last cutoff) as (λ _. (cutoff ≤ last) ⊎ (cutoff ≤ begin)) [
  | inl lt ↦ inr (omega (arith, low, reaches, lt))
  | inr most ↦ inl most
]

one_cut : (window : Window) (left written : List ℕ) (history log : LogReading) → IsCutFileOf left written → IsReading written history → IsReading left log
    → history.head.segment ≡ None → (log.head.segment ≡ None → log.head.from ≤ window.begin) → (log.head.segment ≡ None → (last : ℕ) → IsLast log last → window.cutoff ≤ last)
    → LosesNothing window log history
one_cut window left written history log cut is is_log none low least =
    let said = cut_file left written history is cut in
    let begins = subst (λ (x : LogReading). IsBeginningOf x history) (one_reading_of left said.log log said.is_reading is_log) said.begins in
    let alone : log.head.segment ≡ None = ap (λ (head : Head). head.segment) begins.head ∙ none in
    let last = least alone (max log.head.from (latest 0 log.records)) (last_is (limits_of log.head.format) log is_log.is_log.lawful) in record {
      begins = begins;
      limits = limits_of history.head.format;
      lawful = is.is_log.lawful;
      reaches = one_reaches window.cutoff log.head.from window.begin (latest 0 log.records) (low alone) last;
    }

all_cut : (window : Window) (left written : List (List ℕ)) (hs ls : List LogReading) → AllZip IsCutFileOf left written → AreReadings written hs → AreReadings left ls
    → NoSegments hs → ((log : LogReading) → Contains ls log → log.head.segment ≡ None → log.head.from ≤ window.begin)
    → ((log : LogReading) → Contains ls log → log.head.segment ≡ None → (last : ℕ) → IsLast log last → window.cutoff ≤ last)
    → AllZip (LosesNothing window) ls hs
all_cut window [] [] [] [] cuts read are none low least = tt
all_cut window [] [] [] (l ∷ ls) cuts read are none low least = absurd are
all_cut window [] [] (h ∷ hs) ls cuts read are none low least = absurd read
all_cut window [] (w ∷ ws) hs ls cuts read are none low least = absurd cuts
all_cut window (x ∷ xs) [] hs ls cuts read are none low least = absurd cuts
all_cut window (x ∷ xs) (w ∷ ws) [] ls cuts read are none low least = absurd read
all_cut window (x ∷ xs) (w ∷ ws) (h ∷ hs) [] cuts read are none low least = absurd are
all_cut window (x ∷ xs) (w ∷ ws) (h ∷ hs) (l ∷ ls) cuts read are none low least = (
  one_cut window x w h l cuts.0 read.0 are.0 (All-head IsAlone h hs none) (low l (head_in l ls)) (least l (head_in l ls)),
  all_cut window xs ws hs ls cuts.1 read.1 are.1 (All-tail IsAlone h hs none) (λ log at. low log (tail_in l log ls at)) (λ log at. least log (tail_in l log ls at)),
)

-- ---- the laws

-- where no log that is left has a gap, the same updates survive of it and of the written logs
pub nothing_lost : (left : List (List ℕ)) (histories readings : List LogReading) (cutoff : ℕ) (chosen : Option CheckpointReading) → IsCrash left histories
    → AreReadings left readings → IsCutoff readings cutoff → ((i : ℕ) → IsGap (begin_of chosen) readings i → ⊥)
    → survivors cutoff chosen (records_of readings) ≡ survivors cutoff chosen (records_of histories)
nothing_lost left histories readings cutoff chosen crash are is none =
    let window : Window = record { begin = begin_of chosen; cutoff = cutoff } in
    ap (λ (us : List Update). us ++ entry_updates chosen) (all_survive window 0 readings histories
    (all_cut window left crash.written histories readings crash.cuts crash.read are crash.no_segments (from_begin (begin_of chosen) readings none)
    (λ log at own last is_last. is.least last (record { log = log; stands = at; is_last = subst (λ (times : List ℕ). IsGreatestOf times last) (alone readings log own) is_last }))))

pub same_store : (left parts : List (List ℕ)) (histories : List LogReading) (pairs : List Pair) → IsCrash left histories → (store : IsStoreOf left parts pairs)
    → IsWalk (survivors store.basis.facts.cutoff store.basis.facts.chosen (records_of histories)) pairs
same_store left parts histories pairs crash store =
    let facts = store.basis.facts in
    subst (λ (us : List Update). IsWalk us pairs)
    (nothing_lost left histories facts.readings facts.cutoff facts.chosen crash facts.read facts.is_cutoff store.basis.no_gap) store.walk

-- an update of the written logs survives if it is from the window
pub none_unsafe : (left parts : List (List ℕ)) (histories : List LogReading) (pairs : List Pair) (time : ℕ) → IsCrash left histories
    → (store : IsStoreOf left parts pairs) → ((last : ℕ) → HasLast store.basis.facts.readings last → time < last)
    → (u : Update) → Contains (log_updates (records_of histories)) u → begin_of store.basis.facts.chosen ≤ u.timestamp → u.timestamp ≤ time
    → Contains (survivors store.basis.facts.cutoff store.basis.facts.chosen (records_of store.basis.facts.readings)) u
none_unsafe left parts histories pairs time crash store synced u at low high =
    let facts = store.basis.facts in
    let window : Window = record { begin = begin_of facts.chosen; cutoff = facts.cutoff } in
    let past : time < facts.cutoff = synced facts.cutoff facts.is_cutoff.has in
    let below : u.timestamp < facts.cutoff = omega (arith, high, past) in
    let same = nothing_lost left histories facts.readings facts.cutoff facts.chosen crash facts.read facts.is_cutoff store.basis.no_gap in
    let there = in_filter (in_window window) (log_updates (records_of histories)) u (within window u.timestamp low below) at in
    subst (λ (us : List Update). Contains us u) (sym same)
    (Contains-append_left (log_survivors window (records_of histories)) (entry_updates facts.chosen) u there)
