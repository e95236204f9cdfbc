-- What a thread does with a log that it was lent is a call of the server.
use Rattle.std.proofs.Common.{◌≡◌, inl, inr, ⊎_elim, ℕ, zero, suc, ◌+◌, ◌%◌, ◌^◌, ◌≤◌, ◌<◌, max, Option, None, Some, IfSome, List, [], ◌∷◌, ◌++◌, length, map, slice_set, get_or, set, Contains, refl, sym, ap, ◌∙◌, subst, arith, add-one, mod-eq_of_lt}
use Rattle.std.specs.Prelude.{slice_get}
use native.Mathlib.Decide.{ℕ_discrete}
use Rattle.std.proofs.lemmas.List.{map-set, set-get_or}
use Rattle.std.proofs.lemmas.Option.{none-some, same_Some}
use Rattle.mt_words.proofs.Elements.{no_element, head_or_tail}
use Rattle.mt_words.specs.declared.record.Change.{Change}
use Rattle.mt_words.specs.Changes.{Logged, changed}
use Rattle.mt_words.specs.Built.{mark_of}
use Rattle.mt_words.specs.Limits.{widest}
use Rattle.mt_words.specs.declared.limits.Limits.{Limits}
use Rattle.mt_record.specs.Logs.{AreRecords, latest}
use Rattle.mt_writer.specs.Journals.{Journal, Writer, Keeps, handed_out, holding, taking, syncing}
use Rattle.mt_writer.proofs.JournalLemmas.{first_lawful}
use Rattle.mt_laws.specs.Writing.{Server, append, hand_out, told_synced, count_up}
use Rattle.mt_shared.specs.declared.known.Act.{Act}
use Rattle.mt_keeper.specs.declared.keeper.Log.{Log}
use Rattle.mt_keeper.specs.Keeping.{Keeping, Holds, IsLogOf, reach_in, numbered}
use Rattle.mt_keeper.specs.Calling.{counted_up}
use Rattle.mt_keeper.specs.Crews.{LentView, Deed, wrote, spent, marked, took, synced, looked, asked, Held, log_with, or_most, reach_of, words_of, Goes, Sees, Does, draws, after_deed, IsDeed}
use Rattle.mt_keeper.proofs.OneChanged.{all_still, same_of_all}
use Rattle.mt_keeper.proofs.Writes.{log_later, base_later, kept_later, kept_at, KeptAt, writes, holds_more, same_records, records_taken, records_synced}
use Rattle.mt_keeper.proofs.Reaching.{all_reached}

-- ---- the shared words

pub set_same : (logs : List Log) (number : ℕ) (log : Log) → slice_get logs number ≡ Some log → slice_set logs number log ≡ logs
set_same [] number log is = refl
set_same (l ∷ ls) zero log is = ap (λ (x : Log). x ∷ ls) (sym (same_Some l log is))
set_same (l ∷ ls) (suc number) log is = ap (λ (xs : List Log). l ∷ xs) (set_same ls number log is)

reach_at : (logs : List Log) (number : ℕ) (log : Log) → slice_get logs number ≡ Some log → get_or (map reach_of logs) number 0 ≡ reach_of log
reach_at [] number log is = absurd (none-some log is)
reach_at (l ∷ ls) zero log is = ap reach_of (same_Some l log is)
reach_at (l ∷ ls) (suc number) log is = reach_at ls number log is

-- an element that grows
set_grows : (xs : List ℕ) (number more x : ℕ) → get_or xs number 0 ≤ more → get_or xs x 0 ≤ get_or (set xs number more) x 0
set_grows [] number more x low = omega arith
set_grows (y ∷ ys) zero more zero low = low
set_grows (y ∷ ys) zero more (suc x) low = omega arith
set_grows (y ∷ ys) (suc number) more zero low = omega arith
set_grows (y ∷ ys) (suc number) more (suc x) low = set_grows ys number more x low

latest_later : (limits : Limits) (low : ℕ) (rs ss : List Logged) → AreRecords limits low (rs ++ ss) → (low ≤ latest low (rs ++ ss)) × (latest low rs ≤ latest low (rs ++ ss))
latest_later limits low [] [] are = (omega arith, omega arith)
latest_later limits low [] (s ∷ ss) are = let later = latest_later limits s.timestamp [] ss are.2 in let rises : low ≤ s.timestamp = are.1 in (omega (arith, later.0, rises), omega (arith, later.0, rises))
latest_later limits low (r ∷ rs) ss are = let later = latest_later limits r.timestamp rs ss are.2 in let rises : low ≤ r.timestamp = are.1 in (omega (arith, later.0, rises), later.1)

-- no reach is lower than the least that was read
all_low : (logs : List Log) (least : ℕ) → ((x : ℕ) → x < length logs → least ≤ get_or (map reach_of logs) x 0) → (l : Log) → Contains logs l → least ≤ reach_of l
all_low [] least low l at = absurd (no_element l at)
all_low (y ∷ ys) least low l at = elim (head_or_tail y l ys at) as (λ _. least ≤ reach_of l) [
  | inl e ↦ subst (λ (x : Log). least ≤ reach_of x) e (low 0 (omega arith))
  | inr later ↦ all_low ys least (λ x near. low (suc x) (omega (arith, near))) l later
]

low_some : (o : Option ℕ) (below least : ℕ) → below ≤ least → least ≤ or_most o → IfSome o (λ reach. below ≤ reach)
low_some None below least low is = tt
low_some (Some reach) below least low is = omega (arith, low, is)

-- ---- stamps

-- a stamp that is taken for no record
counted_later : (k : Keeping) (s : Server) → Holds k s → Holds (record k { clock = k.clock + 1 }) (counted_up s)
counted_later k s holds = record {
  clock = omega (arith, holds.clock);
  acked = λ u at. let low = holds.acked u at in omega (arith, low);
  base = base_later k.clock (k.clock + 1) s.checkpoints.base (omega arith) holds.base;
  numbers = holds.numbers;
  logs = all_still (IsLogOf k.clock) (IsLogOf (k.clock + 1)) k.logs (numbered s) holds.logs (log_later k.clock (k.clock + 1) (omega arith));
  places = holds.places;
  checkpoints = kept_later k.clock (k.clock + 1) k.base k.making s.checkpoints (omega arith) holds.checkpoints;
}

-- ---- deeds

-- the keeper after a deed with this log, and the server
pub record IsDone (k : Keeping) (s : Server) (number : ℕ) (log : Log) (d : Deed) (a : Act) (after : Held) : Type 0 where
  pub clock : ℕ
  pub clock_is : clock ≡ k.clock + draws d
  pub allowed : IsDeed number d s
  pub holds : Holds (record k { clock = clock; logs = slice_set k.logs number log }) (after_deed number d s)
  pub words : words_of (record k { clock = clock; logs = slice_set k.logs number log }) ≡ set (words_of k) a.word a.left
  pub grows : (x : ℕ) → get_or (words_of k) (suc x) 0 ≤ get_or (words_of (record k { clock = clock; logs = slice_set k.logs number log })) (suc x) 0
  pub low : (x : ℕ) → x < after.seen → after.least ≤ get_or (words_of (record k { clock = clock; logs = slice_set k.logs number log })) (suc x) 0

module _ (k : Keeping) (s : Server) (lent : LentView) (before after : Held) (a : Act) (holds : Holds k s) (at : slice_get k.logs lent.number ≡ Some (log_with lent before.writer))
    (found : a.found ≡ get_or (words_of k) a.word 0) (fits : k.clock + 1 < 2 ^ 64) (low : (x : ℕ) → x < before.seen → before.least ≤ get_or (words_of k) (suc x) 0) where
  kept : KeptAt before.writer s lent.number
  kept = kept_at k s lent.number (log_with lent before.writer) before.writer holds at refl

  clock_found : a.word ≡ 0 → a.found ≡ k.clock
  clock_found is = found ∙ ap (λ (n : ℕ). get_or (words_of k) n 0) is

  at_clock : a.word ≡ 0 → set (words_of k) a.word a.left ≡ a.left ∷ map reach_of k.logs
  at_clock is = ap (λ (n : ℕ). set (words_of k) n a.left) is

  -- a call by which the log is synced no further
  module _ (change : Journal → Journal) (goes : Goes change before after) (synced_same : (j : Journal) → (change j).synced ≡ j.synced) where
    same_reach : reach_of (log_with lent after.writer) ≡ reach_of (log_with lent before.writer)
    same_reach = (goes.kept kept.journal kept.keeps kept.failed).reach ∙ ap (latest 0) (synced_same kept.journal) ∙ sym kept.keeps.reach

    same_words : map reach_of (slice_set k.logs lent.number (log_with lent after.writer)) ≡ map reach_of k.logs
    same_words = same_of_all reach_of k.logs lent.number (log_with lent before.writer) (log_with lent after.writer) at same_reach

    pub done : (d : Deed) (clock : ℕ) → clock ≡ k.clock + draws d → a.word ≡ 0 → a.left ≡ clock → IsDeed lent.number d s
        → Holds (record k { clock = clock; logs = slice_set k.logs lent.number (log_with lent after.writer) }) (after_deed lent.number d s)
        → IsDone k s lent.number (log_with lent after.writer) d a after
    done d clock clock_is word left allowed now = record {
      clock = clock;
      clock_is = clock_is;
      allowed = allowed;
      holds = now;
      words = (λ i. (sym left i) ∷ same_words i) ∙ sym (at_clock word);
      grows = λ x. subst (λ (ws : List ℕ). get_or (map reach_of k.logs) x 0 ≤ get_or ws x 0) (sym same_words) (omega arith);
      low = λ x near. subst (λ (ws : List ℕ). after.least ≤ get_or ws x 0) (sym same_words)
          (let same = ap (λ (h : Held). h.least) goes.same in let near' : x < before.seen = omega (arith, near, ap (λ (h : Held). h.seen) goes.same) in omega (arith, same, low x near'));
    }

  wrote_done : (change : Change) → Does (length k.logs) lent.number before (wrote change) a after → IsDone k s lent.number (log_with lent after.writer) (wrote change) a after
  wrote_done change is =
      let version : change.version ≡ k.clock + 1 = omega (arith, is.1, clock_found is.0.word) in
      let left : a.left ≡ k.clock + 1 = is.0.left ∙ ap (λ (n : ℕ). (n + 1) % 2 ^ 64) (clock_found is.0.word) ∙ mod-eq_of_lt fits in
      let r : Logged = changed change.version change in
      let at_time : (j : Journal) → before.writer.last ≤ k.clock + 1 → Keeps after.writer (holding j (changed (max before.writer.last change.version) change)) → Keeps after.writer (holding j r)
      = λ j last keeps. subst (λ (t : ℕ). Keeps after.writer (holding j (changed t change))) (omega (arith, last, version)) keeps in
      let step = writes k s lent.number (log_with lent before.writer) before.writer after.writer (k.clock + 1) change.version (λ j. holding j r) holds at refl (omega arith) version
      (λ j keeps failed last. holds_more (k.clock + 1) before.writer after.writer j r failed is.2.failed (omega (arith, version)) (at_time j last (is.2.kept j keeps failed)))
      (λ front back j keeps now. append s front back after.writer j r now (refl, omega (arith, holds.clock, version))) in
      done (λ j. holding j (changed (max before.writer.last change.version) change)) is.2 (λ j. refl) (wrote change) (k.clock + 1) refl is.0.word left step.0 step.1

  spent_done : Does (length k.logs) lent.number before spent a after → IsDone k s lent.number (log_with lent after.writer) spent a after
  spent_done is =
      let left : a.left ≡ k.clock + 1 = is.0.left ∙ ap (λ (n : ℕ). (n + 1) % 2 ^ 64) (clock_found is.0.word) ∙ mod-eq_of_lt fits in
      let same_logs : slice_set k.logs lent.number (log_with lent after.writer) ≡ k.logs
      = ap (λ (h : Held). slice_set k.logs lent.number (log_with lent h.writer)) is.1 ∙ set_same k.logs lent.number (log_with lent before.writer) at in
      let same_words : map reach_of (slice_set k.logs lent.number (log_with lent after.writer)) ≡ map reach_of k.logs = ap (map reach_of) same_logs in record {
        clock = k.clock + 1;
        clock_is = refl;
        allowed = count_up s;
        holds = subst (λ (logs : List Log). Holds (record k { clock = k.clock + 1; logs = logs }) (counted_up s)) (sym same_logs) (counted_later k s holds);
        words = (λ i. (sym left i) ∷ same_words i) ∙ sym (at_clock is.0.word);
        grows = λ x. subst (λ (ws : List ℕ). get_or (map reach_of k.logs) x 0 ≤ get_or ws x 0) (sym same_words) (omega arith);
        low = λ x near. subst (λ (ws : List ℕ). after.least ≤ get_or ws x 0) (sym same_words)
            (let same = ap (λ (h : Held). h.least) is.1 in let near' : x < before.seen = omega (arith, near, ap (λ (h : Held). h.seen) is.1) in omega (arith, same, low x near'));
      }

  marked_done : (time : ℕ) → Does (length k.logs) lent.number before (marked time) a after → IsDone k s lent.number (log_with lent after.writer) (marked time) a after
  marked_done time is =
      let left : a.left ≡ k.clock = is.0.left ∙ clock_found is.0.word in
      let step = writes k s lent.number (log_with lent before.writer) before.writer after.writer k.clock s.clock (λ j. holding j (mark_of time)) holds at refl (omega arith) holds.clock
      (λ j keeps failed last. holds_more k.clock before.writer after.writer j (mark_of time) failed is.2.failed (omega (arith, is.1, last, clock_found is.0.word)) (is.2.kept j keeps failed))
      (λ front back j keeps now. append s front back after.writer j (mark_of time) now tt) in
      done (λ j. holding j (mark_of time)) is.2 (λ j. refl) (marked time) k.clock (omega arith) is.0.word left step.0 step.1

  took_done : Does (length k.logs) lent.number before took a after → IsDone k s lent.number (log_with lent after.writer) took a after
  took_done is =
      let left : a.left ≡ k.clock = is.0.left ∙ clock_found is.0.word in
      let step = writes k s lent.number (log_with lent before.writer) before.writer after.writer k.clock s.clock taking holds at refl (omega arith) holds.clock
      (λ j keeps failed last. same_records k.clock before.writer after.writer j (taking j) keeps failed last is.1.failed refl (records_taken j) (is.1.kept j keeps failed))
      (λ front back j keeps now. hand_out s front back after.writer j now) in
      done taking is.1 (λ j. refl) took k.clock (omega arith) is.0.word left step.0 step.1

  synced_done : Does (length k.logs) lent.number before synced a after → IsDone k s lent.number (log_with lent after.writer) synced a after
  synced_done is =
      let goes = is.2 in
      let step = writes k s lent.number (log_with lent before.writer) before.writer after.writer k.clock s.clock syncing holds at refl (omega arith) holds.clock
      (λ j keeps failed last. same_records k.clock before.writer after.writer j (syncing j) keeps failed last goes.failed refl (records_synced j) (goes.kept j keeps failed))
      (λ front back j keeps now. told_synced s front back before.writer after.writer j keeps now) in
      let word : a.word ≡ suc lent.number = is.0 ∙ add-one lent.number in
      let rs : List ℕ = map reach_of k.logs in
      let now_words : map reach_of (slice_set k.logs lent.number (log_with lent after.writer)) ≡ set rs lent.number a.left
      = map-set reach_of k.logs lent.number (log_with lent after.writer) ∙ ap (λ (r : ℕ). set rs lent.number r) (sym is.1) in
      let j = kept.journal in
      let later = goes.kept j kept.keeps kept.failed in
      let more : before.writer.reach ≤ after.writer.reach
      = omega (arith, kept.keeps.reach, later.reach, (latest_later widest 0 j.synced j.taken (first_lawful widest 0 (handed_out j) j.held kept.keeps.lawful)).1) in
      let grown : (x : ℕ) → get_or rs x 0 ≤ get_or (map reach_of (slice_set k.logs lent.number (log_with lent after.writer))) x 0
      = λ x. subst (λ (ws : List ℕ). get_or rs x 0 ≤ get_or ws x 0) (sym now_words) (set_grows rs lent.number a.left x (omega (arith, reach_at k.logs lent.number (log_with lent before.writer) at, is.1, more))) in record {
        clock = k.clock;
        clock_is = omega arith;
        allowed = step.0;
        holds = step.1;
        words = ap (λ (ws : List ℕ). k.clock ∷ ws) now_words ∙ sym (ap (λ (n : ℕ). set (words_of k) n a.left) word);
        grows = grown;
        low = λ x near. let same = ap (λ (h : Held). h.least) goes.same in let near' : x < before.seen = omega (arith, near, ap (λ (h : Held). h.seen) goes.same) in omega (arith, same, low x near', grown x);
      }

  -- a call that changes nothing
  module _ (same_writer : after.writer ≡ before.writer) (left : a.left ≡ a.found) where
    same_logs : slice_set k.logs lent.number (log_with lent after.writer) ≡ k.logs
    same_logs = ap (λ (w : Writer). slice_set k.logs lent.number (log_with lent w)) same_writer ∙ set_same k.logs lent.number (log_with lent before.writer) at

    pub nothing_done : (d : Deed) → draws d ≡ 0 → after_deed lent.number d s ≡ s → IsDeed lent.number d s → ((x : ℕ) → x < after.seen → after.least ≤ get_or (words_of k) (suc x) 0)
        → IsDone k s lent.number (log_with lent after.writer) d a after
    nothing_done d none same_server allowed lows = record {
      clock = k.clock;
      clock_is = omega (arith, none);
      allowed = allowed;
      holds = subst (λ (x : Server). Holds (record k { logs = slice_set k.logs lent.number (log_with lent after.writer) }) x) (sym same_server)
          (subst (λ (logs : List Log). Holds (record k { logs = logs }) s) (sym same_logs) holds);
      words = ap (λ (logs : List Log). k.clock ∷ map reach_of logs) same_logs ∙ sym (ap (λ (n : ℕ). set (words_of k) a.word n) (left ∙ found) ∙ set-get_or (words_of k) a.word 0);
      grows = λ x. subst (λ (logs : List Log). get_or (map reach_of k.logs) x 0 ≤ get_or (map reach_of logs) x 0) (sym same_logs) (omega arith);
      low = λ x near. subst (λ (logs : List Log). after.least ≤ get_or (map reach_of logs) x 0) (sym same_logs) (lows x near);
    }

  sees_done : Sees (length k.logs) before a after → (x : ℕ) → x < after.seen → Dec (x ≡ before.seen) → after.least ≤ get_or (words_of k) (suc x) 0
  sees_done is x near (yes same) = omega (arith, ap (λ (h : Held). h.least) is.after_is, found ∙ ap (λ (n : ℕ). get_or (words_of k) n 0) (is.word ∙ add-one before.seen), ap (λ (n : ℕ). get_or (words_of k) (suc n) 0) same)
  sees_done is x near (no other) = let seen = ap (λ (h : Held). h.seen) is.after_is in omega (arith, ap (λ (h : Held). h.least) is.after_is, low x (omega (arith, near, seen, other)))

  looked_done : Does (length k.logs) lent.number before looked a after → IsDone k s lent.number (log_with lent after.writer) looked a after
  looked_done is = ⊎_elim
      (λ (same : after ≡ before). nothing_done (ap (λ (h : Held). h.writer) same) is.0 looked refl refl tt
      (λ x near. omega (arith, ap (λ (h : Held). h.least) same, low x (omega (arith, near, ap (λ (h : Held). h.seen) same)))))
      (λ (sees : Sees (length k.logs) before a after). nothing_done (ap (λ (h : Held). h.writer) sees.after_is) is.0 looked refl refl tt (λ x near. sees_done sees x near (ℕ_discrete x before.seen)))
      is.1

  asked_done : (below : ℕ) → Does (length k.logs) lent.number before (asked below) a after → IsDone k s lent.number (log_with lent after.writer) (asked below) a after
  asked_done below is =
      nothing_done (ap (λ (h : Held). h.writer) is.3) is.0.left (asked below) refl refl
      (all_reached k s below holds (λ l among. low_some (reach_in l.stage) below before.least (omega (arith, is.2)) (all_low k.logs before.least (λ x near. low x (omega (arith, near, is.1))) l among)))
      (λ x near. absurd (omega (arith, near, ap (λ (h : Held). h.seen) is.3)))

  pub deed_done : (d : Deed) → Does (length k.logs) lent.number before d a after → IsDone k s lent.number (log_with lent after.writer) d a after
  deed_done (wrote change) is = wrote_done change is
  deed_done spent is = spent_done is
  deed_done (marked time) is = marked_done time is
  deed_done took is = took_done is
  deed_done synced is = synced_done is
  deed_done looked is = looked_done is
  deed_done (asked below) is = asked_done below is
