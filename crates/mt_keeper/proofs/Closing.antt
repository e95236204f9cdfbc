-- Lent logs that came back.
use Rattle.std.proofs.Common.{◌≡◌, ◌≢◌, ◌⊎◌, inl, inr, ⊎_elim, ℕ, zero, suc, ◌+◌, ◌*◌, ◌≤◌, ◌<◌, Bool, true, false, ◌||◌, None, Some, List, [], ◌∷◌, ◌++◌, length, map, get_or, set, refl, sym, ap, ◌∙◌, subst, arith, length-set, mul-le-mul_right}
use Rattle.std.specs.Prelude.{slice_get, sum_by}
use Rattle.std.specs.List.{AllZip}
use Rattle.std.proofs.lemmas.Option.{none-some, same_Some}
use native.Mathlib.Decide.{ℕ_discrete, dec_le}
use Rattle.atomic_table.specs.Seated.{TableId}
use Rattle.mt_writer.specs.Journals.{Writer}
use Rattle.mt_laws.specs.Writing.{Server, Called, called}
use Rattle.mt_shared.specs.declared.known.Act.{Act}
use Rattle.mt_shared.specs.Words.{HandView, Step, Leads, acts_by, acts_at, AreAll}
use Rattle.mt_keeper.specs.declared.crew.TheConstants.{MOST_STAMPS, MOST_LOGS}
use Rattle.mt_keeper.specs.declared.keeper.Stage.{Stage}
use Rattle.mt_keeper.specs.declared.keeper.Stage.TheVariants.{Coming, Writing, Followed, Going, Gone}
use Rattle.mt_keeper.specs.declared.keeper.Log.{Log}
use Rattle.mt_keeper.specs.Keeping.{Keeping, Holds}
use Rattle.mt_keeper.specs.Crews.{LentView, Deed, wrote, spent, marked, took, synced, looked, asked, IsDeed, after_deed, Held, resting, log_with, words_of, Works, draws, HasDone, HaveOneOrder, have_failed, AreDeeds, deeds_at, written_from, if_writing}
use Rattle.mt_keeper.specs.Lending.{NotAmong, AreLent, IsParted, MayLend}
use Rattle.mt_keeper.proofs.Orders.{total_most, AreApart, IsNotLent, AreAtWork, element, within, get_set_here, get_set_else, ordered}

-- ---- the numbers of written logs

written_low : (from : ℕ) (logs : List Log) (i n : ℕ) → slice_get (written_from from logs) i ≡ Some n → from ≤ n
written_low from [] i n is = absurd (none-some n is)
written_low from (log ∷ logs) i n is = by_stage log.stage i is (λ j later. written_low (suc from) logs j n later)
  where
    by_stage : (stage : Stage) (i : ℕ) → slice_get (if_writing stage from (written_from (suc from) logs)) i ≡ Some n → ((j : ℕ) → slice_get (written_from (suc from) logs) j ≡ Some n → suc from ≤ n) → from ≤ n
    by_stage (Writing w) zero is low = omega (arith, same_Some from n is)
    by_stage (Writing w) (suc i) is low = omega (arith, low i is)
    by_stage (Coming new) i is low = omega (arith, low i is)
    by_stage (Followed last) i is low = omega (arith, low i is)
    by_stage Going i is low = omega (arith, low i is)
    by_stage Gone i is low = omega (arith, low i is)

-- they rise
pub written_rise : (from : ℕ) (logs : List Log) (i j a b : ℕ) → slice_get (written_from from logs) i ≡ Some a → slice_get (written_from from logs) j ≡ Some b → i < j → a < b
written_rise from [] i j a b is that before = absurd (none-some a is)
written_rise from (log ∷ logs) i j a b is that before = by_stage log.stage i j is that before (λ i j is that before. written_rise (suc from) logs i j a b is that before)
  where
    by_stage : (stage : Stage) (i j : ℕ) → slice_get (if_writing stage from (written_from (suc from) logs)) i ≡ Some a → slice_get (if_writing stage from (written_from (suc from) logs)) j ≡ Some b → i < j
        → ((i j : ℕ) → slice_get (written_from (suc from) logs) i ≡ Some a → slice_get (written_from (suc from) logs) j ≡ Some b → i < j → a < b) → a < b
    by_stage (Writing w) zero zero is that before rest = absurd (omega (arith, before))
    by_stage (Writing w) zero (suc j) is that before rest = let low = written_low (suc from) logs j b that in omega (arith, same_Some from a is, low)
    by_stage (Writing w) (suc i) zero is that before rest = absurd (omega (arith, before))
    by_stage (Writing w) (suc i) (suc j) is that before rest = rest i j is that (omega (arith, before))
    by_stage (Coming new) i j is that before rest = rest i j is that before
    by_stage (Followed last) i j is that before rest = rest i j is that before
    by_stage Going i j is that before rest = rest i j is that before
    by_stage Gone i j is that before rest = rest i j is that before

-- no more than there are logs
pub written_few : (from : ℕ) (logs : List Log) → length (written_from from logs) ≤ length logs
written_few from [] = omega arith
written_few from (log ∷ logs) = by_stage log.stage (written_few (suc from) logs)
  where
    by_stage : (stage : Stage) → length (written_from (suc from) logs) ≤ length logs → length (if_writing stage from (written_from (suc from) logs)) ≤ suc (length logs)
    by_stage (Writing w) few = omega (arith, few)
    by_stage (Coming new) few = omega (arith, few)
    by_stage (Followed last) few = omega (arith, few)
    by_stage Going few = omega (arith, few)
    by_stage Gone few = omega (arith, few)

-- the log of each of them is written
pub record IsWritten (from : ℕ) (logs : List Log) (n : ℕ) : Type 0 where
  pub place : ℕ
  pub number : n ≡ from + place
  pub log : Log
  pub writer : Writer
  pub at : slice_get logs place ≡ Some log
  pub is : log.stage ≡ Writing writer

pub written_at : (from : ℕ) (logs : List Log) (i n : ℕ) → slice_get (written_from from logs) i ≡ Some n → IsWritten from logs n
written_at from [] i n is = absurd (none-some n is)
written_at from (log ∷ logs) i n is = by_stage log.stage i is refl (λ j later. written_at (suc from) logs j n later)
  where
    behind : IsWritten (suc from) logs n → IsWritten from (log ∷ logs) n
    behind w = record { place = suc w.place; number = omega (arith, w.number); log = w.log; writer = w.writer; at = w.at; is = w.is }

    by_stage : (stage : Stage) (i : ℕ) → slice_get (if_writing stage from (written_from (suc from) logs)) i ≡ Some n → log.stage ≡ stage
        → ((j : ℕ) → slice_get (written_from (suc from) logs) j ≡ Some n → IsWritten (suc from) logs n) → IsWritten from (log ∷ logs) n
    by_stage (Writing w) zero is stage rest = record { place = 0; number = omega (arith, same_Some from n is); log = log; writer = w; at = refl; is = stage }
    by_stage (Writing w) (suc i) is stage rest = behind (rest i is)
    by_stage (Coming new) i is stage rest = behind (rest i is)
    by_stage (Followed last) i is stage rest = behind (rest i is)
    by_stage Going i is stage rest = behind (rest i is)
    by_stage Gone i is stage rest = behind (rest i is)

-- ---- lent logs, in order

module _ (logs : List Log) (lents : List LentView) (are : AreLent (written_from 0 logs) lents) where
  pub apart : AreApart lents
  apart i j a b at there same = by_order (ℕ_discrete i j)
    where
      first : slice_get (written_from 0 logs) i ≡ Some a.number
      first = (are.placed i a at).1

      second : slice_get (written_from 0 logs) j ≡ Some b.number
      second = (are.placed j b there).1

      by_less : Dec (i < j) → i ≢ j → i ≡ j
      by_less (yes before) differs = let rises = written_rise 0 logs i j a.number b.number first second before in absurd (omega (arith, rises, same))
      by_less (no after) differs = let rises = written_rise 0 logs j i b.number a.number second first (omega (arith, after, differs)) in absurd (omega (arith, rises, same))

      by_order : Dec (i ≡ j) → i ≡ j
      by_order (yes is) = is
      by_order (no differs) = by_less (dec_le (suc i) j) differs

  -- a number that is not lent is none of these
  pub not_among : (number : ℕ) → IsNotLent lents number → NotAmong (written_from 0 logs) number
  not_among number not i is = ⊎_elim (λ (x : (lent : LentView) × (slice_get lents i ≡ Some lent)). not i x.0 x.1 (same_Some x.0.number number (sym (are.placed i x.0 x.1).1 ∙ is)))
      (λ (far : length lents ≤ i). absurd (let near = within (written_from 0 logs) i number is in omega (arith, near, far, are.whole))) (element lents i)

-- a number is that of a lent log, or not
pub lent_or_not : (lents : List LentView) (number : ℕ) → ((i : ℕ) × (lent : LentView) × (slice_get lents i ≡ Some lent) × (lent.number ≡ number)) ⊎ IsNotLent lents number
lent_or_not [] number = inr (λ i lent is same. none-some lent is)
lent_or_not (l ∷ ls) number = by_first (ℕ_discrete l.number number) (lent_or_not ls number)
  where
    neither : l.number ≢ number → IsNotLent ls number → IsNotLent (l ∷ ls) number
    neither other not zero lent is same = other (ap (λ (x : LentView). x.number) (same_Some l lent is) ∙ same)
    neither other not (suc i) lent is same = not i lent is same

    by_first : Dec (l.number ≡ number) → ((i : ℕ) × (lent : LentView) × (slice_get ls i ≡ Some lent) × (lent.number ≡ number)) ⊎ IsNotLent ls number
        → ((i : ℕ) × (lent : LentView) × (slice_get (l ∷ ls) i ≡ Some lent) × (lent.number ≡ number)) ⊎ IsNotLent (l ∷ ls) number
    by_first (yes is) rest = inl (0, l, refl, is)
    by_first (no other) rest = ⊎_elim (λ (x : (i : ℕ) × (lent : LentView) × (slice_get ls i ≡ Some lent) × (lent.number ≡ number)). inl (suc x.0, x.1, x.2, x.3)) (λ (not : IsNotLent ls number). inr (neither other not)) rest

pub no_items : {A : Type 0} (xs : List A) → length xs ≡ 0 → xs ≡ []
no_items [] none = refl
no_items (x ∷ xs) none = absurd (omega (arith, none))

pub same_lists : {A : Type 0} (xs ys : List A) → length xs ≡ length ys → ((i : ℕ) → slice_get xs i ≡ slice_get ys i) → xs ≡ ys
same_lists [] [] many each = refl
same_lists [] (y ∷ ys) many each = absurd (omega (arith, many))
same_lists (x ∷ xs) [] many each = absurd (omega (arith, many))
same_lists (x ∷ xs) (y ∷ ys) many each = λ k. same_Some x y (each 0) k ∷ same_lists xs ys (omega (arith, many)) (λ i. each (suc i)) k

-- ---- the loop that puts them back

-- the hand of a lent log
abbrev pub hand_of : LentView → HandView
hand_of lent = record { table = lent.table; number = lent.place; acts = lent.acts }

-- these logs are back in the keeper, of all that were lent
pub record AreBack (before : Keeping) (all back : List LentView) (logs : List Log) : Type 0 where
  pub many : length logs ≡ length before.logs
  pub each : (i : ℕ) (lent : LentView) → slice_get back i ≡ Some lent → slice_get logs lent.number ≡ Some (log_with lent lent.writer)
  pub others : (number : ℕ) → IsNotLent all number → slice_get logs number ≡ slice_get before.logs number

get_left : {A : Type 0} (xs ys : List A) (i : ℕ) (x : A) → slice_get xs i ≡ Some x → slice_get (xs ++ ys) i ≡ Some x
get_left [] ys i x is = absurd (none-some x is)
get_left (z ∷ zs) ys zero x is = is
get_left (z ∷ zs) ys (suc i) x is = get_left zs ys i x is

pub get_last : {A : Type 0} (xs : List A) (y : A) (rest : List A) → slice_get (xs ++ y ∷ rest) (length xs) ≡ Some y
get_last [] y rest = refl
get_last (z ∷ zs) y rest = get_last zs y rest

pub get_push : {A : Type 0} (xs : List A) (y : A) (i : ℕ) (x : A) → slice_get (xs ++ y ∷ []) i ≡ Some x → (slice_get xs i ≡ Some x) ⊎ ((i ≡ length xs) × (y ≡ x))
get_push [] y zero x is = inr (refl, same_Some y x is)
get_push [] y (suc i) x is = absurd (none-some x is)
get_push (z ∷ zs) y zero x is = inl is
get_push (z ∷ zs) y (suc i) x is = ⊎_elim inl (λ (last : (i ≡ length zs) × (y ≡ x)). inr (ap suc last.0, last.1)) (get_push zs y i x is)

get_in : {A : Type 0} (xs : List A) (i : ℕ) → i < length xs → (x : A) × (slice_get xs i ≡ Some x)
get_in [] i near = absurd (omega (arith, near))
get_in (x ∷ xs) zero near = (x, refl)
get_in (x ∷ xs) (suc i) near = get_in xs i (omega (arith, near))

module _ (before : Keeping) (all : List LentView) (apart : AreApart all) where
  -- one more is back
  pub one_back : (back rest : List LentView) (lent : LentView) (logs : List Log) → all ≡ (back ++ lent ∷ []) ++ rest → lent.number < length before.logs → AreBack before all back logs
      → AreBack before all (back ++ lent ∷ []) (set logs lent.number (log_with lent lent.writer))
  one_back back rest lent logs split near are = record {
    many = length-set logs lent.number (log_with lent lent.writer) ∙ are.many;
    each = λ i other is. ⊎_elim (λ (old : slice_get back i ≡ Some other). earlier i other old)
        (λ (last : (i ≡ length back) × (lent ≡ other)). subst (λ (l : LentView). slice_get (set logs lent.number (log_with lent lent.writer)) l.number ≡ Some (log_with l l.writer)) last.1 here) (get_push back lent i other is);
    others = λ number not. get_set_else logs lent.number number (log_with lent lent.writer) (λ same. not (length back) lent there (sym same)) ∙ are.others number not;
  }
    where
      there : slice_get all (length back) ≡ Some lent
      there = ap (λ (l : List LentView). slice_get l (length back)) split ∙ get_left (back ++ lent ∷ []) rest (length back) lent (get_last back lent [])

      here : slice_get (set logs lent.number (log_with lent lent.writer)) lent.number ≡ Some (log_with lent lent.writer)
      here = let x = get_in logs lent.number (omega (arith, near, are.many)) in get_set_here logs lent.number x.0 (log_with lent lent.writer) x.1

      earlier : (i : ℕ) (other : LentView) → slice_get back i ≡ Some other → slice_get (set logs lent.number (log_with lent lent.writer)) other.number ≡ Some (log_with other other.writer)
      earlier i other old =
          let at : slice_get all i ≡ Some other = ap (λ (l : List LentView). slice_get l i) split ∙ get_left (back ++ lent ∷ []) rest i other (get_left back (lent ∷ []) i other old) in
          let low = within back i other old in
          get_set_else logs lent.number other.number (log_with lent lent.writer) (λ same. absurd (let is = apart i (length back) other lent at there same in omega (arith, is, low))) ∙ are.each i other old

-- none is back
pub none_back : (before : Keeping) (lents : List LentView) (are : AreLent (written_from 0 before.logs) lents) (numbers : List ℕ) (keeper : Keeping) → numbers ≡ written_from 0 before.logs
    → IsParted before numbers keeper → AreBack before lents [] keeper.logs
none_back before lents are numbers keeper named parted = record {
  many = parted.many;
  each = λ i lent is. absurd (none-some lent is);
  others = λ number not. parted.others number (λ i at. not_among before.logs lents are number not i (ap (λ (l : List ℕ). slice_get l i) (sym named) ∙ at));
}

pub none_failed : (before keeper : Keeping) → keeper ≡ record before { logs = keeper.logs } → keeper ≡ record before { logs = keeper.logs; failed = keeper.failed }
none_failed before keeper rest = rest ∙ (λ i. record before { logs = keeper.logs; failed = sym (ap (λ (k : Keeping). k.failed) rest) i })

pub hands_push : (lents : List LentView) (lent : LentView) → map hand_of (lents ++ lent ∷ []) ≡ map hand_of lents ++ hand_of lent ∷ []
hands_push [] lent = refl
hands_push (l ∷ ls) lent = ap (λ (hs : List HandView). hand_of l ∷ hs) (hands_push ls lent)

pub or_none : (b : Bool) → (b || false) ≡ b
or_none true = refl
or_none false = refl

or_again : (a b c : Bool) → (a || (b || c)) ≡ ((a || b) || c)
or_again true b c = refl
or_again false b c = refl

pub failed_push : (lents : List LentView) (lent : LentView) → have_failed (lents ++ lent ∷ []) ≡ (have_failed lents || lent.failed)
failed_push [] lent = or_none lent.failed
failed_push (l ∷ ls) lent = ap (λ (b : Bool). l.failed || b) (failed_push ls lent) ∙ or_again l.failed (have_failed ls) lent.failed

pub one_failed : (before failed : Bool) (lents : List LentView) (lent : LentView) → failed ≡ (before || have_failed lents) → (failed || lent.failed) ≡ (before || have_failed (lents ++ lent ∷ []))
one_failed before failed lents lent is = ap (λ (b : Bool). b || lent.failed) is ∙ sym (or_again before (have_failed lents) lent.failed) ∙ ap (λ (b : Bool). before || b) (sym (failed_push lents lent))

-- ---- all deeds have one order

no_writer : Writer
no_writer = record { mark = None; buffer = []; last = 0; taken = 0; reach = 0; size = 0; taken_size = 0; synced_size = 0; frames = 0; segment = None; failed = false }

-- how the logs began
abbrev starts : (before : Keeping) (lents : List LentView) (deeds : List (List Deed)) → AllZip (HasDone before) lents deeds → ℕ → Held
starts before [] deeds done i = resting no_writer
starts before (l ∷ ls) [] done i = resting no_writer
starts before (l ∷ ls) (d ∷ ds) done zero = resting done.0.start
starts before (l ∷ ls) (d ∷ ds) done (suc i) = starts before ls ds done.1 i

starts_seen : (before : Keeping) (lents : List LentView) (deeds : List (List Deed)) (done : AllZip (HasDone before) lents deeds) (i : ℕ) → (starts before lents deeds done i).seen ≡ 0
starts_seen before [] deeds done i = refl
starts_seen before (l ∷ ls) [] done i = refl
starts_seen before (l ∷ ls) (d ∷ ds) done zero = refl
starts_seen before (l ∷ ls) (d ∷ ds) done (suc i) = starts_seen before ls ds done.1 i

-- one of the logs
pub record Began (before : Keeping) (lent : LentView) (held : Held) (deeds : List Deed) : Type 0 where
  pub at : slice_get before.logs lent.number ≡ Some (log_with lent held.writer)
  pub works : Works (length before.logs) lent.number held deeds lent.acts (resting lent.writer)

began : (before : Keeping) (lents : List LentView) (deeds : List (List Deed)) (done : AllZip (HasDone before) lents deeds) (i : ℕ) (lent : LentView) → slice_get lents i ≡ Some lent
    → Began before lent (starts before lents deeds done i) (deeds_at i deeds)
began before [] deeds done i lent is = absurd (none-some lent is)
began before (l ∷ ls) [] done i lent is = absurd done
began before (l ∷ ls) (d ∷ ds) done zero lent is = subst (λ (x : LentView). Began before x (resting done.0.start) d) (same_Some l lent is) (record { at = done.0.was; works = done.0.works })
began before (l ∷ ls) (d ∷ ds) done (suc i) lent is = began before ls ds done.1 i lent is

no_deeds : (before : Keeping) (lents : List LentView) (deeds : List (List Deed)) → AllZip (HasDone before) lents deeds → (i : ℕ) → length lents ≤ i → deeds_at i deeds ≡ []
no_deeds before [] [] done i far = refl
no_deeds before [] (d ∷ ds) done i far = absurd done
no_deeds before (l ∷ ls) [] done i far = refl
no_deeds before (l ∷ ls) (d ∷ ds) done zero far = absurd (omega (arith, far))
no_deeds before (l ∷ ls) (d ∷ ds) done (suc i) far = no_deeds before ls ds done.1 i (omega (arith, far))

few_draws : (before : Keeping) (lents : List LentView) (deeds : List (List Deed)) → AllZip (HasDone before) lents deeds → (i : ℕ) → sum_by draws (deeds_at i deeds) ≤ MOST_STAMPS
few_draws before [] [] done i = omega arith
few_draws before [] (d ∷ ds) done i = absurd done
few_draws before (l ∷ ls) [] done i = omega arith
few_draws before (l ∷ ls) (d ∷ ds) done zero = omega (arith, done.0.few)
few_draws before (l ∷ ls) (d ∷ ds) done (suc i) = few_draws before ls ds done.1 i

acts_of : (lents : List LentView) (i : ℕ) (lent : LentView) → slice_get lents i ≡ Some lent → acts_at i (map hand_of lents) ≡ lent.acts
acts_of [] i lent is = absurd (none-some lent is)
acts_of (l ∷ ls) zero lent is = ap (λ (x : LentView). x.acts) (same_Some l lent is)
acts_of (l ∷ ls) (suc i) lent is = acts_of ls i lent is

no_acts : (lents : List LentView) (i : ℕ) → length lents ≤ i → acts_at i (map hand_of lents) ≡ []
no_acts [] i far = refl
no_acts (l ∷ ls) zero far = absurd (omega (arith, far))
no_acts (l ∷ ls) (suc i) far = no_acts ls i (omega (arith, far))

pub numbers_are : (numbers : List ℕ) (lents : List LentView) → AreLent numbers lents → map (λ (l : LentView). l.number) lents ≡ numbers
numbers_are numbers lents are = same_lists (map (λ (l : LentView). l.number) lents) numbers (length_map lents ∙ are.whole) each
  where
    length_map : (ls : List LentView) → length (map (λ (l : LentView). l.number) ls) ≡ length ls
    length_map [] = refl
    length_map (l ∷ ls) = ap suc (length_map ls)

    get_map : (ls : List LentView) (i : ℕ) (lent : LentView) → slice_get ls i ≡ Some lent → slice_get (map (λ (l : LentView). l.number) ls) i ≡ Some lent.number
    get_map [] i lent is = absurd (none-some lent is)
    get_map (l ∷ ls) zero lent is = ap (λ (x : LentView). Some x.number) (same_Some l lent is)
    get_map (l ∷ ls) (suc i) lent is = get_map ls i lent is

    none_map : (ls : List LentView) (ns : List ℕ) (i : ℕ) → length ls ≤ i → length ls ≡ length ns → slice_get (map (λ (l : LentView). l.number) ls) i ≡ slice_get ns i
    none_map [] [] i far many = refl
    none_map [] (n ∷ ns) i far many = absurd (omega (arith, many))
    none_map (l ∷ ls) [] i far many = absurd (omega (arith, many))
    none_map (l ∷ ls) (n ∷ ns) zero far many = absurd (omega (arith, far))
    none_map (l ∷ ls) (n ∷ ns) (suc i) far many = none_map ls ns i (omega (arith, far)) (omega (arith, many))

    each : (i : ℕ) → slice_get (map (λ (l : LentView). l.number) lents) i ≡ slice_get numbers i
    each i = ⊎_elim (λ (x : (lent : LentView) × (slice_get lents i ≡ Some lent)). get_map lents i x.0 x.1 ∙ sym (are.placed i x.0 x.1).1) (λ (far : length lents ≤ i). none_map lents numbers i far are.whole) (element lents i)

-- each hand is of the crew's words
pub of_words : (lents : List LentView) (table : TableId) → ((k : ℕ) (d : LentView) → k < length lents → (get_or lents k d).table ≡ table) → (k : ℕ) (d : HandView) → k < length (map hand_of lents)
    → (get_or (map hand_of lents) k d).table ≡ table
of_words [] table each k d near = absurd (omega (arith, near))
of_words (l ∷ ls) table each zero d near = each 0 l (omega arith)
of_words (l ∷ ls) table each (suc k) d near = of_words ls table (λ j e closer. each (suc j) e (omega (arith, closer))) k d (omega (arith, near))

-- the hands are all, in order
pub all_hands : (numbers : List ℕ) (lents : List LentView) → AreLent numbers lents → AreAll (length numbers) (map hand_of lents)
all_hands numbers lents are = record {
  whole = length_hands lents ∙ are.whole;
  placed = λ k hand at. let x = of_hand lents k hand at in ap (λ (h : HandView). h.number) (sym x.2) ∙ (are.placed k x.0 x.1).0;
}
  where
    length_hands : (ls : List LentView) → length (map hand_of ls) ≡ length ls
    length_hands [] = refl
    length_hands (l ∷ ls) = ap suc (length_hands ls)

    of_hand : (ls : List LentView) (k : ℕ) (hand : HandView) → slice_get (map hand_of ls) k ≡ Some hand → (lent : LentView) × (slice_get ls k ≡ Some lent) × (hand_of lent ≡ hand)
    of_hand [] k hand at = absurd (none-some hand at)
    of_hand (l ∷ ls) zero hand at = (l, refl, same_Some (hand_of l) hand at)
    of_hand (l ∷ ls) (suc k) hand at = of_hand ls k hand at

-- the number of the next log is that of a log
pub number_near : (before : Keeping) (lents : List LentView) → AreLent (written_from 0 before.logs) lents → (back rest : List LentView) (lent : LentView) → lents ≡ back ++ lent ∷ rest
    → lent.number < length before.logs
number_near before lents are back rest lent split =
    let at : slice_get lents (length back) ≡ Some lent = ap (λ (l : List LentView). slice_get l (length back)) split ∙ get_last back lent rest in
    let w = written_at 0 before.logs (length back) lent.number (are.placed (length back) lent at).1 in
    omega (arith, w.number, within before.logs w.place w.log w.at)

-- a deed is a call
is_called : (number : ℕ) (d : Deed) (s : Server) → IsDeed number d s → Called s → Called (after_deed number d s)
is_called number (wrote change) s is before = called s (after_deed number (wrote change) s) before is
is_called number spent s is before = called s (after_deed number spent s) before is
is_called number (marked time) s is before = called s (after_deed number (marked time) s) before is
is_called number took s is before = called s (after_deed number took s) before is
is_called number synced s is before = called s (after_deed number synced s) before is
is_called number looked s is before = before
is_called number (asked below) s is before = before

are_called : (numbers : List ℕ) (order : List (ℕ × Deed)) (s after : Server) → AreDeeds numbers order s after → Called s → Called after
are_called numbers [] s after is before = subst Called (sym is) before
are_called numbers (d ∷ order) s after is before =
    are_called numbers order (after_deed (get_or numbers d.0 0) d.1 s) after is.1 (is_called (get_or numbers d.0 0) d.1 s is.0 before)

module _ (before : Keeping) (may : MayLend before) (lents : List LentView) (are : AreLent (written_from 0 before.logs) lents) (history : List Step) (words : List ℕ)
    (leads : Leads (words_of before) history words) (each : (k : ℕ) → acts_by k history ≡ acts_at k (map hand_of lents)) where
  at_work : (deeds : List (List Deed)) (done : AllZip (HasDone before) lents deeds) → AreAtWork lents before history (starts before lents deeds done) (λ i. deeds_at i deeds)
  at_work deeds done = record {
    each = λ i lent is. let b = began before lents deeds done i lent is in record {
      at = b.at;
      works = subst (λ (acts : List Act). Works (length before.logs) lent.number (starts before lents deeds done i) (deeds_at i deeds) acts (resting lent.writer)) (sym (each i ∙ acts_of lents i lent is)) b.works;
    };
    none = λ i far. (each i ∙ no_acts lents i far, no_deeds before lents deeds done i far);
    low = λ i x near. absurd (omega (arith, near, starts_seen before lents deeds done i));
    few =
        let most = total_most (length lents) (λ i. deeds_at i deeds) MOST_STAMPS (λ i near. few_draws before lents deeds done i) in
        let count : length lents ≤ MOST_LOGS = omega (arith, are.whole, written_few 0 before.logs, may.few) in
        let product : length lents * MOST_STAMPS ≤ MOST_LOGS * MOST_STAMPS = mul-le-mul_right MOST_STAMPS count in
        omega (arith, most, product, may.clock);
  }

  pub one_order : (s : Server) (deeds : List (List Deed)) (keeper : Keeping) → Holds before s → AllZip (HasDone before) lents deeds → get_or words 0 0 ≡ keeper.clock
      → AreBack before lents lents keeper.logs → keeper ≡ record before { clock = keeper.clock; logs = keeper.logs; failed = keeper.failed } → HaveOneOrder (written_from 0 before.logs) deeds s keeper
  one_order s deeds keeper holds done clock back kept =
      let o = ordered lents (apart before.logs lents are) history before s (starts before lents deeds done) (λ i. deeds_at i deeds) words holds (at_work deeds done) leads in
      let same_clock : o.now.clock ≡ keeper.clock = sym (ap (λ (ws : List ℕ). get_or ws 0 0) o.words_are) ∙ clock in
      let same_logs : o.now.logs ≡ keeper.logs = same_lists o.now.logs keeper.logs (o.many ∙ sym back.many)
      (λ number. ⊎_elim (λ (x : (i : ℕ) × (lent : LentView) × (slice_get lents i ≡ Some lent) × (lent.number ≡ number)).
      subst (λ (n : ℕ). slice_get o.now.logs n ≡ slice_get keeper.logs n) x.3 (o.lent x.0 x.1 x.2 ∙ sym (back.each x.0 x.1 x.2)))
      (λ (not : IsNotLent lents number). o.others number not ∙ sym (back.others number not)) (lent_or_not lents number)) in
      let as_before : Holds (record before { clock = keeper.clock; logs = keeper.logs }) o.after =
      subst (λ (z : ℕ × List Log). Holds (record before { clock = z.0; logs = z.1 }) o.after) (λ i. (same_clock i, same_logs i)) (subst (λ (x : Keeping). Holds x o.after) o.same o.holds) in record {
        order = o.order;
        after = o.after;
        calls = subst (λ (numbers : List ℕ). AreDeeds numbers o.order s o.after) (numbers_are (written_from 0 before.logs) lents are) o.calls;
        called = are_called (map (λ (l : LentView). l.number) lents) o.order s o.after o.calls;
        holds = subst (λ (x : Keeping). Holds x o.after) (sym kept) (with_failure (record before { clock = keeper.clock; logs = keeper.logs }) o.after keeper.failed as_before);
        each = o.each;
      }
    where
      with_failure : (k : Keeping) (x : Server) (failed : Bool) → Holds k x → Holds (record k { failed = failed }) x
      with_failure k x failed holds = record { clock = holds.clock; acked = holds.acked; base = holds.base; numbers = holds.numbers; logs = holds.logs; places = holds.places; checkpoints = holds.checkpoints }
