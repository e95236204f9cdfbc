-- The logs and the slots that they keep, of which one is changed.
use Rattle.std.proofs.Common.{◌≡◌, inl, inr, ℕ, zero, suc, false, List, [], ◌∷◌, ◌++◌, ◌<◌, length, get_or, map, slice_set, Some, Contains, refl, sym, ap, ◌∙◌, subst, arith}
use Rattle.std.specs.Prelude.{slice_get, nat_eq}
use Rattle.std.specs.List.{AllZip, IsDistinct}
use Rattle.std.specs.List.Sorted.{IsPermutation}
use Rattle.std.proofs.lemmas.Bool.{false≢true, cases_eq, cases_lt, eqb-true, eq-eqb, false_from_ne_true}
use Rattle.std.proofs.lemmas.Option.{none-some, same_Some, slice_get_read}
use Rattle.std.proofs.lemmas.List.{set-get_or, length-append}
use Rattle.std.proofs.lemmas.List.Elements.{Contains-append_left, Contains-push, Contains-push_cases, Contains-get_or}
use Rattle.mt_words.proofs.Elements.{head_in, tail_in}
use Rattle.std.proofs.lemmas.List.Sorted.{IsPermutation-sym, IsPermutation-to_front}
use Rattle.std.proofs.lemmas.Map.Keys.{IsDistinct-head, IsDistinct-tail, IsDistinct-cons, IsDistinct-IsPermutation}
use Rattle.mt_replay.proofs.Members.{of_each, all_from, of_map, in_map}
use Rattle.mt_writer.specs.Files.{OpenFile}
use Rattle.mt_laws.specs.Lives.{there}
use Rattle.mt_laws.specs.Writing.{Slot, gone, log_of, Server}
use Rattle.mt_keeper.specs.declared.keeper.Log.{Log}
use Rattle.mt_keeper.specs.Keeping.{slot_in, numbered, AreNumbered, IsLogOf}
use Rattle.mt_keeper.specs.Calling.{with_changed, place_at}

-- ---- a slot that is changed

-- the slots before and behind one
record Around (slots : List Slot) (place : ℕ) : Type 0 where
  front : List Slot
  back : List Slot
  split : slots ≡ front ++ slot_in slots place ∷ back
  changed : (change : Slot → Slot) → with_changed slots place change ≡ front ++ change (slot_in slots place) ∷ back

around_slot : (slots : List Slot) (place : ℕ) → place < length slots → Around slots place
around_slot [] place below = absurd (omega (arith, below))
around_slot (x ∷ xs) zero below = record { front = []; back = xs; split = refl; changed = λ change. refl }
around_slot (x ∷ xs) (suc place) below =
    let later = around_slot xs place (omega (arith, below)) in record {
      front = x ∷ later.front;
      back = later.back;
      split = ap (λ (ys : List Slot). x ∷ ys) later.split;
      changed = λ change. ap (λ (ys : List Slot). x ∷ ys) (later.changed change);
    }

changed_there : (slots : List Slot) (place : ℕ) (change : Slot → Slot) → place < length slots → slot_in (with_changed slots place change) place ≡ change (slot_in slots place)
changed_there [] place change below = absurd (omega (arith, below))
changed_there (x ∷ xs) zero change below = refl
changed_there (x ∷ xs) (suc place) change below = changed_there xs place change (omega (arith, below))

others_stay : (slots : List Slot) (place other : ℕ) (change : Slot → Slot) → (place ≡ other → ⊥) → slot_in (with_changed slots place change) other ≡ slot_in slots other
others_stay [] place other change apart = refl
others_stay (x ∷ xs) zero zero change apart = absurd (apart refl)
others_stay (x ∷ xs) zero (suc other) change apart = refl
others_stay (x ∷ xs) (suc place) zero change apart = refl
others_stay (x ∷ xs) (suc place) (suc other) change apart = others_stay xs place other change (λ same. apart (ap suc same))

same_many : (slots : List Slot) (place : ℕ) (change : Slot → Slot) → length (with_changed slots place change) ≡ length slots
same_many [] place change = refl
same_many (x ∷ xs) zero change = refl
same_many (x ∷ xs) (suc place) change = ap suc (same_many xs place change)

-- ---- numbers

-- the place of a number
place_in : (R : Log → Slot → Type 0) (slots : List Slot) (logs : List Log) (places : List ℕ) (number : ℕ) (log : Log) (d : ℕ) → AllZip R logs (map (slot_in slots) places)
    → slice_get logs number ≡ Some log
    → Contains places (get_or places number d) × (slice_get (map (slot_in slots) places) number ≡ Some (slot_in slots (get_or places number d))) × R log (slot_in slots (get_or places number d))
place_in R slots [] [] number log d are is = absurd (none-some log is)
place_in R slots [] (p ∷ ps) number log d are is = absurd are
place_in R slots (l ∷ ls) [] number log d are is = absurd are
place_in R slots (l ∷ ls) (p ∷ ps) zero log d are is = (head_in p ps, refl, subst (λ (x : Log). R x (slot_in slots p)) (same_Some l log is) are.0)
place_in R slots (l ∷ ls) (p ∷ ps) (suc number) log d are is =
    let later = place_in R slots ls ps number log d are.1 is in (tail_in p (get_or ps number d) ps later.0, later.1, later.2)

-- a file that is there has a number
pub in_numbered : (s : Server) (x : Slot) (file : OpenFile) → AreNumbered s.slots s.places → Contains s.slots x → log_of x ≡ there file → Contains (numbered s) x
in_numbered s x file are at of =
    let is : slot_in s.slots at.0 ≡ x = get_or_same s.slots at.0 x at.1 at.2 in
    subst (Contains (numbered s)) is (in_map (slot_in s.slots) s.places at.0 (are.all at.0 file at.1 (ap log_of is ∙ of)))
  where
    get_or_same : (xs : List Slot) (n : ℕ) (x : Slot) → n < length xs → get_or xs n x ≡ x → slot_in xs n ≡ x
    get_or_same [] n x below is = absurd (omega (arith, below))
    get_or_same (y ∷ ys) zero x below is = is
    get_or_same (y ∷ ys) (suc n) x below is = get_or_same ys n x (omega (arith, below)) is

pub of_numbered : (s : Server) (x : Slot) → AreNumbered s.slots s.places → Contains (numbered s) x → Contains s.slots x
of_numbered s x are at =
    let place = of_map (slot_in s.slots) s.places x at in
    subst (Contains s.slots) place.2 (Contains-get_or s.slots place.0 (gone []) (are.within place.0 place.1))

pub differ_test : (m n : ℕ) → (m ≡ n → ⊥) → nat_eq m n ≡ false
differ_test m n differ = false_from_ne_true (nat_eq m n) (λ same. differ (eqb-true m n same))

-- places that differ do so in any order
pub apart_in_order : (xs ys : List ℕ) → IsPermutation xs ys → IsDistinct nat_eq xs → IsDistinct nat_eq ys
apart_in_order xs ys order are = IsDistinct-IsPermutation nat_eq flips xs ys order are
  where
    flips : (m n : ℕ) → nat_eq m n ≡ nat_eq n m
    flips m n = elim (cases_eq m n) as (λ _. nat_eq m n ≡ nat_eq n m) [
      | inl e ↦ eq-eqb m n e ∙ sym (eq-eqb n m (sym e))
      | inr differ ↦ differ_test m n differ ∙ sym (differ_test n m (λ same. differ (sym same)))
    ]

-- the first place is not among the others
pub first_apart : (place : ℕ) (places : List ℕ) → IsDistinct nat_eq (place ∷ places) → Contains places place → ⊥
first_apart place places are at = false≢true (sym (of_each (λ other. nat_eq place other ≡ false) places place (IsDistinct-head nat_eq place places are) at) ∙ eq-eqb place place refl)

-- all have numbers after one is changed, if none comes to be there
pub numbers_kept : (slots : List Slot) (places : List ℕ) (place : ℕ) (change : Slot → Slot) → AreNumbered slots places → Contains places place → AreNumbered (with_changed slots place change) places
numbers_kept slots places place change are at = record {
  apart = are.apart;
  within = λ other among. let below = are.within other among in omega (arith, below, same_many slots place change);
  all = λ other file below of. elim (cases_eq place other) as (λ _. Contains places other) [
    | inl same ↦ subst (Contains places) same at
    | inr differ ↦ are.all other file (omega (arith, below, same_many slots place change)) (ap log_of (sym (others_stay slots place other change differ)) ∙ of)
  ];
}

pub none_apart : IsDistinct nat_eq []
unfolding IsDistinct
none_apart = tt

pub one_apart : (place : ℕ) → IsDistinct nat_eq (place ∷ [])
one_apart place = IsDistinct-cons nat_eq place [] tt none_apart

before_more : (slots : List Slot) (x : Slot) (place : ℕ) → place < length slots → slot_in (slots ++ x ∷ []) place ≡ slot_in slots place
before_more [] x place below = absurd (omega (arith, below))
before_more (y ∷ ys) x zero below = refl
before_more (y ∷ ys) x (suc place) below = before_more ys x place (omega (arith, below))

at_more : (slots : List Slot) (x : Slot) → slot_in (slots ++ x ∷ []) (length slots) ≡ x
at_more [] x = refl
at_more (y ∷ ys) x = at_more ys x

apart_more : (places : List ℕ) (place : ℕ) → IsDistinct nat_eq places → (Contains places place → ⊥) → IsDistinct nat_eq (places ++ place ∷ [])
apart_more places place are new =
    apart_in_order (place ∷ places) (places ++ place ∷ []) (IsPermutation-sym (places ++ place ∷ []) (place ∷ places) (IsPermutation-to_front places place))
    (IsDistinct-cons nat_eq place places (all_from (λ other. nat_eq place other ≡ false) places (λ other at. differ_test place other (λ same. new (subst (Contains places) (sym same) at)))) are)

-- one more has the next number
pub numbers_more : (slots : List Slot) (places : List ℕ) (x : Slot) → AreNumbered slots places → AreNumbered (slots ++ x ∷ []) (places ++ length slots ∷ [])
numbers_more slots places x are = record {
  apart = apart_more places (length slots) are.apart (λ at. let below = are.within (length slots) at in omega (arith, below));
  within = λ place at. elim (Contains-push_cases places (length slots) place at) as (λ _. place < length (slots ++ x ∷ [])) [
    | inl old ↦ let below = are.within place old in omega (arith, below, length-append slots (x ∷ []))
    | inr e ↦ omega (arith, e, length-append slots (x ∷ []))
  ];
  all = λ place file below of. elim (cases_lt place (length slots)) as (λ _. Contains (places ++ length slots ∷ []) place) [
    | inl before ↦ Contains-append_left places (length slots ∷ []) place (are.all place file before (ap log_of (sym (before_more slots x place before)) ∙ of))
    | inr past ↦ subst (Contains (places ++ length slots ∷ [])) (omega (arith, past, below, length-append slots (x ∷ []))) (Contains-push places (length slots))
  ];
}

pub numbered_more : (slots : List Slot) (places : List ℕ) (x : Slot) → ((place : ℕ) → Contains places place → place < length slots)
    → map (slot_in (slots ++ x ∷ [])) (places ++ length slots ∷ []) ≡ map (slot_in slots) places ++ x ∷ []
numbered_more slots [] x within = ap (λ (y : Slot). y ∷ []) (at_more slots x)
numbered_more slots (p ∷ ps) x within =
    ap (λ (y : Slot). y ∷ map (slot_in (slots ++ x ∷ [])) (ps ++ length slots ∷ [])) (before_more slots x p (within p (head_in p ps)))
    ∙ ap (λ (ys : List Slot). slot_in slots p ∷ ys) (numbered_more slots ps x (λ place at. within place (tail_in p place ps at)))

-- ---- one that is changed

-- the slot of a log, and those before and behind it
pub record SlotOf (R : Log → Slot → Type 0) (s : Server) (number : ℕ) (log : Log) : Type 0 where
  pub front : List Slot
  pub slot : Slot
  pub back : List Slot
  pub split : s.slots ≡ front ++ slot ∷ back
  pub changed : (change : Slot → Slot) → with_changed s.slots (place_at s number) change ≡ front ++ change slot ∷ back
  pub numbers : (change : Slot → Slot) → AreNumbered (with_changed s.slots (place_at s number) change) s.places
  pub at : slice_get (numbered s) number ≡ Some slot
  pub keeps : R log slot

pub slot_of : (R : Log → Slot → Type 0) (logs : List Log) (s : Server) (number : ℕ) (log : Log) → AreNumbered s.slots s.places → AllZip R logs (numbered s)
    → slice_get logs number ≡ Some log → SlotOf R s number log
slot_of R logs s number log numbers are is =
    let place = place_in R s.slots logs s.places number log (length s.slots) are is in
    let of = around_slot s.slots (place_at s number) (numbers.within (place_at s number) place.0) in record {
      front = of.front;
      slot = slot_in s.slots (place_at s number);
      back = of.back;
      split = of.split;
      changed = of.changed;
      numbers = λ change. numbers_kept s.slots s.places (place_at s number) change numbers place.0;
      at = place.1;
      keeps = place.2;
    }

pub all_still : (R Q : Log → Slot → Type 0) (logs : List Log) (slots : List Slot) → AllZip R logs slots → ((l : Log) (x : Slot) → R l x → Q l x) → AllZip Q logs slots
all_still R Q [] [] are still = tt
all_still R Q [] (x ∷ xs) are still = absurd are
all_still R Q (l ∷ ls) [] are still = absurd are
all_still R Q (l ∷ ls) (x ∷ xs) are still = (still l x are.0, all_still R Q ls xs are.1 still)

-- the others are as they were
others_kept : (clock later : ℕ) (slots : List Slot) (place : ℕ) (change : Slot → Slot) (logs : List Log) (places : List ℕ) → (Contains places place → ⊥)
    → AllZip (IsLogOf clock) logs (map (slot_in slots) places) → ((l : Log) (x : Slot) → IsLogOf clock l x → IsLogOf later l x)
    → AllZip (IsLogOf later) logs (map (slot_in (with_changed slots place change)) places)
others_kept clock later slots place change [] [] apart are still = tt
others_kept clock later slots place change [] (p ∷ ps) apart are still = absurd are
others_kept clock later slots place change (l ∷ ls) [] apart are still = absurd are
others_kept clock later slots place change (l ∷ ls) (p ∷ ps) apart are still = (
  subst (IsLogOf later l) (sym (others_stay slots place p change (λ same. apart (subst (Contains (p ∷ ps)) (sym same) (head_in p ps))))) (still l (slot_in slots p) are.0),
  others_kept clock later slots place change ls ps (λ at. apart (tail_in p place ps at)) are.1 still,
)

kept_in : (clock later : ℕ) (slots : List Slot) (logs : List Log) (places : List ℕ) (number d : ℕ) (log new : Log) (change : Slot → Slot) → IsDistinct nat_eq places
    → ((place : ℕ) → Contains places place → place < length slots) → AllZip (IsLogOf clock) logs (map (slot_in slots) places) → slice_get logs number ≡ Some log
    → ((l : Log) (x : Slot) → IsLogOf clock l x → IsLogOf later l x) → ((x : Slot) → IsLogOf clock log x → IsLogOf later new (change x))
    → AllZip (IsLogOf later) (slice_set logs number new) (map (slot_in (with_changed slots (get_or places number d) change)) places)
kept_in clock later slots [] [] number d log new change apart within are is still one = tt
kept_in clock later slots [] (p ∷ ps) number d log new change apart within are is still one = absurd are
kept_in clock later slots (l ∷ ls) [] number d log new change apart within are is still one = absurd are
kept_in clock later slots (l ∷ ls) (p ∷ ps) zero d log new change apart within are is still one = (
  subst (IsLogOf later new) (sym (changed_there slots p change (within p (head_in p ps)))) (one (slot_in slots p) (subst (λ (y : Log). IsLogOf clock y (slot_in slots p)) (same_Some l log is) are.0)),
  others_kept clock later slots p change ls ps (first_apart p ps apart) are.1 still,
)
kept_in clock later slots (l ∷ ls) (p ∷ ps) (suc number) d log new change apart within are is still one =
    let place = place_in (IsLogOf clock) slots ls ps number log d are.1 is in (
      subst (IsLogOf later l) (sym (others_stay slots (get_or ps number d) p change (λ same. first_apart p ps apart (subst (Contains ps) same place.0)))) (still l (slot_in slots p) are.0),
      kept_in clock later slots ls ps number d log new change (IsDistinct-tail nat_eq p ps apart) (λ other at. within other (tail_in p other ps at)) are.1 is still one,
    )

-- each log keeps its slot, if the one that is changed does, and the others still do
pub all_kept : (clock later : ℕ) (logs : List Log) (s : Server) (number : ℕ) (log new : Log) (change : Slot → Slot) → AreNumbered s.slots s.places → AllZip (IsLogOf clock) logs (numbered s)
    → slice_get logs number ≡ Some log → ((l : Log) (x : Slot) → IsLogOf clock l x → IsLogOf later l x) → ((x : Slot) → IsLogOf clock log x → IsLogOf later new (change x))
    → AllZip (IsLogOf later) (slice_set logs number new) (map (slot_in (with_changed s.slots (place_at s number) change)) s.places)
all_kept clock later logs s number log new change numbers are is still one =
    kept_in clock later s.slots logs s.places number (length s.slots) log new change numbers.apart numbers.within are is still one

-- what is the same of the one that is changed is the same of all
pub same_of_all : {A : Type 0} (f : Log → A) (logs : List Log) (number : ℕ) (log new : Log) → slice_get logs number ≡ Some log → f new ≡ f log
    → map f (slice_set logs number new) ≡ map f logs
same_of_all f [] number log new is same = refl
same_of_all f (l ∷ ls) zero log new is same = ap (λ a. a ∷ map f ls) (same ∙ ap f (sym (same_Some l log is)))
same_of_all f (l ∷ ls) (suc number) log new is same = ap (λ rest. f l ∷ rest) (same_of_all f ls number log new is same)

-- ---- an element that is read

pub reads : (logs : List Log) (number : ℕ) (x : Log) → number < length logs → x ≡ get_or logs number x → slice_get logs number ≡ Some x
reads logs number x below is = slice_get_read logs (length logs) number x refl below is

pub put_back : (logs : List Log) (number : ℕ) (x : Log) → x ≡ get_or logs number x → slice_set logs number x ≡ logs
put_back logs number x is = ap (λ (y : Log). slice_set logs number y) is ∙ set-get_or logs number x
