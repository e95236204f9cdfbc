-- The least of the logs' last timestamps, as their fronts show them, is the cutoff.
use Rattle.std.proofs.Common.{◌≡◌, ◌⊎◌, inl, inr, ℕ, ◌+◌, ◌<◌, ◌≤◌, min, max, take, length, get_or, Bool, true, false, Option, Some, None, List, [], ◌∷◌, ◌++◌, map, filter, cond, eqb, All, Contains, refl, sym, ap, ◌∙◌, subst, arith}
use Rattle.std.specs.Option.{IfSome}
use Rattle.std.specs.List.{flat_map, fold, reduce, AllByRecursion}
use Rattle.std.proofs.lemmas.List.{append-nil, take_more}
use Rattle.std.proofs.lemmas.Bool.{false≢true, cases_lt, eq-eqb}
use Rattle.mt_words.proofs.Elements.{no_element, head_or_tail, head_in, tail_in}
use Rattle.std.proofs.lemmas.List.Elements.{All-from_recursion, All-contains, Contains-append_cases, Contains-append_left, Contains-append_right}
use Rattle.mt_record.specs.declared.front.LogFront.{LogFront}
use Rattle.mt_record.specs.declared.feed.head.Segment.{Segment}
use Rattle.mt_record.specs.Logs.{LogReading, IsGreatestOf, times_of}
use Rattle.mt_record.specs.LogTexts.{greatest}
use Rattle.mt_scan.specs.Cutoff.{is_segment_of, files_of, IsLastOf, IsCutoff}
use Rattle.mt_scan.specs.Scans.{last_in, ShowsFront, ShowFronts}
use Rattle.mt_scan.specs.Steps.Lasts.{last_of_segments, last_by, last_of}
use Rattle.mt_scan.proofs.Numbers.{segment_shown}

-- ---- elements of lists

all_of : {A : Type 0} (P : A → Type 0) (xs : List A) → ((x : A) → Contains xs x → P x) → AllByRecursion P xs
all_of P [] each = tt
all_of P (x ∷ xs) each = (each x (head_in x xs), all_of P xs (λ y at. each y (tail_in x y xs at)))

-- ---- the segments of a worker

-- the last of a file that is one of them, else 0
abbrev pub one : ℕ → LogFront → ℕ
one worker front = cond (is_segment_of worker front.head.segment) (last_in front) 0

pub with_one : (worker : ℕ) (front : LogFront) (fronts : List LogFront) → last_of_segments worker (front ∷ fronts) ≡ max (one worker front) (last_of_segments worker fronts)
with_one worker front fronts = by (is_segment_of worker front.head.segment)
  where
    by : (b : Bool) → greatest (map (λ front. last_in front) (cond b (front ∷ filter (λ front. is_segment_of worker front.head.segment) fronts) (filter (λ front. is_segment_of worker front.head.segment) fronts))) ≡ max (cond b (last_in front) 0) (last_of_segments worker fronts)
    by true = refl
    by false = omega arith

pub push_one : (worker : ℕ) (fronts : List LogFront) (front : LogFront) → last_of_segments worker (fronts ++ front ∷ []) ≡ max (last_of_segments worker fronts) (one worker front)
push_one worker [] front = omega (arith, with_one worker front [])
push_one worker (s ∷ ss) front = omega (arith, with_one worker s (ss ++ front ∷ []), with_one worker s ss, push_one worker ss front)

-- the greatest so far, after one more front
pub next_is : (worker : ℕ) (fronts : List LogFront) (i last : ℕ) (d : LogFront) (found : Bool) → i < length fronts → last ≡ last_of_segments worker (take i fronts) → found ≡ is_segment_of worker (get_or fronts i d).head.segment
    → (found ≡ true → last_of_segments worker (take (i + 1) fronts) ≡ max last (last_in (get_or fronts i d))) × (found ≡ false → last_of_segments worker (take (i + 1) fronts) ≡ max last 0)
next_is worker fronts i last d found lt so_far is =
    let front = get_or fronts i d in
    let more : last_of_segments worker (take (i + 1) fronts) ≡ max last (cond found (last_in front) 0) =
    ap (last_of_segments worker) (take_more fronts i d lt) ∙ push_one worker (take i fronts) front
    ∙ ap (λ (n : ℕ). max n (one worker front)) (sym so_far) ∙ ap (λ (b : Bool). max last (cond b (last_in front) 0)) (sym is) in (
      λ yes. more ∙ ap (λ (b : Bool). max last (cond b (last_in front) 0)) yes,
      λ no. more ∙ ap (λ (b : Bool). max last (cond b (last_in front) 0)) no,
    )

-- ---- what a worker's files say

-- all times of a worker's files
abbrev times_in : ℕ → List LogReading → List ℕ
times_in worker logs = flat_map times_of (filter (λ file. is_segment_of worker file.head.segment) logs)

-- the times of one file, if it is of the worker, and then those of the others
abbrev times_with : Bool → LogReading → List ℕ → List ℕ
times_with true log times = times_of log ++ times
times_with false log times = times

split : (worker : ℕ) (log : LogReading) (logs : List LogReading) → times_in worker (log ∷ logs) ≡ times_with (is_segment_of worker log.head.segment) log (times_in worker logs)
split worker log logs = by (is_segment_of worker log.head.segment)
  where
    by : (b : Bool) → flat_map times_of (cond b (log ∷ filter (λ file. is_segment_of worker file.head.segment) logs) (filter (λ file. is_segment_of worker file.head.segment) logs)) ≡ times_with b log (times_in worker logs)
    by true = refl
    by false = refl

-- none is above the greatest of the lasts
bounds : (worker n : ℕ) (fronts : List LogFront) (logs : List LogReading) → ShowFronts fronts logs → last_of_segments worker fronts ≤ n → (t : ℕ) → Contains (times_in worker logs) t → t ≤ n
bounds worker n [] [] show le t at = absurd (no_element t at)
bounds worker n [] (l ∷ ls) show le t at = absurd show
bounds worker n (s ∷ ss) [] show le t at = absurd show
bounds worker n (s ∷ ss) (l ∷ ls) show le t at =
    by (is_segment_of worker l.head.segment) (with_one worker s ss ∙ ap (λ (w : Option Segment). max (cond (is_segment_of worker w) (last_in s) 0) (last_of_segments worker ss)) (segment_shown s l show.0)) (subst (λ (ts : List ℕ). Contains ts t) (split worker l ls) at)
    (bounds worker n ss ls show.1)
  where
    by : (b : Bool) → last_of_segments worker (s ∷ ss) ≡ max (cond b (last_in s) 0) (last_of_segments worker ss) → Contains (times_with b l (times_in worker ls)) t
        → (last_of_segments worker ss ≤ n → (t : ℕ) → Contains (times_in worker ls) t → t ≤ n) → t ≤ n
    by true e here rest = elim (Contains-append_cases (times_of l) (times_in worker ls) t here) as (λ _. t ≤ n) [
      | inl first ↦ let low : t ≤ (last_in s) = All-contains (λ (time : ℕ). time ≤ (last_in s)) (times_of l) t show.0.last.1 first in omega (arith, low, e, le)
      | inr later ↦ rest (omega (arith, e, le)) t later
    ]
    by false e here rest = rest (omega (arith, e, le)) t here

-- the greatest of the lasts is one of them, or 0
attained : (worker : ℕ) (fronts : List LogFront) (logs : List LogReading) → ShowFronts fronts logs → (last_of_segments worker fronts ≡ 0) ⊎ Contains (times_in worker logs) (last_of_segments worker fronts)
attained worker [] [] show = inl refl
attained worker [] (l ∷ ls) show = absurd show
attained worker (s ∷ ss) [] show = absurd show
attained worker (s ∷ ss) (l ∷ ls) show =
    elim (by (is_segment_of worker l.head.segment) (with_one worker s ss ∙ ap (λ (w : Option Segment). max (cond (is_segment_of worker w) (last_in s) 0) (last_of_segments worker ss)) (segment_shown s l show.0)) (attained worker ss ls show.1))
    as (λ _. (last_of_segments worker (s ∷ ss) ≡ 0) ⊎ Contains (times_in worker (l ∷ ls)) (last_of_segments worker (s ∷ ss))) [
      | inl none ↦ inl none
      | inr at ↦ inr (subst (λ (ts : List ℕ). Contains ts (last_of_segments worker (s ∷ ss))) (sym (split worker l ls)) at)
    ]
  where
    by : (b : Bool) → last_of_segments worker (s ∷ ss) ≡ max (cond b (last_in s) 0) (last_of_segments worker ss)
        → (last_of_segments worker ss ≡ 0) ⊎ Contains (times_in worker ls) (last_of_segments worker ss)
        → (last_of_segments worker (s ∷ ss) ≡ 0) ⊎ Contains (times_with b l (times_in worker ls)) (last_of_segments worker (s ∷ ss))
    by true e rest = elim (cases_lt (last_of_segments worker ss) (last_in s)) as (λ _. (last_of_segments worker (s ∷ ss) ≡ 0) ⊎ Contains (times_of l ++ times_in worker ls) (last_of_segments worker (s ∷ ss))) [
      | inl lt ↦ let is : (last_in s) ≡ last_of_segments worker (s ∷ ss) = omega (arith, e, lt) in inr (Contains-append_left (times_of l) (times_in worker ls) (last_of_segments worker (s ∷ ss)) (subst (Contains (times_of l)) is show.0.last.0))
      | inr le ↦ let is : last_of_segments worker ss ≡ last_of_segments worker (s ∷ ss) = omega (arith, e, le) in
          elim rest as (λ _. (last_of_segments worker (s ∷ ss) ≡ 0) ⊎ Contains (times_of l ++ times_in worker ls) (last_of_segments worker (s ∷ ss))) [
            | inl none ↦ inl (omega (arith, is, none))
            | inr at ↦ inr (Contains-append_right (times_of l) (times_in worker ls) (last_of_segments worker (s ∷ ss)) (subst (Contains (times_in worker ls)) is at))
          ]
    ]
    by false e rest =
        let is : last_of_segments worker ss ≡ last_of_segments worker (s ∷ ss) = omega (arith, e) in
        elim rest as (λ _. (last_of_segments worker (s ∷ ss) ≡ 0) ⊎ Contains (times_in worker ls) (last_of_segments worker (s ∷ ss))) [
          | inl none ↦ inl (omega (arith, is, none))
          | inr at ↦ inr (subst (Contains (times_in worker ls)) is at)
        ]

-- the times of a worker's file are among them
among : (worker : ℕ) (logs : List LogReading) (log : LogReading) (t : ℕ) → Contains logs log → is_segment_of worker log.head.segment ≡ true → Contains (times_of log) t → Contains (times_in worker logs) t
among worker [] log t at is time = absurd (no_element log at)
among worker (l ∷ ls) log t at is time = subst (λ (ts : List ℕ). Contains ts t) (sym (split worker l ls)) (by (is_segment_of worker l.head.segment) refl (head_or_tail l log ls at) (λ later. among worker ls log t later is time))
  where
    by : (b : Bool) → is_segment_of worker l.head.segment ≡ b → (l ≡ log) ⊎ Contains ls log → (Contains ls log → Contains (times_in worker ls) t) → Contains (times_with b l (times_in worker ls)) t
    by true e (inl same) rest = Contains-append_left (times_of l) (times_in worker ls) t (subst (λ (x : LogReading). Contains (times_of x) t) (sym same) time)
    by true e (inr later) rest = Contains-append_right (times_of l) (times_in worker ls) t (rest later)
    by false e (inl same) rest = absurd (false≢true (sym e ∙ ap (λ (x : LogReading). is_segment_of worker x.head.segment) same ∙ is))
    by false e (inr later) rest = rest later

-- ---- lasts

-- the last of a worker's segments is that of its log
worker_last : (worker : ℕ) (fronts : List LogFront) (logs : List LogReading) (log : LogReading) (t : ℕ) → ShowFronts fronts logs → Contains logs log → is_segment_of worker log.head.segment ≡ true → Contains (times_of log) t
    → IsGreatestOf (times_in worker logs) (last_of_segments worker fronts)
worker_last worker fronts logs log t show at is time = (
  elim (attained worker fronts logs show) as (λ _. Contains (times_in worker logs) (last_of_segments worker fronts)) [
    | inr there ↦ there
    | inl none ↦
        let there = among worker logs log t at is time in
        let low = bounds worker (last_of_segments worker fronts) fronts logs show (omega arith) t there in
        let same : t ≡ last_of_segments worker fronts = omega (arith, low, none) in
        subst (Contains (times_in worker logs)) same there
  ],
  All-from_recursion (λ (time : ℕ). time ≤ last_of_segments worker fronts) (times_in worker logs) (all_of (λ (time : ℕ). time ≤ last_of_segments worker fronts) (times_in worker logs) (bounds worker (last_of_segments worker fronts) fronts logs show (omega arith))),
)

-- a file that is scanned, and its front
shown : (fronts : List LogFront) (logs : List LogReading) (front : LogFront) → ShowFronts fronts logs → Contains fronts front → (log : LogReading) × Contains logs log × ShowsFront front log
shown [] [] front show at = absurd (no_element front at)
shown [] (l ∷ ls) front show at = absurd show
shown (s ∷ ss) [] front show at = absurd show
shown (s ∷ ss) (l ∷ ls) front show at = elim (head_or_tail s front ss at) as (λ _. (log : LogReading) × Contains (l ∷ ls) log × ShowsFront front log) [
  | inl e ↦ (l, head_in l ls, subst (λ (x : LogFront). ShowsFront x l) e show.0)
  | inr later ↦ let found = shown ss ls front show.1 later in (found.0, tail_in l found.0 ls found.1, found.2)
]

scanned : (fronts : List LogFront) (logs : List LogReading) (log : LogReading) → ShowFronts fronts logs → Contains logs log → (front : LogFront) × Contains fronts front × ShowsFront front log
scanned [] [] log show at = absurd (no_element log at)
scanned [] (l ∷ ls) log show at = absurd show
scanned (s ∷ ss) [] log show at = absurd show
scanned (s ∷ ss) (l ∷ ls) log show at = elim (head_or_tail l log ls at) as (λ _. (front : LogFront) × Contains (s ∷ ss) front × ShowsFront front log) [
  | inl e ↦ (s, head_in s ss, subst (λ (x : LogReading). ShowsFront s x) e show.0)
  | inr later ↦ let found = scanned ss ls log show.1 later in (found.0, tail_in s found.0 ss found.1, found.2)
]

eqb_itself : (n : ℕ) → eqb n n ≡ true
eqb_itself n = eq-eqb n n refl

-- the number found for a front is the last timestamp of the log that its file belongs to
last_is : (fronts : List LogFront) (logs : List LogReading) (front : LogFront) (log : LogReading) → ShowFronts fronts logs → Contains logs log → ShowsFront front log → IsLastOf logs log (last_of fronts front)
unfolding last_of
last_is fronts logs front log show at shows = by front.head.segment (segment_shown front log shows)
  where
    by : (w : Option Segment) → w ≡ log.head.segment → IsGreatestOf (flat_map times_of (files_of log.head.segment log logs)) (last_by w front fronts)
    by None e = subst (λ (v : Option Segment). IsGreatestOf (flat_map times_of (files_of v log logs)) (last_in front)) e (subst (λ (ts : List ℕ). IsGreatestOf ts (last_in front)) (sym (append-nil (times_of log))) shows.last)
    by (Some segment) e =
        let is : is_segment_of segment.worker log.head.segment ≡ true = ap (is_segment_of segment.worker) (sym e) ∙ eqb_itself segment.worker in
        subst (λ (v : Option Segment). IsGreatestOf (flat_map times_of (files_of v log logs)) (last_of_segments segment.worker fronts)) e
        (worker_last segment.worker fronts logs log (last_in front) show at is shows.last.0)

-- a writer's log has one last timestamp
same_last : (times : List ℕ) (a b : ℕ) → IsGreatestOf times a → IsGreatestOf times b → a ≡ b
same_last times a b x y =
    let low : a ≤ b = All-contains (λ (time : ℕ). time ≤ b) times a y.1 x.0 in
    let high : b ≤ a = All-contains (λ (time : ℕ). time ≤ a) times b x.1 y.0 in
    omega (arith, low, high)

from_map : (f : LogFront → ℕ) (fronts : List LogFront) (n : ℕ) → Contains (map f fronts) n → (front : LogFront) × Contains fronts front × (f front ≡ n)
from_map f [] n at = absurd (no_element n at)
from_map f (s ∷ ss) n at = elim (head_or_tail (f s) n (map f ss) at) as (λ _. (front : LogFront) × Contains (s ∷ ss) front × (f front ≡ n)) [
  | inl e ↦ (s, head_in s ss, e)
  | inr later ↦ let found = from_map f ss n later in (found.0, tail_in s found.0 ss found.1, found.2)
]

in_map : (f : LogFront → ℕ) (fronts : List LogFront) (front : LogFront) → Contains fronts front → Contains (map f fronts) (f front)
in_map f [] front at = absurd (no_element front at)
in_map f (s ∷ ss) front at = elim (head_or_tail s front ss at) as (λ _. Contains (map f (s ∷ ss)) (f front)) [
  | inl e ↦ subst (λ (x : LogFront). Contains (f s ∷ map f ss) (f x)) e (head_in (f s) (map f ss))
  | inr later ↦ tail_in (f s) (f front) (map f ss) (in_map f ss front later)
]

-- the least of the numbers found for the fronts is the cutoff
cutoff_is : (fronts : List LogFront) (logs : List LogReading) (n : ℕ) → ShowFronts fronts logs → Contains (map (last_of fronts) fronts) n → All (λ last. n ≤ last) (map (last_of fronts) fronts) → IsCutoff logs n
cutoff_is fronts logs n show at least =
    let from = from_map (last_of fronts) fronts n at in
    let file = shown fronts logs from.0 show from.1 in
    record {
      has = record { log = file.0; stands = file.1; is_last = subst (IsLastOf logs file.0) from.2 (last_is fronts logs from.0 file.0 show file.1 file.2) };
      least = λ last other.
          let front = scanned fronts logs other.log show other.stands in
          let is = last_is fronts logs front.0 other.log show other.stands front.2 in
          let same = same_last (flat_map times_of (files_of other.log.head.segment other.log logs)) (last_of fronts front.0) last is other.is_last in
          let low : n ≤ last_of fronts front.0 = All-contains (λ (m : ℕ). n ≤ m) (map (last_of fronts) fronts) (last_of fronts front.0) least (in_map (last_of fronts) fronts front.0 front.1) in
          omega (arith, low, same);
    }

-- ---- the least of numbers

fold_least : (x : ℕ) (xs : List ℕ) → Contains (x ∷ xs) (fold min x xs) × (fold min x xs ≤ x) × ((y : ℕ) → Contains xs y → fold min x xs ≤ y)
fold_least x [] = (head_in x [], omega arith, λ y at. absurd (no_element y at))
fold_least x (z ∷ zs) =
    let rest = fold_least (min x z) zs in (
      elim (head_or_tail (min x z) (fold min (min x z) zs) zs rest.0) as (λ _. Contains (x ∷ z ∷ zs) (fold min (min x z) zs)) [
        | inl e ↦ elim (cases_lt x z) as (λ _. Contains (x ∷ z ∷ zs) (fold min (min x z) zs)) [
          | inl lt ↦ let is : x ≡ fold min (min x z) zs = omega (arith, e, lt) in subst (Contains (x ∷ z ∷ zs)) is (head_in x (z ∷ zs))
          | inr le ↦ let is : z ≡ fold min (min x z) zs = omega (arith, e, le) in subst (Contains (x ∷ z ∷ zs)) is (tail_in x z (z ∷ zs) (head_in z zs))
        ]
        | inr later ↦ tail_in x _ (z ∷ zs) (tail_in z _ zs later)
      ],
      omega (arith, rest.1),
      λ y at. elim (head_or_tail z y zs at) as (λ _. fold min (min x z) zs ≤ y) [ inl e ↦ omega (arith, rest.1, e) | inr later ↦ rest.2 y later ],
    )

-- the least of a list of numbers is one of them, and at most each of them
least_in : (xs : List ℕ) (n : ℕ) → reduce min xs ≡ Some n → Contains xs n × All (λ m. n ≤ m) xs
least_in [] n e = cc
least_in (x ∷ xs) n e =
    let least = fold_least x xs in
    let is : fold min x xs ≡ n = cc in
    let low : (y : ℕ) → Contains (x ∷ xs) y → fold min x xs ≤ y = λ y at. elim (head_or_tail x y xs at) as (λ _. fold min x xs ≤ y) [ inl same ↦ omega (arith, same, least.1) | inr later ↦ least.2 y later ] in
    (subst (Contains (x ∷ xs)) is least.0, subst (λ (m : ℕ). All (λ y. m ≤ y) (x ∷ xs)) is (All-from_recursion (λ (y : ℕ). fold min x xs ≤ y) (x ∷ xs) (all_of (λ (y : ℕ). fold min x xs ≤ y) (x ∷ xs) low)))

pub cutoff_of : (fronts : List LogFront) (logs : List LogReading) (least : Option ℕ) → ShowFronts fronts logs → least ≡ reduce min (map (last_of fronts) fronts) → IfSome least (IsCutoff logs)
cutoff_of fronts logs None show e = tt
cutoff_of fronts logs (Some n) show e = let is = least_in (map (last_of fronts) fronts) n (sym e) in cutoff_is fronts logs n show is.0 is.1
