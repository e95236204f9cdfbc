-- Files of a server, of which one changes.
use Rattle.std.proofs.Common.{◌≡◌, ◌⊎◌, inl, inr, ℕ, suc, List, [], ◌∷◌, ◌++◌, length, map, Contains, refl, sym, ap, ◌∙◌, subst, arith}
use Rattle.std.specs.List.{AllZip}
use Rattle.std.proofs.lemmas.List.Elements.{Contains-append_left, Contains-append_right, Contains-append_cases}
use Rattle.mt_words.specs.declared.update.Update.{Update}
use Rattle.mt_words.specs.Changes.{Logged}
use Rattle.mt_words.specs.Updates.{update_of, updates_from}
use Rattle.mt_words.proofs.Elements.{no_element, head_or_tail, head_in, tail_in}
use Rattle.mt_record.proofs.RecordLemmas.{updates_push}
use Rattle.mt_scan.specs.Segments.{IsSame}
use Rattle.mt_replay.specs.Survivors.{all_updates}
use Rattle.mt_replay.proofs.Members.{of_map, in_map}
use Rattle.mt_writer.specs.Files.{OpenFile, file_reading}
use Rattle.mt_laws.specs.Lives.{LogOf, there, deleted, those_there, IsStill, as_written, records_in, history_of}
use Rattle.mt_laws.specs.Writing.{Slot, log_of, logs_of, files_of}
use Rattle.mt_laws.proofs.LeftFiles.{same_back}
use Rattle.mt_laws.proofs.Doubled.{AreApart}
use Rattle.mt_laws.proofs.Paired.{zip_map}

-- ---- the files of slots

pub same_there : (a b : OpenFile) → there a ≡ there b → a ≡ b
same_there a b same = cc

pub in_there : (logs : List (LogOf OpenFile)) (file : OpenFile) → Contains logs (there file) → Contains (those_there logs) file
in_there [] file at = absurd (no_element (there file) at)
in_there (there a ∷ logs) file at = elim (head_or_tail (there a) (there file) logs at) as (λ _. Contains (a ∷ those_there logs) file) [
  | inl e ↦ subst (Contains (a ∷ those_there logs)) (same_there a file e) (head_in a (those_there logs))
  | inr later ↦ tail_in a file (those_there logs) (in_there logs file later)
]
in_there (deleted rs ∷ logs) file at = elim (head_or_tail (deleted rs) (there file) logs at) as (λ _. Contains (those_there logs) file) [
  | inl e ↦ absurd cc
  | inr later ↦ in_there logs file later
]

of_there : (logs : List (LogOf OpenFile)) (file : OpenFile) → Contains (those_there logs) file → Contains logs (there file)
of_there [] file at = absurd (no_element file at)
of_there (there a ∷ logs) file at = elim (head_or_tail a file (those_there logs) at) as (λ _. Contains (there a ∷ logs) (there file)) [
  | inl e ↦ subst (λ (f : OpenFile). Contains (there a ∷ logs) (there f)) e (head_in (there a) logs)
  | inr later ↦ tail_in (there a) (there file) logs (of_there logs file later)
]
of_there (deleted rs ∷ logs) file at = tail_in (deleted rs) (there file) logs (of_there logs file at)

-- a slot's file is among the files
pub in_files : (slots : List Slot) (x : Slot) (file : OpenFile) → Contains slots x → log_of x ≡ there file → Contains (files_of slots) file
in_files slots x file at is = in_there (logs_of slots) file (subst (Contains (logs_of slots)) is (in_map log_of slots x at))

-- each of the files is a slot's
pub of_files : (slots : List Slot) (file : OpenFile) → Contains (files_of slots) file → (x : Slot) × Contains slots x × (log_of x ≡ there file)
of_files slots file at = of_map log_of slots (there file) (of_there (logs_of slots) file at)

-- the same segment is in no other slot
head_apart : (log : LogOf OpenFile) (logs : List (LogOf OpenFile)) (file other : OpenFile) → AreApart (map file_reading (those_there (log ∷ logs))) → log ≡ there file
    → Contains (those_there logs) other → IsSame other.head.segment file.head.segment → ⊥
head_apart log logs file other apart is at same =
    let are : AreApart (map file_reading (file ∷ those_there logs)) = subst (λ (l : LogOf OpenFile). AreApart (map file_reading (those_there (l ∷ logs)))) is apart in
    are.0 (file_reading other) (in_map file_reading (those_there logs) other at) same

rest_apart : (log : LogOf OpenFile) (logs : List (LogOf OpenFile)) → AreApart (map file_reading (those_there (log ∷ logs))) → AreApart (map file_reading (those_there logs))
rest_apart (there file) logs apart = apart.1
rest_apart (deleted rs) logs apart = apart

pub one_slot : (slots : List Slot) (x y : Slot) (f g : OpenFile) → AreApart (map file_reading (files_of slots)) → Contains slots x → Contains slots y
    → log_of x ≡ there f → log_of y ≡ there g → IsSame f.head.segment g.head.segment → x ≡ y
one_slot [] x y f g apart at_x at_y is_x is_y same = absurd (no_element x at_x)
one_slot (z ∷ zs) x y f g apart at_x at_y is_x is_y same =
    let back = same_back f.head.segment g.head.segment same in
    elim (head_or_tail z x zs at_x) as (λ _. x ≡ y) [
      | inl first ↦ elim (head_or_tail z y zs at_y) as (λ _. x ≡ y) [
        | inl too ↦ sym first ∙ too
        | inr later ↦ absurd (head_apart (log_of z) (logs_of zs) f g apart (ap log_of first ∙ is_x) (in_files zs y g later is_y) back)
      ]
      | inr later ↦ elim (head_or_tail z y zs at_y) as (λ _. x ≡ y) [
        | inl first ↦ absurd (head_apart (log_of z) (logs_of zs) g f apart (ap log_of first ∙ is_y) (in_files zs x f later is_x) same)
        | inr too ↦ one_slot zs x y f g (rest_apart (log_of z) (logs_of zs) apart) later too is_x is_y same
      ]
    ]

-- ---- one slot in place of another

pub amid : {A : Type 0} (front back : List A) (x : A) → Contains (front ++ x ∷ back) x
amid front back x = Contains-append_right front (x ∷ back) x (head_in x back)

-- what is there is the new one, or was there
pub was_in : {A : Type 0} (front back : List A) (x y z : A) → Contains (front ++ y ∷ back) z → (y ≡ z) ⊎ Contains (front ++ x ∷ back) z
was_in front back x y z at = elim (Contains-append_cases front (y ∷ back) z at) as (λ _. (y ≡ z) ⊎ Contains (front ++ x ∷ back) z) [
  | inl before ↦ inr (Contains-append_left front (x ∷ back) z before)
  | inr rest ↦ elim (head_or_tail y z back rest) as (λ _. (y ≡ z) ⊎ Contains (front ++ x ∷ back) z) [
    | inl e ↦ inl e
    | inr later ↦ inr (Contains-append_right front (x ∷ back) z (tail_in x z back later))
  ]
]

pub others_in : {A : Type 0} (front back : List A) (x z : A) → Contains (front ++ back) z → Contains (front ++ x ∷ back) z
others_in front back x z at = elim (Contains-append_cases front back z at) as (λ _. Contains (front ++ x ∷ back) z) [
  | inl before ↦ Contains-append_left front (x ∷ back) z before
  | inr later ↦ Contains-append_right front (x ∷ back) z (tail_in x z back later)
]

-- the same of its file
pub file_was : (front back : List Slot) (x y : Slot) (file : OpenFile) → Contains (files_of (front ++ y ∷ back)) file
    → (log_of y ≡ there file) ⊎ Contains (files_of (front ++ x ∷ back)) file
file_was front back x y file at =
    let z = of_files (front ++ y ∷ back) file at in
    elim (was_in front back x y z.0 z.1) as (λ _. (log_of y ≡ there file) ⊎ Contains (files_of (front ++ x ∷ back)) file) [
      | inl e ↦ inl (ap log_of e ∙ z.2)
      | inr was ↦ inr (in_files (front ++ x ∷ back) z.0 file was z.2)
    ]

pub zip_amid : {A : Type 0} (R : A → A → Type 0) (front back : List A) (x y : A) → ((z : A) → Contains (front ++ x ∷ back) z → R z z) → R x y
    → AllZip R (front ++ x ∷ back) (front ++ y ∷ back)
zip_amid {A} R [] back x y self is = (is, itself back (λ z at. self z (tail_in x z back at)))
  where
    itself : (zs : List A) → ((z : A) → Contains zs z → R z z) → AllZip R zs zs
    itself [] own = tt
    itself (z ∷ zs) own = (own z (head_in z zs), itself zs (λ w at. own w (tail_in z w zs at)))
zip_amid R (z ∷ front) back x y self is =
    (self z (head_in z (front ++ x ∷ back)), zip_amid R front back x y (λ w at. self w (tail_in z w (front ++ x ∷ back) at)) is)

pub still_amid : (R : OpenFile → OpenFile → Type 0) (front back : List Slot) (x y : Slot) → ((file : OpenFile) → Contains (files_of (front ++ x ∷ back)) file → R file file)
    → IsStill R (log_of x) (log_of y) → AllZip (IsStill R) (logs_of (front ++ x ∷ back)) (logs_of (front ++ y ∷ back))
still_amid R front back x y self is =
    zip_map (IsStill R) log_of log_of (front ++ x ∷ back) (front ++ y ∷ back)
    (zip_amid (λ a b. IsStill R (log_of a) (log_of b)) front back x y (λ z at. itself (log_of z) (λ file e. self file (in_files (front ++ x ∷ back) z file at e))) is)
  where
    itself : (log : LogOf OpenFile) → ((file : OpenFile) → log ≡ there file → R file file) → IsStill R log log
    itself (there file) own = own file refl
    itself (deleted rs) own = refl

pub same_logs : (front back : List Slot) (x y : Slot) → log_of y ≡ log_of x → logs_of (front ++ y ∷ back) ≡ logs_of (front ++ x ∷ back)
same_logs [] back x y same = ap (λ (l : LogOf OpenFile). l ∷ logs_of back) same
same_logs (z ∷ front) back x y same = ap (λ (l : List (LogOf OpenFile)). log_of z ∷ l) (same_logs front back x y same)

-- ---- updates

abbrev records_at : Slot → List Logged
records_at x = records_in (as_written (log_of x))

pub same_updates : (log : ℕ) (front back : List Slot) (x y : Slot) → records_at y ≡ records_at x
    → all_updates log (history_of (map as_written (logs_of (front ++ y ∷ back)))) ≡ all_updates log (history_of (map as_written (logs_of (front ++ x ∷ back))))
same_updates log [] back x y same = ap (λ (rs : List Logged). updates_from log 0 rs ++ all_updates (suc log) (history_of (map as_written (logs_of back)))) same
same_updates log (z ∷ front) back x y same = ap (λ (us : List Update). updates_from log 0 (records_at z) ++ us) (same_updates (suc log) front back x y same)

-- the update is the record's
abbrev pub IsUpdateOf : Logged → Update → Type 0
IsUpdateOf r u = (log : ℕ) × (nth : ℕ) × Contains (update_of log nth r) u

-- one more record has no more than its update
pub update_more : (log : ℕ) (front back : List Slot) (x y : Slot) (r : Logged) (u : Update) → records_at y ≡ records_at x ++ r ∷ []
    → Contains (all_updates log (history_of (map as_written (logs_of (front ++ y ∷ back))))) u
    → Contains (all_updates log (history_of (map as_written (logs_of (front ++ x ∷ back))))) u ⊎ IsUpdateOf r u
update_more log [] back x y r u same at =
    let later = all_updates (suc log) (history_of (map as_written (logs_of back))) in
    let old = updates_from log 0 (records_at x) in
    let nth = length (records_at x) in
    let is : updates_from log 0 (records_at y) ≡ old ++ update_of log nth r =
    ap (updates_from log 0) same ∙ updates_push log 0 nth (records_at x) r (omega arith) in
    elim (Contains-append_cases (updates_from log 0 (records_at y)) later u at) as (λ _. Contains (old ++ later) u ⊎ IsUpdateOf r u) [
      | inl here ↦ elim (Contains-append_cases old (update_of log nth r) u (subst (λ (l : List Update). Contains l u) is here)) as (λ _. Contains (old ++ later) u ⊎ IsUpdateOf r u) [
        | inl was ↦ inl (Contains-append_left old later u was)
        | inr one ↦ inr (log, nth, one)
      ]
      | inr after ↦ inl (Contains-append_right old later u after)
    ]
update_more log (z ∷ front) back x y r u same at =
    let rs = updates_from log 0 (records_at z) in
    let before = all_updates (suc log) (history_of (map as_written (logs_of (front ++ x ∷ back)))) in
    elim (Contains-append_cases rs (all_updates (suc log) (history_of (map as_written (logs_of (front ++ y ∷ back))))) u at) as (λ _. Contains (rs ++ before) u ⊎ IsUpdateOf r u) [
      | inl here ↦ inl (Contains-append_left rs before u here)
      | inr later ↦ elim (update_more (suc log) front back x y r u same later) as (λ _. Contains (rs ++ before) u ⊎ IsUpdateOf r u) [
        | inl was ↦ inl (Contains-append_right rs before u was)
        | inr of_r ↦ inr of_r
      ]
    ]
