-- Logs of which some were deleted: their history, and what of it is there.
use Rattle.std.proofs.Common.{◌≡◌, ◌⊎◌, inl, inr, ℕ, suc, ◌<◌, ◌≤◌, false, cond, Option, Some, None, List, [], ◌∷◌, ◌++◌, map, filter, Contains, refl, sym, ap, ◌∙◌, subst, arith}
use Rattle.std.specs.Prelude.{IfSome}
use Rattle.std.specs.List.{AllZip, AllByRecursion}
use Rattle.std.proofs.lemmas.Bool.Decides.{nat_tests}
use Rattle.std.proofs.lemmas.List.Elements.{Contains-append_left, Contains-append_right, Contains-append_cases}
use Rattle.mt_words.specs.declared.limits.Limits.{Limits}
use Rattle.mt_words.specs.declared.record.Change.{Change}
use Rattle.mt_words.specs.declared.update.Origin.TheVariants as origins
use Rattle.mt_words.specs.declared.update.Update.{Update}
use Rattle.mt_words.specs.Changes.{Logged, is_mark, IsLoggedChange}
use Rattle.mt_words.specs.Updates.{update_at, update_by, update_of, updates_from}
use Rattle.mt_words.proofs.Elements.{no_element, head_or_tail, head_in, tail_in}
use Rattle.mt_record.specs.Logs.{AreRecords}
use Rattle.mt_replay.specs.Survivors.{all_updates}
use Rattle.mt_writer.specs.Files.{OpenFile, IsOpenFile}
use Rattle.mt_laws.specs.Crashes.{has_records, is_update_since, since}
use Rattle.mt_laws.specs.Lives.{LogOf, there, deleted, those_there, IsStill, as_written, records_in, history_of, AreOld, IsStillOrDeleted}
use Rattle.mt_laws.proofs.Agreeing.{NeverFall, AgreeBelow}
use Rattle.mt_laws.proofs.Continued.{of_record}

-- ---- logs in pairs

pub zip_there : {A B : Type 0} (R : A → B → Type 0) (xs : List (LogOf A)) (ys : List (LogOf B)) → AllZip (IsStill R) xs ys
    → AllZip R (those_there xs) (those_there ys)
zip_there R [] [] are = tt
zip_there R [] (y ∷ ys) are = absurd are
zip_there R (x ∷ xs) [] are = absurd are
zip_there R (there a ∷ xs) (there b ∷ ys) are = (are.0, zip_there R xs ys are.1)
zip_there R (there a ∷ xs) (deleted rs ∷ ys) are = absurd are.0
zip_there R (deleted rs ∷ xs) (there b ∷ ys) are = absurd are.0
zip_there R (deleted rs ∷ xs) (deleted ts ∷ ys) are = zip_there R xs ys are.1

pub still_weaker : {A B : Type 0} (R S : A → B → Type 0) → ((a : A) (b : B) → R a b → S a b) → (x : LogOf A) (y : LogOf B) → IsStill R x y → IsStill S x y
still_weaker R S follows (there a) (there b) is = follows a b is
still_weaker R S follows (there a) (deleted rs) is = absurd is
still_weaker R S follows (deleted rs) (there b) is = absurd is
still_weaker R S follows (deleted rs) (deleted ts) is = is

-- what holds of each log that is there afterwards
pub still_opens : (R : OpenFile → OpenFile → Type 0) (xs ys : List (LogOf OpenFile)) → AllZip (IsStill R) xs ys → ((file : OpenFile) → Contains (those_there ys) file → IsOpenFile file)
    → AllZip (IsStill (λ a b. R a b × IsOpenFile b)) xs ys
still_opens R [] [] are opens = tt
still_opens R [] (y ∷ ys) are opens = absurd are
still_opens R (x ∷ xs) [] are opens = absurd are
still_opens R (there a ∷ xs) (there b ∷ ys) are opens =
    ((are.0, opens b (head_in b (those_there ys))), still_opens R xs ys are.1 (λ file at. opens file (tail_in b file (those_there ys) at)))
still_opens R (there a ∷ xs) (deleted rs ∷ ys) are opens = absurd are.0
still_opens R (deleted rs ∷ xs) (there b ∷ ys) are opens = absurd are.0
still_opens R (deleted rs ∷ xs) (deleted ts ∷ ys) are opens = (are.0, still_opens R xs ys are.1 opens)

-- the records of the logs that are there
pub there_written : (logs : List (LogOf OpenFile)) → those_there (map as_written logs) ≡ map (λ (file : OpenFile). file.records) (those_there logs)
there_written [] = refl
there_written (there file ∷ logs) = ap (λ (l : List (List Logged)). file.records ∷ l) (there_written logs)
there_written (deleted rs ∷ logs) = there_written logs

pub there_append : {A : Type 0} (xs ys : List (LogOf A)) → those_there (xs ++ ys) ≡ those_there xs ++ those_there ys
there_append [] ys = refl
there_append {A} (there a ∷ xs) ys = ap (λ (l : List A). a ∷ l) (there_append xs ys)
there_append (deleted rs ∷ xs) ys = there_append xs ys

pub there_of_all : {A : Type 0} (xs : List A) → those_there (map there xs) ≡ xs
there_of_all [] = refl
there_of_all {A} (x ∷ xs) = ap (λ (l : List A). x ∷ l) (there_of_all xs)

-- ---- old logs

-- a deleted log was lawful, and its updates are from before the timestamp
abbrev pub IsOldIfDeleted : ℕ → LogOf (List Logged) → Type 0
IsOldIfDeleted begin (there records) = Unit {0}
IsOldIfDeleted begin (deleted records) = NeverFall records × AreOld begin records

abbrev pub AllOld : ℕ → List (LogOf (List Logged)) → Type 0
AllOld begin logs = AllByRecursion (IsOldIfDeleted begin) logs

pub old_rises : (low high : ℕ) (logs : List (LogOf (List Logged))) → low ≤ high → AllOld low logs → AllOld high logs
old_rises low high [] rises old = tt
old_rises low high (there rs ∷ logs) rises old = (tt, old_rises low high logs rises old.1)
old_rises low high (deleted rs ∷ logs) rises old =
    ((old.0.0, λ r at change. let less : r.timestamp < low = old.0.1 r at change in omega (arith, less, rises)), old_rises low high logs rises old.1)

pub old_of_all : (begin : ℕ) (files : List OpenFile) → AllOld begin (map as_written (map there files))
old_of_all begin [] = tt
old_of_all begin (f ∷ fs) = (tt, old_of_all begin fs)

pub old_append : (begin : ℕ) (logs : List (LogOf OpenFile)) (file : OpenFile) → AllOld begin (map as_written logs)
    → AllOld begin (map as_written (logs ++ there file ∷ []))
old_append begin [] file old = (tt, tt)
old_append begin (log ∷ logs) file old = (old.0, old_append begin logs file old.1)

-- deleted logs stay what they were
pub old_stays : (R : OpenFile → OpenFile → Type 0) (begin : ℕ) (xs ys : List (LogOf OpenFile)) → AllZip (IsStill R) xs ys → AllOld begin (map as_written xs)
    → AllOld begin (map as_written ys)
old_stays R begin [] [] are old = tt
old_stays R begin [] (y ∷ ys) are old = absurd are
old_stays R begin (x ∷ xs) [] are old = absurd are
old_stays R begin (there a ∷ xs) (there b ∷ ys) are old = (tt, old_stays R begin xs ys are.1 old.1)
old_stays R begin (there a ∷ xs) (deleted rs ∷ ys) are old = absurd are.0
old_stays R begin (deleted rs ∷ xs) (there b ∷ ys) are old = absurd are.0
old_stays R begin (deleted rs ∷ xs) (deleted ts ∷ ys) are old =
    (subst (λ (l : List Logged). NeverFall l × AreOld begin l) (sym are.0) old.0, old_stays R begin xs ys are.1 old.1)

pub old_resumed : (begin : ℕ) (xs : List (LogOf (List Logged))) (ys : List (LogOf OpenFile)) → AllZip (IsStill (λ records file. Unit {0})) xs ys → AllOld begin xs
    → AllOld begin (map as_written ys)
old_resumed begin [] [] are old = tt
old_resumed begin [] (y ∷ ys) are old = absurd are
old_resumed begin (x ∷ xs) [] are old = absurd are
old_resumed begin (there a ∷ xs) (there b ∷ ys) are old = (tt, old_resumed begin xs ys are.1 old.1)
old_resumed begin (there a ∷ xs) (deleted rs ∷ ys) are old = absurd are.0
old_resumed begin (deleted rs ∷ xs) (there b ∷ ys) are old = absurd are.0
old_resumed begin (deleted rs ∷ xs) (deleted ts ∷ ys) are old =
    (subst (λ (l : List Logged). NeverFall l × AreOld begin l) (sym are.0) old.0, old_resumed begin xs ys are.1 old.1)

-- a log of the history is there, or is old
pub there_or_old : (begin : ℕ) (logs : List (LogOf (List Logged))) (rs : List Logged) → AllOld begin logs → Contains (history_of logs) rs
    → Contains (those_there logs) rs ⊎ (NeverFall rs × AreOld begin rs)
there_or_old begin [] rs old at = absurd (no_element rs at)
there_or_old begin (there a ∷ logs) rs old at = elim (head_or_tail a rs (history_of logs) at) as (λ _. Contains (a ∷ those_there logs) rs ⊎ (NeverFall rs × AreOld begin rs)) [
  | inl e ↦ inl (subst (Contains (a ∷ those_there logs)) e (head_in a (those_there logs)))
  | inr later ↦ elim (there_or_old begin logs rs old.1 later) as (λ _. Contains (a ∷ those_there logs) rs ⊎ (NeverFall rs × AreOld begin rs)) [
    | inl among ↦ inl (tail_in a rs (those_there logs) among)
    | inr is ↦ inr is
  ]
]
there_or_old begin (deleted ts ∷ logs) rs old at = elim (head_or_tail ts rs (history_of logs) at) as (λ _. Contains (those_there logs) rs ⊎ (NeverFall rs × AreOld begin rs)) [
  | inl e ↦ inr (subst (λ (l : List Logged). NeverFall l × AreOld begin l) e old.0)
  | inr later ↦ there_or_old begin logs rs old.1 later
]

-- ---- the updates from a timestamp on

not_since : (begin time : ℕ) (change : Option Change) → (is_mark (record { timestamp = time; change = change }) ≡ false → time < begin)
    → is_update_since begin (record { timestamp = time; change = change }) ≡ false
not_since begin time None old = refl
not_since begin time (Some change) old = let less : time < begin = old refl in grind (arith, nat_tests, less)

none_since : (begin : ℕ) (rs : List Logged) → AreOld begin rs → filter (is_update_since begin) rs ≡ []
none_since begin [] old = refl
none_since begin (r ∷ rs) old = rw (not_since begin r.timestamp r.change (old r (head_in r rs))) (none_since begin rs (λ x at. old x (tail_in r x rs at)))

-- those that are there have all of them
pub same_since : (begin : ℕ) (logs : List (LogOf (List Logged))) → AllOld begin logs → since begin (those_there logs) ≡ since begin (history_of logs)
same_since begin [] old = refl
same_since begin (there rs ∷ logs) old =
    let updates = filter (is_update_since begin) rs in
    ap (λ (l : List (List Logged)). cond (has_records updates) (updates ∷ l) l) (same_since begin logs old.1)
same_since begin (deleted rs ∷ logs) old = rw (none_since begin rs old.0.1) (same_since begin logs old.1)

-- ---- the history of logs that changed

-- each log has the records that it had, and perhaps more
abbrev pub HasMore : OpenFile → OpenFile → Type 0
HasMore before after = (new : List Logged) × (after.records ≡ before.records ++ new)

-- updates stay when records are appended
updates_stay : (log nth : ℕ) (rs new : List Logged) (u : Update) → Contains (updates_from log nth rs) u → Contains (updates_from log nth (rs ++ new)) u
updates_stay log nth [] new u at = absurd (no_element u at)
updates_stay log nth (r ∷ rs) new u at = elim (Contains-append_cases _ (updates_from log (suc nth) rs) u at) as (λ _. Contains (updates_from log nth (r ∷ rs ++ new)) u) [
  | inl here ↦ Contains-append_left _ (updates_from log (suc nth) (rs ++ new)) u here
  | inr later ↦ Contains-append_right _ (updates_from log (suc nth) (rs ++ new)) u (updates_stay log (suc nth) rs new u later)
]

-- and when logs follow
pub stay_in : (log : ℕ) (rs ts : List Logged) (rss tss : List (List Logged)) (u : Update)
    → (Contains (updates_from log 0 rs) u → Contains (updates_from log 0 ts) u)
    → (Contains (all_updates (suc log) rss) u → Contains (all_updates (suc log) tss) u) → Contains (all_updates log (rs ∷ rss)) u
    → Contains (all_updates log (ts ∷ tss)) u
stay_in log rs ts rss tss u first rest at = elim (Contains-append_cases (updates_from log 0 rs) (all_updates (suc log) rss) u at) as (λ _. Contains (all_updates log (ts ∷ tss)) u) [
  | inl here ↦ Contains-append_left (updates_from log 0 ts) (all_updates (suc log) tss) u (first here)
  | inr later ↦ Contains-append_right (updates_from log 0 ts) (all_updates (suc log) tss) u (rest later)
]

pub all_stay : (log : ℕ) (xs ys : List (LogOf OpenFile)) (u : Update) → AllZip (IsStill HasMore) xs ys → Contains (all_updates log (history_of (map as_written xs))) u
    → Contains (all_updates log (history_of (map as_written ys))) u
all_stay log [] ys u are at = absurd (no_element u at)
all_stay log (x ∷ xs) [] u are at = absurd are
all_stay log (there a ∷ xs) (there b ∷ ys) u are at =
    let more = are.0 in
    stay_in log a.records b.records (history_of (map as_written xs)) (history_of (map as_written ys)) u
    (λ here. subst (λ (rs : List Logged). Contains (updates_from log 0 rs) u) (sym more.1) (updates_stay log 0 a.records more.0 u here))
    (all_stay (suc log) xs ys u are.1) at
all_stay log (there a ∷ xs) (deleted rs ∷ ys) u are at = absurd are.0
all_stay log (deleted rs ∷ xs) (there b ∷ ys) u are at = absurd are.0
all_stay log (deleted rs ∷ xs) (deleted ts ∷ ys) u are at =
    stay_in log rs ts (history_of (map as_written xs)) (history_of (map as_written ys)) u
    (subst (λ (l : List Logged). Contains (updates_from log 0 l) u) (sym are.0)) (all_stay (suc log) xs ys u are.1) at

pub stay_with_more : (log : ℕ) (xs : List (LogOf OpenFile)) (file : OpenFile) (u : Update) → Contains (all_updates log (history_of (map as_written xs))) u
    → Contains (all_updates log (history_of (map as_written (xs ++ there file ∷ [])))) u
stay_with_more log [] file u at = absurd (no_element u at)
stay_with_more log (x ∷ xs) file u at =
    let rs = records_in (as_written x) in
    stay_in log rs rs (history_of (map as_written xs)) (history_of (map as_written (xs ++ there file ∷ []))) u (λ here. here) (stay_with_more (suc log) xs file u) at

-- logs with the same records have the same history
abbrev pub HasSame : OpenFile → OpenFile → Type 0
HasSame before after = after.records ≡ before.records

pub same_history : (xs ys : List (LogOf OpenFile)) → AllZip (IsStill HasSame) xs ys → history_of (map as_written xs) ≡ history_of (map as_written ys)
same_history [] [] are = refl
same_history [] (y ∷ ys) are = absurd are
same_history (x ∷ xs) [] are = absurd are
same_history (there a ∷ xs) (there b ∷ ys) are = λ i. sym are.0 i ∷ same_history xs ys are.1 i
same_history (there a ∷ xs) (deleted rs ∷ ys) are = absurd are.0
same_history (deleted rs ∷ xs) (there b ∷ ys) are = absurd are.0
same_history (deleted rs ∷ xs) (deleted ts ∷ ys) are = λ i. sym are.0 i ∷ same_history xs ys are.1 i

-- ---- deletion

pub history_with_deleted : (begin : ℕ) (xs ys : List (LogOf OpenFile)) → AllZip (IsStillOrDeleted begin) xs ys
    → history_of (map as_written xs) ≡ history_of (map as_written ys)
history_with_deleted begin [] [] are = refl
history_with_deleted begin [] (y ∷ ys) are = absurd are
history_with_deleted begin (x ∷ xs) [] are = absurd are
history_with_deleted begin (there a ∷ xs) (there b ∷ ys) are =
    λ i. ap (λ (file : OpenFile). file.records) (sym are.0) i ∷ history_with_deleted begin xs ys are.1 i
history_with_deleted begin (there a ∷ xs) (deleted rs ∷ ys) are = λ i. sym are.0.0 i ∷ history_with_deleted begin xs ys are.1 i
history_with_deleted begin (deleted rs ∷ xs) (there b ∷ ys) are = absurd are.0
history_with_deleted begin (deleted rs ∷ xs) (deleted ts ∷ ys) are = λ i. sym are.0 i ∷ history_with_deleted begin xs ys are.1 i

-- what is there after a deletion was there before
pub was_there : (begin : ℕ) (xs ys : List (LogOf OpenFile)) (file : OpenFile) → AllZip (IsStillOrDeleted begin) xs ys → Contains (those_there ys) file
    → Contains (those_there xs) file
was_there begin [] [] file are at = at
was_there begin [] (y ∷ ys) file are at = absurd are
was_there begin (x ∷ xs) [] file are at = absurd are
was_there begin (there a ∷ xs) (there b ∷ ys) file are at = elim (head_or_tail b file (those_there ys) at) as (λ _. Contains (a ∷ those_there xs) file) [
  | inl e ↦ subst (Contains (a ∷ those_there xs)) (sym are.0 ∙ e) (head_in a (those_there xs))
  | inr later ↦ tail_in a file (those_there xs) (was_there begin xs ys file are.1 later)
]
was_there begin (there a ∷ xs) (deleted rs ∷ ys) file are at = tail_in a file (those_there xs) (was_there begin xs ys file are.1 at)
was_there begin (deleted rs ∷ xs) (there b ∷ ys) file are at = absurd are.0
was_there begin (deleted rs ∷ xs) (deleted ts ∷ ys) file are at = was_there begin xs ys file are.1 at

pub old_with_deleted : (begin : ℕ) (xs ys : List (LogOf OpenFile)) → AllZip (IsStillOrDeleted begin) xs ys
    → ((file : OpenFile) → Contains (those_there xs) file → NeverFall file.records) → AllOld begin (map as_written xs) → AllOld begin (map as_written ys)
old_with_deleted begin [] [] are rise old = tt
old_with_deleted begin [] (y ∷ ys) are rise old = absurd are
old_with_deleted begin (x ∷ xs) [] are rise old = absurd are
old_with_deleted begin (there a ∷ xs) (there b ∷ ys) are rise old = (tt, old_with_deleted begin xs ys are.1 (λ file at. rise file (tail_in a file (those_there xs) at)) old.1)
old_with_deleted begin (there a ∷ xs) (deleted rs ∷ ys) are rise old = (
  (subst NeverFall (sym are.0.0) (rise a (head_in a (those_there xs))), are.0.1),
  old_with_deleted begin xs ys are.1 (λ file at. rise file (tail_in a file (those_there xs) at)) old.1,
)
old_with_deleted begin (deleted rs ∷ xs) (there b ∷ ys) are rise old = absurd are.0
old_with_deleted begin (deleted rs ∷ xs) (deleted ts ∷ ys) are rise old =
    (subst (λ (l : List Logged). NeverFall l × AreOld begin l) (sym are.0) old.0, old_with_deleted begin xs ys are.1 rise old.1)

-- ---- a resume

-- the history agrees below the cutoff if what is there does
pub history_agrees : (cutoff begin : ℕ) (xs : List (LogOf (List Logged))) (ys : List (LogOf OpenFile)) → AllZip (IsStill (λ records file. Unit {0})) xs ys
    → AllOld begin xs → AllZip (AgreeBelow cutoff) (those_there xs) (those_there (map as_written ys))
    → AllZip (AgreeBelow cutoff) (history_of xs) (history_of (map as_written ys))
history_agrees cutoff begin [] [] are old agree = tt
history_agrees cutoff begin [] (y ∷ ys) are old agree = absurd are
history_agrees cutoff begin (x ∷ xs) [] are old agree = absurd are
history_agrees cutoff begin (there a ∷ xs) (there b ∷ ys) are old agree = (agree.0, history_agrees cutoff begin xs ys are.1 old.1 agree.1)
history_agrees cutoff begin (there a ∷ xs) (deleted rs ∷ ys) are old agree = absurd are.0
history_agrees cutoff begin (deleted rs ∷ xs) (there b ∷ ys) are old agree = absurd are.0
history_agrees cutoff begin (deleted rs ∷ xs) (deleted ts ∷ ys) are old agree = (
  subst (AgreeBelow cutoff rs) (sym are.0) (record { rise = old.0.0; others_rise = old.0.0; same = refl }),
  history_agrees cutoff begin xs ys are.1 old.1 agree,
)

-- the updates of old logs are old
pub updates_old : (time log : ℕ) (logs : List (List Logged)) (u : Update) → ((rs : List Logged) → Contains logs rs → AreOld time rs) → Contains (all_updates log logs) u
    → u.timestamp < time
updates_old time log [] u old at = absurd (no_element u at)
updates_old time log (rs ∷ rss) u old at = elim (Contains-append_cases (updates_from log 0 rs) (all_updates (suc log) rss) u at) as (λ _. u.timestamp < time) [
  | inl here ↦
      let found = of_record log 0 rs u here in
      subst (λ (t : ℕ). t < time) found.2.0 (old rs (head_in rs rss) found.0 found.1 found.2.1)
  | inr later ↦ updates_old time (suc log) rss u (λ ts among. old ts (tail_in rs ts rss among)) later
]

-- ---- versions

positive_from : (limits : Limits) (low log nth : ℕ) (rs : List Logged) (u : Update) → AreRecords limits low rs → Contains (updates_from log nth rs) u
    → 0 < u.stamp.version
positive_from limits low log nth [] u are at = absurd (no_element u at)
positive_from limits low log nth (r ∷ rs) u are at = elim (Contains-append_cases (update_of log nth r) (updates_from log (suc nth) rs) u at) as (λ _. 0 < u.stamp.version) [
  | inl own ↦ by r.change are.0.1 own
  | inr later ↦ positive_from limits r.timestamp log (suc nth) rs u are.2 later
]
  where
    by : (change : Option Change) → IfSome change (IsLoggedChange limits) → Contains (update_by (origins.Log log nth) r.timestamp change) u → 0 < u.stamp.version
    by None is here = absurd (no_element u here)
    by (Some change) is here = elim (head_or_tail (update_at (origins.Log log nth) r.timestamp change) u [] here) as (λ _. 0 < u.stamp.version) [
      | inl e ↦ subst (λ (w : Update). 0 < w.stamp.version) e is.0.version
      | inr none ↦ absurd (no_element u none)
    ]

-- the versions of lawful logs are above 0
pub all_positive : (log : ℕ) (logs : List (List Logged)) (u : Update) → ((rs : List Logged) → Contains logs rs → NeverFall rs) → Contains (all_updates log logs) u
    → 0 < u.stamp.version
all_positive log [] u rise at = absurd (no_element u at)
all_positive log (rs ∷ rss) u rise at = elim (Contains-append_cases (updates_from log 0 rs) (all_updates (suc log) rss) u at) as (λ _. 0 < u.stamp.version) [
  | inl here ↦ let lawful = rise rs (head_in rs rss) in positive_from lawful.0 0 log 0 rs u lawful.1 here
  | inr later ↦ all_positive (suc log) rss u (λ ts among. rise ts (tail_in rs ts rss among)) later
]
