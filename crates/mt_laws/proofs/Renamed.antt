-- Logs without records from before a timestamp, and without logs that have no others, leave what the whole logs leave from that timestamp on. Their
-- updates have other origins, in the same order.
use Rattle.std.proofs.Common.{◌≡◌, ◌⊎◌, ◌↔◌, inl, inr, ℕ, suc, ◌<◌, ◌≤◌, ◌&&◌, Bool, true, false, cond, nat_le, is_some, Option, Some, None, List, [], ◌∷◌, ◌++◌, map, filter, Contains, refl, sym, ap, ◌∙◌, subst, arith}
use Rattle.std.proofs.lemmas.Bool.{cases_lt}
use Rattle.std.proofs.lemmas.Bool.Decides.{nat_tests}
use Rattle.std.proofs.lemmas.List.Elements.{filter-append, Contains-append_cases, Contains-append_left, Contains-append_right}
use Rattle.std.specs.List.{AllZip, AllByRecursion}
use Rattle.mt_words.specs.declared.record.Change.{Change}
use Rattle.mt_words.specs.declared.update.Kind.{Kind}
use Rattle.mt_words.specs.declared.update.Origin.{Origin}
use Rattle.mt_words.specs.declared.update.Origin.TheVariants as origins
use Rattle.mt_words.specs.declared.update.Stamp.{Stamp}
use Rattle.mt_words.specs.declared.update.Update.{Update}
use Rattle.mt_words.specs.Changes.{Logged, Writes, IsReset}
use Rattle.mt_words.specs.Stamps.{IsBefore, IsAtMost}
use Rattle.mt_words.specs.Updates.{update_at, update_by, update_of, updates_from}
use Rattle.mt_words.specs.Walks.{Pair}
use Rattle.mt_words.proofs.Elements.{no_element, head_or_tail, head_in, tail_in}
use Rattle.mt_scan.specs.Choice.{CheckpointReading}
use Rattle.mt_replay.specs.declared.window.Window.{Window}
use Rattle.mt_replay.specs.KeyColumns.{HasColumn}
use Rattle.mt_replay.specs.Survivors.{all_updates, log_updates, is_within, in_window, log_survivors}
use Rattle.mt_replay.specs.Walk.{IsWalk}
use Rattle.mt_replay.proofs.Members.{of_each, all_from, all_append, of_map, in_map, of_filter}
use Rattle.mt_replay.proofs.StampLemmas.{not_newer}
use Rattle.mt_recover.specs.Recovery.{entry_updates, begin_of, survivors}
use Rattle.mt_recover.proofs.Apart.{of_logs}
use Rattle.mt_recover.proofs.OneWalk.{Rises}
use Rattle.mt_laws.specs.Crashes.{has_records, is_update_since, since}
use Rattle.mt_laws.proofs.Windows.{outside, one_outside}
use Rattle.mt_laws.proofs.Moved.{version_at_most, version_below, Decides, at_most, column_by, same_walk}
use Rattle.mt_laws.proofs.Entries.{entry_stamp, IsOfLog, below_entry, above_entry, of_a_log, entry_update}

-- ---- the updates of logs stand in the order of their origins

abbrev Before : Update → Update → Type 0
Before u w = IsBefore u.stamp.origin w.stamp.origin

-- the update is of this log, and of a record from this number on
record IsFrom (log nth : ℕ) (u : Update) : Type 0 where
  number : ℕ
  origin : u.stamp.origin ≡ origins.Log log number
  from : nth ≤ number

later_from : (log nth : ℕ) (u : Update) → IsFrom log (suc nth) u → IsFrom log nth u
later_from log nth u is = let from : suc nth ≤ is.number = is.from in record { number = is.number; origin = is.origin; from = omega arith }

all_from_number : (log nth : ℕ) (rs : List Logged) → AllByRecursion (IsFrom log nth) (updates_from log nth rs)
all_from_number log nth [] = tt
all_from_number log nth (r ∷ rs) =
    all_append (IsFrom log nth) (update_of log nth r) (updates_from log (suc nth) rs) (one log nth r.timestamp r.change)
    (all_from (IsFrom log nth) (updates_from log (suc nth) rs)
    (λ u at. later_from log nth u (of_each (IsFrom log (suc nth)) (updates_from log (suc nth) rs) u (all_from_number log (suc nth) rs) at)))
  where
    one : (log nth time : ℕ) (change : Option Change) → AllByRecursion (IsFrom log nth) (update_by (origins.Log log nth) time change)
    one log nth time None = tt
    one log nth time (Some change) = (record { number = nth; origin = refl; from = omega arith }, tt)

-- lists that rise, joined, rise if all of the first are before all of the second
rises_append : {A : Type 0} (R : A → A → Type 0) (xs ys : List A) → Rises R xs → Rises R ys → ((x y : A) → Contains xs x → Contains ys y → R x y) → Rises R (xs ++ ys)
rises_append R [] ys rise too cross = too
rises_append R (x ∷ xs) ys rise too cross = (
  all_append (R x) xs ys rise.0 (all_from (R x) ys (λ y at. cross x y (head_in x xs) at)),
  rises_append R xs ys rise.1 too (λ a y here at. cross a y (tail_in x a xs here) at),
)

log_before : (a b : Origin) (log nth number : ℕ) → a ≡ origins.Log log nth → b ≡ origins.Log log number → nth < number → IsBefore a b
log_before a b log nth number is other less = subst (λ (o : Origin). IsBefore o b) (sym is) (subst (IsBefore (origins.Log log nth)) (sym other) (inr (refl, less)))

logs_before : (a b : Origin) (log other nth number : ℕ) → a ≡ origins.Log log nth → b ≡ origins.Log other number → log < other → IsBefore a b
logs_before a b log other nth number is too less = subst (λ (o : Origin). IsBefore o b) (sym is) (subst (IsBefore (origins.Log log nth)) (sym too) (inl less))

-- a change, and rising updates of later records, rise
rise_behind : (log nth time : ℕ) (change : Option Change) (us : List Update) → AllByRecursion (IsFrom log (suc nth)) us → Rises Before us
    → Rises Before (update_by (origins.Log log nth) time change ++ us)
rise_behind log nth time None us later rise = rise
rise_behind log nth time (Some change) us later rise = (
  all_from (Before (update_at (origins.Log log nth) time change)) us (λ u at.
      let is = of_each (IsFrom log (suc nth)) us u later at in log_before (origins.Log log nth) u.stamp.origin log nth is.number refl is.origin is.from),
  rise,
)

log_rises : (log nth : ℕ) (rs : List Logged) → Rises Before (updates_from log nth rs)
log_rises log nth [] = tt
log_rises log nth (r ∷ rs) =
    rise_behind log nth r.timestamp r.change (updates_from log (suc nth) rs) (all_from_number log (suc nth) rs) (log_rises log (suc nth) rs)

logs_rise : (log : ℕ) (logs : List (List Logged)) → Rises Before (all_updates log logs)
logs_rise log [] = tt
logs_rise log (rs ∷ rss) = rises_append Before (updates_from log 0 rs) (all_updates (suc log) rss) (log_rises log 0 rs) (logs_rise (suc log) rss) (λ u w at here.
    let is = of_each (IsFrom log 0) (updates_from log 0 rs) u (all_from_number log 0 rs) at in
    let other = of_logs (suc log) rss w here in
    logs_before u.stamp.origin w.stamp.origin log other.0 is.number other.1 is.origin other.2 other.3)

filter_rises : {A : Type 0} (R : A → A → Type 0) (p : A → Bool) (xs : List A) → Rises R xs → Rises R (filter p xs)
filter_rises R p [] rise = tt
filter_rises {A} R p (x ∷ xs) rise =
    let rest = filter_rises R p xs rise.1 in
    elim (p x) as (λ (b : Bool). Rises R (cond b (x ∷ filter p xs) (filter p xs))) [
      | true ↦ (all_from (R x) (filter p xs) (λ y here. of_each (R x) xs y rise.0 (of_filter p xs y here).0), rest)
      | false ↦ rest
    ]

-- ---- the same updates with other origins

record AreAlike (u w : Update) : Type 0 where
  key : u.key ≡ w.key
  kind : u.kind ≡ w.kind
  version : u.stamp.version ≡ w.stamp.version

zip_append : {A : Type 0} (R : A → A → Type 0) (xs ys zs ws : List A) → AllZip R xs ys → AllZip R zs ws → AllZip R (xs ++ zs) (ys ++ ws)
zip_append R [] [] zs ws zip too = too
zip_append R [] (y ∷ ys) zs ws zip too = absurd zip
zip_append R (x ∷ xs) [] zs ws zip too = absurd zip
zip_append R (x ∷ xs) (y ∷ ys) zs ws zip too = (zip.0, zip_append R xs ys zs ws zip.1 too)

zip_turned : (us ws : List Update) → AllZip AreAlike us ws → AllZip AreAlike ws us
zip_turned [] [] zip = tt
zip_turned [] (w ∷ ws) zip = absurd zip
zip_turned (u ∷ us) [] zip = absurd zip
zip_turned (u ∷ us) (w ∷ ws) zip = (record { key = sym zip.0.key; kind = sym zip.0.kind; version = sym zip.0.version }, zip_turned us ws zip.1)

zip_none : (us : List Update) → AllZip AreAlike us [] → us ≡ []
zip_none [] zip = refl
zip_none (u ∷ us) zip = absurd zip

-- what is in the window of one change, under two origins
zip_change : (window : Window) (a b : Origin) (time : ℕ) (change : Option Change)
    → AllZip AreAlike (filter (in_window window) (update_by a time change)) (filter (in_window window) (update_by b time change))
zip_change window a b time None = tt
zip_change window a b time (Some change) = at (is_within window time)
  where
    at : (is : Bool) → AllZip AreAlike (cond is (update_at a time change ∷ []) []) (cond is (update_at b time change ∷ []) [])
    at true = (record { key = refl; kind = refl; version = refl }, tt)
    at false = tt

-- a record that is no update from the window's begin on has no survivor
none_of_other : (window : Window) (origin : Origin) (time : ℕ) (change : Option Change) → is_some change && nat_le window.begin time ≡ false
    → filter (in_window window) (update_by origin time change) ≡ []
none_of_other window origin time None other = refl
none_of_other window origin time (Some change) other =
    one_outside window origin time (Some change) (outside window time (λ low high. never window.begin time low other))
  where
    never : (a b : ℕ) → a ≤ b → nat_le a b ≡ false → ⊥
    never a b low is = grind (arith, nat_tests)

-- what is in the window of a log's records
abbrev in_log : Window → ℕ → ℕ → List Logged → List Update
in_log window log nth rs = filter (in_window window) (updates_from log nth rs)

-- what is in the window of all logs
abbrev in_all : Window → ℕ → List (List Logged) → List Update
in_all window log logs = filter (in_window window) (all_updates log logs)

-- one more record, which is kept if it is an update from the window's begin on
zip_record : (window : Window) (log other nth number : ℕ) (r : Logged) (rs kept : List Logged)
    → ((n : ℕ) → AllZip AreAlike (in_log window log (suc nth) rs) (in_log window other n kept)) → (is : Bool) → is_update_since window.begin r ≡ is
    → AllZip AreAlike (in_log window log nth (r ∷ rs)) (in_log window other number (cond is (r ∷ kept) kept))
zip_record window log other nth number r rs kept rest true is =
    subst (λ (us : List Update). AllZip AreAlike us (in_log window other number (r ∷ kept)))
    (sym (filter-append (in_window window) (update_of log nth r) (updates_from log (suc nth) rs)))
    (subst (AllZip AreAlike (filter (in_window window) (update_of log nth r) ++ in_log window log (suc nth) rs))
    (sym (filter-append (in_window window) (update_of other number r) (updates_from other (suc number) kept)))
    (zip_append AreAlike (filter (in_window window) (update_of log nth r)) (filter (in_window window) (update_of other number r))
    (in_log window log (suc nth) rs) (in_log window other (suc number) kept)
    (zip_change window (origins.Log log nth) (origins.Log other number) r.timestamp r.change) (rest (suc number))))
zip_record window log other nth number r rs kept rest false is =
    subst (λ (us : List Update). AllZip AreAlike us (in_log window other number kept))
    (sym (filter-append (in_window window) (update_of log nth r) (updates_from log (suc nth) rs)
    ∙ ap (λ (us : List Update). us ++ in_log window log (suc nth) rs)
    (none_of_other window (origins.Log log nth) r.timestamp r.change is)))
    (rest number)

-- what is in the window of a log's records, and of the updates from the window's begin on
zip_log : (window : Window) (log other nth number : ℕ) (rs : List Logged)
    → AllZip AreAlike (in_log window log nth rs) (in_log window other number (filter (is_update_since window.begin) rs))
zip_log window log other nth number [] = tt
zip_log window log other nth number (r ∷ rs) =
    zip_record window log other nth number r rs (filter (is_update_since window.begin) rs) (λ n. zip_log window log other (suc nth) n rs) (is_update_since window.begin r) refl

-- one more log, which is kept if it has records
zip_more : (window : Window) (other : ℕ) (first later : List Update) (kept : List Logged) (rest : List (List Logged))
    → AllZip AreAlike first (in_log window other 0 kept) → ((n : ℕ) → AllZip AreAlike later (in_all window n rest))
    → AllZip AreAlike (first ++ later) (in_all window other (cond (has_records kept) (kept ∷ rest) rest))
zip_more window other first later [] rest zip too =
    subst (λ (us : List Update). AllZip AreAlike (us ++ later) (in_all window other rest)) (sym (zip_none first zip)) (too other)
zip_more window other first later (k ∷ ks) rest zip too =
    subst (AllZip AreAlike (first ++ later)) (sym (filter-append (in_window window) (updates_from other 0 (k ∷ ks)) (all_updates (suc other) rest)))
    (zip_append AreAlike first (in_log window other 0 (k ∷ ks)) later (in_all window (suc other) rest) zip (too (suc other)))

-- what is in the window of all logs, and of their updates from the window's begin on
zip_logs : (window : Window) (log other : ℕ) (logs : List (List Logged)) → AllZip AreAlike (in_all window log logs) (in_all window other (since window.begin logs))
zip_logs window log other [] = tt
zip_logs window log other (rs ∷ rss) =
    subst (λ (us : List Update). AllZip AreAlike us (in_all window other (since window.begin (rs ∷ rss))))
    (sym (filter-append (in_window window) (updates_from log 0 rs) (all_updates (suc log) rss)))
    (zip_more window other (in_log window log 0 rs) (in_all window (suc log) rss) (filter (is_update_since window.begin) rs) (since window.begin rss)
    (zip_log window log other 0 0 rs) (λ n. zip_logs window (suc log) n rss))

-- ---- updates in pairs

abbrev AreBefore : Update × Update → Update × Update → Type 0
AreBefore p q = Before p.0 q.0 × Before p.1 q.1

abbrev IsPairAlike : Update × Update → Type 0
IsPairAlike p = AreAlike p.0 p.1

-- both lists as one list of pairs, which are alike and in order
record Paired (us ws : List Update) : Type 0 where
  pairs : List (Update × Update)
  left : map (λ (p : Update × Update). p.0) pairs ≡ us
  right : map (λ (p : Update × Update). p.1) pairs ≡ ws
  alike : AllByRecursion IsPairAlike pairs
  rise : Rises AreBefore pairs

all_pairs : (u w : Update) (pairs : List (Update × Update)) → AllByRecursion (Before u) (map (λ (p : Update × Update). p.0) pairs)
    → AllByRecursion (Before w) (map (λ (p : Update × Update). p.1) pairs) → AllByRecursion (AreBefore (u, w)) pairs
all_pairs u w [] low too = tt
all_pairs u w (p ∷ ps) low too = ((low.0, too.0), all_pairs u w ps low.1 too.1)

paired : (us ws : List Update) → AllZip AreAlike us ws → Rises Before us → Rises Before ws → Paired us ws
paired [] [] zip rise too = record { pairs = []; left = refl; right = refl; alike = tt; rise = tt }
paired [] (w ∷ ws) zip rise too = absurd zip
paired (u ∷ us) [] zip rise too = absurd zip
paired (u ∷ us) (w ∷ ws) zip rise too =
    let rest = paired us ws zip.1 rise.1 too.1 in
    record {
      pairs = (u, w) ∷ rest.pairs;
      left = ap (λ (l : List Update). u ∷ l) rest.left;
      right = ap (λ (l : List Update). w ∷ l) rest.right;
      alike = (zip.0, rest.alike);
      rise = (
        all_pairs u w rest.pairs (subst (AllByRecursion (Before u)) (sym rest.left) rise.0) (subst (AllByRecursion (Before w)) (sym rest.right) too.0),
        rest.rise,
      );
    }

-- two elements of a rising list are one, or one is before the other
in_order : {A : Type 0} (R : A → A → Type 0) (xs : List A) (a b : A) → Rises R xs → Contains xs a → Contains xs b → (a ≡ b) ⊎ (R a b ⊎ R b a)
in_order R [] a b rise at here = absurd (no_element a at)
in_order {A} R (x ∷ xs) a b rise at here = elim (head_or_tail x a xs at) as (λ _. (a ≡ b) ⊎ (R a b ⊎ R b a)) [
  | inl e ↦ elim (head_or_tail x b xs here) as (λ _. (a ≡ b) ⊎ (R a b ⊎ R b a)) [
    | inl f ↦ inl (sym e ∙ f)
    | inr later ↦ inr (inl (subst (λ (y : A). R y b) e (of_each (R x) xs b rise.0 later)))
  ]
  | inr later ↦ elim (head_or_tail x b xs here) as (λ _. (a ≡ b) ⊎ (R a b ⊎ R b a)) [
    | inl f ↦ inr (inr (subst (λ (y : A). R y a) f (of_each (R x) xs a rise.0 later)))
    | inr too ↦ in_order R xs a b rise.1 later too
  ]
]

-- an earlier origin of no greater version
earlier : (a b : Stamp) → a.version ≤ b.version → IsBefore a.origin b.origin → IsAtMost a b
earlier a b most before = elim (cases_lt a.version b.version) as (λ _. IsAtMost a b) [
  | inl less ↦ inr (inl less)
  | inr no_less ↦ inr (inr (omega (arith, most, no_less), before))
]

-- a later origin only of a lesser version
lesser : (a b : Stamp) → IsAtMost a b → IsBefore b.origin a.origin → a.version < b.version
lesser a b most before = elim (cases_lt a.version b.version) as (λ _. a.version < b.version) [
  | inl less ↦ less
  | inr no_less ↦
      let version : a.version ≤ b.version = version_at_most a b most in
      absurd (not_newer b a most (inr (omega (arith, version, no_less), before)))
]

-- the first of two pairs are in the order of the second
pairs_keep : (us ws : List Update) (is : Paired us ws) (p q : Update × Update) → Contains is.pairs p → Contains is.pairs q
    → IsAtMost p.0.stamp q.0.stamp → IsAtMost p.1.stamp q.1.stamp
pairs_keep us ws is p q at here most =
    let version_p : p.0.stamp.version ≡ p.1.stamp.version = (of_each IsPairAlike is.pairs p is.alike at).version in
    let version_q : q.0.stamp.version ≡ q.1.stamp.version = (of_each IsPairAlike is.pairs q is.alike here).version in
    elim (in_order AreBefore is.pairs p q is.rise at here) as (λ _. IsAtMost p.1.stamp q.1.stamp) [
      | inl same ↦ inl (ap (λ (x : Update × Update). x.1.stamp) same)
      | inr other ↦ elim other as (λ _. IsAtMost p.1.stamp q.1.stamp) [
        | inl before ↦
            let version : p.0.stamp.version ≤ q.0.stamp.version = version_at_most p.0.stamp q.0.stamp most in
            earlier p.1.stamp q.1.stamp (omega (arith, version, version_p, version_q)) before.1
        | inr after ↦
            let version : p.0.stamp.version < q.0.stamp.version = lesser p.0.stamp q.0.stamp most after.0 in
            version_below p.1.stamp q.1.stamp (omega (arith, version, version_p, version_q))
      ]
    ]

-- ---- with the entries of a checkpoint

-- the two updates are a pair, or one update of an entry
abbrev ArePartners : (us ws es : List Update) → Paired us ws → Update → Update → Type 0
ArePartners us ws es is u w = ((p : Update × Update) × Contains is.pairs p × (p.0 ≡ u) × (p.1 ≡ w)) ⊎ (Contains es u × (u ≡ w))

right_partner : (us ws es : List Update) (is : Paired us ws) (u : Update) → Contains (us ++ es) u → (w : Update) × Contains (ws ++ es) w × ArePartners us ws es is u w
right_partner us ws es is u at = elim (Contains-append_cases us es u at) as (λ _. (w : Update) × Contains (ws ++ es) w × ArePartners us ws es is u w) [
  | inl log ↦
      let p = of_map (λ (x : Update × Update). x.0) is.pairs u (subst (λ (l : List Update). Contains l u) (sym is.left) log) in
      let there : Contains ws p.0.1 = subst (λ (l : List Update). Contains l p.0.1) is.right (in_map (λ (x : Update × Update). x.1) is.pairs p.0 p.1) in
      (p.0.1, Contains-append_left ws es p.0.1 there, inl (p.0, p.1, p.2, refl))
  | inr entry ↦ (u, Contains-append_right ws es u entry, inr (entry, refl))
]

left_partner : (us ws es : List Update) (is : Paired us ws) (w : Update) → Contains (ws ++ es) w → (u : Update) × Contains (us ++ es) u × ArePartners us ws es is u w
left_partner us ws es is w at = elim (Contains-append_cases ws es w at) as (λ _. (u : Update) × Contains (us ++ es) u × ArePartners us ws es is u w) [
  | inl log ↦
      let p = of_map (λ (x : Update × Update). x.1) is.pairs w (subst (λ (l : List Update). Contains l w) (sym is.right) log) in
      let there : Contains us p.0.0 = subst (λ (l : List Update). Contains l p.0.0) is.left (in_map (λ (x : Update × Update). x.0) is.pairs p.0 p.1) in
      (p.0.0, Contains-append_left us es p.0.0 there, inl (p.0, p.1, refl, p.2))
  | inr entry ↦ (w, Contains-append_right us es w entry, inr (entry, refl))
]

partners_alike : (us ws es : List Update) (is : Paired us ws) (u w : Update) → ArePartners us ws es is u w → AreAlike u w
partners_alike us ws es is u w (inl p) =
    let alike = of_each IsPairAlike is.pairs p.0 is.alike p.1 in
    subst (λ (x : Update). AreAlike x w) p.2 (subst (AreAlike p.0.0) p.3 alike)
partners_alike us ws es is u w (inr e) = subst (AreAlike u) e.1 (record { key = refl; kind = refl; version = refl })

along : (a b c d : Update) → a ≡ c → b ≡ d → IsAtMost a.stamp b.stamp → IsAtMost c.stamp d.stamp
along a b c d e f most = subst (λ (x : Update). IsAtMost x.stamp d.stamp) e (subst (λ (x : Update). IsAtMost a.stamp x.stamp) f most)

-- both lists are of logs, and the third is of entries
record AreOfBoth (us ws es : List Update) : Type 0 where
  left : (u : Update) → Contains us u → IsOfLog u.stamp
  right : (w : Update) → Contains ws w → IsOfLog w.stamp
  entries : (e : Update) → Contains es e → e.stamp ≡ entry_stamp e.stamp.version

-- updates are in the order of their partners
partners_keep : (us ws es : List Update) (is : Paired us ws) → AreOfBoth us ws es → (u w v x : Update) → ArePartners us ws es is u w → ArePartners us ws es is v x
    → IsAtMost u.stamp v.stamp → IsAtMost w.stamp x.stamp
partners_keep us ws es is both u w v x (inl p) (inl q) most =
    along p.0.1 q.0.1 w x p.3 q.3 (pairs_keep us ws is p.0 q.0 p.1 q.1 (along u v p.0.0 q.0.0 (sym p.2) (sym q.2) most))
partners_keep us ws es is both u w v x (inl p) (inr e) most =
    let alike = partners_alike us ws es is u w (inl p) in
    let same : u.stamp.version ≡ w.stamp.version = alike.version in
    let version : u.stamp.version ≤ v.stamp.version = version_at_most u.stamp v.stamp most in
    let there : Contains ws w = subst (Contains ws) p.3 (subst (λ (l : List Update). Contains l p.0.1) is.right (in_map (λ (y : Update × Update). y.1) is.pairs p.0 p.1)) in
    let low = below_entry w.stamp v.stamp.version (both.right w there) (omega (arith, same, version)) in
    subst (λ (s : Stamp). IsAtMost w.stamp s) (sym (both.entries v e.0) ∙ ap (λ (y : Update). y.stamp) e.1) low
partners_keep us ws es is both u w v x (inr e) (inl q) most =
    let alike = partners_alike us ws es is v x (inl q) in
    let same : v.stamp.version ≡ x.stamp.version = alike.version in
    let there : Contains us v = subst (Contains us) q.2 (subst (λ (l : List Update). Contains l q.0.0) is.left (in_map (λ (y : Update × Update). y.0) is.pairs q.0 q.1)) in
    let less : u.stamp.version < v.stamp.version =
    above_entry v.stamp u.stamp.version (both.left v there) (subst (λ (s : Stamp). IsAtMost s v.stamp) (both.entries u e.0) most) in
    let version : u.stamp.version ≡ w.stamp.version = ap (λ (y : Update). y.stamp.version) e.1 in
    version_below w.stamp x.stamp (omega (arith, less, same, version))
partners_keep us ws es is both u w v x (inr e) (inr f) most = along u v w x e.1 f.1 most

-- a column that the updates of one list and the entries leave is left by those of the other and the entries
column_kept : (us ws es : List Update) → Paired us ws → AreOfBoth us ws es → (key : List ℕ) (number : ℕ) (bytes : List ℕ)
    → HasColumn (us ++ es) key number bytes → HasColumn (ws ++ es) key number bytes
column_kept us ws es is both key number bytes h =
    let w = right_partner us ws es is h.write h.stands in
    let alike = partners_alike us ws es is h.write w.0 w.2 in
    column_by (ws ++ es) key number bytes w.0 w.1 (sym alike.key ∙ h.of_key) (subst (λ (k : Kind). Writes k number (Some bytes)) alike.kind h.writes) (λ x at decides.
    let v = left_partner us ws es is x at in
    let same = partners_alike us ws es is v.0 x v.2 in
    partners_keep us ws es is both v.0 x h.write w.0 v.2 w.2
    (at_most (us ++ es) key number bytes h v.0 v.1 (decided_alike key number v.0 x same decides)))
  where
    decided_alike : (key : List ℕ) (number : ℕ) (v x : Update) → AreAlike v x → Decides key number x → Decides key number v
    decided_alike key number v x alike decides = record {
      of_key = alike.key ∙ decides.of_key;
      how = subst (λ (k : Kind). ((bytes : Option (List ℕ)) × Writes k number bytes) ⊎ IsReset k) (sym alike.kind) decides.how;
    }

-- ---- the law

of_survivor : (window : Window) (logs : List (List Logged)) (u : Update) → Contains (log_survivors window logs) u → IsOfLog u.stamp
of_survivor window logs u at = of_a_log logs u (of_filter (in_window window) (log_updates logs) u at).0

of_chosen : (chosen : Option CheckpointReading) (u : Update) → Contains (entry_updates chosen) u → u.stamp ≡ entry_stamp u.stamp.version
of_chosen None u at = absurd (no_element u at)
of_chosen (Some checkpoint) u at =
    let is = of_map entry_update checkpoint.entries u at in
    subst (λ (x : Update). x.stamp ≡ entry_stamp x.stamp.version) is.2 refl

-- what survives of the logs, and of their updates from the begin on
both_ways : (cutoff : ℕ) (chosen : Option CheckpointReading) (logs : List (List Logged)) (key : List ℕ) (number : ℕ) (bytes : List ℕ)
    → HasColumn (survivors cutoff chosen logs) key number bytes ↔ HasColumn (survivors cutoff chosen (since (begin_of chosen) logs)) key number bytes
both_ways cutoff chosen logs key number bytes =
    let window : Window = record { begin = begin_of chosen; cutoff = cutoff } in
    let kept = since (begin_of chosen) logs in
    let us = log_survivors window logs in
    let ws = log_survivors window kept in
    let es = entry_updates chosen in
    let zip = zip_logs window 0 0 logs in
    let rise = filter_rises Before (in_window window) (log_updates logs) (logs_rise 0 logs) in
    let too = filter_rises Before (in_window window) (log_updates kept) (logs_rise 0 kept) in
    let left = of_survivor window logs in
    let right = of_survivor window kept in
    let entries = of_chosen chosen in (
      λ h. column_kept us ws es (paired us ws zip rise too) (record { left = left; right = right; entries = entries }) key number bytes h,
      λ h. column_kept ws us es (paired ws us (zip_turned us ws zip) too rise) (record { left = right; right = left; entries = entries }) key number bytes h,
    )

same_from : (cutoff : ℕ) (chosen : Option CheckpointReading) (kept full : List (List Logged)) (key : List ℕ) (number : ℕ) (bytes : List ℕ)
    → since (begin_of chosen) kept ≡ since (begin_of chosen) full
    → HasColumn (survivors cutoff chosen kept) key number bytes → HasColumn (survivors cutoff chosen full) key number bytes
same_from cutoff chosen kept full key number bytes same h =
    (both_ways cutoff chosen full key number bytes).1
    (subst (λ (logs : List (List Logged)). HasColumn (survivors cutoff chosen logs) key number bytes) same ((both_ways cutoff chosen kept key number bytes).0 h))

-- logs with the same updates from the begin on have the same store
pub same_store_since : (kept full : List (List Logged)) (cutoff : ℕ) (chosen : Option CheckpointReading) (pairs : List Pair)
    → since (begin_of chosen) kept ≡ since (begin_of chosen) full → IsWalk (survivors cutoff chosen kept) pairs ↔ IsWalk (survivors cutoff chosen full) pairs
same_store_since kept full cutoff chosen pairs same =
    let of_kept = survivors cutoff chosen kept in
    let of_full = survivors cutoff chosen full in
    let there = same_from cutoff chosen kept full in
    let back = same_from cutoff chosen full kept in (
      λ walk. same_walk of_kept of_full pairs (λ key number bytes. (λ h. there key number bytes same h, λ h. back key number bytes (sym same) h)) walk,
      λ walk. same_walk of_full of_kept pairs (λ key number bytes. (λ h. back key number bytes (sym same) h, λ h. there key number bytes same h)) walk,
    )
