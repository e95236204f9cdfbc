-- The history of a key: which updates survive, and what is true of the updates of a key alone.
use Rattle.std.proofs.Common.{◌≡◌, inl, inr, ◌∙◌, ℕ, suc, ◌+◌, ◌<◌, Bool, true, false, Option, Some, None, List, [], ◌∷◌, ◌++◌, length, take, get_or, Contains, append_assoc, append-nil, refl, sym, ap, subst, arith}
use Rattle.std.specs.List.{AllZip, filter, flat_map}
use Rattle.std.specs.Cmp.Lexicographic.{bytes_decides}
use Rattle.std.proofs.lemmas.Bool.{false≢true}
use Rattle.std.proofs.lemmas.List.{length-take-le, take_all, take_more, map_push, map-append, flat_map_more}
use Rattle.std.proofs.lemmas.List.Elements.{Contains-append_cases, Contains-append_left, Contains-append_right, Contains-push_cases, filter-append}
use Rattle.mt_words.specs.declared.record.Change.{Change}
use Rattle.mt_words.specs.declared.update.Origin.TheVariants as origins
use Rattle.mt_words.specs.declared.update.Update.{Update}
use Rattle.mt_words.specs.declared.update.Kind.{Kind}
use Rattle.mt_words.specs.Built.{mark_of}
use Rattle.mt_words.specs.Changes.{Logged, Write, Writes, writes_of, IsReset}
use Rattle.mt_words.specs.Stamps.{IsAtMost}
use Rattle.mt_words.specs.Updates.{update_at, update_of, updates_from}
use Rattle.mt_words.specs.OneLog.{OneLog, kept_updates}
use Rattle.mt_words.proofs.Elements.{no_element, head_in, tail_in, head_or_tail}
use Rattle.mt_scan.specs.declared.log_scan.LogScan.{LogScan}
use Rattle.mt_record.specs.Logs.{LogReading}
use Rattle.mt_record.proofs.RecordLemmas.{updates_push}
use Rattle.mt_scan.specs.Scans.{ShowsLog}
use Rattle.mt_scan.specs.Choice.{CheckpointReading}
use Rattle.mt_scan.specs.PartsShown.{KeptPart, shown_by_all}
use Rattle.mt_replay.specs.declared.window.Window.{Window}
use Rattle.mt_replay.specs.Survivors.{in_window, all_updates, log_updates, wholes}
use Rattle.mt_replay.proofs.Members.{of_map, of_flat_map, of_filter, in_filter}
use Rattle.mt_replay.proofs.StampLemmas.{older_or_not, not_newer}
use Rattle.mt_recover.specs.Recovery.{entry_updates, records_of}
use Rattle.mt_recover.specs.Check.{AllFrom}
use Rattle.mt_recover.proofs.Apart.{of_logs}
use Rattle.mt_recover.specs.declared.history.Fate.{Fate}
use Rattle.mt_recover.specs.declared.history.Fate.TheVariants.{Early, Late, Older, Won}
use Rattle.mt_recover.specs.History.{is_of, Decides, IsNewestOf, AreThose, AreStanding, Stands, IsLastRemove, IsFate, IsHistory}
use Rattle.mt_recover.specs.Steps.Fates.{updates_in, survives, those_surviving, IsLost, DecidesAt, IsUndoneBy, HasAdded}

-- ---- which updates survive

-- a log update survives exactly if it is in the window
by_log : (window : Window) (u : Update) (k n : ℕ) → u.stamp.origin ≡ origins.Log k n → survives window u ≡ in_window window u
by_log window u k n e = rw e refl

by_checkpoint : (window : Window) (u : Update) → u.stamp.origin ≡ origins.Checkpoint → survives window u ≡ true
by_checkpoint window u e = rw e refl

of_scan : (window : Window) (scans : List LogScan) (u : Update) → Contains (updates_in scans) u → survives window u ≡ in_window window u
of_scan window scans u at =
    let found = of_flat_map (λ (scan : LogScan). kept_updates scan.updates) scans u at in
    let kept = found.0.updates in
    let is = of_logs kept.log (kept.records ∷ []) u (Contains-append_left (kept_updates kept) [] u found.2) in
    by_log window u is.0 is.1 is.2

of_entries : (window : Window) (chosen : Option CheckpointReading) (u : Update) → Contains (entry_updates chosen) u → survives window u ≡ true
of_entries window None u at = absurd (no_element u at)
of_entries window (Some checkpoint) u at =
    let found = of_map (update_at origins.Checkpoint 0) checkpoint.entries u at in
    by_checkpoint window u (ap (λ (v : Update). v.stamp.origin) (sym found.2))

-- the columns for which `P` holds are those for which another property does that holds for the same columns
those_alike : (P Q : ℕ → Type 0) → ((n : ℕ) → P n → Q n) → ((n : ℕ) → Q n → P n) → (writes : List Write) (numbers : List ℕ) → AreThose P writes numbers → AreThose Q writes numbers
those_alike P Q to from [] numbers are = are
those_alike P Q to from (w ∷ ws) numbers (inl holds) = inl (to w.0 holds.0, (holds.1.0, holds.1.1, those_alike P Q to from ws holds.1.0 holds.1.2))
those_alike P Q to from (w ∷ ws) numbers (inr fails) = inr (λ q. fails.0 (from w.0 q), those_alike P Q to from ws numbers fails.1)

module _ (window : Window) (scans : List LogScan) (chosen : Option CheckpointReading) where
  abbrev pub all : List Update
  all = updates_in scans ++ entry_updates chosen

  abbrev pub survivors : List Update
  survivors = filter (in_window window) (updates_in scans) ++ entry_updates chosen

  -- what survives, and is of this key
  surviving : (u : Update) → Contains survivors u → Contains all u × (survives window u ≡ true)
  surviving u at = elim (Contains-append_cases (filter (in_window window) (updates_in scans)) (entry_updates chosen) u at) as (λ _. Contains all u × (survives window u ≡ true)) [
    | inl logged ↦
        let found = of_filter (in_window window) (updates_in scans) u logged in
        (Contains-append_left (updates_in scans) (entry_updates chosen) u found.0, of_scan window scans u found.0 ∙ found.1)
    | inr entered ↦ (Contains-append_right (updates_in scans) (entry_updates chosen) u entered, of_entries window chosen u entered)
  ]

  survived : (u : Update) → Contains all u → survives window u ≡ true → Contains survivors u
  survived u at is = elim (Contains-append_cases (updates_in scans) (entry_updates chosen) u at) as (λ _. Contains survivors u) [
    | inl logged ↦ Contains-append_left (filter (in_window window) (updates_in scans)) (entry_updates chosen) u (in_filter (in_window window) (updates_in scans) u (sym (of_scan window scans u logged) ∙ is) logged)
    | inr entered ↦ Contains-append_right (filter (in_window window) (updates_in scans)) (entry_updates chosen) u entered
  ]

  module _ (key : List ℕ) where
    abbrev pub told : List Update
    told = filter (is_of key) all

    -- the survivors among the updates of the key are those of all survivors that are of it
    pub to_all : (u : Update) → Contains (those_surviving window told) u → Contains survivors u
    to_all u at =
        let found = of_filter (survives window) told u at in
        survived u (of_filter (is_of key) all u found.0).0 found.1

    pub from_all : (u : Update) → u.key ≡ key → Contains survivors u → Contains (those_surviving window told) u
    from_all u e at =
        let found = surviving u at in
        in_filter (survives window) told u found.1 (in_filter (is_of key) all u ((bytes_decides u.key key).1 e) found.0)

    of_key : (u : Update) → Contains told u → u.key ≡ key
    of_key u at = (bytes_decides u.key key).0 (of_filter (is_of key) all u at).1

    module _ (u : Update) (at : Contains told u) where
      newest_to : (P : Update → Type 0) → IsNewestOf P (those_surviving window told) u → IsNewestOf P survivors u
      newest_to P newest = λ v here same is. newest v (from_all v (same ∙ of_key u at) here) same is

      newest_from : (P : Update → Type 0) → IsNewestOf P survivors u → IsNewestOf P (those_surviving window told) u
      newest_from P newest = λ v here same is. newest v (to_all v here) same is

      stand_to : (numbers : List ℕ) → AreStanding (those_surviving window told) u numbers → AreStanding survivors u numbers
      stand_to numbers are =
          those_alike (Stands (those_surviving window told) u) (Stands survivors u) (λ n. newest_to (λ v. Decides v n)) (λ n. newest_from (λ v. Decides v n)) (writes_of u.kind) numbers are

      last_to : IsLastRemove (those_surviving window told) u → IsLastRemove survivors u
      last_to last = record { removes = last.removes; newest = newest_to (λ v. IsReset v.kind) last.newest }

      last_from : IsLastRemove survivors u → IsLastRemove (those_surviving window told) u
      last_from last = record { removes = last.removes; newest = newest_from (λ v. IsReset v.kind) last.newest }

      -- the fate among the updates of the key is the fate among all
      pub fate_to : (fate : Fate) → IsFate window (those_surviving window told) u fate → IsFate window survivors u fate
      fate_to Early is = (λ here. is.0 (from_all u (of_key u at) here), is.1)
      fate_to Late is = (λ here. is.0 (from_all u (of_key u at) here), is.1)
      fate_to Older is = (to_all u is.0, stand_to [] is.1, λ last. is.2 (last_from last))
      fate_to (Won numbers) is = (to_all u is.0, stand_to numbers.items is.1, λ none. last_to (is.2 none))

-- ---- fates, one after another

pub zip_push : {A B : Type 0} (R : A → B → Type 0) (xs : List A) (ys : List B) (x : A) (y : B) → AllZip R xs ys → R x y → AllZip R (xs ++ x ∷ []) (ys ++ y ∷ [])
zip_push R [] [] x y zip is = (is, tt)
zip_push R [] (w ∷ ys) x y zip is = absurd zip
zip_push R (v ∷ xs) [] x y zip is = absurd zip
zip_push R (v ∷ xs) (w ∷ ys) x y zip is = (zip.0, zip_push R xs ys x y zip.1 is)

-- what relates the elements of two lists relates them by a weaker relation
pub zip_weaker : {A B : Type 0} (R Q : A → B → Type 0) (xs : List A) (ys : List B) → ((x : A) (y : B) → Contains xs x → R x y → Q x y) → AllZip R xs ys → AllZip Q xs ys
zip_weaker R Q [] [] f zip = tt
zip_weaker R Q [] (y ∷ ys) f zip = absurd zip
zip_weaker R Q (x ∷ xs) [] f zip = absurd zip
zip_weaker R Q (x ∷ xs) (y ∷ ys) f zip = (f x y (head_in x xs) zip.0, zip_weaker R Q xs ys (λ a b at is. f a b (tail_in x a xs at) is) zip.1)

-- ---- the updates of a key, one after another

-- what was added to a list, and then more
pub added : (p : Update → Bool) (start old new so_far more both : List Update) → so_far ++ more ≡ both → old ≡ start ++ filter p so_far → new ≡ old ++ filter p more → new ≡ start ++ filter p both
added p start old new so_far more both joins was is =
    is
    ∙ ap (λ (us : List Update). us ++ filter p more) was
    ∙ append_assoc start (filter p so_far) (filter p more)
    ∙ ap (λ (us : List Update). start ++ us) (sym (filter-append p so_far more) ∙ ap (filter p) joins)

pub nothing_added : (p : Update → Bool) (start none : List Update) → none ≡ [] → start ≡ start ++ filter p none
nothing_added p start none is = sym (ap (λ (us : List Update). start ++ filter p us) is ∙ append-nil start)

-- the updates of the first records of a log
abbrev pub first_of : OneLog → ℕ → List Update
first_of kept n = updates_from kept.log 0 (take n kept.records)

-- the updates of all its records
pub all_first : (kept : OneLog) → first_of kept (length kept.records) ≡ kept_updates kept
all_first kept = ap (updates_from kept.log 0) (take_all (length kept.records) kept.records (omega arith))

-- one record more
pub first_push : (kept : OneLog) (i : ℕ) (d : Logged) → i < length kept.records → first_of kept (i + 1) ≡ first_of kept i ++ update_of kept.log i (get_or kept.records i d)
first_push kept i d below =
    ap (updates_from kept.log 0) (take_more kept.records i d below)
    ∙ updates_push kept.log 0 i (take i kept.records) (get_or kept.records i d) (omega (arith, length-take-le i kept.records (omega (arith, below))))

pub first_step : (kept : OneLog) (i : ℕ) (more : List Update) → i < length kept.records → ((d : Logged) → more ≡ update_of kept.log i (get_or kept.records i d)) → first_of kept (i + 1) ≡ first_of kept i ++ more
first_step kept i more below is = first_push kept i (mark_of 0) below ∙ ap (λ (us : List Update). first_of kept i ++ us) (sym (is (mark_of 0)))

-- the scans of one log more
pub scans_step : (scans : List LogScan) (i : ℕ) (scan : LogScan) → i < length scans → scan ≡ get_or scans i scan → updates_in (take i scans) ++ kept_updates scan.updates ≡ updates_in (take (i + 1) scans)
scans_step scans i scan below is =
    let f = λ (s : LogScan). kept_updates s.updates in
    ap (λ (s : LogScan). updates_in (take i scans) ++ f s) is
    ∙ flat_map_more f [] (take i scans) (get_or scans i scan)
    ∙ ap updates_in (sym (take_more scans i scan below))

-- one entry more
pub entries_step : (entries : List Change) (i : ℕ) (d : Change) (u : Update) → i < length entries → u ≡ update_at origins.Checkpoint 0 (get_or entries i d) → wholes (take i entries) ++ u ∷ [] ≡ wholes (take (i + 1) entries)
entries_step entries i d u below is =
    ap (λ (v : Update). wholes (take i entries) ++ v ∷ []) is
    ∙ sym (map_push (update_at origins.Checkpoint 0) (take i entries) (get_or entries i d))
    ∙ ap wholes (sym (take_more entries i d below))

-- the updates of the entries of these parts
abbrev pub entered_in : List KeptPart → List Update
entered_in parts = flat_map (λ (part : KeptPart). wholes part.entries) parts

-- all parts have the entries of the checkpoint
pub all_entered : (parts : List KeptPart) → entered_in parts ≡ wholes (flat_map (λ text. text.entries) (shown_by_all parts))
all_entered [] = refl
all_entered (p ∷ ps) = ap (λ (us : List Update). wholes p.entries ++ us) (all_entered ps) ∙ sym (map-append (update_at origins.Checkpoint 0) p.entries (flat_map (λ text. text.entries) (shown_by_all ps)))

-- ---- which update is the newest

-- if none of the updates so far has the property, nor the next one, none of them has it
pub none_more : {A : Type 0} (P : A → Type 0) (xs : List A) (i : ℕ) (x : A) → i < length xs → x ≡ get_or xs i x → ((y : A) → Contains (take i xs) y → P y → ⊥) → (P x → ⊥) → (y : A) → Contains (take (i + 1) xs) y → P y → ⊥
none_more {A} P xs i x below is so_far not y at p =
    let parts = subst (λ (l : List A). Contains l y) (take_more xs i x below) at in
    elim (Contains-push_cases (take i xs) (get_or xs i x) y parts) as (λ _. ⊥) [
      | inl before ↦ so_far y before p
      | inr e ↦ not (subst P (sym e ∙ sym is) p)
    ]

pub newest_if : (window : Window) (number : Option ℕ) (us : List Update) (u : Update) → ((v : Update) → Contains us v → IsUndoneBy window number u v → ⊥) → IsNewestOf (DecidesAt number) (those_surviving window us) u
newest_if window number us u none = λ v at same is.
    let found = of_filter (survives window) us v at in
    elim (older_or_not u.stamp v.stamp) as (λ _. IsAtMost v.stamp u.stamp) [
      | inl older ↦ absurd (none v found.0 (record { survives = found.1; undoes = record { of_key = same; newer = older; decides = is } }))
      | inr at_most ↦ at_most
    ]

pub not_newest : (window : Window) (number : Option ℕ) (us : List Update) (u v : Update) → Contains us v → IsUndoneBy window number u v → IsNewestOf (DecidesAt number) (those_surviving window us) u → ⊥
not_newest window number us u v at by newest =
    not_newer u.stamp v.stamp (newest v (in_filter (survives window) us v by.survives at) by.undoes.of_key by.undoes.decides) by.undoes.newer

-- ---- which columns stand

module _ (P : ℕ → Type 0) (all : List Write) where
  -- the numbers so far, and then those of the writes that are left, are those of all writes
  abbrev pub AreSoFar : List Write → List ℕ → Type 0
  AreSoFar left numbers = (more : List ℕ) → AreThose P left more → AreThose P all (numbers ++ more)

  pub none_so_far : (left : List Write) (numbers : List ℕ) → left ≡ all → numbers ≡ [] → AreSoFar left numbers
  none_so_far left numbers are none more those = subst (λ (ws : List Write). AreThose P ws (numbers ++ more)) are (subst (λ (ns : List ℕ). AreThose P left (ns ++ more)) (sym none) those)

  pub one_more : (write : Write) (left later : List Write) (old new : List ℕ) → left ≡ write ∷ later → HasAdded old write.0 (P write.0) new → AreSoFar left old → AreSoFar later new
  one_more write left later old new is (inl holds) so_far more those =
      let first : AreThose P left (write.0 ∷ more) = subst (λ (ws : List Write). AreThose P ws (write.0 ∷ more)) (sym is) (inl (holds.0, (more, refl, those))) in
      subst (AreThose P all) (sym (ap (λ (ns : List ℕ). ns ++ more) holds.1 ∙ append_assoc old (write.0 ∷ []) more)) (so_far (write.0 ∷ more) first)
  one_more write left later old new is (inr fails) so_far more those =
      let first : AreThose P left more = subst (λ (ws : List Write). AreThose P ws more) (sym is) (inr (fails.0, those)) in
      subst (λ (ns : List ℕ). AreThose P all (ns ++ more)) (sym fails.1) (so_far more first)

  pub all_so_far : (left : List Write) (numbers : List ℕ) → left ≡ [] → AreSoFar left numbers → AreThose P all numbers
  all_so_far left numbers none so_far =
      let end : AreThose P left [] = subst (λ (ws : List Write). AreThose P ws []) (sym none) refl in
      subst (AreThose P all) (append-nil numbers) (so_far [] end)

-- ---- the fate of one update

pub is_lost : (window : Window) (us : List Update) (u : Update) (fate : Fate) → survives window u ≡ false → IsLost window u fate → IsFate window (those_surviving window us) u fate
is_lost window us u fate not = by fate
  where
    gone : Contains (those_surviving window us) u → ⊥
    gone at = false≢true (sym not ∙ (of_filter (survives window) us u at).1)

    by : (fate : Fate) → IsLost window u fate → IsFate window (those_surviving window us) u fate
    by Early is = (gone, is)
    by Late is = (gone, is)
    by Older is = absurd is
    by (Won numbers) is = absurd is

-- what is written to the column, among the writes of an update
pub is_written : (kind : Kind) (number : ℕ) (write : Write) (left later : List Write) → left ≡ write ∷ later → write.0 ≡ number → ((w : Write) → Contains left w → Contains (writes_of kind) w) → (bytes : Option (List ℕ)) × Writes kind number bytes
is_written kind number write left later is same among =
    (write.1, subst (λ (n : ℕ). Writes kind n write.1) same (among write (subst (λ (ws : List Write). Contains ws write) (sym is) (head_in write later))))

pub still_to_come : (number : ℕ) (write : Write) (left later : List Write) (bytes : Option (List ℕ)) → left ≡ write ∷ later → (write.0 ≡ number → ⊥) → Contains left (number, bytes) → Contains later (number, bytes)
still_to_come number write left later bytes is other at = elim (head_or_tail write (number, bytes) later (subst (λ (ws : List Write). Contains ws (number, bytes)) is at)) as (λ _. Contains later (number, bytes)) [
  | inl e ↦ absurd (other (ap (λ (w : Write). w.0) e))
  | inr at_later ↦ at_later
]

-- ---- scans and logs

-- scans that show logs have the updates of these logs
logged_are : (number : ℕ) (scans : List LogScan) (logs : List LogReading) → AllFrom ShowsLog number scans logs → updates_in scans ≡ all_updates number (records_of logs)
logged_are number [] [] shown = refl
logged_are number [] (l ∷ ls) shown = absurd shown
logged_are number (s ∷ ss) [] shown = absurd shown
logged_are number (s ∷ ss) (l ∷ ls) shown = λ i. shown.0.updates i ++ logged_are (suc number) ss ls shown.1 i

-- a history of scans is one of the logs that they show
pub history_shown : (key : List ℕ) (window : Window) (scans : List LogScan) (logs : List LogReading) (entered updates : List Update) (fates : List Fate) → AllFrom ShowsLog 0 scans logs
    → IsHistory key window (updates_in scans) entered updates fates → IsHistory key window (log_updates (records_of logs)) entered updates fates
history_shown key window scans logs entered updates fates shown is = subst (λ (us : List Update). IsHistory key window us entered updates fates) (logged_are 0 scans logs shown) is
