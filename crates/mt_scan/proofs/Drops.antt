-- What a scan drops does not survive.
use Rattle.std.proofs.Common.{◌≡◌, ◌∙◌, ℕ, ◌≤◌, List, [], ◌∷◌, ◌++◌, Bool, false, refl, sym, ap, arith, cond}
use Rattle.std.specs.List.{All, filter}
use Rattle.std.proofs.lemmas.List.{append-nil}
use Rattle.std.proofs.lemmas.List.Elements.{All-head, All-tail, All-nil, All-weaker}
use Rattle.mt_words.specs.declared.update.Update.{Update}
use Rattle.mt_words.specs.Updates.{updates_from}
use Rattle.mt_words.specs.OneLog.{kept_updates}
use Rattle.mt_record.specs.Logs.{LogReading}
use Rattle.mt_board.specs.Board.{least_of, nothing_noted}
use Rattle.mt_scan.specs.declared.log_scan.LogScan.{LogScan}
use Rattle.mt_scan.specs.Scans.{ShowsLog}
use Rattle.mt_scan.specs.Dropping.{ShowsAllBelow}

-- the least of numbers is no greater than that of none
pub least_small : (xs : List ℕ) → least_of xs ≤ nothing_noted
least_small [] = omega arith
least_small (x ∷ xs) = let rest = least_small xs in omega (arith, rest)

filter_front : (p : Update → Bool) (front back : List Update) → filter p back ≡ [] → filter p (front ++ back) ≡ filter p front
filter_front p [] back none = none
filter_front p (u ∷ us) back none = ap (λ (l : List Update). cond (p u) (u ∷ l) l) (filter_front p us back none)

none_kept : (keeps : Update → Bool) (limit : ℕ) (late : List Update) → ((update : Update) → limit ≤ update.timestamp → keeps update ≡ false) → All (λ (u : Update). limit ≤ u.timestamp) late → filter keeps late ≡ []
none_kept keeps limit [] none past = refl
none_kept keeps limit (u ∷ us) none past =
    let P : Update → Type 0 = λ (w : Update). limit ≤ w.timestamp in
    ap (λ (b : Bool). cond b (u ∷ filter keeps us) (filter keeps us)) (none u (All-head P u us past)) ∙ none_kept keeps limit us none (All-tail P u us past)

-- a filter that keeps nothing at or past the limit gives the same for the updates that the scan kept and for all updates of the log
pub same_kept : (keeps : Update → Bool) (number limit : ℕ) (scan : LogScan) (log : LogReading) → ((update : Update) → limit ≤ update.timestamp → keeps update ≡ false) → ShowsAllBelow limit number scan log
    → filter keeps (kept_updates scan.updates) ≡ filter keeps (updates_from number 0 log.records)
same_kept keeps number limit scan log none s = sym (filter_front keeps (kept_updates scan.updates) s.lost (none_kept keeps limit s.lost none s.past)) ∙ ap (filter keeps) s.updates

-- a scan that shows all below a limit shows all below any lower one
pub shows_lower : (number limit lower : ℕ) (scan : LogScan) (log : LogReading) → lower ≤ limit → ShowsAllBelow limit number scan log → ShowsAllBelow lower number scan log
shows_lower number limit lower scan log le s = record {
  numbers = s.numbers;
  lost = s.lost;
  updates = s.updates;
  past = All-weaker (λ (u : Update). limit ≤ u.timestamp) (λ (u : Update). lower ≤ u.timestamp) (λ u is. omega (arith, is, le)) s.lost s.past;
  dropped = s.dropped;
}

-- a scan that dropped nothing shows all below any limit
pub shows_all : (number limit : ℕ) (scan : LogScan) (log : LogReading) → ShowsLog number scan log → ShowsAllBelow limit number scan log
shows_all number limit scan log s = record {
  numbers = s.numbers;
  lost = [];
  updates = append-nil (kept_updates scan.updates) ∙ s.updates;
  past = All-nil (λ (u : Update). limit ≤ u.timestamp);
  dropped = s.dropped;
}

-- a number that no look is below is at most the least look
pub under_looks : (least : ℕ) (looks : List ℕ) → least ≤ nothing_noted → All (λ x. least ≤ x) looks → least ≤ least_of looks
under_looks least [] small all = small
under_looks least (x ∷ xs) small all = omega (arith, All-head (λ (y : ℕ). least ≤ y) x xs all, under_looks least xs small (All-tail (λ (y : ℕ). least ≤ y) x xs all))
