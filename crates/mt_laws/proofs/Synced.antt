-- What was synced of a log is left of it, so what is left has no lesser last timestamp.
use Rattle.std.proofs.Common.{◌≡◌, inl, inr, ℕ, ◌<◌, ◌≤◌, List, [], ◌∷◌, ◌++◌, max, map, Contains, sym, ap, ◌∙◌, subst, arith}
use Rattle.std.proofs.lemmas.List.{map-append}
use Rattle.std.proofs.lemmas.List.Elements.{All-contains, Contains-append_left}
use Rattle.std.specs.List.{AllZip}
use Rattle.mt_words.specs.Changes.{Logged}
use Rattle.mt_words.specs.Limits.{limits_of}
use Rattle.mt_words.proofs.Elements.{no_element, head_or_tail, head_in, tail_in}
use Rattle.mt_record.specs.declared.feed.head.Head.{Head}
use Rattle.mt_record.specs.Logs.{latest, times_of, LogReading, IsReading, IsGreatestOf}
use Rattle.mt_record.specs.LogTexts.{IsLast}
use Rattle.mt_record.proofs.Records.{last_is}
use Rattle.mt_record.proofs.OneReading.{one_reading_of}
use Rattle.mt_scan.specs.Cutoff.{HasLast}
use Rattle.mt_recover.specs.Recovery.{AreReadings}
use Rattle.mt_recover.proofs.FoundLemmas.{alone}
use Rattle.mt_writer.specs.Files.{IsCutFileOf}
use Rattle.mt_laws.specs.Crashes.{IsBeginningOf, IsAlone, AreSyncedBeyond}
use Rattle.mt_laws.proofs.CutLogs.{cut_file}

-- the times of a beginning are among those of the log
times_in : (left log : LogReading) (time : ℕ) → IsBeginningOf left log → Contains (times_of left) time → Contains (times_of log) time
times_in left log time begins at =
    let time_of = λ (r : Logged). r.timestamp in
    let same : times_of log ≡ times_of left ++ map time_of begins.lost =
    ap (λ (head : Head). head.from ∷ map time_of log.records) (sym begins.head)
    ∙ ap (λ (rs : List Logged). left.head.from ∷ map time_of rs) begins.records
    ∙ ap (λ (l : List ℕ). left.head.from ∷ l) (map-append time_of left.records begins.lost) in
    subst (λ (l : List ℕ). Contains l time) (sym same) (Contains-append_left (times_of left) (map time_of begins.lost) time at)

-- the log is no segment, and its last timestamp is greater
abbrev IsBeyond : ℕ → LogReading → Type 0
IsBeyond time log = IsAlone log × ((last : ℕ) → IsLast log last → time < last)

one_beyond : (time : ℕ) (synced left : List ℕ) (some log : LogReading) → IsCutFileOf synced left → IsReading synced some → IsReading left log
    → IsBeyond time some → IsBeyond time log
one_beyond time synced left some log cut is_some is_log beyond =
    let said = cut_file synced left log is_log cut in
    let begins = subst (λ (x : LogReading). IsBeginningOf x log) (one_reading_of synced said.log some said.is_reading is_some) said.begins in
    let first = last_is (limits_of some.head.format) some is_some.is_log.lawful in
    let n = max some.head.from (latest 0 some.records) in
    let above : time < n = beyond.1 n first in (
      ap (λ (head : Head). head.segment) (sym begins.head) ∙ beyond.0,
      λ last is.
          let most : n ≤ last = All-contains (λ (t : ℕ). t ≤ last) (times_of log) n is.1 (times_in some log n begins first.0) in
          omega (arith, above, most),
    )

all_beyond : (time : ℕ) (synced left : List (List ℕ)) (some logs : List LogReading) → AllZip IsCutFileOf synced left → AreReadings synced some
    → AreReadings left logs → ((log : LogReading) → Contains some log → IsBeyond time log) → (log : LogReading) → Contains logs log → IsBeyond time log
all_beyond time [] [] some [] cuts are_some are beyond log at = absurd (no_element log at)
all_beyond time [] [] some (l ∷ ls) cuts are_some are beyond log at = absurd are
all_beyond time [] (x ∷ xs) some logs cuts are_some are beyond log at = absurd cuts
all_beyond time (s ∷ ss) [] some logs cuts are_some are beyond log at = absurd cuts
all_beyond time (s ∷ ss) (x ∷ xs) [] logs cuts are_some are beyond log at = absurd are_some
all_beyond time (s ∷ ss) (x ∷ xs) (k ∷ ks) [] cuts are_some are beyond log at = absurd are
all_beyond time (s ∷ ss) (x ∷ xs) (k ∷ ks) (l ∷ ls) cuts are_some are beyond log at = elim (head_or_tail l log ls at) as (λ _. IsBeyond time log) [
  | inl e ↦ subst (IsBeyond time) e (one_beyond time s x k l cuts.0 are_some.0 are.0 (beyond k (head_in k ks)))
  | inr later ↦ all_beyond time ss xs ks ls cuts.1 are_some.1 are.1 (λ y there. beyond y (tail_in k y ks there)) log later
]

pub left_beyond : (left : List (List ℕ)) (readings : List LogReading) (time : ℕ) → AreReadings left readings → AreSyncedBeyond time left
    → (last : ℕ) → HasLast readings last → time < last
left_beyond left readings time are is last has =
    let each : (log : LogReading) → Contains is.readings log → IsBeyond time log = λ log at.
    let own = All-contains IsAlone is.readings log is.no_segments at in
    (own, λ n is_last. is.beyond n (record { log = log; stands = at; is_last = subst (λ (times : List ℕ). IsGreatestOf times n) (alone is.readings log own) is_last })) in
    let found = all_beyond time is.synced left is.readings readings is.begin is.read are each has.log has.stands in
    found.1 last (subst (λ (times : List ℕ). IsGreatestOf times last) (sym (alone readings has.log found.0)) has.is_last)
