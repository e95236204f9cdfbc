-- Every state on the way of a resume has the same store.
use Rattle.std.proofs.Common.{◌≡◌, ◌⊎◌, inl, inr, ℕ, ◌^◌, ◌<◌, Option, Some, None, List, [], ◌∷◌, ◌++◌, Contains, refl, sym, ap, ◌∙◌, subst, arith}
use Rattle.std.specs.List.{AllZip}
use Rattle.std.proofs.lemmas.Bool.{false≢true}
use Rattle.mt_words.specs.declared.limits.Limits.{Limits}
use Rattle.mt_words.specs.declared.update.Update.{Update}
use Rattle.mt_words.specs.Limits.{limits_of}
use Rattle.mt_words.specs.Changes.{Logged}
use Rattle.mt_words.specs.Walks.{Pair}
use Rattle.mt_words.proofs.Elements.{head_or_tail, no_element}
use Rattle.mt_record.specs.Logs.{AreRecords, LogReading, IsReading, times_of}
use Rattle.mt_record.proofs.OneReading.{one_reading_of}
use Rattle.mt_scan.specs.Cutoff.{IsCutoff}
use Rattle.mt_scan.specs.PartScans.{KnownPart}
use Rattle.mt_scan.specs.Choice.{CheckpointReading, IsChosenOf}
use Rattle.mt_replay.specs.Walk.{IsWalk}
use Rattle.mt_replay.proofs.Members.{of_map}
use Rattle.mt_scan.specs.Segments.{IsGap}
use Rattle.mt_recover.specs.Recovery.{AreReadings, Facts, begin_of, entry_updates, survivors, records_of, IsStoreOf}
use Rattle.mt_recover.proofs.OneVerdict.{same_facts}
use Rattle.mt_record.specs.Resuming.{resumed}
use Rattle.mt_laws.specs.Resuming.{IsReplaced, IsSameOrResumed, NoneBecomesValid, IsOnTheWay, FindTheSame}
use Rattle.mt_laws.proofs.Agreeing.{AgreeBelow, resumed_agrees, agreeing_survive}
use Rattle.mt_laws.proofs.Resumed.{replaced_reading, reaches_cutoff, times_after, resumed_twice}
use Rattle.mt_laws.proofs.Paired.{partner_of, zip_weaker, zip_map, zip_through}
use Rattle.mt_laws.proofs.ResumedLogs.{Replaces, all_claim, writers_stay, gaps_stay, cutoff_stays, cutoff_time}

-- ---- the cutoff fits in 64 bits

times_fit : (limits : Limits) (low : ℕ) (rs : List Logged) → AreRecords limits low rs → (r : Logged) → Contains rs r → r.timestamp < 2 ^ 64
times_fit limits low [] are r at = absurd (no_element r at)
times_fit limits low (x ∷ xs) are r at = elim (head_or_tail x r xs at) as (λ _. r.timestamp < 2 ^ 64) [
  | inl e ↦ subst (λ (l : Logged). l.timestamp < 2 ^ 64) e are.0.0
  | inr later ↦ times_fit limits x.timestamp xs are.2 r later
]

pub time_fits : (bytes : List ℕ) (log : LogReading) (time : ℕ) → IsReading bytes log → Contains (times_of log) time → time < 2 ^ 64
time_fits bytes log time is at = elim (head_or_tail log.head.from time _ at) as (λ _. time < 2 ^ 64) [
  | inl e ↦ subst (λ (t : ℕ). t < 2 ^ 64) e is.is_log.is_head.from
  | inr later ↦
      let found = of_map (λ (r : Logged). r.timestamp) log.records time later in
      subst (λ (t : ℕ). t < 2 ^ 64) found.2 (times_fit (limits_of log.head.format) 0 log.records is.is_log.lawful found.0 found.1)
]

pub cutoff_fits : (logs : List (List ℕ)) (readings : List LogReading) (cutoff : ℕ) → AreReadings logs readings → IsCutoff readings cutoff → cutoff < 2 ^ 64
cutoff_fits logs readings cutoff read is =
    let found = cutoff_time readings cutoff is in
    let bytes = partner_of IsReading logs readings found.0 read found.1 in
    time_fits bytes.0 found.0 cutoff bytes.2 found.2

-- ---- one log

-- what the log says now: what it said, or what replaces that
pub record Became (cutoff : ℕ) (log now : LogReading) : Type 0 where
  pub limits : Limits
  pub lawful : AreRecords limits 0 log.records
  pub fits : cutoff < 2 ^ 64
  pub how : (now ≡ log) ⊎ (now ≡ resumed cutoff log)

same_replaces : (cutoff : ℕ) (log : LogReading) → Replaces cutoff log log
same_replaces cutoff log = record {
  claims = record { segment = refl; from = omega arith };
  torn = λ torn. torn;
  reaches = λ time at late. (time, at, late);
  stays = λ at. at;
  low = λ time at. inr at;
}

resumed_replaces : (cutoff : ℕ) (log : LogReading) → Replaces cutoff log (resumed cutoff log)
resumed_replaces cutoff log = record {
  claims = record { segment = refl; from = omega arith };
  torn = λ torn. absurd (false≢true torn);
  reaches = λ time at late. (cutoff, reaches_cutoff cutoff log, omega arith);
  stays = λ at. reaches_cutoff cutoff log;
  low = λ time at. times_after cutoff log time at;
}

pub replaces : (cutoff : ℕ) (log now : LogReading) → Became cutoff log now → Replaces cutoff log now
replaces cutoff log now became = elim became.how as (λ _. Replaces cutoff log now) [
  | inl e ↦ subst (Replaces cutoff log) (sym e) (same_replaces cutoff log)
  | inr e ↦ subst (Replaces cutoff log) (sym e) (resumed_replaces cutoff log)
]

-- the log agrees with what it was below the cutoff
agrees : (cutoff : ℕ) (log now : LogReading) → Became cutoff log now → AgreeBelow cutoff log.records now.records
agrees cutoff log now became = elim became.how as (λ _. AgreeBelow cutoff log.records now.records) [
  | inl e ↦ subst (λ (l : LogReading). AgreeBelow cutoff log.records l.records) (sym e) (record { rise = (became.limits, became.lawful); others_rise = (became.limits, became.lawful); same = refl })
  | inr e ↦ subst (λ (l : LogReading). AgreeBelow cutoff log.records l.records) (sym e) (resumed_agrees cutoff became.limits log.records became.fits became.lawful)
]

-- ---- all logs

-- what the logs say now
record SayNow (cutoff : ℕ) (readings : List LogReading) (now : List (List ℕ)) : Type 0 where
  news : List LogReading
  read : AreReadings now news
  became : AllZip (Became cutoff) readings news

one_now : (cutoff : ℕ) (before now : List ℕ) (log : LogReading) → cutoff < 2 ^ 64 → IsReading before log → IsSameOrResumed cutoff before now
    → (new : LogReading) × IsReading now new × Became cutoff log new
one_now cutoff before now log fits is (inl e) = (log, subst (λ (bytes : List ℕ). IsReading bytes log) (sym e) is, record { limits = limits_of log.head.format; lawful = is.is_log.lawful; fits = fits; how = inl refl })
one_now cutoff before now log fits is (inr to) = (resumed cutoff log, replaced_reading cutoff before now log is to, record { limits = limits_of log.head.format; lawful = is.is_log.lawful; fits = fits; how = inr refl })

say_now : (cutoff : ℕ) (logs : List (List ℕ)) (readings : List LogReading) (now : List (List ℕ)) → cutoff < 2 ^ 64 → AreReadings logs readings
    → AllZip (IsSameOrResumed cutoff) logs now → SayNow cutoff readings now
say_now cutoff [] [] [] fits read are = record { news = []; read = tt; became = tt }
say_now cutoff [] [] (n ∷ ns) fits read are = absurd are
say_now cutoff [] (r ∷ rs) now fits read are = absurd read
say_now cutoff (l ∷ ls) [] now fits read are = absurd read
say_now cutoff (l ∷ ls) (r ∷ rs) [] fits read are = absurd are
say_now cutoff (l ∷ ls) (r ∷ rs) (n ∷ ns) fits read are =
    let first = one_now cutoff l n r fits read.0 are.0 in
    let rest = say_now cutoff ls rs ns fits read.1 are.1 in
    record { news = first.0 ∷ rest.news; read = (first.1, rest.read); became = (first.2, rest.became) }

-- ---- the choice

choice_stays : (before after : List KnownPart) (cutoff : ℕ) (chosen : Option CheckpointReading) → IsChosenOf before cutoff chosen
    → NoneBecomesValid chosen before after → IsChosenOf after cutoff chosen
choice_stays before after cutoff None is none = λ other may. is other (record { valid = none.none_new other may.valid; ends_below = may.ends_below })
choice_stays before after cutoff (Some checkpoint) is none = (
  record { valid = none.stays; ends_below = is.0.ends_below },
  λ other may. is.1 other (record { valid = none.none_new other may.valid; ends_below = may.ends_below }),
)

-- ---- the laws

-- what recovery finds in a state on the way
pub record FoundNow {logs parts : List (List ℕ)} (facts : Facts logs parts) (now left : List (List ℕ)) : Type 0 where
  pub found : Facts now left
  pub became : AllZip (Became facts.cutoff) facts.readings found.readings
  pub cutoff : found.cutoff ≡ facts.cutoff
  pub chosen : found.chosen ≡ facts.chosen

pub found_now : (logs parts now left : List (List ℕ)) (facts : Facts logs parts) → IsOnTheWay facts now left → FoundNow facts now left
found_now logs parts now left facts way =
    let say = say_now facts.cutoff logs facts.readings now (cutoff_fits logs facts.readings facts.cutoff facts.read facts.is_cutoff) facts.read way.each in
    let replace = zip_weaker (Became facts.cutoff) (Replaces facts.cutoff) facts.readings say.news (replaces facts.cutoff) say.became in record {
      found = record {
        readings = say.news;
        read = say.read;
        writers = writers_stay facts.cutoff facts.readings say.news replace facts.writers;
        cutoff = facts.cutoff;
        is_cutoff = cutoff_stays facts.cutoff facts.readings say.news replace facts.is_cutoff;
        known = way.known;
        are_known = way.are_known;
        chosen = facts.chosen;
        is_chosen = choice_stays facts.known way.known facts.cutoff facts.chosen facts.is_chosen way.checkpoints;
      };
      became = say.became;
      cutoff = refl;
      chosen = refl;
    }

-- the records of the logs agree below the cutoff
pub all_agree : (cutoff : ℕ) (logs news : List LogReading) → AllZip (Became cutoff) logs news → AllZip (AgreeBelow cutoff) (records_of logs) (records_of news)
all_agree cutoff logs news became = zip_map (AgreeBelow cutoff) (λ (log : LogReading). log.records) (λ (log : LogReading). log.records) logs news
    (zip_weaker (Became cutoff) (λ log now. AgreeBelow cutoff log.records now.records) logs news (agrees cutoff) became)

-- the store of a state on the way
abbrev StoreNow : {logs parts : List (List ℕ)} → Facts logs parts → List (List ℕ) → List (List ℕ) → List Pair → Type 0
StoreNow facts now left pairs = (store : IsStoreOf now left pairs) × FindTheSame facts store.basis.facts

store_now : (logs parts now left : List (List ℕ)) (pairs : List Pair) (store : IsStoreOf logs parts pairs) → IsOnTheWay store.basis.facts now left
    → StoreNow store.basis.facts now left pairs
store_now logs parts now left pairs store way =
    let facts = store.basis.facts in
    let new = found_now logs parts now left facts way in
    let claim = all_claim facts.cutoff facts.readings new.found.readings (zip_weaker (Became facts.cutoff) (Replaces facts.cutoff) facts.readings new.found.readings (replaces facts.cutoff) new.became) in
    let survive : survivors facts.cutoff facts.chosen (records_of new.found.readings) ≡ survivors facts.cutoff facts.chosen (records_of facts.readings) = ap (λ (us : List Update). us ++ entry_updates facts.chosen)
    (sym (agreeing_survive (record { begin = begin_of facts.chosen; cutoff = facts.cutoff }) 0 (records_of facts.readings) (records_of new.found.readings) (all_agree facts.cutoff facts.readings new.found.readings new.became))) in
    let same = (λ i. survivors (new.cutoff i) (new.chosen i) (records_of new.found.readings)) ∙ survive in (
      record {
        basis = record { facts = new.found; no_gap = subst (λ (c : Option CheckpointReading). (i : ℕ) → IsGap (begin_of c) new.found.readings i → ⊥) (sym new.chosen) (gaps_stay (begin_of facts.chosen) facts.readings new.found.readings claim store.basis.no_gap) };
        walk = subst (λ (us : List Update). IsWalk us pairs) (sym same) store.walk;
      },
      record { cutoff = new.cutoff; chosen = new.chosen; survivors = same },
    )

pub store_on_way : (logs parts now left : List (List ℕ)) (pairs : List Pair) (store : IsStoreOf logs parts pairs) → IsOnTheWay store.basis.facts now left
    → IsStoreOf now left pairs
store_on_way logs parts now left pairs store way = (store_now logs parts now left pairs store way).0

pub same_on_way : (logs parts now left : List (List ℕ)) (pairs : List Pair) (store : IsStoreOf logs parts pairs) → IsOnTheWay store.basis.facts now left
    → (after : Facts now left) → FindTheSame store.basis.facts after
same_on_way logs parts now left pairs store way after =
    let found = store_now logs parts now left pairs store way in
    let one = same_facts now left after found.0.basis.facts in record {
      cutoff = one.1 ∙ found.1.cutoff;
      chosen = one.3 ∙ found.1.chosen;
      survivors = (λ i. survivors (one.1 i) (one.3 i) (records_of (one.0 i))) ∙ found.1.survivors;
    }

-- resuming from a state on the way
one_again : (cutoff : ℕ) → cutoff < 2 ^ 64 → (before after : List ℕ) → (now : List ℕ) × IsSameOrResumed cutoff before now × IsReplaced cutoff now after
    → IsReplaced cutoff before after
one_again cutoff fits before after (now, inl e, to) = subst (λ (bytes : List ℕ). IsReplaced cutoff bytes after) e to
one_again cutoff fits before after (now, inr half, to) =
    let same : resumed cutoff to.log ≡ resumed cutoff half.log = ap (resumed cutoff) (one_reading_of now to.log (resumed cutoff half.log) to.is_reading half.says) ∙ resumed_twice cutoff half.log in
    record { log = half.log; is_reading = half.is_reading; says = subst (IsReading after) same to.says }

pub resume_again : (logs parts now left after : List (List ℕ)) (pairs : List Pair) (store : IsStoreOf logs parts pairs) → IsOnTheWay store.basis.facts now left
    → (found : Facts now left) → AllZip (IsReplaced found.cutoff) now after → AllZip (IsReplaced store.basis.facts.cutoff) logs after
resume_again logs parts now left after pairs store way found to =
    let facts = store.basis.facts in
    let same = (same_on_way logs parts now left pairs store way found).cutoff in
    zip_weaker (λ before then. (between : List ℕ) × IsSameOrResumed facts.cutoff before between × IsReplaced facts.cutoff between then) (IsReplaced facts.cutoff) logs after
    (one_again facts.cutoff (cutoff_fits logs facts.readings facts.cutoff facts.read facts.is_cutoff))
    (zip_through (IsSameOrResumed facts.cutoff) (IsReplaced facts.cutoff) logs now after way.each (subst (λ (cutoff : ℕ). AllZip (IsReplaced cutoff) now after) same to))
