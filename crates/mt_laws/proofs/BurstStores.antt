-- What recovery makes of logs, one of which has a burst of errors.
use Rattle.std.proofs.Common.{◌≡◌, ◌⊎◌, inl, inr, ℕ, zero, suc, ◌<◌, Some, List, [], ◌∷◌, ◌++◌, length, take, refl, sym, ap, ◌∙◌, subst, arith}
use Rattle.std.specs.Prelude.{slice_get}
use Rattle.std.proofs.Math.Seq.{take-append_seam}
use Rattle.std.proofs.lemmas.Bool.{cases_order}
use Rattle.std.proofs.lemmas.List.{length-append}
use Rattle.mt_words.specs.declared.fault.Fault.{Fault}
use Rattle.mt_words.specs.declared.fault.Fault.TheVariants as all
use Rattle.mt_record.specs.declared.read.FeedFault.{FeedFault}
use Rattle.mt_record.specs.declared.read.FeedFault.TheVariants as of_log
use Rattle.mt_record.specs.Logs.{LogReading, IsReading}
use Rattle.mt_record.specs.LogFaults.{IsLogFault}
use Rattle.mt_record.specs.Answered.{fault_at}
use Rattle.mt_record.proofs.OneReading.{not_both}
use Rattle.mt_recover.specs.Recovery.{AreReadings, Facts}
use Rattle.mt_recover.specs.Report.{Outcome, IsRecoveredOf}
use Rattle.mt_recover.specs.Verdict.{IsFirstFault, IsVerdict}
use Rattle.mt_laws.specs.Damage.{DifferAtTheEnd, HasBurst}
use Rattle.mt_laws.proofs.Bursts.{Seen, seen_in_log}

-- ---- readings

-- the reading of one log, and those of the logs before it
record ReadsAt (front : List (List ℕ)) (before : List ℕ) (back : List (List ℕ)) (readings : List LogReading) : Type 0 where
  log : LogReading
  is_reading : IsReading before log
  fronts : List LogReading
  are_fronts : AreReadings front fronts
  other : (after : List ℕ) → IsReading after log → AreReadings (front ++ after ∷ back) readings

reads_at : (front : List (List ℕ)) (before : List ℕ) (back : List (List ℕ)) (readings : List LogReading) → AreReadings (front ++ before ∷ back) readings → ReadsAt front before back readings
reads_at [] before back [] are = absurd are
reads_at [] before back (r ∷ rs) are = record { log = r; is_reading = are.0; fronts = []; are_fronts = tt; other = λ after is. (is, are.1) }
reads_at (l ∷ ls) before back [] are = absurd are
reads_at (l ∷ ls) before back (r ∷ rs) are =
    let more = reads_at ls before back rs are.1 in record {
      log = more.log;
      is_reading = more.is_reading;
      fronts = r ∷ more.fronts;
      are_fronts = (are.0, more.are_fronts);
      other = λ after is. (are.0, more.other after is);
    }

stands_at : (front back : List (List ℕ)) (after : List ℕ) → slice_get (front ++ after ∷ back) (length front) ≡ Some after
stands_at [] back after = refl
stands_at (l ∷ ls) back after = stands_at ls back after

-- ---- the verdict

first_fault_at : (logs others : List (List ℕ)) (burst : HasBurst logs others) (fronts : List LogReading) → AreReadings burst.front fronts → (fault : FeedFault)
    → IsLogFault burst.after fault → IsFirstFault others (length burst.front) fault
first_fault_at logs others burst fronts are fault is = record {
  readings = fronts;
  before = subst (λ (ls : List (List ℕ)). AreReadings ls fronts) (sym (take-append_seam burst.front (burst.after ∷ burst.back)) ∙ ap (take (length burst.front)) (sym burst.becomes)) are;
  bytes = burst.after;
  stands = ap (λ (ls : List (List ℕ)). slice_get ls (length burst.front)) burst.becomes ∙ stands_at burst.front burst.back burst.after;
  is_fault = is;
}

verdict_at : (others parts : List (List ℕ)) (i : ℕ) (bytes : List ℕ) (fault : FeedFault) → IsLogFault bytes fault → IsFirstFault others i fault → IsVerdict others parts (fault_at i fault)
verdict_at others parts i bytes of_log.Header is first = first
verdict_at others parts i bytes (of_log.Record nth what) is first = first
verdict_at others parts i bytes of_log.Memory is first = absurd is

-- ---- the store

-- other logs with the same readings have the same facts
abbrev facts_of : (logs others parts : List (List ℕ)) (facts : Facts logs parts) → AreReadings others facts.readings → Facts others parts
facts_of logs others parts facts read = record {
  readings = facts.readings;
  read = read;
  writers = facts.writers;
  cutoff = facts.cutoff;
  is_cutoff = facts.is_cutoff;
  known = facts.known;
  are_known = facts.are_known;
  chosen = facts.chosen;
  is_chosen = facts.is_chosen;
}

-- and the same store and report
same_outcome : (logs others parts : List (List ℕ)) (outcome : Outcome) (is : IsRecoveredOf logs parts outcome) → AreReadings others is.store.basis.facts.readings → length logs ≡ length others
    → IsRecoveredOf others parts outcome
same_outcome logs others parts outcome is read sizes =
    let now : Facts others parts = facts_of logs others parts is.store.basis.facts read in
    let said = is.report in
    let found = said.found in record {
      store = record { basis = record { facts = now; no_gap = is.store.basis.no_gap }; walk = is.store.walk };
      report = record {
        found = record {
          logs = found.logs ∙ sizes;
          writers = found.writers;
          records = found.records;
          marks = found.marks;
          torn = found.torn;
          holes = found.holes;
          ends = found.ends;
          last = found.last;
          version = found.version;
          version_below_cutoff = found.version_below_cutoff;
          cutoff = found.cutoff;
          checkpoint = found.checkpoint;
          begin = found.begin;
          skipped = found.skipped;
          nameless = found.nameless;
          entries = found.entries;
        };
        survivors = said.survivors;
        early = said.early;
        late = said.late;
        keys = said.keys;
        layers = said.layers;
      };
    }

as_many : (front back : List (List ℕ)) (before after : List ℕ) → length (front ++ before ∷ back) ≡ length (front ++ after ∷ back)
as_many [] back before after = refl
as_many (l ∷ ls) back before after = ap suc (as_many ls back before after)

abbrev pub SeenByAll : (logs others parts : List (List ℕ)) → Outcome → HasBurst logs others → Type 0
SeenByAll logs others parts outcome burst =
    ((fault : FeedFault) × IsVerdict others parts (fault_at (length burst.front) fault)) ⊎ (IsRecoveredOf others parts outcome ⊎ DifferAtTheEnd burst.before burst.after)

pub seen_by_all : (logs others parts : List (List ℕ)) (outcome : Outcome) (burst : HasBurst logs others) → IsRecoveredOf logs parts outcome → SeenByAll logs others parts outcome burst
seen_by_all logs others parts outcome burst is =
    let readings = is.store.basis.facts.readings in
    let at = reads_at burst.front burst.before burst.back readings (subst (λ (ls : List (List ℕ)). AreReadings ls readings) burst.is is.store.basis.facts.read) in
    by at (seen_in_log burst.before burst.after at.log burst.sealed at.is_reading burst.burst)
  where
    by : (at : ReadsAt burst.front burst.before burst.back is.store.basis.facts.readings) → Seen burst.before burst.after at.log → SeenByAll logs others parts outcome burst
    by at (inl (fault, is_fault)) =
        inl (fault, verdict_at others parts (length burst.front) burst.after fault is_fault (first_fault_at logs others burst at.fronts at.are_fronts fault is_fault))
    by at (inr (inl same)) =
        let read : AreReadings others is.store.basis.facts.readings = subst (λ (ls : List (List ℕ)). AreReadings ls is.store.basis.facts.readings) (sym burst.becomes) (at.other burst.after same) in
        let sizes : length logs ≡ length others = ap length burst.is ∙ as_many burst.front burst.back burst.before burst.after ∙ sym (ap length burst.becomes) in
        inr (inl (same_outcome logs others parts outcome is read sizes))
    by at (inr (inr differ)) = inr (inr differ)

-- ---- a fault that recovery named before

-- the first logs, up to one behind that with the burst: these, that log, and more
take_through : (front back : List (List ℕ)) (j : ℕ) → length front < j → (more : List (List ℕ)) × ((x : List ℕ) → take j (front ++ x ∷ back) ≡ front ++ x ∷ more)
take_through [] back zero lt = absurd (omega (arith, lt))
take_through [] back (suc j) lt = (take j back, λ x. refl)
take_through (l ∷ ls) back zero lt = absurd (omega (arith, lt))
take_through (l ∷ ls) back (suc j) lt = let rest = take_through ls back j (omega (arith, lt)) in (rest.0, λ x. ap (λ (more : List (List ℕ)). l ∷ more) (rest.1 x))

-- the first logs, up to one before that with the burst
take_front : (front back : List (List ℕ)) (x y : List ℕ) (j : ℕ) → j < length front → take j (front ++ x ∷ back) ≡ take j (front ++ y ∷ back)
take_front [] back x y j lt = absurd (omega (arith, lt))
take_front (l ∷ ls) back x y zero lt = refl
take_front (l ∷ ls) back x y (suc j) lt = ap (λ (rest : List (List ℕ)). l ∷ rest) (take_front ls back x y j (omega (arith, lt)))

-- any other log stands where it stood
others_stand : (front back : List (List ℕ)) (x y : List ℕ) (j : ℕ) → (j < length front) ⊎ (length front < j) → slice_get (front ++ x ∷ back) j ≡ slice_get (front ++ y ∷ back) j
others_stand [] back x y zero apart = elim apart as (λ _. slice_get (x ∷ back) zero ≡ slice_get (y ∷ back) zero) [ inl lt ↦ absurd (omega (arith, lt)) | inr lt ↦ absurd (omega (arith, lt)) ]
others_stand [] back x y (suc j) apart = refl
others_stand (l ∷ ls) back x y zero apart = refl
others_stand (l ∷ ls) back x y (suc j) apart = others_stand ls back x y j (elim apart as (λ _. (j < length ls) ⊎ (length ls < j)) [ inl lt ↦ inl (omega (arith, lt)) | inr lt ↦ inr (omega (arith, lt)) ])

abbrev pub FaultByAll : (logs others parts : List (List ℕ)) → Fault → HasBurst logs others → Type 0
FaultByAll logs others parts fault burst =
    ((new : FeedFault) × IsVerdict others parts (fault_at (length burst.front) new)) ⊎ (IsVerdict others parts fault ⊎ DifferAtTheEnd burst.before burst.after)

module _ (logs others parts : List (List ℕ)) (burst : HasBurst logs others) (log : LogReading) (is_log : IsReading burst.before log) where
  abbrev number : ℕ
  number = length burst.front

  -- if recovery reads logs up to one behind that with the burst, or all of them
  by_readings : (back : List (List ℕ)) (readings : List LogReading) (fault : Fault) → AreReadings (burst.front ++ burst.before ∷ back) readings
      → (AreReadings (burst.front ++ burst.after ∷ back) readings → IsVerdict others parts fault) → FaultByAll logs others parts fault burst
  by_readings back readings fault are follows =
      let at = reads_at burst.front burst.before back readings are in
      elim (seen_in_log burst.before burst.after at.log burst.sealed at.is_reading burst.burst) as (λ _. FaultByAll logs others parts fault burst) [
        | inl (new, is_fault) ↦ inl (new, verdict_at others parts number burst.after new is_fault (first_fault_at logs others burst at.fronts at.are_fronts new is_fault))
        | inr (inl same) ↦ inr (inl (follows (at.other burst.after same)))
        | inr (inr differ) ↦ inr (inr differ)
      ]

  all_readings : (readings : List LogReading) (fault : Fault) → AreReadings logs readings → (AreReadings others readings → IsVerdict others parts fault) → FaultByAll logs others parts fault burst
  all_readings readings fault are follows =
      by_readings burst.back readings fault (subst (λ (ls : List (List ℕ)). AreReadings ls readings) burst.is are) (λ now. follows (subst (λ (ls : List (List ℕ)). AreReadings ls readings) (sym burst.becomes) now))

  -- the first fault of another log
  first_of_other : (j : ℕ) (fault : FeedFault) (is : IsFirstFault logs j fault) → (j < number) ⊎ (number < j) → AreReadings (take j others) is.readings → IsFirstFault others j fault
  first_of_other j fault is apart before = record {
    readings = is.readings;
    before = before;
    bytes = is.bytes;
    stands =
        ap (λ (ls : List (List ℕ)). slice_get ls j) burst.becomes ∙ sym (others_stand burst.front burst.back burst.before burst.after j apart) ∙ sym (ap (λ (ls : List (List ℕ)). slice_get ls j) burst.is) ∙ is.stands;
    is_fault = is.is_fault;
  }

  first_before : (j : ℕ) (fault : FeedFault) (is : IsFirstFault logs j fault) → j < number → IsFirstFault others j fault
  first_before j fault is lt =
      first_of_other j fault is (inl lt)
      (subst (λ (ls : List (List ℕ)). AreReadings ls is.readings) (ap (take j) burst.is ∙ take_front burst.front burst.back burst.before burst.after j lt ∙ sym (ap (take j) burst.becomes)) is.before)

  not_here : (j : ℕ) (fault : FeedFault) → IsFirstFault logs j fault → j ≡ number → ⊥
  not_here j fault is e =
      let there : Some is.bytes ≡ Some burst.before = sym is.stands ∙ ap (λ (ls : List (List ℕ)). slice_get ls j) burst.is ∙ ap (slice_get (burst.front ++ burst.before ∷ burst.back)) e ∙ stands_at burst.front burst.back burst.before in
      let same : is.bytes ≡ burst.before = cc in
      not_both burst.before log fault is_log (subst (λ (bytes : List ℕ). IsLogFault bytes fault) same is.is_fault)

  by_place : (j : ℕ) (fault : FeedFault) → IsFirstFault logs j fault → (IsFirstFault others j fault → IsVerdict others parts (fault_at j fault)) → FaultByAll logs others parts (fault_at j fault) burst
  by_place j fault is told = elim (cases_order j number) as (λ _. FaultByAll logs others parts (fault_at j fault) burst) [
    | inl here ↦ absurd (not_here j fault is here)
    | inr (inl lt) ↦ inr (inl (told (first_before j fault is lt)))
    | inr (inr gt) ↦
        let through = take_through burst.front burst.back j gt in
        by_readings through.0 is.readings (fault_at j fault)
        (subst (λ (ls : List (List ℕ)). AreReadings ls is.readings) (ap (take j) burst.is ∙ through.1 burst.before) is.before)
        (λ now. told (first_of_other j fault is (inr gt) (subst (λ (ls : List (List ℕ)). AreReadings ls is.readings) (sym (ap (take j) burst.becomes ∙ through.1 burst.after)) now)))
  ]

  pub fault_by_all : (fault : Fault) → IsVerdict logs parts fault → FaultByAll logs others parts fault burst
  fault_by_all all.NoLogs none = absurd (omega (arith, sym (ap length none) ∙ ap length burst.is, length-append burst.front (burst.before ∷ burst.back)))
  fault_by_all (all.Header j) is = by_place j of_log.Header is (λ first. first)
  fault_by_all (all.Record j nth what) is = by_place j (of_log.Record nth what) is (λ first. first)
  fault_by_all (all.Doubled j) (readings, are, doubled) = all_readings readings (all.Doubled j) are (λ now. (readings, now, doubled))
  fault_by_all (all.Torn j) (readings, are, none, torn) = all_readings readings (all.Torn j) are (λ now. (readings, now, none, torn))
  fault_by_all (all.Gap j) (facts, gap) = all_readings facts.readings (all.Gap j) facts.read (λ now. (facts_of logs others parts facts now, gap))
  fault_by_all fault is = absurd is
