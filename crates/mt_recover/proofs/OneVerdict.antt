-- Logs and parts have at most one store or one fault: recovery finds the same facts in them each time, and no log with a reading has a fault.
use Rattle.std.proofs.Common.{◌≡◌, ◌⊎◌, inl, inr, ℕ, zero, suc, ◌<◌, ◌≤◌, List, [], ◌∷◌, take, Option, Some, None, Contains}
use Rattle.std.proofs.Common.{refl, sym, ap, ◌∙◌, subst, arith}
use Rattle.std.specs.Prelude.{slice_get}
use Rattle.std.specs.List.{AllZip}
use Rattle.std.proofs.lemmas.Bool.{cases_order}
use Rattle.std.proofs.Math.Nat.{le_antisymm}
use Rattle.mt_words.specs.declared.fault.Fault.{Fault}
use Rattle.mt_words.specs.declared.fault.Fault.TheVariants as faults
use Rattle.mt_words.specs.declared.update.Update.{Update}
use Rattle.mt_words.specs.Walks.{Pair}
use Rattle.mt_record.specs.declared.read.FeedFault.{FeedFault}
use Rattle.mt_record.specs.declared.read.FeedFault.TheVariants as of_log
use Rattle.mt_record.specs.Logs.{LogReading, IsReading}
use Rattle.mt_record.specs.LogFaults.{IsLogFault}
use Rattle.mt_record.specs.Answered.{fault_at}
use Rattle.mt_record.proofs.OneReading.{one_reading_of, one_fault, not_both}
use Rattle.mt_scan.specs.Cutoff.{IsCutoff}
use Rattle.mt_scan.specs.PartScans.{KnownPart, IsKnown}
use Rattle.mt_scan.specs.Choice.{CheckpointReading, IsChosenOf}
use Rattle.mt_scan.proofs.OneChoice.{one_chosen}
use Rattle.mt_scan.proofs.OneKnown.{one_known}
use Rattle.mt_words.proofs.Elements.{no_element}
use Rattle.mt_replay.specs.Walk.{IsWalk}
use Rattle.mt_scan.specs.Segments.{IsDoubled, IsTornAmid, IsGap, AreWriters, IsFirst}
use Rattle.mt_recover.specs.Recovery.{AreReadings, Facts, records_of, IsStoreOf, begin_of, survivors}
use Rattle.mt_recover.specs.Verdict.{IsFirstFault, IsVerdict}
use Rattle.mt_recover.specs.Steps.Preparing.{IsWritersFault}
use Rattle.mt_recover.proofs.OneWalk.{one_walk}
use Rattle.mt_recover.proofs.CountLemmas.{survivors_in}

-- ---- readings

-- if each element has at most one partner, a list has at most one list of partners
one_zip : {A B : Type 0} (R : A → B → Type 0) → ((x : A) (y z : B) → R x y → R x z → y ≡ z) → (xs : List A) (ys zs : List B) → AllZip R xs ys → AllZip R xs zs
    → ys ≡ zs
one_zip R one [] [] [] are too = refl
one_zip R one [] [] (z ∷ zs) are too = absurd too
one_zip R one [] (y ∷ ys) zs are too = absurd are
one_zip R one (x ∷ xs) [] zs are too = absurd are
one_zip R one (x ∷ xs) (y ∷ ys) [] are too = absurd too
one_zip R one (x ∷ xs) (y ∷ ys) (z ∷ zs) are too =
    let first = one x y z are.0 too.0 in
    let rest = one_zip R one xs ys zs are.1 too.1 in
    λ i. first i ∷ rest i

-- if logs have readings, each of them has one
reading_at : (logs : List (List ℕ)) (readings : List LogReading) (i : ℕ) (bytes : List ℕ) → AreReadings logs readings
    → slice_get logs i ≡ Some bytes → (log : LogReading) × IsReading bytes log
reading_at [] readings i bytes are at = absurd cc
reading_at (l ∷ ls) [] i bytes are at = absurd are
reading_at (l ∷ ls) (r ∷ rs) zero bytes are at = let same : l ≡ bytes = cc in (r, subst (λ (x : List ℕ). IsReading x r) same are.0)
reading_at (l ∷ ls) (r ∷ rs) (suc i) bytes are at = reading_at ls rs i bytes are.1 at

-- a log before j is among the first j
among_first : (logs : List (List ℕ)) (j i : ℕ) → i < j → slice_get (take j logs) i ≡ slice_get logs i
among_first logs zero i lt = absurd (omega arith)
among_first [] (suc j) i lt = refl
among_first (l ∷ ls) (suc j) zero lt = refl
among_first (l ∷ ls) (suc j) (suc i) lt = among_first ls j i (omega arith)

-- a log with a reading has no fault
no_fault_at : (logs : List (List ℕ)) (readings : List LogReading) (i : ℕ) (bytes : List ℕ) (fault : FeedFault) → AreReadings logs readings
    → slice_get logs i ≡ Some bytes → IsLogFault bytes fault → ⊥
no_fault_at logs readings i bytes fault are at is_fault =
    let found = reading_at logs readings i bytes are at in
    not_both bytes found.0 fault found.1 is_fault

-- ---- facts

-- no cutoff is above another one
cutoff_at_most : (readings : List LogReading) (cutoff other : ℕ) → IsCutoff readings cutoff → IsCutoff readings other → cutoff ≤ other
cutoff_at_most readings cutoff other is too = is.least other too.has

-- recovery finds the same facts in the same logs and parts
pub same_facts : (logs parts : List (List ℕ)) (a b : Facts logs parts)
    → (a.readings ≡ b.readings) × (a.cutoff ≡ b.cutoff) × (a.known ≡ b.known) × (a.chosen ≡ b.chosen)
same_facts logs parts a b =
    let readings : a.readings ≡ b.readings = one_zip IsReading one_reading_of logs a.readings b.readings a.read b.read in
    let is : IsCutoff b.readings a.cutoff = subst (λ (x : List LogReading). IsCutoff x a.cutoff) readings a.is_cutoff in
    let low = cutoff_at_most b.readings a.cutoff b.cutoff is b.is_cutoff in
    let high = cutoff_at_most b.readings b.cutoff a.cutoff b.is_cutoff is in
    let cutoff : a.cutoff ≡ b.cutoff = le_antisymm low high in
    let known : a.known ≡ b.known = one_zip IsKnown one_known parts a.known b.known a.are_known b.are_known in
    let chosen : IsChosenOf b.known b.cutoff a.chosen =
    subst (λ (x : List KnownPart × ℕ). IsChosenOf x.0 x.1 a.chosen) (λ i. (known i, cutoff i)) a.is_chosen in
    (readings, cutoff, known, one_chosen b.known b.cutoff a.chosen b.chosen chosen b.is_chosen)

-- the readings of no logs have no element
no_log : (readings : List LogReading) (log : LogReading) → AreReadings [] readings → Contains readings log → ⊥
no_log [] log are at = no_element log at
no_log (r ∷ rs) log are at = absurd are

-- if there are facts, there is a log
no_log_no_facts : (logs parts : List (List ℕ)) (facts : Facts logs parts) → logs ≡ [] → ⊥
no_log_no_facts logs parts facts none =
    let read : AreReadings [] facts.readings = subst (λ (x : List (List ℕ)). AreReadings x facts.readings) none facts.read in
    no_log facts.readings facts.is_cutoff.has.log read facts.is_cutoff.has.stands

-- ---- stores

-- logs and parts have at most one store
pub one_store : (logs parts : List (List ℕ)) (pairs others : List Pair) → IsStoreOf logs parts pairs → IsStoreOf logs parts others
    → pairs ≡ others
one_store logs parts pairs others is too =
    let same = same_facts logs parts is.basis.facts too.basis.facts in
    let walk : IsWalk (survivors_in too.basis.facts) pairs =
    subst (λ (x : List Update). IsWalk x pairs) (λ i. survivors (same.1 i) (same.3 i) (records_of (same.0 i))) is.walk in
    one_walk (survivors_in too.basis.facts) pairs others walk too.walk

-- ---- faults

-- no log before the first fault has one
none_before : (logs : List (List ℕ)) (i j : ℕ) (fault other : FeedFault) → i < j → IsFirstFault logs i fault → IsFirstFault logs j other → ⊥
none_before logs i j fault other lt is too =
    no_fault_at (take j logs) too.readings i is.bytes fault too.before (among_first logs j i lt ∙ is.stands) is.is_fault

-- logs have at most one first fault
one_first_fault : (logs : List (List ℕ)) (i j : ℕ) (fault other : FeedFault) → IsFirstFault logs i fault → IsFirstFault logs j other
    → fault_at i fault ≡ fault_at j other
one_first_fault logs i j fault other is too = elim (cases_order i j) as (λ _. fault_at i fault ≡ fault_at j other) [
  | inl same ↦
      let found : Some is.bytes ≡ Some too.bytes = sym is.stands ∙ ap (slice_get logs) same ∙ too.stands in
      let bytes : is.bytes ≡ too.bytes = cc in
      let is_fault : IsLogFault too.bytes fault = subst (λ (x : List ℕ). IsLogFault x fault) bytes is.is_fault in
      let one : fault ≡ other = one_fault too.bytes fault other is_fault too.is_fault in
      λ k. fault_at (same k) (one k)
  | inr apart ↦ elim apart as (λ _. fault_at i fault ≡ fault_at j other) [
    | inl lt ↦ absurd (none_before logs i j fault other lt is too)
    | inr gt ↦ absurd (none_before logs j i other fault gt too is)
  ]
]

-- at most one number is the least for which P holds
one_first : (P : ℕ → Type 0) (i j : ℕ) → IsFirst P i → IsFirst P j → i ≡ j
one_first P i j is too = elim (cases_order i j) as (λ _. i ≡ j) [
  | inl same ↦ same
  | inr apart ↦ elim apart as (λ _. i ≡ j) [ inl lt ↦ absurd (too.1 i lt is.0) | inr gt ↦ absurd (is.1 j gt too.0) ]
]

-- logs and parts have at most one first gap
one_first_gap : (logs parts : List (List ℕ)) (i j : ℕ) (a b : Facts logs parts) → IsFirst (IsGap (begin_of a.chosen) a.readings) i
    → IsFirst (IsGap (begin_of b.chosen) b.readings) j → i ≡ j
one_first_gap logs parts i j a b is too =
    let same = same_facts logs parts a b in
    let gap : IsFirst (IsGap (begin_of b.chosen) b.readings) i =
    subst (λ (x : Option CheckpointReading × List LogReading). IsFirst (IsGap (begin_of x.0) x.1) i) (λ k. (same.3 k, same.0 k)) is in
    one_first (IsGap (begin_of b.chosen) b.readings) i j gap too

-- the fault of logs with these readings: one of their segments, or a gap
abbrev IsOf : List (List ℕ) → List (List ℕ) → List LogReading → Fault → Type 0
IsOf logs parts readings (faults.Gap i) = AreWriters readings × ((facts : Facts logs parts) × IsFirst (IsGap (begin_of facts.chosen) facts.readings) i)
IsOf logs parts readings fault = IsWritersFault readings fault

-- logs with these readings have at most one of these faults
one_of : (logs parts : List (List ℕ)) (readings : List LogReading) (fault other : Fault) → IsOf logs parts readings fault → IsOf logs parts readings other
    → fault ≡ other
one_of logs parts readings (faults.Doubled i) (faults.Doubled j) is too = ap faults.Doubled (one_first (IsDoubled readings) i j is too)
one_of logs parts readings (faults.Doubled i) (faults.Torn j) is too = absurd (too.0 i is.0)
one_of logs parts readings (faults.Doubled i) (faults.Gap j) is too = absurd (too.0.once i is.0)
one_of logs parts readings (faults.Doubled i) other is too = absurd too
one_of logs parts readings (faults.Torn i) (faults.Doubled j) is too = absurd (is.0 j too.0)
one_of logs parts readings (faults.Torn i) (faults.Torn j) is too = ap faults.Torn (one_first (IsTornAmid readings) i j is.1 too.1)
one_of logs parts readings (faults.Torn i) (faults.Gap j) is too = absurd (too.0.sound i is.1.0)
one_of logs parts readings (faults.Torn i) other is too = absurd too
one_of logs parts readings (faults.Gap i) (faults.Doubled j) is too = absurd (is.0.once j too.0)
one_of logs parts readings (faults.Gap i) (faults.Torn j) is too = absurd (is.0.sound j too.1.0)
one_of logs parts readings (faults.Gap i) (faults.Gap j) is too = ap faults.Gap (one_first_gap logs parts i j is.1.0 too.1.0 is.1.1 too.1.1)
one_of logs parts readings (faults.Gap i) other is too = absurd too
one_of logs parts readings fault other is too = absurd is

-- logs without readings have none of these faults
none_of : (parts : List (List ℕ)) (fault : Fault) → IsOf [] parts [] fault → ⊥
none_of parts (faults.Doubled i) is = is.0
none_of parts (faults.Torn i) is = is.1.0
none_of parts (faults.Gap i) is = no_log_no_facts [] parts is.1.0 refl
none_of parts fault is = is

-- the fault says that there is no log
abbrev NamesNone : List (List ℕ) → Fault → Type 0
NamesNone logs fault = (fault ≡ faults.NoLogs) × (logs ≡ [])

-- the fault is the first fault of a log
abbrev NamesFault : List (List ℕ) → Fault → Type 0
NamesFault logs fault = (i : ℕ) × (of : FeedFault) × (fault ≡ fault_at i of) × IsFirstFault logs i of

-- the logs have readings, and the fault is theirs
abbrev NamesOf : List (List ℕ) → List (List ℕ) → Fault → Type 0
NamesOf logs parts fault = (readings : List LogReading) × AreReadings logs readings × IsOf logs parts readings fault

-- a verdict is one of these three
named : (logs parts : List (List ℕ)) (fault : Fault) → IsVerdict logs parts fault
    → NamesNone logs fault ⊎ (NamesFault logs fault ⊎ NamesOf logs parts fault)
named logs parts faults.NoLogs is = inl (refl, is)
named logs parts (faults.Header i) is = inr (inl (i, of_log.Header, refl, is))
named logs parts (faults.Record i nth what) is = inr (inl (i, of_log.Record nth what, refl, is))
named logs parts (faults.Doubled i) is = inr (inr is)
named logs parts (faults.Torn i) is = inr (inr (is.0, is.1, (is.2, is.3)))
named logs parts (faults.Gap i) is = inr (inr (is.0.readings, is.0.read, (is.0.writers, is)))
named logs parts fault is = absurd is

-- if there is no log, only that can be said
not_none : (logs parts : List (List ℕ)) (fault : Fault) → logs ≡ [] → NamesFault logs fault ⊎ NamesOf logs parts fault → ⊥
not_none logs parts fault none (inl first) =
    let at : None ≡ Some first.3.bytes = ap (λ (x : List (List ℕ)). slice_get x first.0) (sym none) ∙ first.3.stands in
    absurd cc
not_none logs parts fault none (inr of) = by of.0 (subst (λ (x : List (List ℕ)). AreReadings x of.0 × IsOf x parts of.0 fault) none (of.1, of.2))
  where
    by : (readings : List LogReading) → AreReadings [] readings × IsOf [] parts readings fault → ⊥
    by [] is = none_of parts fault is.1
    by (r ∷ rs) is = is.0

-- if logs have readings, none of them has a fault
not_fault : (logs : List (List ℕ)) (readings : List LogReading) (fault : Fault) → AreReadings logs readings → NamesFault logs fault → ⊥
not_fault logs readings fault read is = no_fault_at logs readings is.0 is.3.bytes is.1 read is.3.stands is.3.is_fault

-- a fact of the readings of logs is a fact of any readings of these logs
same_of : (logs parts : List (List ℕ)) (a b : List LogReading) (fault : Fault) → AreReadings logs a → AreReadings logs b → IsOf logs parts a fault → IsOf logs parts b fault
same_of logs parts a b fault read too = subst (λ (x : List LogReading). IsOf logs parts x fault) (one_zip IsReading one_reading_of logs a b read too)

-- logs and parts have at most one verdict
pub one_verdict : (logs parts : List (List ℕ)) (fault other : Fault) → IsVerdict logs parts fault → IsVerdict logs parts other
    → fault ≡ other
one_verdict logs parts fault other is too = elim (named logs parts fault is) as (λ _. fault ≡ other) [
  | inl none ↦ elim (named logs parts other too) as (λ _. fault ≡ other) [
    | inl none_too ↦ none.0 ∙ sym none_too.0
    | inr some ↦ absurd (not_none logs parts other none.1 some)
  ]
  | inr some ↦ elim (named logs parts other too) as (λ _. fault ≡ other) [
    | inl none ↦ absurd (not_none logs parts fault none.1 some)
    | inr some_too ↦ both some some_too
  ]
]
  where
    both : NamesFault logs fault ⊎ NamesOf logs parts fault → NamesFault logs other ⊎ NamesOf logs parts other → fault ≡ other
    both (inl first) (inl first_too) = first.2 ∙ one_first_fault logs first.0 first_too.0 first.1 first_too.1 first.3 first_too.3 ∙ sym first_too.2
    both (inl first) (inr of) = absurd (not_fault logs of.0 fault of.1 first)
    both (inr of) (inl first) = absurd (not_fault logs of.0 other of.1 first)
    both (inr of) (inr of_too) = one_of logs parts of_too.0 fault other (same_of logs parts of.0 of_too.0 fault of.1 of_too.1 of.2) of_too.2

-- logs and parts that have a store have no verdict
pub no_verdict : (logs parts : List (List ℕ)) (pairs : List Pair) (fault : Fault) → IsStoreOf logs parts pairs
    → IsVerdict logs parts fault → ⊥
no_verdict logs parts pairs fault is too = elim (named logs parts fault too) as (λ _. ⊥) [
  | inl none ↦ no_log_no_facts logs parts is.basis.facts none.1
  | inr some ↦ elim some as (λ _. ⊥) [
    | inl first ↦ not_fault logs is.basis.facts.readings fault is.basis.facts.read first
    | inr of ↦ no_fault fault (same_of logs parts of.0 is.basis.facts.readings fault of.1 is.basis.facts.read of.2)
  ]
]
  where
    no_fault : (fault : Fault) → IsOf logs parts is.basis.facts.readings fault → ⊥
    no_fault (faults.Doubled i) at = is.basis.facts.writers.once i at.0
    no_fault (faults.Torn i) at = is.basis.facts.writers.sound i at.1.0
    no_fault (faults.Gap i) at =
        let same = same_facts logs parts at.1.0 is.basis.facts in
        is.basis.no_gap i (subst (λ (x : Option CheckpointReading × List LogReading). IsGap (begin_of x.0) x.1 i) (λ k. (same.3 k, same.0 k)) at.1.1.0)
    no_fault fault at = at
