-- Jobs that are dealt to shares, and their answers.
use Rattle.std.proofs.Common.{◌≡◌, ◌∙◌, ◌<◌, ◌+◌, ℕ, suc, Option, Some, None, List, [], ◌∷◌, ◌++◌, length, map, get_or, slice_get, IsPermutation, refl, sym, ap, subst, append-nil, arith}
use Rattle.std.specs.Prelude.{slice_index_or, slice_set, take, drop, Result, Ok, IfOk}
use Rattle.std.specs.List.{All, AllByRecursion, AllZip, FoldsTo, enumerate_from, flat_map}
use Rattle.std.proofs.Math.Seq.{take-append_seam}
use Rattle.std.proofs.lemmas.List.{map-append, nil_from_length}
use Rattle.std.proofs.lemmas.List.FromFn.{get_or-enumerate_from, length-enumerate_from}
use Rattle.std.proofs.lemmas.List.Sorted.{All-permutation}
use Rattle.std.proofs.lemmas.List.Concat.{flat_map-cons}
use Rattle.std.proofs.lemmas.List.Elements.{All-append, All-cons, All-head, All-nil, All-tail}
use Rattle.std.proofs.lemmas.Slice.Zip.{all_zipped_more}
use Rattle.mt_recover.specs.Steps.Scanning.{AreAnswers, AreDealt}

-- ---- dealing

-- no job is dealt to shares that are made empty
pub none_dealt : {J X F : Type 0} (f : X → List J) (step : F → X → F → Type 0) (from to : F) (shares : List X) → ((p q : F) (share : X) → step p share q → f share ≡ []) → FoldsTo step from shares to
    → AreDealt [] (map f shares)
none_dealt f step from to [] empty made = tt
none_dealt f step from to (s ∷ ss) empty made = (empty from made.0 s made.1, none_dealt f step made.0 to ss empty made.2)

-- one more job is dealt in front of those that are dealt
pub dealt_more : {J X : Type 0} (f : X → List J) (job : J) (last : List J) (front back shares turned : List X) (old new : X) → shares ≡ front ++ back → length back ≡ 1 → turned ≡ back ++ front
    → old ≡ slice_index_or turned 0 old → f new ≡ job ∷ f old → AreDealt last (map f shares) → AreDealt (job ∷ last) (map f (slice_set turned 0 new))
dealt_more f job last front [] shares turned old new are one turn at is dealt = absurd (omega (arith, one))
dealt_more f job last front (b ∷ c ∷ cs) shares turned old new are one turn at is dealt = absurd (omega (arith, one))
dealt_more f job last front (b ∷ []) shares turned old new are one turn at is dealt =
    let own : f new ≡ job ∷ f b = is ∙ ap (λ x. job ∷ f x) (at ∙ ap (λ l. slice_index_or l 0 old) turn) in
    rw (turn, own) (refl, subst (AreDealt last) (ap (map f) are ∙ map-append f front (b ∷ [])) dealt)

-- the answers of the shares are dealt as the jobs are
pub dealt_answers : {J X : Type 0} (R : J → X → Type 0) (jobs : List J) (shares : List (List J)) (parts : List (List X)) → AreDealt jobs shares → AllZip (AllZip R) shares parts
    → (answers : List X) × AllZip R jobs answers × AreDealt answers parts
dealt_answers R [] shares parts dealt zip = ([], tt, none shares parts dealt zip)
  where
    none : (shares : List (List _)) (parts : List (List _)) → AllByRecursion (λ share. share ≡ []) shares → AllZip (AllZip R) shares parts → AllByRecursion (λ part. part ≡ []) parts
    none [] [] dealt zip = tt
    none [] (p ∷ ps) dealt zip = absurd zip
    none (s ∷ ss) [] dealt zip = absurd zip
    none ([] ∷ ss) ([] ∷ ps) dealt zip = (refl, none ss ps dealt.1 zip.1)
    none ([] ∷ ss) ((x ∷ xs) ∷ ps) dealt zip = absurd zip.0
    none ((j ∷ js) ∷ ss) (p ∷ ps) dealt zip = absurd cc
dealt_answers R (j ∷ js) [] parts dealt zip = absurd dealt
dealt_answers R (j ∷ js) ([] ∷ ss) parts dealt zip = absurd dealt
dealt_answers R (j ∷ js) ((first ∷ rest) ∷ ss) [] dealt zip = absurd zip
dealt_answers R (j ∷ js) ((first ∷ rest) ∷ ss) ([] ∷ ps) dealt zip = absurd zip.0
dealt_answers R (j ∷ js) ((first ∷ rest) ∷ ss) ((x ∷ xs) ∷ ps) dealt zip =
    let later = dealt_answers R js (ss ++ rest ∷ []) (ps ++ xs ∷ []) dealt.1 (all_zipped_more (AllZip R) ss ps rest xs zip.1 zip.0.1) in
    (x ∷ later.0, (subst (λ job. R job x) dealt.0 zip.0.0, later.1), (refl, later.2))

-- ---- gathering

-- the next answer is the first of those that are left
pub next_gathered : {X Y : Type 0} (f : Y → List X) (rest : List X) (parts : List Y) (old new : Y) (answer : X) → 0 < length parts → old ≡ slice_index_or parts 0 old → f old ≡ answer ∷ f new
    → AreDealt rest (map f parts) → (more : List X) × (rest ≡ answer ∷ more) × AreDealt more (map f (drop 1 (slice_set parts 0 new) ++ take 1 (slice_set parts 0 new)))
next_gathered f rest [] old new answer some at is dealt = absurd (omega (arith, some))
next_gathered f [] (p ∷ ps) old new answer some at is dealt = absurd cc
next_gathered f (r ∷ rs) (p ∷ ps) old new answer some at is dealt =
    let own : f p ≡ answer ∷ f new = ap f (sym at) ∙ is in
    let both : AreDealt (r ∷ rs) ((answer ∷ f new) ∷ map f ps) = subst (λ share. AreDealt (r ∷ rs) (share ∷ map f ps)) own dealt in
    (rs, ap (λ x. x ∷ rs) (sym both.0), rw (take-append_seam [] ps) (subst (AreDealt rs) (sym (map-append f ps (new ∷ []))) both.1))

-- if the next share is empty, no answer is left
pub none_left : {X Y : Type 0} (f : Y → List X) (rest : List X) (parts : List Y) (old : Y) → 0 < length parts → old ≡ slice_index_or parts 0 old → length (f old) ≡ 0 → AreDealt rest (map f parts) → rest ≡ []
none_left f [] parts old some at empty dealt = refl
none_left f (r ∷ rs) [] old some at empty dealt = absurd dealt
none_left f (r ∷ rs) (p ∷ ps) old some at empty dealt =
    absurd (subst (λ share. AreDealt (r ∷ rs) (share ∷ map f ps)) (ap f (sym at) ∙ nil_from_length (f old) empty) dealt)

-- ---- lists that are walked through

-- if nothing is left, what was walked through is the complete list
pub all_yielded : {A : Type 0} (all yielded left : List A) → yielded ++ left ≡ all → length left ≡ 0 → yielded ≡ all
all_yielded all yielded left whole end = sym (append-nil yielded) ∙ ap (λ l. yielded ++ l) (sym (nil_from_length left end)) ∙ whole

-- one more answer that is Ok
pub done_more : {X E : Type 0} (answers : List (Result X E)) (done after : List X) (answer : Result X E) (one : X) → answers ≡ map Ok done → answer ≡ Ok one → after ≡ done ++ one ∷ [] → answers ++ answer ∷ [] ≡ map Ok after
done_more answers done after answer one are is pushed = ap (λ l. l ++ answer ∷ []) are ∙ ap (λ a. map Ok done ++ a ∷ []) is ∙ sym (map-append Ok done (one ∷ [])) ∙ ap (map Ok) (sym pushed)

-- ---- answers

-- if Q implies R, answers for which Q holds are answers for which R holds
pub zip_says : {J X : Type 0} (R Q : J → X → Type 0) (jobs : List J) (answers : List X) → ((job : J) (answer : X) → Q job answer → R job answer) → AllZip Q jobs answers → AllZip R jobs answers
zip_says R Q [] [] says zip = tt
zip_says R Q [] (x ∷ xs) says zip = absurd zip
zip_says R Q (j ∷ js) [] says zip = absurd zip
zip_says R Q (j ∷ js) (x ∷ xs) says zip = (says j x zip.0, zip_says R Q js xs says zip.1)

-- ---- jobs that are taken one by one

-- the first of a list with an element
abbrev some_or : {J : Type 0} → J → Option J → J
some_or j None = j
some_or j (Some k) = k

-- if the answer at each place is that of the job there, the answers are those of the jobs in order
by_place : {J X : Type 0} (R : ℕ → J → X → Type 0) (n : ℕ) (jobs : List J) (answers : List X) → length answers ≡ length jobs
    → ((k : ℕ) (d : X) → k < length answers → (job : J) × (slice_get jobs k ≡ Some job) × R (n + k) job (get_or answers k d)) → AllZip (λ job x. R job.0 job.1 x) (enumerate_from n jobs) answers
by_place R n [] [] long each = tt
by_place R n [] (x ∷ xs) long each = absurd (omega (arith, long))
by_place R n (j ∷ js) [] long each = absurd (omega (arith, long))
by_place {J} R n (j ∷ js) (x ∷ xs) long each =
    let first = each 0 x (omega arith) in
    let none : n + 0 ≡ n = omega arith in (
      subst (λ (job : J). R n job x) (sym (ap (some_or j) first.1)) (subst (λ (k : ℕ). R k first.0 x) none first.2),
      by_place R (n + 1) js xs (omega (arith, long)) (λ k d lt.
          let one = each (suc k) d (omega (arith, lt)) in
          let next : n + suc k ≡ n + 1 + k = omega arith in
          (one.0, one.1, subst (λ (m : ℕ). R m one.0 (get_or xs k d)) next one.2)),
    )

-- answers with the numbers of their jobs, put in the order of these numbers, are those of the jobs in order
pub all_in_order : {J X : Type 0} (R : ℕ → J → X → Type 0) (jobs : List J) (done : List (ℕ × X)) (answers : List X) → AreAnswers R jobs done → IsPermutation done (enumerate_from 0 answers) → length answers ≡ length jobs
    → AllZip (λ job x. R job.0 job.1 x) (enumerate_from 0 jobs) answers
all_in_order {J} {X} R jobs done answers are same long = by_place R 0 jobs answers long each
  where
    numbered : All (λ (one : ℕ × X). (job : J) × (slice_get jobs one.0 ≡ Some job) × R one.0 job one.1) (enumerate_from 0 answers)
    numbered = All-permutation (λ (one : ℕ × X). (job : J) × (slice_get jobs one.0 ≡ Some job) × R one.0 job one.1) done (enumerate_from 0 answers) same are

    each : (k : ℕ) (d : X) → k < length answers → (job : J) × (slice_get jobs k ≡ Some job) × R (0 + k) job (get_or answers k d)
    each k d lt =
        let same_number : 0 + k ≡ k = omega arith in
        subst (λ (m : ℕ). (job : J) × (slice_get jobs m ≡ Some job) × R (0 + k) job (get_or answers k d)) same_number
        (subst (λ (one : ℕ × X). (job : J) × (slice_get jobs one.0 ≡ Some job) × R one.0 job one.1) (get_or-enumerate_from 0 answers k (0, d) lt) (numbered k (0, d) (omega (arith, lt, length-enumerate_from 0 answers))))

-- what holds for numbered jobs and their answers holds for the jobs
pub without_numbers : {J X : Type 0} (R : J → X → Type 0) (n : ℕ) (jobs : List J) (answers : List X) → AllZip (λ job x. R job.1 x) (enumerate_from n jobs) answers → AllZip R jobs answers
without_numbers R n [] [] zip = tt
without_numbers R n [] (x ∷ xs) zip = absurd zip
without_numbers R n (j ∷ js) [] zip = absurd zip
without_numbers R n (j ∷ js) (x ∷ xs) zip = (zip.0, without_numbers R (n + 1) js xs zip.1)

-- the answers of all turns are answers of the jobs
pub all_answers : {Y J X : Type 0} (R : ℕ → J → X → Type 0) (jobs : List J) (items : Y → List (ℕ × X)) (turns : List Y) → All (λ turn. AreAnswers R jobs (items turn)) turns → AreAnswers R jobs (flat_map items turns)
all_answers {Y} {J} {X} R jobs items [] all = All-nil (λ (one : ℕ × X). (job : J) × (slice_get jobs one.0 ≡ Some job) × R one.0 job one.1)
all_answers {Y} {J} {X} R jobs items (t ∷ ts) all =
    rw (flat_map-cons items t ts) (All-append (λ (one : ℕ × X). (job : J) × (slice_get jobs one.0 ≡ Some job) × R one.0 job one.1) (items t) (flat_map items ts)
    (All-head (λ turn. AreAnswers R jobs (items turn)) t ts all) (all_answers R jobs items ts (All-tail (λ turn. AreAnswers R jobs (items turn)) t ts all)))

-- what holds for each job and its answer, if no answer is an error, holds for each answer
pub all_of_zip : {A Y E : Type 0} (P : Y → Type 0) (jobs : List A) (parts : List (Result Y E)) (done : List Y) → AllZip (λ job part. IfOk part P) jobs parts → parts ≡ map Ok done → All P done × (length done ≡ length jobs)
all_of_zip {A} {Y} {E} P jobs parts done zip are = by jobs done (subst (AllZip (λ job part. IfOk part P) jobs) are zip)
  where
    by : (jobs : List A) (done : List Y) → AllZip (λ job (part : Result Y E). IfOk part P) jobs (map Ok done) → All P done × (length done ≡ length jobs)
    by [] [] zip = (All-nil P, refl)
    by [] (d ∷ ds) zip = absurd zip
    by (j ∷ js) [] zip = absurd zip
    by (j ∷ js) (d ∷ ds) zip = let more = by js ds zip.1 in (All-cons P d ds zip.0 more.0, omega (arith, more.1))
