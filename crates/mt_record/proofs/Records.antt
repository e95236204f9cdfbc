-- Records, one after the other, and the greatest of their timestamps.
use Rattle.std.proofs.Common.{◌≡◌, ◌⊎◌, inl, inr, ℕ, zero, suc, ◌<◌, ◌≤◌, List, [], ◌∷◌, ◌++◌, length, max, map, refl, ap, rules, arith}
use Rattle.std.proofs.lemmas.Bool.{cases_lt, false≢true}
use Rattle.std.proofs.lemmas.List.Elements.{All-nil, All-cons, All-weaker, Contains-append_right}
use Rattle.std.specs.Prelude.{◌↔◌, ◌==◌, Bool, not, IsTrue, Contains, All}
use Rattle.mt_words.specs.declared.limits.Limits.{Limits}
use Rattle.mt_words.specs.Changes.{Logged, IsLawful}
use Rattle.mt_record.specs.Logs.{AreRecords, latest, LogReading, IsTorn}
use Rattle.mt_record.specs.LogTexts.{version_of, versions_of, greatest, IsLast}

-- ---- one more record

-- a lawful record whose timestamp does not fall may follow the others
pub records_push : (limits : Limits) (low : ℕ) (rs : List Logged) (r : Logged) → AreRecords limits low rs → IsLawful limits r → latest low rs ≤ r.timestamp
    → AreRecords limits low (rs ++ r ∷ [])
records_push limits low [] r are lawful rises = (lawful, rises, tt)
records_push limits low (s ∷ rs) r are lawful rises = (are.0, are.1, records_push limits s.timestamp rs r are.2 lawful rises)

-- after one more record, its timestamp is the last
pub latest_push : (low : ℕ) (rs : List Logged) (r : Logged) → latest low (rs ++ r ∷ []) ≡ r.timestamp
latest_push low [] r = refl
latest_push low (s ∷ rs) r = latest_push s.timestamp rs r

-- after one more record, the greatest version is its version or the greatest before it
pub greatest_push : (rs : List Logged) (r : Logged) → greatest (versions_of (rs ++ r ∷ [])) ≡ max (greatest (versions_of rs)) (version_of r.change)
greatest_push [] r = omega arith
greatest_push (s ∷ rs) r = omega (arith, greatest_push rs r)

-- ---- the greatest timestamp

-- the timestamps of records
abbrev times : List Logged → List ℕ
times rs = map (λ r. r.timestamp) rs

-- the last timestamp is at least `low`
pub latest_least : (limits : Limits) (low : ℕ) (rs : List Logged) → AreRecords limits low rs → low ≤ latest low rs
latest_least limits low [] are = omega arith
latest_least limits low (r ∷ rs) are = omega (arith, are.1, latest_least limits r.timestamp rs are.2)

-- no timestamp is above the last one
latest_most : (limits : Limits) (low : ℕ) (rs : List Logged) → AreRecords limits low rs → All (λ time. time ≤ latest low rs) (times rs)
latest_most limits low [] are = All-nil (λ time. time ≤ low)
latest_most limits low (r ∷ rs) are =
    All-cons (λ time. time ≤ latest r.timestamp rs) r.timestamp (times rs) (latest_least limits r.timestamp rs are.2) (latest_most limits r.timestamp rs are.2)

-- the first element of a list is in it
first_in : (x : ℕ) (xs : List ℕ) → Contains (x ∷ xs) x
first_in x xs = (0, omega arith, refl)

-- an element of a list is still in it when another is put in front
behind : (y : ℕ) (xs : List ℕ) (x : ℕ) → Contains xs x → Contains (y ∷ xs) x
behind y xs x is = Contains-append_right (y ∷ []) xs x is

-- the last timestamp is `low` or one of the timestamps
latest_in : (low : ℕ) (rs : List Logged) → Contains (low ∷ times rs) (latest low rs)
latest_in low [] = first_in low []
latest_in low (r ∷ rs) = behind low (times (r ∷ rs)) (latest r.timestamp rs) (latest_in r.timestamp rs)

-- the greater of `from` and n is still in the list if `from` takes the place of 0
raised : (from n : ℕ) (xs : List ℕ) → Contains (0 ∷ xs) n → (from < n) ⊎ (n ≤ from) → Contains (from ∷ xs) (max from n)
raised from n xs is (inr most) = let same : max from n ≡ from = omega arith in rw same (first_in from xs)
raised from n xs (zero, lt, e) (inl above) = absurd (omega (arith, e, above))
raised from n xs (suc k, lt, e) (inl above) = let same : max from n ≡ n = omega arith in rw same (suc k, lt, e)

-- the greater of `from` and the last record's timestamp is the last timestamp of the log
pub last_is : (limits : Limits) (log : LogReading) → AreRecords limits 0 log.records → IsLast log (max log.head.from (latest 0 log.records))
last_is limits log are =
    let from = log.head.from in
    let n = latest 0 log.records in (
      raised from n (times log.records) (latest_in 0 log.records) (cases_lt from n),
      All-cons (λ time. time ≤ max from n) from (times log.records) (omega arith)
          (All-weaker (λ time. time ≤ n) (λ time. time ≤ max from n) (λ time least. omega arith) (times log.records) (latest_most limits 0 log.records are)),
    )

-- ---- the tail

-- a torn tail is not empty
pub torn_some : (limits : Limits) (rest : List ℕ) → IsTorn limits rest → 0 < length rest
torn_some limits rest (inl few) = few.0
torn_some limits rest (inr cut) = let all = ap length cut.spelled in omega (arith, all)

-- a tail that is empty or torn is torn exactly if it is not empty
pub tells_torn : (limits : Limits) (rest : List ℕ) (empty : Bool) → empty ≡ (length rest == 0) → (rest ≡ []) ⊎ IsTorn limits rest
    → IsTrue (not empty) ↔ IsTorn limits rest
tells_torn limits [] empty is ends = (λ some. absurd (false≢true (rw is at some)), λ torn. absurd (omega (arith, torn_some limits [] torn)))
tells_torn limits (byte ∷ bytes) empty is (inl none) = absurd (let number : suc (length bytes) ≡ 0 = ap length none in omega arith)
tells_torn limits (byte ∷ bytes) empty is (inr torn) = (λ some. torn, λ cut. rw is (search rules))
