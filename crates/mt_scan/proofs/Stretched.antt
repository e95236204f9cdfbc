-- Reading a log in stretches, which several threads check.
use Rattle.std.proofs.Common.{◌≡◌, ◌⊎◌, inl, inr, ◌∙◌, ℕ, zero, suc, ◌+◌, ◌<◌, ◌≤◌, ◌^◌, Bool, true, false, IsTrue, Option, Some, None, Result, Ok, Err, List, [], ◌∷◌, ◌++◌, length, map, take, drop, refl, sym, ap, subst, append_assoc, arith}
use Rattle.std.specs.Prelude.{MatchBool, nat_lt, slice_index_or}
use Rattle.std.specs.Fn.{Shared}
use Rattle.std.specs.Fork.{GivesJobs}
use Rattle.std.specs.List.{AllZip, All}
use Rattle.std.specs.Result.{IfOk, IfErr, IsErr}
use Rattle.std.specs.Io.KnownBytes.{Consumes}
use Rattle.mt_words.specs.declared.fault.Fault.{Fault}
use Rattle.mt_words.specs.declared.fault.Fault.TheVariants as faults
use Rattle.std.proofs.lemmas.Bool.{false≢true}
use Rattle.std.proofs.lemmas.Bool.Decides.{nat_tests}
use Rattle.std.proofs.lemmas.List.{append-nil, length-append, length-take-le, nil_from_length}
use Rattle.std.proofs.lemmas.List.Elements.{All-nil, All-cons, All-head, All-tail}
use Rattle.mt_words.specs.Changes.{Logged}
use Rattle.mt_words.specs.Walks.{joined}
use Rattle.mt_record.specs.LogFeeding.{FedLog, IsLogFed, IsFedBehind}
use Rattle.mt_scan.specs.Sources.{Seen, Agrees}
use Rattle.mt_scan.specs.Scans.{OfTold, IsScanFault, IsLogVerdict}
use Rattle.mt_scan.specs.declared.log_scan.LogScan.{LogScan}
use Rattle.mt_scan.specs.Advancing.{HandsOut}
use Rattle.mt_scan.specs.declared.dropping_feed.DroppingFeed.{DroppingFeed}
use Rattle.mt_scan.specs.declared.by_workers.Checked.{Checked}
use Rattle.mt_scan.specs.declared.stretches.Reader.{Reader}
use Rattle.mt_scan.specs.Steps.DroppingFeeds.{IsFedBelow, HasStopped}
use Rattle.mt_scan.specs.Steps.Feeding.{AreFew, IsFedAbove}
use Rattle.mt_scan.specs.Steps.Stretches.{HasReturned, IsOver, most_left, left_in, ReadsOn, IsRead, IsAhead, IsChecked}
use Rattle.mt_scan.proofs.Telling.{some_bytes, goes_on, handed_out, all_handed_out}
use Rattle.mt_scan.proofs.Steps.{faulty}
use Rattle.mt_scan.proofs.DroppingFeeds.{stays_fed}

-- ---- reading

-- the bytes of stretches and of one more
pub joined_push : {X : Type 0} (f : X → List ℕ) (xs : List X) (x : X) → joined (map f (xs ++ x ∷ [])) ≡ joined (map f xs) ++ f x
joined_push f [] x = append-nil (f x)
joined_push f (y ∷ ys) x = ap (λ (l : List ℕ). f y ++ l) (joined_push f ys x) ∙ sym (append_assoc (f y) (joined (map f ys)) (f x))

-- the bytes of no stretch
pub none_joined : {X : Type 0} (f : X → List ℕ) (xs : List X) → length xs ≡ 0 → joined (map f xs) ≡ []
none_joined f [] none = refl
none_joined f (x ∷ xs) none = absurd (omega (arith, none))

-- some stretches are left
pub some_left : {X : Type 0} (f : X → List ℕ) (xs : List X) → (xs ≡ [] → ⊥) → 0 < length (map f xs)
some_left f [] some = absurd (some refl)
some_left f (x ∷ xs) some = omega arith

-- one more stretch, which is not empty
pub some_pushed : {X : Type 0} (f : X → List ℕ) (xs : List X) (x : X) → length xs ≤ length (joined (map f xs)) → (f x ≡ [] → ⊥) → length (xs ++ x ∷ []) ≤ length (joined (map f (xs ++ x ∷ [])))
some_pushed f xs x some more = omega (arith, some, long (f x) more, length-append xs (x ∷ []), ap length (joined_push f xs x), length-append (joined (map f xs)) (f x))
  where
    long : (l : List ℕ) → (l ≡ [] → ⊥) → 0 < length l
    long [] more = absurd (more refl)
    long (b ∷ bs) more = omega arith

-- whether a chunk came
pub piece_more : (count bound was : ℕ) (P : Type 0) → bound + count ≤ was → (count ≡ 0 → P) → MatchBool (nat_lt 0 count) (bound < was) P
piece_more count bound was P falls none = by (nat_lt 0 count) refl
  where
    by : (b : Bool) → nat_lt 0 count ≡ b → MatchBool b (bound < was) P
    by true e =
        let some : 0 < count = grind (arith, nat_tests, e) in
        omega (arith, falls, some)
    by false e = none (grind (arith, nat_tests, e))

-- no bytes came, though some were wanted
pub over_at : {S : Type 0} (least : ℕ) (reader : Reader S) → 0 < least → least ≤ length reader.rest.items ⊎ (reader.rest.items ≡ [] → IsOver reader) → length reader.rest.items ≡ 0 → IsOver reader
over_at least reader some (inl full) none = absurd (omega (arith, some, full, none))
over_at least reader some (inr over) none = over (nil_from_length reader.rest.items none)

module _ {S : Type 0} (seen : S → Seen) where
  -- nothing was read
  pub begins : (reader : Reader S) → reader.rest.items ≡ [] → reader.ended ≡ false → reader.failed ≡ false → HasReturned seen (seen reader.source) reader []
  begins reader rest going sound = record {
    last = seen reader.source;
    is_last = λ _. refl;
    returned = subst (λ (l : List ℕ). Consumes (seen reader.source).told (seen reader.source).told l) (sym rest) (nothing (seen reader.source).told);
    few = λ small. omega (arith, small, ap length rest);
    end = λ is. absurd (false≢true (sym going ∙ is));
    steady = λ is. (is, sound);
  }
    where
      nothing : (told : Option (List ℕ)) → Consumes told told []
      nothing None = tt
      nothing (Some told) = refl

  -- nothing more was read
  pub reads_none : (reader : Reader S) → ReadsOn seen reader reader []
  reads_none reader = record { returned = λ first before h. subst (HasReturned seen first reader) (sym (append-nil before)) h; falls = omega arith }

  pub reads_both : (a b c : Reader S) (xs ys : List ℕ) → ReadsOn seen a b xs → ReadsOn seen b c ys → ReadsOn seen a c (xs ++ ys)
  reads_both a b c xs ys f g = record {
    returned = λ first before h. subst (HasReturned seen first c) (append_assoc before xs ys) (g.returned first (before ++ xs) (f.returned first before h));
    falls = omega (arith, f.falls, g.falls, length-append xs ys);
  }

  -- the bytes left, if the failures are the same
  same_left : (old new : Reader S) (more : ℕ) → new.failed ≡ old.failed → (seen new.source).bound ≡ (seen old.source).bound → length old.rest.items ≡ more + length new.rest.items → left_in seen new + more ≤ left_in seen old
  same_left old new more failed bound long =
      subst (λ (b : Bool). most_left b (seen new.source).bound (length new.rest.items) + more ≤ most_left old.failed (seen old.source).bound (length old.rest.items)) (sym failed) (by old.failed)
    where
      by : (b : Bool) → most_left b (seen new.source).bound (length new.rest.items) + more ≤ most_left b (seen old.source).bound (length old.rest.items)
      by false = omega (arith, bound, long)
      by true = omega (arith, long)

  -- a stretch was cut off
  pub cut_off : (old new : Reader S) (stretch : List ℕ) → new.source ≡ old.source → new.ended ≡ old.ended → new.failed ≡ old.failed → old.rest.items ≡ stretch ++ new.rest.items → ReadsOn seen old new stretch
  cut_off old new stretch source ended failed joins = record {
    returned = λ first before h.
        let all : before ++ old.rest.items ≡ (before ++ stretch) ++ new.rest.items = ap (λ (l : List ℕ). before ++ l) joins ∙ sym (append_assoc before stretch new.rest.items) in
        record {
          last = h.last;
          is_last = λ sound. h.is_last (sym failed ∙ sound) ∙ ap seen (sym source);
          returned = subst (Consumes first.told h.last.told) all h.returned;
          few = subst (AreFew h.last) all h.few;
          end = λ is. h.end (sym ended ∙ is);
          steady = λ is. ((h.steady is).0, failed ∙ (h.steady is).1);
        };
    falls = same_left old new (length stretch) failed (ap (λ (s : S). (seen s).bound) source) (ap length joins ∙ length-append stretch new.rest.items);
  }

  -- nothing but the cutter has changed since
  pub then_same : (a b c : Reader S) → ReadsOn seen a b [] → c.source ≡ b.source → c.ended ≡ b.ended → c.failed ≡ b.failed → c.rest.items ≡ b.rest.items → ReadsOn seen a c []
  then_same a b c reads source ended failed rest = reads_both a b c [] [] reads (cut_off b c [] source ended failed (sym rest))

  -- the source failed
  pub fails_now : (old new : Reader S) → new.rest.items ≡ old.rest.items → new.ended ≡ old.ended → new.failed ≡ true → old.failed ≡ false → (IsTrue (seen old.source).steady → ⊥) → ReadsOn seen old new []
  fails_now old new rest ended failed sound unsteady = record {
    returned = λ first before h.
        let all : before ++ old.rest.items ≡ (before ++ []) ++ new.rest.items = ap (λ (l : List ℕ). before ++ l) (sym rest) ∙ ap (λ (l : List ℕ). l ++ new.rest.items) (sym (append-nil before)) in
        record {
          last = h.last;
          is_last = λ is. absurd (false≢true (sym is ∙ failed));
          returned = subst (Consumes first.told h.last.told) all h.returned;
          few = subst (AreFew h.last) all h.few;
          end = λ is. h.end (sym ended ∙ is);
          steady = λ is. absurd (unsteady (subst (λ (s : Seen). IsTrue s.steady) (h.is_last sound) (h.steady is).0));
        };
    falls = subst (λ (b : Bool). most_left b (seen new.source).bound (length new.rest.items) + 0 ≤ left_in seen old) (sym failed)
        (subst (λ (b : Bool). length new.rest.items + 0 ≤ most_left b (seen old.source).bound (length old.rest.items)) (sym sound) (omega (arith, ap length rest)));
  }

  -- the source returned a chunk, or has ended
  pub reads_piece : (old new : Reader S) (count : ℕ) (piece : List ℕ) → HandsOut (seen old.source) (seen new.source) count → piece ≡ (seen new.source).shown → new.rest.items ≡ old.rest.items ++ piece → new.failed ≡ old.failed → old.failed ≡ false
      → (IsTrue new.ended → count ≡ 0) → (seen old.source).bound < 2 ^ 64 → (IsTrue (seen old.source).steady → IsTrue (seen new.source).steady) → ReadsOn seen old new []
  reads_piece old new count piece out shown rest failed sound ends bounded steady = record {
    returned = λ first before h.
        let was = h.is_last sound in
        let front = before ++ old.rest.items in
        let all : front ++ piece ≡ (before ++ []) ++ new.rest.items =
        append_assoc before old.rest.items piece ∙ ap (λ (l : List ℕ). before ++ l) (sym rest) ∙ ap (λ (l : List ℕ). l ++ new.rest.items) (sym (append-nil before)) in
        let few : AreFew (seen old.source) front = subst (λ (s : Seen). AreFew s front) was h.few in
        let before_piece : Consumes first.told (seen old.source).told front = subst (λ (s : Seen). Consumes first.told s.told front) was h.returned in
        record {
          last = seen new.source;
          is_last = λ _. refl;
          returned = subst (Consumes first.told (seen new.source).told) all
              (goes_on first.told (seen old.source).told (seen new.source).told front piece before_piece (subst (Consumes (seen old.source).told (seen new.source).told) (sym shown) out.next));
          few = λ _. omega (arith, few bounded, out.falls, size, ap length all, length-append front piece);
          end = λ is. (out.at_end (ends is), omega (arith, out.falls, bounded));
          steady = λ is. (steady (subst (λ (s : Seen). IsTrue s.steady) was (h.steady is).0), failed ∙ sound);
        };
    falls = subst (λ (b : Bool). most_left b (seen new.source).bound (length new.rest.items) + 0 ≤ left_in seen old) (sym (failed ∙ sound))
        (subst (λ (b : Bool). ((seen new.source).bound + length new.rest.items) + 0 ≤ most_left b (seen old.source).bound (length old.rest.items)) (sym sound)
        (omega (arith, out.falls, size, ap length rest, length-append old.rest.items piece)));
  }
    where
      size : length piece ≡ count
      size = ap length shown ∙ out.shown

-- nothing is cut off from nothing
pub none_cut : {S : Type 0} (old new : Reader S) (stretch : List ℕ) (size : ℕ) → new.ended ≡ old.ended → new.failed ≡ old.failed → stretch ≡ take size old.rest.items → new.rest.items ≡ drop size old.rest.items → size ≤ length old.rest.items
    → (size ≡ 0 → IsOver old) → stretch ≡ [] → IsOver new
none_cut old new stretch size ended failed is rest within none empty =
    let zero_size : size ≡ 0 = sym (length-take-le size old.rest.items within) ∙ ap length (sym is ∙ empty) in
    let over = none zero_size in
    (rest ∙ ap (λ (l : List ℕ). drop size l) over.0 ∙ nothing size, same over.1)
  where
    nothing : (n : ℕ) → drop {A = ℕ} n [] ≡ []
    nothing zero = refl
    nothing (suc n) = refl

    same : IsTrue old.ended ⊎ IsTrue old.failed → IsTrue new.ended ⊎ IsTrue new.failed
    same (inl is) = inl (ended ∙ is)
    same (inr is) = inr (failed ∙ is)

-- ---- stretches that were checked

-- if each call gives R, R holds for all jobs and their answers
pub zip_of_jobs : {A B F : Type 0} (R : A → B → Type 0) (g : Shared F (A × Unit {0}) B) (f : F) (xs : List A) (ys : List B) → length ys ≡ length xs → GivesJobs g f xs ys → ((x : A) (y : B) → g.post f (x, tt) y → R x y) → AllZip R xs ys
zip_of_jobs {A} {B} R g f xs ys long gives each = zip_by_index R xs ys long (λ i x y lt p q.
    let given = (gives i y lt).1 in
    let same : given.job ≡ x = sym (given.job_is x) ∙ sym p in
    let met : g.post f (given.job, tt) y = subst (λ (b : B). g.post f (given.job, tt) b) (sym q) given.call.met in
    each x y (subst (λ (a : A). g.post f (a, tt) y) same met))
  where
    zip_by_index : {A B : Type 0} (R : A → B → Type 0) (xs : List A) (ys : List B) → length ys ≡ length xs → ((i : ℕ) (x : A) (y : B) → i < length xs → x ≡ slice_index_or xs i x → y ≡ slice_index_or ys i y → R x y) → AllZip R xs ys
    zip_by_index R [] [] long each = tt
    zip_by_index R [] (y ∷ ys) long each = absurd (omega (arith, long))
    zip_by_index R (x ∷ xs) [] long each = absurd (omega (arith, long))
    zip_by_index R (x ∷ xs) (y ∷ ys) long each =
        (each 0 x y (omega arith) refl refl, zip_by_index R xs ys (omega (arith, long)) (λ i a b lt p q. each (suc i) a b (omega (arith, lt)) p q))

-- the bytes of stretches that were checked are those of the stretches
pub same_bytes : {X : Type 0} (f : X → List ℕ) (feed : DroppingFeed) (stretches : List X) (checked : List Checked) → AllZip (λ stretch one. IsChecked feed (f stretch) one) stretches checked
    → joined (map (λ (one : Checked). one.bytes.items) checked) ≡ joined (map f stretches)
same_bytes f feed [] [] zip = refl
same_bytes f feed [] (c ∷ cs) zip = absurd zip
same_bytes f feed (s ∷ ss) [] zip = absurd zip
same_bytes f feed (s ∷ ss) (c ∷ cs) zip = (λ i. zip.0.same i ++ same_bytes f feed ss cs zip.1 i)

-- what was read ahead was read behind a header
pub all_ahead : {X : Type 0} (f : X → List ℕ) (feed : DroppingFeed) (limit : ℕ) (bytes : List ℕ) → IsFedBelow feed limit bytes → (stretches : List X) (checked : List Checked) → AllZip (λ stretch one. IsChecked feed (f stretch) one) stretches checked
    → All IsAhead checked
all_ahead f feed limit bytes fed [] [] zip = All-nil IsAhead
all_ahead f feed limit bytes fed [] (c ∷ cs) zip = absurd zip
all_ahead f feed limit bytes fed (s ∷ ss) [] zip = absurd zip
all_ahead f feed limit bytes fed (s ∷ ss) (c ∷ cs) zip = All-cons IsAhead c cs (zip.0.ahead limit bytes fed) (all_ahead f feed limit bytes fed ss cs zip.1)

-- a feed that began behind a header was fed a stretch
pub fed_behind : (begun now : FedLog) (bytes : List ℕ) → IsFedBehind begun [] → ((text : List ℕ) (taken : List Logged) → IsLogFed begun text taken → IsLogFed now (text ++ bytes) taken) → IsFedBehind now bytes
fed_behind begun now bytes behind feeds = record {
  header = behind.header;
  is_header = behind.is_header;
  fed = subst (λ (l : List ℕ). IsLogFed now (l ++ bytes) []) (append-nil behind.header) (feeds (behind.header ++ []) [] behind.fed);
}

-- ---- feeding

-- what holds of all holds of one of them
pub one_of : {X : Type 0} (P : X → Type 0) (xs ys all : List X) (x : X) → xs ++ x ∷ ys ≡ all → All P all → P x
one_of P [] ys all x is holds = All-head P x ys (subst (All P) (sym is) holds)
one_of P (z ∷ zs) ys all x is holds = one_of P zs ys (zs ++ x ∷ ys) x refl (All-tail P z (zs ++ x ∷ ys) (subst (All P) (sym is) holds))

-- the bytes of stretches, one of which stands between others
joined_split : {X : Type 0} (f : X → List ℕ) (xs ys all : List X) (x : X) → xs ++ x ∷ ys ≡ all → joined (map f all) ≡ (joined (map f xs) ++ f x) ++ joined (map f ys)
joined_split {X} f xs ys all x is = ap (λ (l : List X). joined (map f l)) (sym is) ∙ by xs
  where
    by : (l : List X) → joined (map f (l ++ x ∷ ys)) ≡ (joined (map f l) ++ f x) ++ joined (map f ys)
    by [] = refl
    by (z ∷ zs) = ap (λ (l : List ℕ). f z ++ l) (by zs) ∙ sym (append_assoc (f z) (joined (map f zs) ++ f x) (joined (map f ys))) ∙ ap (λ (l : List ℕ). l ++ joined (map f ys)) (sym (append_assoc (f z) (joined (map f zs)) (f x)))

-- one more stretch was fed
pub fed_more : {X : Type 0} (f : X → List ℕ) (limit : ℕ) (feed : DroppingFeed) (bytes piece : List ℕ) (xs : List X) (x : X) → piece ≡ f x → IsFedBelow feed limit ((bytes ++ joined (map f xs)) ++ piece)
    → IsFedAbove limit feed (bytes ++ joined (map f (xs ++ x ∷ [])))
fed_more f limit feed bytes piece xs x is fed =
    let all : (bytes ++ joined (map f xs)) ++ piece ≡ bytes ++ joined (map f (xs ++ x ∷ [])) =
    ap (λ (l : List ℕ). (bytes ++ joined (map f xs)) ++ l) is ∙ append_assoc bytes (joined (map f xs)) (f x) ∙ ap (λ (l : List ℕ). bytes ++ l) (sym (joined_push f xs x)) in
    (limit, omega arith, subst (IsFedBelow feed limit) all fed)

-- no stretch is left
pub fed_to_end : {X : Type 0} (f : X → List ℕ) (limit : ℕ) (feed : DroppingFeed) (bytes : List ℕ) (xs left all : List X) → xs ++ left ≡ all → length left ≡ 0 → IsFedAbove limit feed (bytes ++ joined (map f xs)) → IsFedAbove limit feed (bytes ++ joined (map f all))
fed_to_end {X} f limit feed bytes xs [] all whole end fed = subst (λ (l : List X). IsFedAbove limit feed (bytes ++ joined (map f l))) (sym (append-nil xs) ∙ whole) fed
fed_to_end f limit feed bytes xs (y ∷ ys) all whole end fed = absurd (omega (arith, end))

-- a stretch showed a fault, and so the feed needs none of the others
pub fed_enough : {X : Type 0} (f : X → List ℕ) (limit : ℕ) (feed : DroppingFeed) (bytes piece : List ℕ) (xs ys all : List X) (x : X) → piece ≡ f x → xs ++ x ∷ ys ≡ all → HasStopped feed
    → IsFedBelow feed limit ((bytes ++ joined (map f xs)) ++ piece) → IsFedAbove limit feed (bytes ++ joined (map f all))
fed_enough f limit feed bytes piece xs ys all x same is stopped fed =
    let joins : ((bytes ++ joined (map f xs)) ++ piece) ++ joined (map f ys) ≡ bytes ++ joined (map f all) =
    ap (λ (l : List ℕ). ((bytes ++ joined (map f xs)) ++ l) ++ joined (map f ys)) same ∙ ap (λ (l : List ℕ). l ++ joined (map f ys)) (append_assoc bytes (joined (map f xs)) (f x))
    ∙ append_assoc bytes (joined (map f xs) ++ f x) (joined (map f ys)) ∙ ap (λ (l : List ℕ). bytes ++ l) (sym (joined_split f xs ys all x is)) in
    (limit, omega arith, subst (IsFedBelow feed limit) joins (stays_fed feed limit ((bytes ++ joined (map f xs)) ++ piece) (joined (map f ys)) stopped fed))

-- ---- rounds

-- The source, which `first` was, has returned bytes that were fed with this limit or a higher one, and then these stretches, none of which is empty. There
-- is none only if no bytes are left.
pub record IsUnderWay {S : Type 0} (seen : S → Seen) (first : Seen) (limit : ℕ) (feed : DroppingFeed) (reader : Reader S) (stretches : List (List ℕ)) : Type 0 where
  pub bytes : List ℕ
  pub fed : IsFedAbove limit feed bytes
  pub returned : HasReturned seen first reader (bytes ++ joined stretches)
  pub some : length stretches ≤ length (joined stretches)
  pub none : stretches ≡ [] → IsOver reader

-- all stretches were fed
pub all_checked : {X : Type 0} (f : X → List ℕ) (limit : ℕ) (old feed : DroppingFeed) (bytes : List ℕ) (stretches : List X) (checked : List Checked) → AllZip (λ stretch one. IsChecked old (f stretch) one) stretches checked
    → IsFedAbove limit feed (bytes ++ joined (map (λ (one : Checked). one.bytes.items) checked)) → IsFedAbove limit feed (bytes ++ joined (map f stretches))
all_checked f limit old feed bytes stretches checked zip fed = subst (λ (l : List ℕ). IsFedAbove limit feed (bytes ++ l)) (same_bytes f old stretches checked zip) fed

module _ {S : Type 0} (seen : S → Seen) (first : Seen) where
  -- the header was read
  pub first_round : (limit : ℕ) (feed : DroppingFeed) (old reader : Reader S) (stretches : List (List ℕ)) → IsFedBelow feed limit [] → HasReturned seen first old [] → IsRead seen old reader stretches
      → IsUnderWay seen first limit feed reader stretches
  first_round limit feed old reader stretches fed returned read =
      record { bytes = []; fed = (limit, omega arith, fed); returned = read.reads.returned first [] returned; some = read.some; none = read.none }

  -- all stretches were fed, and further ones were read
  pub next_round : (was limit : ℕ) (old feed : DroppingFeed) (reader next : Reader S) (stretches read : List (List ℕ)) → (h : IsUnderWay seen first was old reader stretches) → limit ≤ was
      → IsFedAbove was feed (h.bytes ++ joined stretches) → IsRead seen reader next read → IsUnderWay seen first limit feed next read
  next_round was limit old feed reader next stretches read h low fed reads = record {
    bytes = h.bytes ++ joined stretches;
    fed = (fed.0, omega (arith, low, fed.1), fed.2);
    returned = reads.reads.returned first (h.bytes ++ joined stretches) h.returned;
    some = reads.some;
    none = reads.none;
  }

  -- no stretch is left, and the source has not failed: all its bytes were fed
  pub all_fed : (limit : ℕ) (feed : DroppingFeed) (reader : Reader S) (stretches : List (List ℕ)) → IsUnderWay seen first limit feed reader stretches → stretches ≡ [] → reader.failed ≡ false
      → OfTold first.told (λ bytes. IsFedAbove limit feed bytes × (length bytes < 2 ^ 64))
  all_fed limit feed reader stretches h empty sound =
      let over = h.none empty in
      let returned = h.returned in
      let all : (h.bytes ++ joined stretches) ++ reader.rest.items ≡ h.bytes =
      (λ i. (h.bytes ++ joined (empty i)) ++ over.0 i) ∙ append-nil (h.bytes ++ []) ∙ append-nil h.bytes in
      let end = returned.end (ended over.1) in
      let few : returned.last.bound + length h.bytes < 2 ^ 64 = subst (λ (l : List ℕ). returned.last.bound + length l < 2 ^ 64) all (returned.few end.1) in
      (h.bytes, all_handed_out first.told returned.last.told h.bytes (subst (Consumes first.told returned.last.told) all returned.returned) end.0, (h.fed, omega (arith, few)))
    where
      ended : IsTrue reader.ended ⊎ IsTrue reader.failed → IsTrue reader.ended
      ended (inl is) = is
      ended (inr is) = absurd (false≢true (sym sound ∙ is))

  -- a stretch showed a fault: it is that of all bytes that the source may have
  pub enough_fed : (was limit : ℕ) (old feed : DroppingFeed) (reader : Reader S) (stretches : List (List ℕ)) → (h : IsUnderWay seen first was old reader stretches) → IsFedAbove limit feed (h.bytes ++ joined stretches)
      → HasStopped feed → OfTold first.told (λ bytes. IsFedAbove limit feed bytes)
  enough_fed was limit old feed reader stretches h fed stopped =
      let front = h.bytes ++ joined stretches in
      let rest = handed_out first.told h.returned.last.told (front ++ reader.rest.items) h.returned.returned in
      let joins = append_assoc front reader.rest.items rest.0 in
      (front ++ (reader.rest.items ++ rest.0), subst (Agrees first.told) joins rest.1, (fed.0, fed.1, stays_fed feed fed.0 front (reader.rest.items ++ rest.0) stopped fed.2))

-- ---- answers

-- out of memory is a fault of every scan
pub memory_fault : (log : ℕ) (told : Option (List ℕ)) (fault : Fault) → fault ≡ faults.Memory → OfTold told (λ bytes. IsScanFault log bytes fault)
memory_fault log told fault is =
    let some = some_bytes told in
    (some.0, some.1, subst (IsScanFault log some.0) (sym is) tt)

-- so is a source that failed
pub source_fault : (log : ℕ) (told : Option (List ℕ)) → OfTold told (λ bytes. IsScanFault log bytes (faults.Source log))
source_fault log told =
    let some = some_bytes told in
    (some.0, some.1, refl)

-- the fault of a feed that has stopped is the fault of the scan
pub stopped_fault : (log limit : ℕ) (told : Option (List ℕ)) (feed : DroppingFeed) (answer : Result LogScan Fault) → OfTold told (λ bytes. IsFedAbove limit feed bytes)
    → ((limit : ℕ) (bytes : List ℕ) → IsFedBelow feed limit bytes → IfErr answer (IsLogVerdict log bytes)) → IfErr answer (λ fault. OfTold told (λ bytes. IsScanFault log bytes fault))
stopped_fault log limit told feed answer all verdict = faulty log told all.0 answer all.1 (verdict all.2.0 all.0 all.2.2)

-- a feed that has stopped gives no scan
pub stopped_scan : (answer : Result LogScan Fault) (P : LogScan → Type 0) → IsErr answer → IfOk answer P
stopped_scan (Ok scan) P errs = absurd (false≢true errs)
stopped_scan (Err fault) P errs = tt
