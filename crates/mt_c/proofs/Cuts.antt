-- Pairs below an end, and keys that cut rising pairs.
use Rattle.std.proofs.Common.{◌≡◌, ◌≢◌, ℕ, zero, suc, ◌-◌, ◌<◌, ◌≤◌, Bool, true, false, true≢false, Some, None, List, [], ◌∷◌, ◌++◌, length, take, drop, refl, sym, ap, ◌∙◌, subst, arith}
use Rattle.std.specs.Prelude.{not}
use Rattle.std.specs.List.{AllByRecursion}
use Rattle.std.specs.Ordering.{nat_cmp, is_lt, ordering_reverse}
use Rattle.std.specs.Cmp.Lexicographic.{slice_cmp}
use Rattle.std.specs.declared.cmp.Ordering.{Ordering}
use Rattle.std.specs.declared.cmp.Ordering.TheVariants.{Less, Equal, Greater}
use Rattle.std.proofs.lemmas.List.Elements.{filter-append}
use Rattle.std.proofs.lemmas.Cmp.{nat_cmp_total, ranked}
use Rattle.mt_words.specs.Words.{IsBelow}
use Rattle.mt_words.proofs.KeyOrder.{below_trans, not_both}
use Rattle.mt_words.specs.Walks.{Pair, KeysRise}
use Rattle.mt_tree.specs.Range.{is_from, from}
use Rattle.mt_tree.specs.Trees.{IsCount}
use Rattle.mt_c.specs.Cuts.{is_until, until, key_at, pairs_before, BeginsRange}

-- ---- order of keys
is_not : (b : Bool) → (b ≡ true → ⊥) → b ≡ false
is_not true h = absurd (h refl)
is_not false h = refl

never_less : (key : List ℕ) → is_lt (slice_cmp nat_cmp key []) ≡ false
never_less [] = refl
never_less (k ∷ key) = refl

-- a key is below the least key after another one unless it is above that
next_key : (key x : List ℕ) → is_lt (slice_cmp nat_cmp x (key ++ 0 ∷ [])) ≡ not (is_lt (slice_cmp nat_cmp key x))
next_key [] [] = refl
next_key [] (a ∷ x) = by (nat_cmp a 0) refl
  where
    by : (o : Ordering) → nat_cmp a 0 ≡ o → is_lt (slice_cmp nat_cmp (a ∷ x) (0 ∷ [])) ≡ false
    by Less e = absurd (omega (arith, ranked a 0 Less (sym e)))
    by Equal e = rw e (never_less x)
    by Greater e = rw e refl
next_key (k ∷ key) [] = refl
next_key (k ∷ key) (a ∷ x) = by (next_key key x) (nat_cmp a k) refl
  where
    turned : (o : Ordering) → nat_cmp a k ≡ o → nat_cmp k a ≡ ordering_reverse o
    turned o e = nat_cmp_total.antisymm k a ∙ ap ordering_reverse e

    by : is_lt (slice_cmp nat_cmp x (key ++ 0 ∷ [])) ≡ not (is_lt (slice_cmp nat_cmp key x)) → (o : Ordering) → nat_cmp a k ≡ o
        → is_lt (slice_cmp nat_cmp (a ∷ x) ((k ∷ key) ++ 0 ∷ [])) ≡ not (is_lt (slice_cmp nat_cmp (k ∷ key) (a ∷ x)))
    by rest Less e = rw (e, turned Less e) refl
    by rest Equal e = rw (e, turned Equal e) rest
    by rest Greater e = rw (e, turned Greater e) refl

-- ---- an end
pub until_none : (pairs : List Pair) → until [] pairs ≡ pairs
until_none [] = refl
until_none (pair ∷ pairs) = ap (λ (ps : List Pair). pair ∷ ps) (until_none pairs)

pub until_some : (byte : ℕ) (rest key : List ℕ) → is_until (byte ∷ rest) key ≡ is_lt (slice_cmp nat_cmp key (byte ∷ rest))
until_some byte rest key = refl

until_next : (key x : List ℕ) → is_until (key ++ 0 ∷ []) x ≡ is_lt (slice_cmp nat_cmp x (key ++ 0 ∷ []))
until_next [] x = refl
until_next (k ∷ key) x = refl

-- a key above one that is not below the end is not
past_end : (end x y : List ℕ) → IsBelow x y → is_until end x ≡ false → is_until end y ≡ false
past_end [] x y less past = cc
past_end (byte ∷ rest) x y less past = is_not _ (λ (is : IsBelow y (byte ∷ rest)). true≢false (sym (below_trans x y (byte ∷ rest) less is) ∙ past))

all_past : (end x : List ℕ) (pairs : List Pair) → is_until end x ≡ false → AllByRecursion (λ other. IsBelow x other.0) pairs → until end pairs ≡ []
all_past end x [] past above = refl
all_past end x (pair ∷ pairs) past above = rw (past_end end x pair.0 above.0 past) (all_past end x pairs past above.1)

pub none_until : (end : List ℕ) (pair : Pair) (pairs : List Pair) → KeysRise (pair ∷ pairs) → is_until end pair.0 ≡ false → until end (pair ∷ pairs) ≡ []
none_until end pair pairs rise past = rw past (all_past end pair.0 pairs past rise.0)

pub one_until : (end : List ℕ) (pair : Pair) (pairs : List Pair) → is_until end pair.0 ≡ true → until end (pair ∷ pairs) ≡ pair ∷ until end pairs
one_until end pair pairs is = rw is refl

pub until-append : (end : List ℕ) (v w : List Pair) → until end (v ++ w) ≡ until end v ++ until end w
until-append end v w = filter-append (λ (pair : Pair). is_until end pair.0) v w

-- ---- rising pairs
pub rise_after : (v w : List Pair) → KeysRise (v ++ w) → KeysRise w
rise_after [] w rise = rise
rise_after (pair ∷ v) w rise = rise_after v w rise.1

pub rise_along : (v w : List Pair) → v ≡ w → KeysRise w → KeysRise v
rise_along v w same rise = subst KeysRise (sym same) rise

above_kept : (start x : List ℕ) (pairs : List Pair) → AllByRecursion (λ other. IsBelow x other.0) pairs → AllByRecursion (λ other. IsBelow x other.0) (from start pairs)
above_kept start x [] above = tt
above_kept start x (pair ∷ pairs) above = by (above_kept start x pairs above.1) (is_from start pair) refl
  where
    by : AllByRecursion (λ other. IsBelow x other.0) (from start pairs) → (b : Bool) → is_from start pair ≡ b → AllByRecursion (λ other. IsBelow x other.0) (from start (pair ∷ pairs))
    by rest true e = rw e (above.0, rest)
    by rest false e = rw e rest

pub rise_from : (start : List ℕ) (pairs : List Pair) → KeysRise pairs → KeysRise (from start pairs)
rise_from start [] rise = tt
rise_from start (pair ∷ pairs) rise = by (rise_from start pairs rise.1) (is_from start pair) refl
  where
    by : KeysRise (from start pairs) → (b : Bool) → is_from start pair ≡ b → KeysRise (from start (pair ∷ pairs))
    by rest true e = rw e (above_kept start pair.0 pairs rise.0, rest)
    by rest false e = rw e rest

-- ---- a key that cuts rising pairs
no_self : (key : List ℕ) → is_lt (slice_cmp nat_cmp key key) ≡ false
no_self key = is_not _ (λ (is : IsBelow key key). not_both key key is is)

not_after : (x key : List ℕ) → IsBelow x key → is_lt (slice_cmp nat_cmp key x) ≡ false
not_after x key less = is_not _ (not_both x key less)

-- after the key of a pair, none is at or before it
none_before : (key : List ℕ) (pairs : List Pair) → AllByRecursion (λ other. IsBelow key other.0) pairs → (until (key ++ 0 ∷ []) pairs ≡ []) × (from (key ++ 0 ∷ []) pairs ≡ pairs)
none_before key [] above = (refl, refl)
none_before key (pair ∷ pairs) above =
    let rest = none_before key pairs above.1 in
    let gone : is_until (key ++ 0 ∷ []) pair.0 ≡ false = until_next key pair.0 ∙ next_key key pair.0 ∙ ap not above.0 in
    let kept : is_from (key ++ 0 ∷ []) pair ≡ true = ap not (next_key key pair.0 ∙ ap not above.0) in
    (rw gone rest.0, rw kept (ap (λ (ps : List Pair). pair ∷ ps) rest.1))

-- the pair at this position has the key
abbrev HasAt : List Pair → ℕ → List ℕ → Type 0
HasAt pairs n key = key_at pairs n ≡ Some key

key_in : (x : List ℕ) (n : ℕ) (key : List ℕ) (pairs : List Pair) → AllByRecursion (λ other. IsBelow x other.0) pairs → HasAt pairs n key → IsBelow x key
key_in x n key [] above has = cc
key_in x zero key (pair ∷ pairs) above has = let same : pair.0 ≡ key = some_same has in subst (IsBelow x) same above.0
  where
    some_same : {a b : List ℕ} → Some a ≡ Some b → a ≡ b
    some_same e = cc
key_in x (suc n) key (pair ∷ pairs) above has = key_in x n key pairs above.1 has

cut_after : (n : ℕ) (key : List ℕ) (pairs : List Pair) → KeysRise pairs → HasAt pairs n key → (until (key ++ 0 ∷ []) pairs ≡ take (suc n) pairs) × (from (key ++ 0 ∷ []) pairs ≡ drop (suc n) pairs)
cut_after n key [] rise has = cc
cut_after zero key (pair ∷ pairs) rise has =
    let same : pair.0 ≡ key = cc in
    let rest = none_before key pairs (subst (λ (x : List ℕ). AllByRecursion (λ other. IsBelow x other.0) pairs) same rise.0) in
    let self : is_lt (slice_cmp nat_cmp key pair.0) ≡ false = ap (λ (x : List ℕ). is_lt (slice_cmp nat_cmp key x)) same ∙ no_self key in
    let kept : is_until (key ++ 0 ∷ []) pair.0 ≡ true = until_next key pair.0 ∙ next_key key pair.0 ∙ ap not self in
    let gone : is_from (key ++ 0 ∷ []) pair ≡ false = ap not (next_key key pair.0 ∙ ap not self) in
    (rw kept (ap (λ (ps : List Pair). pair ∷ ps) rest.0), rw gone rest.1)
cut_after (suc n) key (pair ∷ pairs) rise has =
    let rest = cut_after n key pairs rise.1 has in
    let before : is_lt (slice_cmp nat_cmp key pair.0) ≡ false = not_after pair.0 key (key_in pair.0 n key pairs rise.0 has) in
    let kept : is_until (key ++ 0 ∷ []) pair.0 ≡ true = until_next key pair.0 ∙ next_key key pair.0 ∙ ap not before in
    let gone : is_from (key ++ 0 ∷ []) pair ≡ false = ap not (next_key key pair.0 ∙ ap not before) in
    (rw kept (ap (λ (ps : List Pair). pair ∷ ps) rest.0), rw gone rest.1)

some_bytes : (key : List ℕ) → key ++ 0 ∷ [] ≢ []
some_bytes [] e = cc
some_bytes (k ∷ key) e = cc

-- ---- positions
pub at_length : (pairs : List Pair) (pair : Pair) → key_at (pairs ++ pair ∷ []) (length pairs) ≡ Some pair.0
at_length [] pair = refl
at_length (first ∷ pairs) pair = at_length pairs pair

pub at_before : (pairs more : List Pair) (n : ℕ) (key : List ℕ) → key_at pairs n ≡ Some key → key_at (pairs ++ more) n ≡ Some key
at_before [] more n key has = cc
at_before (pair ∷ pairs) more zero key has = has
at_before (pair ∷ pairs) more (suc n) key has = at_before pairs more n key has

pub none_at : (pairs : List Pair) (n : ℕ) → key_at pairs n ≡ None → length pairs ≤ n
none_at [] n none = omega arith
none_at (pair ∷ pairs) zero none = cc
none_at (pair ∷ pairs) (suc n) none = omega (arith, none_at pairs n none)

pub past_all : (pairs : List Pair) (n : ℕ) → length pairs ≤ n → key_at pairs n ≡ None
past_all [] n long = refl
past_all (pair ∷ pairs) zero long = absurd (omega (arith, long))
past_all (pair ∷ pairs) (suc n) long = past_all pairs n (omega (arith, long))

-- ---- where a range begins

-- the first begins at no bytes
pub begins_first : (pairs : List Pair) (count i n : ℕ) → IsCount pairs count → i ≡ 0 → BeginsRange pairs i n []
begins_first pairs count i n counted least = record {
  count = count;
  counted = counted;
  first = λ is. refl;
  other = λ is. absurd (omega (arith, is, least));
}

-- each other at the least key after that of the last pair before it
pub begins_after : (pairs : List Pair) (count i n : ℕ) (key : List ℕ) → KeysRise pairs → IsCount pairs count → 0 < i → 0 < pairs_before count i n → key_at pairs (pairs_before count i n - 1) ≡ Some key
    → BeginsRange pairs i n (key ++ 0 ∷ [])
begins_after pairs count i n key rise counted some before has =
    let cut = cut_after (pairs_before count i n - 1) key pairs rise has in
    let same : suc (pairs_before count i n - 1) ≡ pairs_before count i n = omega (arith, before) in
    record {
      count = count;
      counted = counted;
      first = λ is. absurd (omega (arith, is, some));
      other = λ is. record {
        some = some_bytes key;
        below = cut.0 ∙ ap (λ (m : ℕ). take m pairs) same;
        others = cut.1 ∙ ap (λ (m : ℕ). drop m pairs) same;
      };
    }

no_pairs : (pairs : List Pair) → length pairs ≡ 0 → pairs ≡ []
no_pairs [] none = refl
no_pairs (pair ∷ pairs) none = absurd (omega (arith, none))

-- of no pairs, at any key that has bytes
pub begins_empty : (pairs : List Pair) (count i n : ℕ) → IsCount pairs count → 0 < i → count ≡ 0 → BeginsRange pairs i n (0 ∷ [])
begins_empty pairs count i n counted some none =
    let no : pairs ≡ [] = no_pairs pairs (omega (arith, counted, none)) in
    record {
      count = count;
      counted = counted;
      first = λ is. absurd (omega (arith, is, some));
      other = λ is. record {
        some = λ (e : 0 ∷ [] ≡ []). cc;
        below = ap (until (0 ∷ [])) no ∙ sym (by (pairs_before count i n)).0 ∙ ap (λ (ps : List Pair). take (pairs_before count i n) ps) (sym no);
        others = ap (from (0 ∷ [])) no ∙ sym (by (pairs_before count i n)).1 ∙ ap (λ (ps : List Pair). drop (pairs_before count i n) ps) (sym no);
      };
    }
  where
    by : (m : ℕ) → (take m (let ps : List Pair = [] in ps) ≡ []) × (drop m (let ps : List Pair = [] in ps) ≡ [])
    by zero = (refl, refl)
    by (suc m) = (refl, refl)
