-- The entries of a map, which come in rising order of their keys.
use Rattle.std.proofs.Common.{◌≡◌, List, [], ◌∷◌, ◌++◌, Contains, subst}
use Rattle.std.specs.List.{AllByRecursion}
use Rattle.std.specs.List.Sorted.{IsStrictlySortedBy}
use Rattle.std.specs.declared.cmp.Ordering.{Ordering}
use Rattle.std.specs.declared.cmp.Ordering.TheVariants.{Less}
use Rattle.std.specs.Map.{keys_of}
use Rattle.std.proofs.lemmas.List.Elements.{All-contains, All-from_recursion}

first_below : {K V : Type 0} (cmp : K → K → Ordering) (e : K × V) (es : List (K × V)) (key : K) (value : V) (rest : List (K × V)) → AllByRecursion (λ (k : K). cmp e.0 k ≡ Less) (keys_of (es ++ (key, value) ∷ rest)) → cmp e.0 key ≡ Less
first_below cmp e [] key value rest all = all.0
first_below cmp e (f ∷ fs) key value rest all = first_below cmp e fs key value rest all.1

all_below : {K V : Type 0} (cmp : K → K → Ordering) (entries : List (K × V)) (key : K) (value : V) (rest : List (K × V)) → IsStrictlySortedBy cmp (keys_of (entries ++ (key, value) ∷ rest)) → AllByRecursion (λ (e : K × V). cmp e.0 key ≡ Less) entries
unfolding IsStrictlySortedBy
all_below cmp [] key value rest sorted = tt
all_below cmp (e ∷ es) key value rest sorted = (first_below cmp e es key value rest sorted.0, all_below cmp es key value rest sorted.1)

-- the entries before a key have smaller keys
pub keys_below : {K V : Type 0} (cmp : K → K → Ordering) (all entries : List (K × V)) (key : K) (value : V) (rest : List (K × V)) → IsStrictlySortedBy cmp (keys_of all) → all ≡ entries ++ (key, value) ∷ rest
    → (e : K × V) → Contains entries e → cmp e.0 key ≡ Less
keys_below {K} {V} cmp all entries key value rest sorted same e at =
    let every = all_below cmp entries key value rest (subst (λ (es : List (K × V)). IsStrictlySortedBy cmp (keys_of es)) same sorted) in
    All-contains (λ (x : K × V). cmp x.0 key ≡ Less) entries e (All-from_recursion (λ (x : K × V). cmp x.0 key ≡ Less) entries every) at
