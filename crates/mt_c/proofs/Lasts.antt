-- Two lists whose items belong together, one by one.
use Rattle.std.proofs.Common.{◌≡◌, ◌∙◌, List, [], ◌∷◌, ◌++◌, length, refl, sym, ap, subst, append-nil, arith}
use Rattle.std.specs.List.{AllZip}

-- if the second has one item more, so has the first
pub record HasLast {A B : Type 0} (R : A → B → Type 0) (xs : List A) (ys : List B) (y : B) : Type 0 where
  pub front : List A
  pub last : A
  pub split : xs ≡ front ++ last ∷ []
  pub are : AllZip R front ys
  pub is : R last y

pub has_last : {A B : Type 0} (R : A → B → Type 0) (xs : List A) (ys : List B) (y : B) → AllZip R xs (ys ++ y ∷ []) → HasLast R xs ys y
has_last R [] [] y all = absurd all
has_last R [] (b ∷ bs) y all = absurd all
has_last R (x ∷ []) [] y all = record { front = []; last = x; split = refl; are = tt; is = all.0 }
has_last R (x ∷ z ∷ xs) [] y all = absurd all.1
has_last {A} R (x ∷ xs) (b ∷ bs) y all =
    let rest = has_last R xs bs y all.1 in
    record { front = x ∷ rest.front; last = rest.last; split = ap (λ (l : List A). x ∷ l) rest.split; are = (all.0, rest.are); is = rest.is }

-- both get one item more
pub push_last : {A B : Type 0} (R : A → B → Type 0) (xs : List A) (ys : List B) (x : A) (y : B) → AllZip R xs ys → R x y → AllZip R (xs ++ x ∷ []) (ys ++ y ∷ [])
push_last R [] [] x y all is = (is, tt)
push_last R [] (b ∷ bs) x y all is = absurd all
push_last R (z ∷ zs) [] x y all is = absurd all
push_last R (z ∷ zs) (b ∷ bs) x y all is = (all.0, push_last R zs bs x y all.1 is)

-- if the second has none, the first has none
pub none_more : {A B : Type 0} (R : A → B → Type 0) (P : List A → Type 0) (before more : List A) → AllZip R more [] → P before → P (before ++ more)
none_more R P before [] all p = subst P (sym (append-nil before)) p
none_more R P before (x ∷ xs) all p = absurd all

-- an iterator with no items left has yielded all
pub all_yielded : {A : Type 0} (all yielded rest : List A) → yielded ++ rest ≡ all → length rest ≡ 0 → all ≡ yielded
all_yielded all yielded [] is none = sym is ∙ append-nil yielded
all_yielded all yielded (x ∷ xs) is none = absurd (omega (arith, none))
