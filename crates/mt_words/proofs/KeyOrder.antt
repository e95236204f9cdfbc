-- Order of keys.
use Rattle.std.proofs.Common.{◌≡◌, ℕ, List, [], ◌∷◌, refl, sym, ap, ◌∙◌, true}
use Rattle.std.specs.Ordering.{nat_cmp, is_lt, ordering_reverse}
use Rattle.std.specs.declared.cmp.Ordering.{Ordering}
use Rattle.std.specs.declared.cmp.Ordering.TheVariants.{Less, Equal, Greater}
use Rattle.std.specs.Cmp.Lexicographic.{slice_cmp, nat_list_cmp_total}
use Rattle.mt_words.specs.Words.{IsBelow}

pub is_less : (o : Ordering) → is_lt o ≡ true → o ≡ Less
is_less Less e = refl
is_less Equal e = cc
is_less Greater e = cc

pub below_trans : (a b c : List ℕ) → IsBelow a b → IsBelow b c → IsBelow a c
below_trans a b c h k = ap is_lt (nat_list_cmp_total.trans a b c (is_less (slice_cmp nat_cmp a b) h) (is_less (slice_cmp nat_cmp b c) k))

pub not_both : (a b : List ℕ) → IsBelow a b → ¬ IsBelow b a
not_both a b h k = let g : Less ≡ Greater = sym (is_less _ h) ∙ nat_list_cmp_total.antisymm a b ∙ ap ordering_reverse (is_less _ k) in cc

pub not_itself : (key : List ℕ) → ¬ IsBelow key key
not_itself key e = not_both key key e e

pub never_below : (key : List ℕ) → ¬ IsBelow key []
never_below [] e = cc
never_below (byte ∷ key) e = cc
