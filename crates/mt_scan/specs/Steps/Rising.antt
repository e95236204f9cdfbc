-- That keys rise has at most one proof, as the fact of a struct must.
use Rattle.std.specs.Prelude.{ℕ, true, List, [], ◌∷◌}
use Rattle.std.specs.Coded.{Coded-set, coded_bool, ×_prop, Unit-prop}
use Rattle.std.specs.Ordering.{nat_cmp, is_lt}
use Rattle.std.specs.Cmp.Lexicographic.{slice_cmp}
use Rattle.std.specs.List.{AllByRecursion}
use Rattle.mt_words.specs.Words.{IsBelow, AreRising}

all-prop : (key : List ℕ) (keys : List (List ℕ)) → IsProp (AllByRecursion (IsBelow key) keys)
all-prop key [] = Unit-prop
all-prop key (other ∷ keys) = ×_prop (Coded-set coded_bool (is_lt (slice_cmp nat_cmp key other)) true) (all-prop key keys)

pub AreRising-prop : (keys : List (List ℕ)) → IsProp (AreRising keys)
AreRising-prop [] = Unit-prop
AreRising-prop (key ∷ keys) = ×_prop (all-prop key keys) (AreRising-prop keys)
