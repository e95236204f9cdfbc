-- Which pairs of a walk a range has.
use Rattle.std.specs.Prelude.{◌≡◌, ◌⊎◌, ◌&&◌, Bool, true, Option, Some, None, IfSome, List, ℕ, take, filter, nat_eq}
use Rattle.std.specs.List.{starts_with}
use Rattle.std.specs.Ordering.{nat_cmp, is_lt}
use Rattle.std.specs.Cmp.Lexicographic.{slice_cmp}
use Rattle.mt_words.specs.Words.{IsBelow}
use Rattle.mt_words.specs.Walks.{Pair}
use Rattle.mt_tree.specs.Range.{is_from}
use Rattle.mt_cli.specs.declared.request.Range.{Range}

-- whether the key is below this end, if there is one
abbrev pub is_below_end : Option (List ℕ) → List ℕ → Bool
is_below_end None key = true
is_below_end (Some end) key = is_lt (slice_cmp nat_cmp key end)

-- whether the key begins with this prefix, if there is one
abbrev pub begins_with : Option (List ℕ) → List ℕ → Bool
begins_with None key = true
begins_with (Some prefix) key = starts_with nat_eq key prefix

-- whether the key is below the range's end and begins with its prefix
abbrev pub has : Range → List ℕ → Bool
has range key = is_below_end range.to key && begins_with range.prefix key

-- whether the pair's key is at or after the key that the range is from, below its end, and begins with its prefix
abbrev pub is_in : Range → Pair → Bool
is_in range pair = is_from range.from pair && has range pair.0

-- the pairs of the walk that are in the range: the first ones, up to its count
abbrev pub range_of : Range → List Pair → List Pair
range_of range walk = take range.count (filter (is_in range) walk)

-- the greater of the key that the range is from and its prefix
pub record IsStart (range : Range) (start : List ℕ) : Type 0 where
  pub one : (start ≡ range.from) ⊎ (range.prefix ≡ Some start)
  pub from : ¬ IsBelow start range.from
  pub prefix : IfSome range.prefix (λ prefix. ¬ IsBelow start prefix)
