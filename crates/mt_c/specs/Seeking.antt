-- What a walk to the pair at some position has seen. The proofs stand here since a ghost member cites none of proofs/.
use Rattle.std.specs.Prelude.{◌≡◌, ℕ, ◌+◌, Option, Some, None, List, [], ◌++◌, length}
use Rattle.std.proofs.Common.{sym, subst, append_assoc, append-nil}
use Rattle.arrayvec.specs.ArrayVec.{ArrayVec}
use Rattle.mt_words.specs.Walks.{Pair}
use Rattle.mt_c.specs.declared.seeking.Seeking.{Seeking}
use Rattle.mt_c.specs.Cuts.{key_at}

-- a walk to the pair at position n was shown these pairs: it counted them down, or has that pair's key
abbrev pub Sought : (n left : ℕ) → Option (ArrayVec ℕ) → List Pair → Type 0
Sought n left None pairs = left + length pairs ≡ n
Sought n left (Some key) pairs = key_at pairs n ≡ Some key.items

abbrev pub IsSeeking : ℕ → Seeking → List Pair → Type 0
IsSeeking n seeking pairs = Sought n seeking.left seeking.key pairs

-- these pairs were shown between these two states
abbrev pub HaveSought : Seeking → Seeking → List Pair → Type 0
HaveSought old new pairs = (n : ℕ) (earlier : List Pair) → IsSeeking n old earlier → IsSeeking n new (earlier ++ pairs)

pub none_sought : (seeking : Seeking) → HaveSought seeking seeking []
none_sought seeking n earlier is = subst (IsSeeking n seeking) (sym (append-nil earlier)) is

pub both_sought : (a b c : Seeking) (v w : List Pair) → HaveSought a b v → HaveSought b c w → HaveSought a c (v ++ w)
both_sought a b c v w f g n earlier is = subst (IsSeeking n c) (append_assoc earlier v w) (g n (earlier ++ v) (f n earlier is))
