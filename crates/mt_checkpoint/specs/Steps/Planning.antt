-- Where parts begin. The two proofs stand here since a ghost member cites none of proofs/.
use Rattle.std.specs.Prelude.{◌≡◌, ◌⊎◌, ◌≤◌, ◌<◌, ◌^◌, ◌+◌, ℕ, List, [], ◌∷◌, ◌++◌, length, map}
use Rattle.std.specs.List.{AllByRecursion}
use Rattle.std.proofs.Common.{sym, subst, append_assoc}
use Rattle.std.proofs.lemmas.List.{append-nil}
use Rattle.mt_words.specs.Walks.{Pair, joined}
use Rattle.mt_tree.specs.Range.{range}
use Rattle.mt_checkpoint.specs.Checkpoints.{entries_text}
use Rattle.mt_checkpoint.specs.declared.checkpoint.TheConstants.{MOST_PARTS}
use Rattle.mt_checkpoint.specs.declared.planning.TheConstants.{AROUND}
use Rattle.mt_checkpoint.specs.declared.plan_fault.PlanFault.{PlanFault}
use Rattle.mt_checkpoint.specs.declared.plan_fault.PlanFault.TheVariants.{Timestamp, Version, Parts, Memory}
use Rattle.mt_checkpoint.specs.declared.planning.Stretch.{Stretch}
use Rattle.mt_checkpoint.specs.declared.planning.Planning.{Planning}

-- the pairs of the walk in this stretch
abbrev pub within : List Pair → Stretch → List Pair
within walk stretch = range walk stretch.start stretch.count

-- the first pair, if there is one, has this key
abbrev pub StartsAt : List ℕ → List Pair → Type 0
StartsAt start [] = Unit {0}
StartsAt start (pair ∷ pairs) = pair.0 ≡ start

-- the stretch is that of these pairs
pub record IsStretch (stretch : Stretch) (pairs : List Pair) : Type 0 where
  pub start : StartsAt stretch.start pairs
  pub count : stretch.count ≡ length pairs
  pub fits : stretch.count < 2 ^ 32

-- stretches of these lists of pairs
abbrev pub AreStretches : List Stretch → List (List Pair) → Type 0
AreStretches [] [] = Unit {0}
AreStretches [] (list ∷ lists) = ⊥
AreStretches (stretch ∷ stretches) [] = ⊥
AreStretches (stretch ∷ stretches) (list ∷ lists) = IsStretch stretch list × AreStretches stretches lists

-- how many bytes the text of a part of these pairs has, of this version
abbrev pub size_of : ℕ → List Pair → ℕ
size_of version pairs = AROUND + length (entries_text version pairs)

-- the text of a part of these pairs, of this version, has at most this many bytes, or a single entry
abbrev pub IsWithin : ℕ → ℕ → List Pair → Type 0
IsWithin version limit pairs = (length pairs ≤ 1) ⊎ (size_of version pairs ≤ limit)

-- likewise, of any version
abbrev pub LiesWithin : ℕ → List Pair → Type 0
LiesWithin limit pairs = (version : ℕ) → IsWithin version limit pairs

-- the pairs may be a part: they can be counted, and its text lies within the limit
abbrev pub MayBePart : ℕ → ℕ → List Pair → Type 0
MayBePart version limit pairs = (length pairs < 2 ^ 32) × IsWithin version limit pairs

-- however these pairs are divided into parts, there are at least this many
abbrev pub HasAtLeast : ℕ → List Pair → ℕ → Type 0
HasAtLeast limit pairs least = (version : ℕ) (parts : List (List Pair)) → 0 < length parts → AllByRecursion (MayBePart version limit) parts → joined parts ≡ pairs → least ≤ length parts

-- the part has a pair, and with the next one it would have too many or too many bytes
pub record IsFull (limit : ℕ) (part : List Pair) (next : Pair) : Type 0 where
  pub some : 0 < length part
  pub over : (2 ^ 32 ≤ length part + 1) ⊎ ((version : ℕ) → limit < size_of version (part ++ next ∷ []))

abbrev pub IsFullBefore : ℕ → List Pair → List Pair → Type 0
IsFullBefore limit part [] = ⊥
IsFullBefore limit part (next ∷ rest) = IsFull limit part next

-- each of the parts is full for the pair that follows it; the last is followed by these pairs
abbrev pub AreFull : ℕ → List (List Pair) → List Pair → Type 0
AreFull limit [] rest = Unit {0}
AreFull limit (part ∷ parts) rest = IsFullBefore limit part (joined parts ++ rest) × AreFull limit parts rest

-- of the pairs so far, these stretches are the parts before the last, and the last
pub record IsPlan (limit : ℕ) (plan : Planning) (seen : List Pair) : Type 0 where
  pub full : List (List Pair)
  pub last : List Pair
  pub whole : seen ≡ joined full ++ last
  pub full_are : AreStretches plan.full.items full
  pub last_is : IsStretch plan.last last
  pub full_to : AreFull limit full last
  pub few : length plan.full.items < MOST_PARTS
  pub limit_is : plan.limit ≡ limit
  pub full_within : AllByRecursion (LiesWithin limit) full
  pub last_within : LiesWithin limit last
  pub size : (version : ℕ) → plan.size ≡ size_of version last

-- the pairs in these stretches make up the walk, as parts that are not too many or too large
pub record MakeUp (limit : ℕ) (walk : List Pair) (stretches : List Stretch) : Type 0 where
  pub whole : joined (map (within walk) stretches) ≡ walk
  pub some : 0 < length stretches
  pub few : length stretches < 2 ^ 16
  pub counts : AllByRecursion (λ part. length part < 2 ^ 32) (map (within walk) stretches)
  pub within : AllByRecursion (LiesWithin limit) (map (within walk) stretches)
  pub fewest : HasAtLeast limit walk (length stretches)

-- too many parts were begun: whatever follows the pairs so far, they cannot be divided into few enough
pub record IsOver (limit : ℕ) (plan : Planning) (seen : List Pair) : Type 0 where
  pub many : MOST_PARTS ≤ length plan.full.items
  pub needs : (more : List Pair) → HasAtLeast limit (seen ++ more) (MOST_PARTS + 1)

-- why the pairs are not divided: the parts would be too many, or out of memory
abbrev pub IsDivisionFault : ℕ → List Pair → PlanFault → Type 0
IsDivisionFault limit pairs Timestamp = ⊥
IsDivisionFault limit pairs Version = ⊥
IsDivisionFault limit pairs Parts = HasAtLeast limit pairs (MOST_PARTS + 1)
IsDivisionFault limit pairs Memory = Unit {0}

-- a plan of the pairs so far, or one that has too many parts for them
abbrev pub IsPlanned : ℕ → Planning → List Pair → Type 0
IsPlanned limit plan seen = IsPlan limit plan seen ⊎ IsOver limit plan seen

-- a plan of the pairs so far became one that has these pairs too
abbrev pub HasPlanned : Planning → Planning → List Pair → Type 0
HasPlanned old new pairs = (limit : ℕ) (seen : List Pair) → IsPlanned limit old seen → IsPlanned limit new (seen ++ pairs)

pub none_planned : (a : Planning) → HasPlanned a a []
none_planned a limit seen is = subst (IsPlanned limit a) (sym (append-nil seen)) is

pub both_planned : (a b c : Planning) (v w : List Pair) → HasPlanned a b v → HasPlanned b c w → HasPlanned a c (v ++ w)
both_planned a b c v w first then limit seen is = subst (IsPlanned limit c) (append_assoc seen v w) (then limit (seen ++ v) (first limit seen is))
