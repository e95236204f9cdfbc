-- What a walk adds to a buffer that is being filled. The proofs stand here since a ghost member cites none of proofs/.
use Rattle.std.specs.Prelude.{◌≡◌, ℕ, ◌+◌, ◌<◌, ◌≤◌, true, false, Option, None, Some, List, [], ◌∷◌, ◌++◌, length, drop}
use Rattle.std.proofs.Common.{refl, sym, ◌∙◌, subst, append_assoc, append-nil}
use Rattle.mt_words.specs.Walks.{Pair}
use Rattle.mt_c.specs.declared.filling.Filling.{Filling}
use Rattle.mt_c.specs.declared.filling.Stop.{Stop}
use Rattle.mt_c.specs.declared.filling.Stop.TheVariants.{Room, End}
use Rattle.mt_c.specs.Cuts.{is_until, until}
use Rattle.mt_c.specs.Flat.{pair_bytes, pairs_bytes}

-- what is left of the pairs: nothing, or what begins with a pair that is below the end and does not fit, or is not below the end
abbrev pub IsLeft : (room at : ℕ) (end : List ℕ) → Option Stop → List Pair → Type 0
IsLeft room at end None left = left ≡ []
IsLeft room at end (Some stop) [] = ⊥
IsLeft room at end (Some (Room refused)) (pair ∷ left) = (is_until end pair.0 ≡ true) × (refused ≡ length (pair_bytes pair)) × (room < at + refused)
IsLeft room at end (Some End) (pair ∷ left) = is_until end pair.0 ≡ false

-- the length of the pair that has no room, if one lacks it
abbrev pub refused_of : Option Stop → Option ℕ
refused_of None = None
refused_of (Some (Room refused)) = Some refused
refused_of (Some End) = None

-- the buffer, which was `before`, has the first of these pairs, as many whole ones as fit and are below the end
pub record IsFilled (before : List ℕ) (filling : Filling) (pairs : List Pair) : Type 0 where
  pub taken : List Pair
  pub left : List Pair
  pub split : pairs ≡ taken ++ left
  pub below : until filling.end.now taken ≡ taken
  pub count : filling.pairs ≡ length taken
  pub end : filling.at ≡ length (pairs_bytes taken)
  pub fits : filling.at ≤ length before
  pub out : filling.out.now ≡ pairs_bytes taken ++ drop filling.at before
  pub is_left : IsLeft (length before) filling.at filling.end.now filling.stop left

-- a buffer that had earlier pairs has these after them, as far as they fit
pub record HaveFilled (old new : Filling) (pairs : List Pair) : Type 0 where
  pub same_out : new.out.ghost_name ≡ old.out.ghost_name
  pub same_end : new.end.now ≡ old.end.now
  pub filled : (before : List ℕ) (earlier : List Pair) → IsFilled before old earlier → IsFilled before new (earlier ++ pairs)

pub none_filled : (filling : Filling) → HaveFilled filling filling []
none_filled filling = record {
  same_out = refl;
  same_end = refl;
  filled = λ before earlier is. subst (IsFilled before filling) (sym (append-nil earlier)) is;
}

pub both_filled : (a b c : Filling) (v w : List Pair) → HaveFilled a b v → HaveFilled b c w → HaveFilled a c (v ++ w)
both_filled a b c v w f g = record {
  same_out = g.same_out ∙ f.same_out;
  same_end = g.same_end ∙ f.same_end;
  filled = λ before earlier is. subst (IsFilled before c) (append_assoc earlier v w) (g.filled before (earlier ++ v) (f.filled before earlier is));
}
