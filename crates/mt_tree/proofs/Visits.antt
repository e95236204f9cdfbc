-- A walk shows the pairs of places and children with the bytes of the prefix before their keys.
use Rattle.std.proofs.Common.{◌≡◌, ℕ, ◌+◌, ◌≤◌, List, [], ◌∷◌, ◌++◌, length, take, refl, sym, ap, ◌∙◌, subst, arith, append_assoc, length-append}
use Rattle.mt_words.specs.Limits.{widest}
use Rattle.mt_words.specs.Slices.{slice_bytes}
use Rattle.mt_words.specs.Walks.{Pair}
use Rattle.mt_tree.specs.Layer.{pairs_at, put_before, link, IsPlace}
use Rattle.mt_tree.specs.Steps.Pairs.{FitsAfter}
use Rattle.mt_tree.specs.Nodes.{NodeView}
use Rattle.mt_tree.specs.Steps.Levels.{node_walk}
use Rattle.mt_tree.specs.declared.place.Content.TheVariants.{Link}
use Rattle.mt_tree.specs.Steps.Places.{view_of_content}
use Rattle.mt_tree.specs.declared.place.Content.{Content}

put_deeper : (a b : List ℕ) (w : List Pair) → put_before (a ++ b) w ≡ put_before a (put_before b w)
put_deeper a b [] = refl
put_deeper a b (p ∷ w) = λ i. (append_assoc a b p.0 i, p.1) ∷ put_deeper a b w i

pub put_none : (prefix : List ℕ) (w : List Pair) → prefix ≡ [] → put_before prefix w ≡ w
put_none prefix w e = ap (λ (z : List ℕ). put_before z w) e ∙ same w
  where
    same : (v : List Pair) → put_before [] v ≡ v
    same [] = refl
    same (p ∷ v) = ap (λ (z : List Pair). p ∷ z) (same v)

module _ (s : ℕ) (before bytes : List ℕ) (is_bytes : bytes ≡ slice_bytes s) where
  pub short_shown : (l : ℕ) (c : List (ℕ × List ℕ)) (v : List Pair) → v ≡ (take l (slice_bytes s), c) ∷ [] → put_before before ((take l bytes, c) ∷ []) ≡ put_before before v
  short_shown l c v e = ap (λ (z : List ℕ). put_before before ((take l z, c) ∷ [])) is_bytes ∙ ap (put_before before) (sym e)

  pub deeper_shown : (prefix : List ℕ) (v w : List Pair) → prefix ≡ before ++ bytes → v ≡ put_before (slice_bytes s) w → put_before prefix w ≡ put_before before v
  deeper_shown prefix v w longer e =
      ap (λ (z : List ℕ). put_before z w) (longer ∙ ap (λ (z : List ℕ). before ++ z) is_bytes) ∙ put_deeper before (slice_bytes s) w ∙ ap (put_before before) (sym e)

-- the prefix has room for the bytes of a slice that links
room_before : (n : ℕ) (bytes : List ℕ) (w : List Pair) → 2 ≤ length w → FitsAfter n (put_before bytes w) → n + length bytes ≤ widest.key
room_before n bytes [] some fits = absurd (omega arith)
room_before n bytes (p ∷ w) some fits = let le = fits.0 in omega (arith, length-append bytes p.0)

pub link_room : (s n : ℕ) (h : Content NodeView) (below : NodeView) (bytes : List ℕ) → h ≡ Link below → bytes ≡ slice_bytes s → IsPlace (view_of_content node_walk s h) → FitsAfter n (pairs_at (view_of_content node_walk s h)) → n + length bytes ≤ widest.key
link_room s n h below bytes e f place fits =
    let lawful : IsPlace (link s (node_walk below)) = subst (λ (z : Content NodeView). IsPlace (view_of_content node_walk s z)) e place in
    subst (λ (z : List ℕ). n + length z ≤ widest.key) (sym f) (room_before n (slice_bytes s) (node_walk below) lawful.1 (subst (λ (z : Content NodeView). FitsAfter n (pairs_at (view_of_content node_walk s z))) e fits))

-- equal pairs were shown, up to an equal state
pub moved : {A : Type 0} (shown : A → A → List Pair → Type 0) (a b c : A) (v w : List Pair) → c ≡ b → v ≡ w → shown a b v → shown a c w
moved {A} shown a b c v w e f s = subst (λ (x : A). shown a x w) (sym e) (subst (shown a b) f s)
