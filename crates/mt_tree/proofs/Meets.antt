-- Two lists of places meet.
use Rattle.std.proofs.Common.{◌≡◌, ◌<◌, ◌≤◌, List, [], ◌∷◌, ◌++◌, get_or, length, sym, refl, ap, ◌∙◌, subst, arith, append_assoc, length-append, Vec, Global}
use Rattle.std.specs.List.{AllByRecursion, remove}
use Rattle.std.proofs.lemmas.List.{append-nil, map-append, length-map}
use Rattle.mt_tree.specs.Layer.{PlaceView, slice_at, walk, AllKeysBelow}
use Rattle.mt_tree.specs.Steps.Ranks.{IsRanked, AreRanked}
use Rattle.mt_tree.specs.Steps.Pairs.{weight}
use Rattle.mt_words.specs.Walks.{Pair, joined}
use Rattle.mt_tree.specs.Steps.Falls.{weight-append, walk-append, layer_back, layer_front, joined-append}
use Rattle.mt_tree.specs.Nodes.{IsBorder}
use Rattle.mt_tree.specs.Borders.{DraftView, borders_walk, layer_walk}
use Rattle.mt_tree.specs.Steps.Seams.{SameEnds, last_slice_of, first_slice_of}
use Rattle.mt_tree.specs.Steps.DraftViews.{border_views, draft_of, IsStored, PutBehind}
use Rattle.mt_tree.specs.declared.layer.Border.{Border}
use Rattle.mt_tree.specs.declared.layer.Border.TheVariants.{Open}
use Rattle.mt_tree.proofs.Joins.{Seam, all_back, below_first, first_removed, slice_at-draft}
use Rattle.mt_tree.proofs.Puts.{borders-append, joined_views-append}
use Rattle.mt_tree.proofs.Seams.{seam_are}
use Rattle.mt_tree.specs.Steps.Places.{views, view_of}
use Rattle.mt_tree.specs.declared.place.Place.{Place}

pub seam_of : (l r xs : List (Place DraftView)) (p q : Place DraftView) → IsRanked (views layer_walk l) → IsRanked (views layer_walk r) → AllKeysBelow (walk (views layer_walk l)) (walk (views layer_walk r)) → l ≡ xs ++ p ∷ [] → 1 ≤ length r → q ≡ get_or r 0 q → Seam xs p q (remove r 0)
seam_of l r xs p q hl hr below dl some dq =
    let dr : r ≡ q ∷ remove r 0 = first_removed r q (remove r 0) (omega arith) dq refl in
    record {
      left = subst (λ (z : List (Place DraftView)). IsRanked (views layer_walk z)) dl hl;
      right = subst (λ (z : List (Place DraftView)). IsRanked (views layer_walk z)) dr hr;
      below = subst (λ (z : List (Place DraftView)). AllKeysBelow (walk (views layer_walk z)) (walk (views layer_walk (q ∷ remove r 0)))) dl (subst (λ (z : List (Place DraftView)). AllKeysBelow (walk (views layer_walk l)) (walk (views layer_walk z))) dr below);
    }

pub same_first : (r : List (Place DraftView)) (x y : Place DraftView) → 1 ≤ length r → x ≡ get_or r 0 x → y ≡ get_or r 0 y → x ≡ y
same_first [] x y h e f = absurd (omega arith)
same_first (z ∷ r) x y h e f = e ∙ sym f

-- the views of two lists, the first of which ends with a place, are the views of the places in one list
glued : (xs places rest ys : List (Place DraftView)) (p : Place DraftView) → places ≡ xs ++ p ∷ [] → rest ≡ ys → views layer_walk places ++ views layer_walk rest ≡ views layer_walk (xs ++ p ∷ ys)
glued xs places rest ys p e f = (λ i. views layer_walk (e i) ++ views layer_walk (f i)) ∙ sym (map-append (view_of layer_walk) (xs ++ p ∷ []) ys) ∙ ap (views layer_walk) (append_assoc xs (p ∷ []) ys)

pub glued_layer : (xs places rest ys : List (Place DraftView)) (p : Place DraftView) → places ≡ xs ++ p ∷ [] → rest ≡ ys → IsRanked (views layer_walk (xs ++ p ∷ ys)) → IsRanked (views layer_walk places ++ views layer_walk rest)
glued_layer xs places rest ys p e f h = subst IsRanked (sym (glued xs places rest ys p e f)) h

first_kept : (xs ys : List PlaceView) → 1 ≤ length xs → first_slice_of (xs ++ ys) ≡ first_slice_of xs
first_kept [] ys k = absurd (omega arith)
first_kept (x ∷ xs) ys k = refl

last_kept : (xs ys : List PlaceView) → 1 ≤ length ys → last_slice_of (xs ++ ys) ≡ last_slice_of ys
last_kept [] ys h = refl
last_kept (x ∷ []) [] h = absurd (omega arith)
last_kept (x ∷ []) (y ∷ ys) h = refl
last_kept (x ∷ z ∷ xs) ys h = last_kept (z ∷ xs) ys h

-- if both lists stayed as they are, so did the slices at the ends
pub ends_kept : (l r places rest : List (Place DraftView)) → 1 ≤ length l → 1 ≤ length r → places ≡ l → rest ≡ r → SameEnds (views layer_walk l) (views layer_walk r) (views layer_walk places ++ views layer_walk rest)
ends_kept l r places rest h k e f =
    let same : views layer_walk places ++ views layer_walk rest ≡ views layer_walk l ++ views layer_walk r = (λ i. views layer_walk (e i) ++ views layer_walk (f i)) in
    record {
      first = ap first_slice_of same ∙ first_kept (views layer_walk l) (views layer_walk r) (omega (arith, length-map l (view_of layer_walk)));
      last = ap last_slice_of same ∙ last_kept (views layer_walk l) (views layer_walk r) (omega (arith, length-map r (view_of layer_walk)));
    }

pub first_merged : (xs rest : List PlaceView) (p m : PlaceView) → slice_at m ≡ slice_at p → first_slice_of (xs ++ m ∷ rest) ≡ first_slice_of (xs ++ p ∷ [])
first_merged [] rest p m e = e
first_merged (x ∷ xs) rest p m e = refl

last_merged : (xs ys : List PlaceView) (m q : PlaceView) → slice_at m ≡ slice_at q → last_slice_of (xs ++ m ∷ ys) ≡ last_slice_of (q ∷ ys)
last_merged xs [] m q e = last_kept xs (m ∷ []) (omega arith) ∙ e
last_merged xs (y ∷ ys) m q e = last_kept xs (m ∷ y ∷ ys) (omega arith)

-- if one place replaced the two at the seam, the slices at the ends stayed
pub ends_merged : (l r xs ys places rest : List (Place DraftView)) (p q m : Place DraftView) → l ≡ xs ++ p ∷ [] → r ≡ q ∷ ys → places ≡ xs ++ m ∷ [] → rest ≡ ys → m.slice ≡ p.slice → p.slice ≡ q.slice → SameEnds (views layer_walk l) (views layer_walk r) (views layer_walk places ++ views layer_walk rest)
ends_merged l r xs ys places rest p q m dl dr e f s t =
    let whole : views layer_walk places ++ views layer_walk rest ≡ views layer_walk xs ++ view_of layer_walk m ∷ views layer_walk ys = glued xs places rest ys m e f ∙ map-append (view_of layer_walk) xs (m ∷ ys) in
    let left : views layer_walk l ≡ views layer_walk xs ++ view_of layer_walk p ∷ [] = ap (views layer_walk) dl ∙ map-append (view_of layer_walk) xs (p ∷ []) in
    let mp : slice_at (view_of layer_walk m) ≡ slice_at (view_of layer_walk p) = slice_at-draft m ∙ s ∙ sym (slice_at-draft p) in
    let mq : slice_at (view_of layer_walk m) ≡ slice_at (view_of layer_walk q) = slice_at-draft m ∙ s ∙ t ∙ sym (slice_at-draft q) in
    record {
      first = ap first_slice_of whole ∙ first_merged (views layer_walk xs) (views layer_walk ys) (view_of layer_walk p) (view_of layer_walk m) mp ∙ sym (ap first_slice_of left);
      last = ap last_slice_of whole ∙ last_merged (views layer_walk xs) (views layer_walk ys) (view_of layer_walk m) (view_of layer_walk q) mq ∙ sym (ap last_slice_of (ap (views layer_walk) dr));
    }

-- ---- two lists of borders
pub record Sides (fs bs : List (List PlaceView)) (l f : List PlaceView) (vl : List (List PlaceView)) : Type 0 where
  pub left : AreRanked (fs ++ l ∷ [])
  pub right : AreRanked (f ∷ bs)
  pub below : AllKeysBelow (walk l) (walk f)
  pub light : weight (walk l) ≤ weight (borders_walk vl)

pub open_first : (rb bs : List Border) (b : Border) (f : Vec (Place DraftView) Global) → 0 < length rb → b ≡ get_or rb 0 b → bs ≡ remove rb 0 → b ≡ Open f → rb ≡ Open f ∷ bs
open_first rb bs b f some df db e = first_removed rb b bs some df db ∙ ap (λ (z : Border). z ∷ bs) e

pub sides : (lb rb fs bs : List Border) (l f : Vec (Place DraftView) Global) (dl dr : DraftView) → draft_of lb ≡ dl → draft_of rb ≡ dr → IsStored lb → IsStored rb → AllKeysBelow (layer_walk dl) (layer_walk dr)
    → lb ≡ fs ++ Open l ∷ [] → rb ≡ Open f ∷ bs → Sides (border_views fs) (border_views bs) (views layer_walk l.items) (views layer_walk f.items) dl.borders
sides lb rb fs bs l f dl dr vl_is vr_is hl hr below cut first =
    let vl = dl.borders in
    let vr = dr.borders in
    let el : border_views lb ≡ vl = ap (λ (d : DraftView). d.borders) vl_is in
    let er : border_views rb ≡ vr = ap (λ (d : DraftView). d.borders) vr_is in
    let ls = views layer_walk l.items in
    let rs = views layer_walk f.items in
    let front = border_views fs in
    let is : vl ≡ front ++ ls ∷ [] = sym el ∙ ap border_views cut ∙ borders-append fs (Open l ∷ []) in
    let ir : vr ≡ rs ∷ border_views bs = sym er ∙ ap border_views first in
    let wl : borders_walk vl ≡ walk (joined front) ++ walk ls = ap borders_walk is ∙ ap walk (joined-append front (ls ∷ []) ∙ ap (λ (z : List PlaceView). joined front ++ z) (append-nil ls)) ∙ walk-append (joined front) ls in
    let wr : borders_walk vr ≡ walk rs ++ borders_walk (border_views bs) = ap borders_walk ir ∙ walk-append rs (joined (border_views bs)) in
    let both : AllKeysBelow (walk (joined front) ++ walk ls) (walk rs ++ borders_walk (border_views bs)) =
    subst (λ (z : List Pair). AllKeysBelow z (walk rs ++ borders_walk (border_views bs))) wl (subst (λ (z : List Pair). AllKeysBelow (borders_walk vl) z) wr below) in
    record {
      left = subst AreRanked (el ∙ is) hl.own;
      right = subst AreRanked (er ∙ ir) hr.own;
      below = below_first (walk ls) (walk rs) (borders_walk (border_views bs)) (all_back _ (walk (joined front)) (walk ls) both);
      light = omega (arith, ap weight wl, weight-append (walk (joined front)) (walk ls));
    }

module _ (fs bs : List (List PlaceView)) (l f : List PlaceView) (vl : List (List PlaceView)) (s : Sides fs bs l f vl) where
  pub left_layer : IsRanked l
  left_layer = subst IsRanked (append-nil l) (layer_back 0 (joined fs) (joined (l ∷ [])) (subst IsRanked (joined-append fs (l ∷ [])) s.left.2))

  pub right_layer : IsRanked f
  right_layer = layer_front 0 f (joined bs) s.right.2

  pub last_border : IsBorder l
  last_border = last fs s.left.0
    where
      last : (gs : List (List PlaceView)) → AllByRecursion IsBorder (gs ++ l ∷ []) → IsBorder l
      last [] h = h.0
      last (g ∷ gs) h = last gs h.1

-- borders that replace the two at the seam make a lawful list with the others
pub seam_put : (fs bs seam whole : List Border) (l f left right : List (Place DraftView)) (vl : List (List PlaceView)) → Sides (border_views fs) (border_views bs) (views layer_walk l) (views layer_walk f) vl
    → PutBehind (left ++ right) fs seam → whole ≡ seam ++ bs → length left ≡ length l → SameEnds (views layer_walk l) (views layer_walk f) (views layer_walk left ++ views layer_walk right) → AreRanked (border_views whole)
seam_put fs bs seam whole l f left right vl s put e same ends =
    let some : 1 ≤ length (views layer_walk l) = (last_border _ _ _ _ _ s).0 in
    let same_views : joined (border_views put.more) ≡ views layer_walk left ++ views layer_walk right = put.same ∙ map-append (view_of layer_walk) left right in
    let kept : 1 ≤ length (joined (border_views put.more)) =
    omega (arith, ap (λ (z : List PlaceView). length z) same_views, length-append (views layer_walk left) (views layer_walk right), length-map left (view_of layer_walk), length-map l (view_of layer_walk)) in
    let is : border_views whole ≡ border_views fs ++ (border_views put.more ++ border_views bs) =
    ap border_views (e ∙ ap (λ (z : List Border). z ++ bs) put.behind ∙ append_assoc fs put.more bs) ∙ borders-append fs (put.more ++ bs) ∙ ap (λ (z : List (List PlaceView)). border_views fs ++ z) (borders-append put.more bs) in
    subst AreRanked (sym is)
    (seam_are (border_views fs) (views layer_walk l) (views layer_walk f) (border_views bs) (border_views put.more) s.left s.right put.lawful some kept (subst (SameEnds (views layer_walk l) (views layer_walk f)) (sym same_views) ends))

-- ---- the walk of two lists of borders
abbrev stored_walk : List Border → List Pair
stored_walk bs = borders_walk (border_views bs)

behind_walk : (bs cs : List Border) → stored_walk (bs ++ cs) ≡ stored_walk bs ++ stored_walk cs
behind_walk bs cs = ap walk (joined_views-append bs cs) ∙ walk-append (joined (border_views bs)) (joined (border_views cs))

pub seam_walk : (lb rb fs bs seam whole : List Border) (l f : Vec (Place DraftView) Global) (left right : List (Place DraftView)) (dl dr : DraftView) → draft_of lb ≡ dl → draft_of rb ≡ dr → lb ≡ fs ++ Open l ∷ [] → rb ≡ Open f ∷ bs → PutBehind (left ++ right) fs seam → whole ≡ seam ++ bs
    → walk (views layer_walk left ++ views layer_walk right) ≡ walk (views layer_walk l.items) ++ walk (views layer_walk f.items) → borders_walk (border_views whole) ≡ layer_walk dl ++ layer_walk dr
seam_walk lb rb fs bs seam whole l f left right dl dr vl vr e g put is pairs =
    let front = stored_walk fs in
    let back = stored_walk bs in
    let here = walk (views layer_walk l.items) in
    let next = walk (views layer_walk f.items) in
    let one : stored_walk (Open l ∷ []) ≡ here = ap walk (append-nil (views layer_walk l.items)) in
    let lefts : layer_walk dl ≡ front ++ here = sym (ap layer_walk vl) ∙ ap stored_walk e ∙ behind_walk fs (Open l ∷ []) ∙ ap (λ (w : List Pair). front ++ w) one in
    let rights : layer_walk dr ≡ next ++ back = sym (ap layer_walk vr) ∙ ap stored_walk g ∙ walk-append (views layer_walk f.items) (joined (border_views bs)) in
    let seam_is : stored_walk seam ≡ front ++ (here ++ next) = ap stored_walk put.behind ∙ behind_walk fs put.more ∙ ap (λ (w : List Pair). front ++ w) (ap walk (put.same ∙ map-append (view_of layer_walk) left right) ∙ pairs) in
    ap stored_walk is ∙ behind_walk seam bs ∙ ap (λ (w : List Pair). w ++ back) seam_is
    ∙ append_assoc front (here ++ next) back ∙ ap (λ (w : List Pair). front ++ w) (append_assoc here next back) ∙ sym (append_assoc front here (next ++ back))
    ∙ (λ i. sym lefts i ++ sym rights i)
