-- Places are appended to borders, as borders that are cut between slices.
use Rattle.std.proofs.Common.{◌≡◌, ◌≢◌, ℕ, suc, ◌+◌, ◌-◌, ◌^◌, ◌<◌, ◌≤◌, min, List, [], ◌∷◌, ◌++◌, get_or, length, take, drop, sym, refl, ap, ◌∙◌, subst, inl, inr, ◌⊎◌, arith, append_assoc, length-append, Vec, Global}
use Rattle.std.proofs.Math.Seq.{take-append_seam, drop-append_seam}
use Rattle.std.specs.List.{AllByRecursion}
use Rattle.std.proofs.lemmas.Bool.{cases_lt}
use Rattle.std.proofs.lemmas.List.{append-nil, map-append, length-map, take-append-drop, get_or-drop}
use Rattle.mt_words.specs.Walks.{joined}
use Rattle.mt_tree.specs.Layer.{PlaceView, slice_at}
use Rattle.mt_tree.specs.Steps.Ranks.{rank_at, IsRanked, IsLayerFrom, AreRanked, length_at-le}
use Rattle.mt_tree.specs.Nodes.{SlicesBelow, SlicesFrom, IsBorder}
use Rattle.mt_tree.specs.Steps.Seams.{CutAt, OfSlice, first_slice_of, last_slice_of}
use Rattle.mt_tree.specs.Borders.{layer_walk, DraftView}
use Rattle.mt_tree.specs.Steps.DraftViews.{border_view, border_views, IsLawfulLink, HaveLawfulLinks, HasLawfulLinks, IsOpen, IsFirstOpen, IsLastOpen, PutBehind, PutOpen}
use Rattle.mt_tree.specs.declared.layer.Border.{Border}
use Rattle.mt_tree.specs.declared.layer.Border.TheVariants.{Open}
use Rattle.mt_tree.proofs.Joins.{slice_at-draft, slice_at-lt, all_append, all_weaker, all_front, all_back}
use Rattle.mt_tree.proofs.Cuts.{slices_from, cut_nil, run_few}
use Rattle.mt_tree.proofs.Seams.{are_append, cut_each, up_to_last, from_first_slice}
use Rattle.mt_tree.specs.Steps.Falls.{layer_back, layer_front, joined-append}
use Rattle.mt_tree.specs.Steps.Places.{views, view_of}
use Rattle.mt_tree.specs.declared.place.Place.{Place}

pub borders-append : (bs ds : List Border) → border_views (bs ++ ds) ≡ border_views bs ++ border_views ds
borders-append bs ds = map-append border_view bs ds

pub joined_views-append : (bs ds : List Border) → joined (border_views (bs ++ ds)) ≡ joined (border_views bs) ++ joined (border_views ds)
joined_views-append bs ds = ap joined (borders-append bs ds) ∙ joined-append (border_views bs) (border_views ds)

pub parted : (ps xs ys : List (Place DraftView)) (i : ℕ) → xs ≡ take i ps → ys ≡ drop i ps → xs ++ ys ≡ ps
parted ps xs ys i e f = (λ j. e j ++ f j) ∙ take-append-drop i ps

-- the views of a list's two parts are the views of the list
pub views_parted : (xs ys ps : List (Place DraftView)) → xs ++ ys ≡ ps → views layer_walk xs ++ views layer_walk ys ≡ views layer_walk ps
views_parted xs ys ps e = sym (map-append (view_of layer_walk) xs ys) ∙ ap (views layer_walk) e

-- ---- borders at the ends
pub first_front : (bs : List Border) (b : Border) → IsFirstOpen (bs ++ b ∷ []) → IsFirstOpen bs
first_front [] b h = tt
first_front (c ∷ bs) b h = h

pub first_then : (bs ds : List Border) → 1 ≤ length bs → IsFirstOpen bs → IsFirstOpen (bs ++ ds)
first_then [] ds some h = absurd (omega arith)
first_then (b ∷ bs) ds some h = h

first_added : (bs : List Border) (b : Border) → (bs ≡ [] → IsOpen b) → IsFirstOpen bs → IsFirstOpen (bs ++ b ∷ [])
first_added [] b alone h = alone refl
first_added (c ∷ bs) b alone h = h

pub last_open : (bs : List Border) (b : Border) → IsLastOpen (bs ++ b ∷ []) → IsOpen b
last_open [] b h = h
last_open (c ∷ []) b h = h
last_open (c ∷ d ∷ bs) b h = last_open (d ∷ bs) b h

pub popped_open : (all bs : List Border) (b : Border) → all ≡ bs ++ b ∷ [] → IsLastOpen all → IsOpen b
popped_open all bs b e h = last_open bs b (subst IsLastOpen e h)

last_added : (bs : List Border) (b : Border) → IsOpen b → IsLastOpen (bs ++ b ∷ [])
last_added [] b h = h
last_added (c ∷ []) b h = h
last_added (c ∷ d ∷ bs) b h = last_added (d ∷ bs) b h

pub last_then : (bs ds : List Border) → IsLastOpen bs → IsLastOpen ds → IsLastOpen (bs ++ ds)
last_then [] ds h k = k
last_then (b ∷ []) [] h k = h
last_then (b ∷ []) (d ∷ ds) h k = k
last_then (b ∷ c ∷ bs) ds h k = last_then (c ∷ bs) ds h k

pub last_rest : (b : Border) (bs : List Border) → IsLastOpen (b ∷ bs) → IsLastOpen bs
last_rest b [] h = tt
last_rest b (c ∷ bs) h = h

-- ---- borders appended to others
pub put_none : (old : List Border) (places : List (Place DraftView)) → places ≡ [] → PutOpen places old old
put_none old places e = record {
  put = record { more = []; behind = sym (append-nil old); same = sym (ap (views layer_walk) e); lawful = (tt, tt, tt); links = λ h. tt; first = λ h. h };
  last = λ some. absurd (let none : length places ≡ 0 = ap (λ (z : List (Place DraftView)). length z) e in omega arith);
  kept = λ h. h;
}

pub alone : (b : List PlaceView) → IsBorder b → IsRanked b → AreRanked (b ∷ [])
alone b h l = ((h, tt), (cut_nil b, tt), subst IsRanked (sym (append-nil b)) l)

pub put_border : (old new : List Border) (b : Border) (ps : List (Place DraftView)) → new ≡ old ++ b ∷ [] → border_view b ≡ views layer_walk ps → IsRanked (views layer_walk ps) → IsBorder (views layer_walk ps)
    → (HaveLawfulLinks ps → HasLawfulLinks b) → (old ≡ [] → IsOpen b) → PutBehind ps old new
put_border old new b ps e is h few links only = record {
  more = b ∷ [];
  behind = e;
  same = append-nil (border_view b) ∙ is;
  lawful = subst (λ (z : List PlaceView). AreRanked (z ∷ [])) (sym is) (alone (views layer_walk ps) few h);
  links = λ k. (links k, tt);
  first = λ k. subst IsFirstOpen (sym e) (first_added old b only k);
}

pub put_one : (old new : List Border) (ps : Vec (Place DraftView) Global) → new ≡ old ++ Open ps ∷ [] → IsRanked (views layer_walk ps.items) → 1 ≤ length ps.items → length ps.items ≤ 15 → PutOpen ps.items old new
put_one old new ps e h some few =
    let len = length-map ps.items (view_of layer_walk) in
    let last : IsLastOpen new = subst IsLastOpen (sym e) (last_added old (Open ps) tt) in
    record {
      put = put_border old new (Open ps) ps.items e refl h (omega arith, omega arith) (λ k. k) (λ none. tt);
      last = λ k. last;
      kept = λ k. last;
    }

pub put_then : (xs ys : List (Place DraftView)) (a b c : List Border) → PutBehind xs a b → PutBehind ys b c → CutAt (views layer_walk xs) (views layer_walk ys) → PutBehind (xs ++ ys) a c
put_then xs ys a b c p q cut =
    let lawful : Place DraftView → Type 0 = λ x. IsLawfulLink x.content in
    let apart : CutAt (joined (border_views p.more)) (joined (border_views q.more)) =
    subst (λ (z : List PlaceView). CutAt z (joined (border_views q.more))) (sym p.same) (subst (CutAt (views layer_walk xs)) (sym q.same) cut) in
    record {
      more = p.more ++ q.more;
      behind = q.behind ∙ ap (λ (z : List Border). z ++ q.more) p.behind ∙ append_assoc a p.more q.more;
      same = joined_views-append p.more q.more ∙ (λ i. p.same i ++ q.same i) ∙ sym (map-append (view_of layer_walk) xs ys);
      lawful = subst AreRanked (sym (borders-append p.more q.more)) (are_append (border_views p.more) (border_views q.more) p.lawful q.lawful (cut_each (border_views p.more) (joined (border_views q.more)) apart));
      links = λ h. all_append HasLawfulLinks p.more q.more (p.links (all_front lawful xs ys h)) (q.links (all_back lawful xs ys h));
      first = λ h. q.first (p.first h);
    }

pub open_then : (xs ys : List (Place DraftView)) (a b c : List Border) → PutOpen xs a b → PutOpen ys b c → CutAt (views layer_walk xs) (views layer_walk ys) → PutOpen (xs ++ ys) a c
open_then xs ys a b c p q cut = record {
  put = put_then xs ys a b c p.put q.put cut;
  last = λ some. by some (cases_lt 0 (length ys));
  kept = λ h. q.kept (p.kept h);
}
  where
    by : 1 ≤ length (xs ++ ys) → (0 < length ys) ⊎ (length ys ≤ 0) → IsLastOpen c
    by some (inl more) = q.last more
    by some (inr none) = q.kept (p.last (omega (arith, length-append xs ys)))

-- ---- where a cut may stand
cut_at : (s : ℕ) (xs ys : List PlaceView) → SlicesBelow s xs → SlicesFrom s ys → CutAt xs ys
cut_at s [] ys below from = tt
cut_at s (x ∷ xs) ys below from =
    let lt : slice_at x < s = below.0 in
    (all_weaker (λ q. s ≤ slice_at q) (λ q. suc (slice_at x) ≤ slice_at q) (λ q le. omega arith) ys from, cut_at s xs ys below.1 from)

-- a cut may stand between two slices that differ
cut_between : (low : ℕ) (xs ys : List PlaceView) → IsLayerFrom low (xs ++ ys) → 1 ≤ length xs → 1 ≤ length ys → last_slice_of xs ≢ first_slice_of ys → CutAt xs ys
cut_between low [] ys h a b n = tt
cut_between low (p ∷ []) [] h a b n = absurd (omega arith)
cut_between low (p ∷ []) (y ∷ ys) h a b n =
    let from : suc (rank_at p) ≤ rank_at y = h.2.1 in
    let few = length_at-le y h.2.0 in
    let other : slice_at p ≢ slice_at y = n in
    let above : suc (slice_at p) ≤ slice_at y = omega arith in
    ((above, slices_from (suc (rank_at y)) (suc (slice_at p)) ys (omega arith) h.2.2), tt)
cut_between low (p ∷ q ∷ xs) ys h a b n =
    let rest = cut_between (suc (rank_at p)) (q ∷ xs) ys h.2 (omega arith) b n in
    let from : suc (rank_at p) ≤ rank_at q = h.2.1 in
    let few = length_at-le q h.2.0 in
    (all_weaker (λ y. suc (slice_at q) ≤ slice_at y) (λ y. suc (slice_at p) ≤ slice_at y) (λ y le. omega arith) ys rest.0, rest)

-- ---- at most 15 places on each side of a cut
of_slice : (s : ℕ) (ys : List PlaceView) → SlicesFrom s ys → AllByRecursion (λ p. slice_at p ≤ s) ys → OfSlice s ys
of_slice s [] from upto = tt
of_slice s (y ∷ ys) from upto = let le : s ≤ slice_at y = from.0 in let up : slice_at y ≤ s = upto.0 in (omega arith, of_slice s ys from.1 upto.1)

-- places from a slice on are at most ten, if none is above it
run_short : (s : ℕ) (ys : List PlaceView) → IsRanked ys → SlicesFrom s ys → AllByRecursion (λ p. slice_at p ≤ s) ys → length ys ≤ 10
run_short s ys h from upto = run_few s ys h (of_slice s ys from upto)

last_below : (s : ℕ) (ps : List PlaceView) → 1 ≤ length ps → SlicesBelow s ps → last_slice_of ps < s
last_below s [] some h = absurd (omega arith)
last_below s (p ∷ []) some h = h.0
last_below s (p ∷ q ∷ ps) some h = last_below s (q ∷ ps) (omega arith) h.1

behind_some : (s : ℕ) (ps xs ys : List PlaceView) → 1 ≤ length ps → last_slice_of ps ≡ s → xs ++ ys ≡ ps → SlicesBelow s xs → 1 ≤ length ys
behind_some s ps xs [] some last e below =
    let lt = last_below s ps some (subst (SlicesBelow s) (sym (append-nil xs) ∙ e) below) in absurd (omega arith)
behind_some s ps xs (y ∷ ys) some last e below = omega arith

-- places cut into two layers of at most 15 places; sixteen places are cut so, before their last slice
pub record Halves (all xs ys : List PlaceView) : Type 0 where
  pub whole : xs ++ ys ≡ all
  pub first : IsRanked xs × (length xs ≤ 15)
  pub second : IsRanked ys × (length ys ≤ 15)
  pub cut : CutAt xs ys

sixteen : (s : ℕ) (ps xs ys : List PlaceView) → IsRanked ps → length ps ≡ 16 → last_slice_of ps ≡ s → xs ++ ys ≡ ps → SlicesBelow s xs → SlicesFrom s ys → Halves ps xs ys
sixteen s ps xs ys h many last e below from =
    let layer : IsRanked (xs ++ ys) = subst IsRanked (sym e) h in
    let some = behind_some s ps xs ys (omega arith) last e below in
    let upto : AllByRecursion (λ p. slice_at p ≤ s) ps = subst (λ (n : ℕ). AllByRecursion (λ p. slice_at p ≤ n) ps) last (up_to_last 0 ps h) in
    let here : AllByRecursion (λ p. slice_at p ≤ s) ys = all_back (λ p. slice_at p ≤ s) xs ys (subst (AllByRecursion (λ p. slice_at p ≤ s)) (sym e) upto) in
    let few = run_short s ys (layer_back 0 xs ys layer) from here in
    let count : length xs + length ys ≡ 16 = sym (length-append xs ys) ∙ ap (λ (z : List PlaceView). length z) e ∙ many in
    record { whole = e; first = (layer_front 0 xs ys layer, omega arith); second = (layer_back 0 xs ys layer, omega arith); cut = cut_at s xs ys below from }

pub first_border : (all xs ys : List (Place DraftView)) → xs ++ ys ≡ all → length all ≡ 16 → Halves (views layer_walk all) (views layer_walk xs) (views layer_walk ys) → IsBorder (views layer_walk xs)
first_border all xs ys e many h =
    let most : length (views layer_walk ys) ≤ 15 = h.second.1 in
    let count : length xs + length ys ≡ 16 = sym (length-append xs ys) ∙ ap (λ (z : List (Place DraftView)). length z) e ∙ many in
    (omega (arith, most, length-map xs (view_of layer_walk), length-map ys (view_of layer_walk)), h.first.1)

pub put_halves : (all xs ys later : List (Place DraftView)) (a b c : List Border) → xs ++ ys ≡ all → length all ≡ 16 → Halves (views layer_walk all) (views layer_walk xs) (views layer_walk ys) → later ≡ ys → PutBehind xs a b → PutOpen later b c → PutOpen all a c
put_halves all xs ys later a b c e many h same p put =
    let q : PutOpen ys b c = subst (λ (z : List (Place DraftView)). PutOpen z b c) same put in
    let most : length (views layer_walk xs) ≤ 15 = h.first.1 in
    let count : length xs + length ys ≡ 16 = sym (length-append xs ys) ∙ ap (λ (z : List (Place DraftView)). length z) e ∙ many in
    let last : IsLastOpen c = q.last (omega (arith, most, length-map xs (view_of layer_walk))) in
    record {
      put = subst (λ (z : List (Place DraftView)). PutBehind z a c) e (put_then xs ys a b c p q.put h.cut);
      last = λ some. last;
      kept = λ k. last;
    }

few_below : (s : ℕ) (xs zs ls rs : List PlaceView) → xs ++ zs ≡ ls ++ rs → SlicesBelow s xs → SlicesFrom s rs → length xs ≤ length ls
few_below s [] zs ls rs e below from = omega arith
few_below s (x ∷ xs) zs [] rs e below from =
    let lt : slice_at x < s = below.0 in
    let le : s ≤ slice_at x = (subst (SlicesFrom s) (sym e) from).0 in absurd (omega arith)
few_below s (x ∷ xs) zs (l ∷ ls) rs e below from = omega (arith, few_below s xs zs ls rs (ap (drop 1) e) below.1 from)

slices_fit : (low : ℕ) (ps : List PlaceView) → IsLayerFrom low ps → AllByRecursion (λ p. slice_at p < 2 ^ 64) ps
slices_fit low [] h = tt
slices_fit low (p ∷ ps) h = (slice_at-lt p h.0, slices_fit (suc (rank_at p)) ps h.2)

-- places cut into three layers of at most 15 places; two borders that share a slice are cut so, before the slice and after it
pub record Thirds (xs run ys : List PlaceView) : Type 0 where
  pub first : IsRanked xs × (length xs ≤ 15)
  pub second : IsRanked run × (length run ≤ 15)
  pub third : IsRanked ys × (length ys ≤ 15)
  pub before : CutAt xs (run ++ ys)
  pub behind : CutAt run ys

thirds : (s next : ℕ) (left right xs rest run ys : List PlaceView) → IsRanked (left ++ right) → IsBorder left → IsBorder right → last_slice_of left ≡ s → first_slice_of right ≡ s → next ≡ min (s + 1) (2 ^ 64 - 1)
    → xs ++ rest ≡ left ++ right → run ++ ys ≡ rest → SlicesBelow s xs → SlicesFrom s rest → SlicesBelow next run → SlicesFrom next ys → Thirds xs run ys
thirds s next left right xs rest run ys h l r last first is e f below from_rest run_below ys_from =
    let l_few : length left ≤ 15 = l.1 in
    let right_from : SlicesFrom s right = subst (λ (n : ℕ). SlicesFrom n right) first (from_first_slice 0 right (layer_back 0 left right h)) in
    let run_upto : AllByRecursion (λ p. slice_at p ≤ s) run = all_weaker (λ p. slice_at p < next) (λ p. slice_at p ≤ s) (λ p lt. omega arith) run run_below in
    let few = run_short s run run_layer (all_front (λ p. s ≤ slice_at p) run ys from) run_upto in
    let fewer = few_below s xs (run ++ ys) left right whole below right_from in
    record {
      first = (layer_front 0 xs (run ++ ys) all_layer, omega arith);
      second = (run_layer, omega arith);
      third = (ys_layer, by (cases_lt (s + 1) (2 ^ 64)));
      before = cut_at s xs (run ++ ys) below from;
      behind = cut_at next run ys run_below ys_from;
    }
  where
    whole : xs ++ (run ++ ys) ≡ left ++ right
    whole = ap (λ (z : List PlaceView). xs ++ z) f ∙ e

    from : SlicesFrom s (run ++ ys)
    from = subst (SlicesFrom s) (sym f) from_rest

    all_layer : IsRanked (xs ++ (run ++ ys))
    all_layer = subst IsRanked (sym whole) h

    run_layer : IsRanked run
    run_layer = layer_front 0 run ys (layer_back 0 xs (run ++ ys) all_layer)

    ys_layer : IsRanked ys
    ys_layer = layer_back 0 run ys (layer_back 0 xs (run ++ ys) all_layer)

    by : (s + 1 < 2 ^ 64) ⊎ (2 ^ 64 ≤ s + 1) → length ys ≤ 15
    by (inl lt) =
        let r_few : length right ≤ 15 = r.1 in
        let upto : AllByRecursion (λ p. slice_at p ≤ s) left = subst (λ (n : ℕ). AllByRecursion (λ p. slice_at p ≤ n) left) last (up_to_last 0 left (layer_front 0 left right h)) in
        let left_below : SlicesBelow next left = all_weaker (λ p. slice_at p ≤ s) (λ p. slice_at p < next) (λ p le. omega arith) left upto in
        let parts : left ++ right ≡ (xs ++ run) ++ ys = sym whole ∙ sym (append_assoc xs run ys) in
        let fewer = few_below next left right (xs ++ run) ys parts left_below ys_from in
        let count : length left + length right ≡ length (xs ++ run) + length ys = sym (length-append left right) ∙ ap (λ (z : List PlaceView). length z) parts ∙ length-append (xs ++ run) ys in
        omega arith
    by (inr ge) =
        let upto : AllByRecursion (λ p. slice_at p ≤ s) ys = all_weaker (λ p. slice_at p < 2 ^ 64) (λ p. slice_at p ≤ s) (λ p lt. omega arith) ys (slices_fit 0 ys ys_layer) in
        let few = run_short s ys ys_layer (all_back (λ p. s ≤ slice_at p) run ys from) upto in
        omega arith

-- the three parts are appended to borders, one by one
pub put_thirds : (all xs rest run ys : List (Place DraftView)) (a b c d : List Border) → xs ++ rest ≡ all → run ++ ys ≡ rest → Thirds (views layer_walk xs) (views layer_walk run) (views layer_walk ys) → PutOpen xs a b → PutOpen run b c → PutOpen ys c d → PutOpen all a d
put_thirds all xs rest run ys a b c d f g t p q r =
    let before : CutAt (views layer_walk xs) (views layer_walk (run ++ ys)) = subst (CutAt (views layer_walk xs)) (sym (map-append (view_of layer_walk) run ys)) t.before in
    subst (λ (z : List (Place DraftView)). PutOpen z a d) (ap (λ (z : List (Place DraftView)). xs ++ z) g ∙ f) (open_then xs (run ++ ys) a b d p (open_then run ys b c d q r t.behind) before)

-- ---- the slices at the ends
last_slice_is : (xs : List (Place DraftView)) (x : Place DraftView) → 1 ≤ length xs → x ≡ get_or xs (length xs - 1) x → last_slice_of (views layer_walk xs) ≡ x.slice
last_slice_is [] x h e = absurd (omega arith)
last_slice_is (y ∷ []) x h e = let first : length (y ∷ []) - 1 ≡ 0 = omega arith in slice_at-draft y ∙ ap (λ (z : Place DraftView). z.slice) (sym (e ∙ ap (λ (k : ℕ). get_or (y ∷ []) k x) first))
last_slice_is (y ∷ z ∷ xs) x h e =
    let next : length (y ∷ z ∷ xs) - 1 ≡ suc (length (z ∷ xs) - 1) = omega arith in
    last_slice_is (z ∷ xs) x (omega arith) (e ∙ ap (λ (k : ℕ). get_or (y ∷ z ∷ xs) k x) next)

first_slice_is : (xs : List (Place DraftView)) (x : Place DraftView) → 1 ≤ length xs → x ≡ get_or xs 0 x → first_slice_of (views layer_walk xs) ≡ x.slice
first_slice_is [] x h e = absurd (omega arith)
first_slice_is (y ∷ xs) x h e = slice_at-draft y ∙ ap (λ (z : Place DraftView). z.slice) (sym e)

-- if two lists are more than one border holds: the last slice of the left list, and the first slice of the right one
pub seam_slices : (left right : List (Place DraftView)) (x y : Place DraftView) (n : ℕ) → IsBorder (views layer_walk left) → 15 < length left + length right → x ≡ get_or left (n - 1) x → n ≡ length left → y ≡ get_or right 0 y
    → (last_slice_of (views layer_walk left) ≡ x.slice) × (first_slice_of (views layer_walk right) ≡ y.slice)
seam_slices left right x y n b many last whole first =
    let some : 1 ≤ length (views layer_walk left) = b.0 in
    let most : length (views layer_walk left) ≤ 15 = b.1 in
    let count = length-map left (view_of layer_walk) in
    (last_slice_is left x (omega arith) (last ∙ ap (λ (k : ℕ). get_or left (k - 1) x) whole), first_slice_is right y (omega arith) first)

pub cut_apart : (left right : List (Place DraftView)) → IsRanked (views layer_walk left ++ views layer_walk right) → IsBorder (views layer_walk left) → 15 < length left + length right → last_slice_of (views layer_walk left) ≢ first_slice_of (views layer_walk right) → CutAt (views layer_walk left) (views layer_walk right)
cut_apart left right h b many other =
    let most : length (views layer_walk left) ≤ 15 = b.1 in
    cut_between 0 (views layer_walk left) (views layer_walk right) h b.0 (omega (arith, length-map left (view_of layer_walk), length-map right (view_of layer_walk))) other

-- ---- stored places
pub few_places : (ps : List (Place DraftView)) → length (views layer_walk ps) ≤ 15 → length ps ≤ 15
few_places ps few = omega (arith, length-map ps (view_of layer_walk))

pub halves : (ps xs ys : List (Place DraftView)) (x : Place DraftView) (n : ℕ) → IsRanked (views layer_walk ps) → length ps ≡ 16 → x ≡ get_or ps (n - 1) x → n ≡ length ps
    → xs ++ ys ≡ ps → SlicesBelow x.slice (views layer_walk xs) → SlicesFrom x.slice (views layer_walk ys) → Halves (views layer_walk ps) (views layer_walk xs) (views layer_walk ys)
halves ps xs ys x n h many last whole e below from =
    sixteen x.slice (views layer_walk ps) (views layer_walk xs) (views layer_walk ys) h (length-map ps (view_of layer_walk) ∙ many) (last_slice_is ps x (omega arith) (last ∙ ap (λ (k : ℕ). get_or ps (k - 1) x) whole)) (views_parted xs ys ps e) below from

-- of two lists, one after the other, the left is what lies before the seam, and the right what lies from there on
pub at_seam : (left right all : List (Place DraftView)) (seam : ℕ) → all ≡ left ++ right → seam ≡ length left → (take seam all ≡ left) × (drop seam all ≡ right)
at_seam left right all seam e l = ((λ i. take (l i) (e i)) ∙ take-append_seam left right, (λ i. drop (l i) (e i)) ∙ drop-append_seam left right)

pub around : (all xs rest run ys : List (Place DraftView)) (seam : ℕ) (x : Place DraftView) (next : ℕ) → IsRanked (views layer_walk all) → IsBorder (views layer_walk (take seam all)) → IsBorder (views layer_walk (drop seam all))
    → last_slice_of (views layer_walk (take seam all)) ≡ first_slice_of (views layer_walk (drop seam all)) → x ≡ get_or all seam x → next ≡ min (x.slice + 1) (2 ^ 64 - 1)
    → xs ++ rest ≡ all → run ++ ys ≡ rest
    → SlicesBelow x.slice (views layer_walk xs) → SlicesFrom x.slice (views layer_walk rest) → SlicesBelow next (views layer_walk run) → SlicesFrom next (views layer_walk ys)
    → Thirds (views layer_walk xs) (views layer_walk run) (views layer_walk ys)
around all xs rest run ys seam x next h l r met at is f g below from run_below ys_from =
    let left = views layer_walk (take seam all) in
    let right = views layer_walk (drop seam all) in
    let some : 1 ≤ length right = r.0 in
    let whole : left ++ right ≡ views layer_walk all = views_parted (take seam all) (drop seam all) all (take-append-drop seam all) in
    let here : seam ≡ seam + 0 = omega arith in
    let first = first_slice_is (drop seam all) x (omega (arith, length-map (drop seam all) (view_of layer_walk))) (at ∙ ap (λ (k : ℕ). get_or all k x) here ∙ sym (get_or-drop seam all 0 x)) in
    thirds x.slice next left right (views layer_walk xs) (views layer_walk rest) (views layer_walk run) (views layer_walk ys) (subst IsRanked (sym whole) h) l r (met ∙ first) first is
    (views_parted xs rest all f ∙ sym whole) (views_parted run ys rest g) below from run_below ys_from
