-- The layers below the links of stored places.
use Rattle.std.proofs.Common.{◌≡◌, ℕ, ◌≤◌, List, [], ◌∷◌, ◌++◌, length, refl, sym, ap, ◌∙◌, subst, arith, length-append, Vec, Global}
use Rattle.std.specs.List.{AllByRecursion, flat_map}
use Rattle.std.proofs.lemmas.List.{length-map}
use Rattle.mt_tree.specs.Steps.Ranks.{layered, AreRanked}
use Rattle.mt_tree.specs.Layer.{PlaceView, walk, linked_walks}
use Rattle.mt_tree.specs.Nodes.{LayerView, each_borders, IsLayerTree, AreLinked, linked, unlinked}
use Rattle.mt_words.specs.Walks.{Pair, joined}
use Rattle.mt_tree.specs.Borders.{IsBorderList, AreBorders, borders_walk, layer_walk, DraftView}
use Rattle.mt_tree.specs.Steps.Seams.{SameEnds, first_slice_of}
use Rattle.mt_tree.specs.Steps.DraftViews.{border_view, border_views, layers_of_border, draft_of, IsLawfulLink, HaveLawfulLinks, HasLawfulLinks, IsFirstOpen, IsLastOpen, IsStored, PutBehind, PutOpen, layers_under, HaveFollowed, HavePushed}
use Rattle.mt_tree.specs.declared.layer.Border.{Border}
use Rattle.mt_tree.specs.declared.layer.Border.TheVariants.{Open, Closed}
use Rattle.mt_tree.specs.declared.place.Content.TheVariants.{Short, Suffix, Link}
use Rattle.mt_tree.proofs.Joins.{all_append, all_front, all_back}
use Rattle.mt_tree.proofs.Levels.{linked-append, linked_walks-append}
use Rattle.mt_tree.proofs.Puts.{first_front, first_then, last_then, last_rest}
use Rattle.mt_tree.proofs.Meets.{Sides, last_border, seam_put}
use Rattle.mt_tree.proofs.Behind.{opened, opened_put}
use Rattle.mt_tree.specs.Steps.Places.{views, view_of, view_of_content, below_link, below_links}
use Rattle.mt_tree.specs.Steps.NodeViews.{trees_under}
use Rattle.mt_tree.specs.declared.place.Place.{Place}
use Rattle.mt_tree.specs.declared.place.Content.{Content}

-- ---- a stored layer is a lawful draft
content_lawful : (c : Content DraftView) (ls : List (List (List PlaceView))) → IsLawfulLink c → AllByRecursion IsBorderList ls → AllByRecursion IsBorderList (below_link layers_under c ++ ls)
content_lawful (Short l c) ls h k = k
content_lawful (Suffix t c) ls h k = k
content_lawful (Link l) ls h k = (h.own, all_append IsBorderList l.below ls h.below k)

content_linked : (s : ℕ) (c : Content DraftView) (ps : List PlaceView) (ls : List (List (List PlaceView))) → IsLawfulLink c → AreLinked (linked_walks ps) ls → AreLinked (linked_walks (view_of_content layer_walk s c ∷ ps)) (below_link layers_under c ++ ls)
content_linked s (Short l c) ps ls h k = k
content_linked s (Suffix t c) ps ls h k = k
content_linked s (Link l) ps ls h k = linked h.linked k

layers_lawful : (ps : List (Place DraftView)) → HaveLawfulLinks ps → AllByRecursion IsBorderList (below_links layers_under ps)
layers_lawful [] h = tt
layers_lawful (p ∷ ps) h = content_lawful p.content (below_links layers_under ps) h.0 (layers_lawful ps h.1)

layers_linked : (ps : List (Place DraftView)) → HaveLawfulLinks ps → AreLinked (linked_walks (views layer_walk ps)) (below_links layers_under ps)
layers_linked [] h = unlinked
layers_linked (p ∷ ps) h = content_linked p.slice p.content (views layer_walk ps) (below_links layers_under ps) h.0 (layers_linked ps h.1)

trees_lawful : (ts : List LayerView) → AllByRecursion IsLayerTree ts → AllByRecursion IsBorderList (each_borders ts)
trees_lawful [] h = tt
trees_lawful (t ∷ ts) h = ((h.0.each, h.0.apart, h.0.layer), trees_lawful ts h.1)

border_lawful : (b : Border) → HasLawfulLinks b → AllByRecursion IsBorderList (layers_of_border b)
border_lawful (Open ps) h = layers_lawful ps.items h
border_lawful (Closed f) h = trees_lawful (below_links trees_under f.made.items) h.0.lawful

border_linked : (b : Border) → HasLawfulLinks b → AreLinked (linked_walks (border_view b)) (layers_of_border b)
border_linked (Open ps) h = layers_linked ps.items h
border_linked (Closed f) h = h.0.linked

borders_lawful : (bs : List Border) → AllByRecursion HasLawfulLinks bs → AllByRecursion IsBorderList (flat_map layers_of_border bs)
borders_lawful [] h = tt
borders_lawful (b ∷ bs) h = all_append IsBorderList (layers_of_border b) (flat_map layers_of_border bs) (border_lawful b h.0) (borders_lawful bs h.1)

borders_linked : (bs : List Border) → AllByRecursion HasLawfulLinks bs → AreLinked (linked_walks (joined (border_views bs))) (flat_map layers_of_border bs)
borders_linked [] h = unlinked
borders_linked (b ∷ bs) h =
    subst (λ (z : List (List Pair)). AreLinked z (flat_map layers_of_border (b ∷ bs))) (sym (linked_walks-append (border_view b) (joined (border_views bs))))
    (linked-append (linked_walks (border_view b)) (linked_walks (joined (border_views bs))) (layers_of_border b) (flat_map layers_of_border bs) (border_linked b h.0) (borders_linked bs h.1))

pub stored_are : (bs : List Border) → IsStored bs → AreBorders (draft_of bs)
stored_are bs h = record { own = (h.own.0, h.own.1, layered 0 (joined (border_views bs)) h.own.2); below = borders_lawful bs h.links; linked = borders_linked bs h.links }

-- ---- places that move
abbrev lawful : Place DraftView → Type 0
lawful p = IsLawfulLink p.content

-- lawful links of a layer: those of the last border, and those of the borders before it
pub links_parted : (lb fs : List Border) (l : Vec (Place DraftView) Global) → AllByRecursion HasLawfulLinks lb → lb ≡ fs ++ Open l ∷ [] → AllByRecursion HasLawfulLinks fs × HaveLawfulLinks l.items
links_parted lb fs l h e =
    let both : AllByRecursion HasLawfulLinks (fs ++ Open l ∷ []) = subst (AllByRecursion HasLawfulLinks) e h in
    (all_front HasLawfulLinks fs (Open l ∷ []) both, (all_back HasLawfulLinks fs (Open l ∷ []) both).0)

-- lawful links of a layer: those of the first border, and those of the borders after it
pub links_first : (rb bs : List Border) (f : Vec (Place DraftView) Global) → AllByRecursion HasLawfulLinks rb → rb ≡ Open f ∷ bs → HaveLawfulLinks f.items × AllByRecursion HasLawfulLinks bs
links_first rb bs f h e = subst (AllByRecursion HasLawfulLinks) e h

links_put : (places : List (Place DraftView)) (old new : List Border) → AllByRecursion HasLawfulLinks old → HaveLawfulLinks places → PutBehind places old new → AllByRecursion HasLawfulLinks new
links_put places old new h k put = subst (AllByRecursion HasLawfulLinks) (sym put.behind) (all_append HasLawfulLinks old put.more h (put.links k))

-- if other places replaced the last border, the layer is lawful
pub put_stored : (lb fs new : List Border) (l : Vec (Place DraftView) Global) (places : List (Place DraftView)) → AreRanked (border_views new) → IsStored lb → lb ≡ fs ++ Open l ∷ [] → HaveLawfulLinks places → 1 ≤ length places → PutOpen places fs new → IsStored new
put_stored lb fs new l places own h e k some put = record {
  own = own;
  links = links_put places fs new (links_parted lb fs l h.links e).0 k put.put;
  first = put.put.first (first_front fs (Open l) (subst IsFirstOpen e h.first));
  last = put.last some;
}

-- if these places have those of the last border and one pair more, the layer is lawful and has one pair more
pub appended : (lb fs new : List Border) (l : Vec (Place DraftView) Global) (places : List (Place DraftView)) (p : Pair) → IsStored lb → lb ≡ fs ++ Open l ∷ [] → PutOpen places fs new → HaveFollowed p l.items places → HavePushed p lb new
appended lb fs new l places p stored e put followed =
    let r = opened_put fs (views layer_walk l.items) (border_views lb) (opened lb fs l (draft_of lb) refl stored e) places new p put.put followed.pairs followed.first in
    record { lawful = put_stored lb fs new l places r.0 stored e followed.links followed.some put; pairs = r.1 }

pub put_moved : (xs ys : List (Place DraftView)) (a b new : List Border) → xs ≡ ys → a ≡ b → PutOpen xs a new → PutOpen ys b new
put_moved xs ys a b new e f put = subst (λ (z : List (Place DraftView)). PutOpen z b new) e (subst (λ (z : List Border). PutOpen xs z new) f put)

more_some : (places : List (Place DraftView)) (old new : List Border) → PutBehind places old new → 1 ≤ length places → 1 ≤ length new
more_some places old new put some = by put.more refl
  where
    by : (more : List Border) → put.more ≡ more → 1 ≤ length new
    by [] e =
        let none : 0 ≡ length places = ap (λ (z : List Border). length (joined (border_views z))) (sym e) ∙ ap (λ (z : List PlaceView). length z) put.same ∙ length-map places (view_of layer_walk) in
        absurd (omega arith)
    by (b ∷ bs) e =
        let behind = ap (λ (z : List Border). length z) put.behind in
        let more = ap (λ (z : List Border). length z) e in
        omega (arith, behind, more, length-append old put.more)

-- if other places replaced the two borders at a seam, the layer is lawful
pub seam_stored : (lb rb fs bs seam whole : List Border) (l f : Vec (Place DraftView) Global) (left right : List (Place DraftView)) (vl : List (List PlaceView)) → Sides (border_views fs) (border_views bs) (views layer_walk l.items) (views layer_walk f.items) vl
    → IsStored lb → IsStored rb → lb ≡ fs ++ Open l ∷ [] → rb ≡ Open f ∷ bs → length left ≡ length l.items → SameEnds (views layer_walk l.items) (views layer_walk f.items) (views layer_walk left ++ views layer_walk right)
    → HaveLawfulLinks (left ++ right) → PutOpen (left ++ right) fs seam → whole ≡ seam ++ bs → IsStored whole
seam_stored lb rb fs bs seam whole l f left right vl s h k e g same ends links put is =
    let left_some : 1 ≤ length (views layer_walk l.items) = (last_border _ _ _ _ _ s).0 in
    let some : 1 ≤ length (left ++ right) = omega (arith, left_some, length-map l.items (view_of layer_walk), same, length-append left right) in
    record {
      own = seam_put fs bs seam whole l.items f.items left right vl s put.put is same ends;
      links = subst (AllByRecursion HasLawfulLinks) (sym is) (all_append HasLawfulLinks seam bs (links_put (left ++ right) fs seam (links_parted lb fs l h.links e).0 links put.put) (links_first rb bs f k.links g).1);
      first = subst IsFirstOpen (sym is) (first_then seam bs (more_some (left ++ right) fs seam put.put some) (put.put.first (first_front fs (Open l) (subst IsFirstOpen e h.first))));
      last = subst IsLastOpen (sym is) (last_then seam bs (put.last some) (last_rest (Open f) bs (subst IsLastOpen g k.last)));
    }

-- ---- one list of places
pub links_then : (places after : List (Place DraftView)) (p : Place DraftView) → HaveLawfulLinks places → IsLawfulLink p.content → after ≡ places ++ p ∷ [] → HaveLawfulLinks after
links_then places after p h k e = subst HaveLawfulLinks (sym e) (all_append lawful places (p ∷ []) h (k, tt))

-- links stay lawful if another place, with a lawful link, replaced the last one
pub links_changed : (places xs after : List (Place DraftView)) (p m : Place DraftView) → HaveLawfulLinks places → places ≡ xs ++ p ∷ [] → IsLawfulLink m.content → after ≡ xs ++ m ∷ [] → HaveLawfulLinks after
links_changed places xs after p m h e k f = links_then xs after m (all_front lawful xs (p ∷ []) (subst HaveLawfulLinks e h)) k f

-- likewise if one place replaced the last of one list and the first of the next
pub links_merged : (l r xs ys places rest : List (Place DraftView)) (p q m : Place DraftView) → HaveLawfulLinks l → HaveLawfulLinks r → l ≡ xs ++ p ∷ [] → r ≡ q ∷ ys → IsLawfulLink m.content → places ≡ xs ++ m ∷ [] → rest ≡ ys → HaveLawfulLinks (places ++ rest)
links_merged l r xs ys places rest p q m h k e f lawful_m g i =
    let later : HaveLawfulLinks rest = subst HaveLawfulLinks (sym i) (subst HaveLawfulLinks f k).1 in
    all_append lawful places rest (links_changed l xs places p m h e lawful_m g) later

-- likewise if two lists of places stayed as they are
pub links_kept : (l r places rest : List (Place DraftView)) → HaveLawfulLinks l → HaveLawfulLinks r → places ≡ l → rest ≡ r → HaveLawfulLinks (places ++ rest)
links_kept l r places rest h k e f = all_append lawful places rest (subst HaveLawfulLinks (sym e) h) (subst HaveLawfulLinks (sym f) k)
