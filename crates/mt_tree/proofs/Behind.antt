-- A pair is appended to the places of a layer.
use Rattle.std.proofs.Common.{◌≡◌, ℕ, suc, ◌+◌, ◌-◌, ◌*◌, ◌^◌, ◌<◌, ◌≤◌, List, [], ◌∷◌, ◌++◌, length, drop, get_or, set, refl, sym, ap, ◌∙◌, subst, arith, append_assoc, length-append, length-drop, Vec, Global}
use Rattle.std.specs.List.{AllByRecursion}
use Rattle.std.proofs.Math.Seq.{set-append_seam}
use Rattle.std.proofs.lemmas.List.{append-nil, map-append, same_from_push}
use Rattle.mt_words.specs.Slices.{AreBytes, slice_in, slice_bytes}
use Rattle.mt_words.specs.Walks.{Pair, joined}
use Rattle.mt_words.proofs.SliceBytes.{slice_bytes-length, slice_bytes-long, bytes_take}
use Rattle.mt_tree.specs.Layer.{PlaceView, link, slice_at, length_at, pairs_at, put_before, walk, IsPlace, HasNoEmptyKey, AllKeysBelow}
use Rattle.mt_tree.specs.Steps.Ranks.{rank_at, IsRanked, AreRanked, length_at-le}
use Rattle.mt_tree.specs.Steps.Pairs.{key_rank, weight}
use Rattle.mt_tree.specs.Steps.Seams.{Meet, first_slice_of}
use Rattle.mt_tree.specs.Steps.Falls.{weight-append, walk-append, layer_back, joined-append}
use Rattle.mt_tree.specs.Nodes.{IsBorder}
use Rattle.mt_tree.specs.Borders.{DraftView, AreBorders, borders_walk, layer_walk}
use Rattle.mt_tree.specs.Steps.DraftViews.{border_views, draft_of, IsLawfulLink, HaveLawfulLinks, IsStored, IsOpen, IsOpened, PutBehind, CanFollow, LastMeets, HaveFollowed}
use Rattle.mt_tree.specs.declared.layer.Border.{Border}
use Rattle.mt_tree.specs.declared.layer.Border.TheVariants.{Open}
use Rattle.mt_tree.proofs.Joins.{Seam, apart_layer, layer_seam, last_place, put_before-append, below_unprefixed, below_lighter, slice_at-draft, slice_at-lt, all_append, all_front, all_back}
use Rattle.mt_tree.proofs.Finds.{pairs_rank}
use Rattle.mt_tree.proofs.Puts.{borders-append, popped_open}
use Rattle.mt_tree.proofs.Seams.{behind_are}
use Rattle.mt_tree.proofs.Meets.{first_merged}
use Rattle.mt_tree.specs.Steps.Places.{views, view_of}
use Rattle.mt_tree.specs.declared.place.Place.{Place}
use Rattle.mt_tree.specs.declared.place.Content.{Content}
use Rattle.mt_tree.specs.declared.place.Content.TheVariants.{Link}

-- ---- the last place
-- x is the last item of xs, which has n; and the list with another last item
pub record LastAt {X : Type 0} (xs : List X) (n : ℕ) (x : X) : Type 0 where
  pub front : List X
  pub is : xs ≡ front ++ x ∷ []
  pub changed : (y : X) → set xs (n - 1) y ≡ front ++ y ∷ []

last_of : {X : Type 0} (xs : List X) (x : X) → 1 ≤ length xs → x ≡ get_or xs (length xs - 1) x → (front : List X) × (xs ≡ front ++ x ∷ [])
last_of [] x h e = absurd (omega arith)
last_of {X} (y ∷ []) x h e =
    let at : length (y ∷ []) - 1 ≡ 0 = omega arith in
    ([], ap (λ (z : X). z ∷ []) (sym (e ∙ ap (λ (k : ℕ). get_or (y ∷ []) k x) at)))
last_of {X} (y ∷ z ∷ zs) x h e =
    let at : length (y ∷ z ∷ zs) - 1 ≡ suc (length (z ∷ zs) - 1) = omega arith in
    let rest = last_of (z ∷ zs) x (omega arith) (e ∙ ap (λ (k : ℕ). get_or (y ∷ z ∷ zs) k x) at) in
    (y ∷ rest.0, ap (λ (k : List X). y ∷ k) rest.1)

pub last_at : {X : Type 0} (xs : List X) (n : ℕ) (x : X) → 1 ≤ length xs → n ≡ length xs → x ≡ get_or xs (n - 1) x → LastAt xs n x
last_at {X} xs n x some whole e =
    let l = last_of xs x some (e ∙ ap (λ (k : ℕ). get_or xs (k - 1) x) whole) in
    let at : n - 1 ≡ length l.0 = omega (arith, whole, ap (λ (z : List X). length z) l.1, length-append l.0 (x ∷ [])) in
    record { front = l.0; is = l.1; changed = λ y. (λ i. set (l.1 i) (at i) y) ∙ set-append_seam l.0 x [] y }

has_last : {X : Type 0} (xs : List X) → 1 ≤ length xs → (front : List X) × (x : X) × (xs ≡ front ++ x ∷ [])
has_last [] h = absurd (omega arith)
has_last {X} (y ∷ []) h = ([], y, refl)
has_last {X} (y ∷ z ∷ zs) h = let rest = has_last (z ∷ zs) (omega arith) in (y ∷ rest.0, rest.1, ap (λ (k : List X). y ∷ k) rest.2)

front_layer : (places xs : List (Place DraftView)) (p : Place DraftView) → IsRanked (views layer_walk places) → places ≡ xs ++ p ∷ [] → IsRanked (views layer_walk xs ++ view_of layer_walk p ∷ [])
front_layer places xs p h e = subst IsRanked (ap (views layer_walk) e ∙ map-append (view_of layer_walk) xs (p ∷ [])) h

pub popped_lawful : (places xs : List (Place DraftView)) (p : Place DraftView) → IsRanked (views layer_walk places) → places ≡ xs ++ p ∷ [] → IsPlace (view_of layer_walk p)
popped_lawful places xs p h e = last_place 0 (views layer_walk xs) (view_of layer_walk p) (front_layer places xs p h e)

pub last_lawful : (places : List (Place DraftView)) (x : Place DraftView) → IsRanked (views layer_walk places) → 1 ≤ length places → x ≡ get_or places (length places - 1) x → IsPlace (view_of layer_walk x)
last_lawful places x h some e = let l = last_of places x some e in popped_lawful places l.0 x h l.1

walk_last : (places xs : List (Place DraftView)) (p : Place DraftView) → places ≡ xs ++ p ∷ [] → walk (views layer_walk places) ≡ walk (views layer_walk xs) ++ pairs_at (view_of layer_walk p)
walk_last places xs p e =
    ap (λ (z : List (Place DraftView)). walk (views layer_walk z)) e ∙ ap walk (map-append (view_of layer_walk) xs (p ∷ [])) ∙ walk-append (views layer_walk xs) (view_of layer_walk p ∷ [])
    ∙ ap (λ (w : List Pair). walk (views layer_walk xs) ++ w) (append-nil (pairs_at (view_of layer_walk p)))

-- ---- a place of its own
key_at : (key : List ℕ) (c : List (ℕ × List ℕ)) (q : Place DraftView) → IsPlace (view_of layer_walk q) → pairs_at (view_of layer_walk q) ≡ (key, c) ∷ [] → key_rank key ≡ rank_at (view_of layer_walk q)
key_at key c q h e = (subst (AllByRecursion (λ (p : Pair). key_rank p.0 ≡ rank_at (view_of layer_walk q))) e (pairs_rank (view_of layer_walk q) h)).0

own_layer : (places after : List (Place DraftView)) (q : Place DraftView) (key : List ℕ) (c : List (ℕ × List ℕ)) → CanFollow (key, c) places → (LastMeets key places → ⊥)
    → IsPlace (view_of layer_walk q) → pairs_at (view_of layer_walk q) ≡ (key, c) ∷ [] → after ≡ places ++ q ∷ [] → IsRanked (views layer_walk after)
own_layer places after q key c can other lawful pairs e =
    let l = has_last places can.some in
    let x : Place DraftView = l.1 in
    let rank : key_rank key ≡ rank_at (view_of layer_walk q) = key_at key c q lawful pairs in
    let few = length_at-le (view_of layer_walk q) lawful in
    let alone : walk (views layer_walk (q ∷ [])) ≡ (key, c) ∷ [] = append-nil (pairs_at (view_of layer_walk q)) ∙ pairs in
    let s : Seam l.0 x q [] = record {
      left = subst (λ (z : List (Place DraftView)). IsRanked (views layer_walk z)) l.2 can.lawful;
      right = (lawful, omega arith, tt);
      below = subst (λ (z : List (Place DraftView)). AllKeysBelow (walk (views layer_walk z)) (walk (views layer_walk (q ∷ [])))) l.2 (subst (AllKeysBelow (walk (views layer_walk places))) (sym alone) can.below);
    } in
    let apart : Meet (view_of layer_walk x) (view_of layer_walk q) → ⊥ =
    λ m. let same : slice_at (view_of layer_walk x) ≡ slice_at (view_of layer_walk q) = m.0 in
    let long : length_at (view_of layer_walk q) ≡ 9 = m.2 in
    other (record { front = l.0; last = x; is = l.2; slice = omega (arith, same, rank, long, slice_at-draft x); long = m.1; longer = omega (arith, rank, long) }) in
    subst (λ (z : List (Place DraftView)). IsRanked (views layer_walk z)) (sym (append_assoc l.0 (x ∷ []) (q ∷ [])) ∙ ap (λ (z : List (Place DraftView)). z ++ q ∷ []) (sym l.2) ∙ sym e) (apart_layer l.0 x q [] s apart)

first_kept : (xs ys : List (Place DraftView)) → 1 ≤ length xs → first_slice_of (views layer_walk (xs ++ ys)) ≡ first_slice_of (views layer_walk xs)
first_kept [] ys some = absurd (omega arith)
first_kept (x ∷ xs) ys some = refl

pub own_followed : (places after : List (Place DraftView)) (q : Place DraftView) (key : List ℕ) (c : List (ℕ × List ℕ)) → CanFollow (key, c) places → (LastMeets key places → ⊥)
    → IsPlace (view_of layer_walk q) → IsLawfulLink q.content → pairs_at (view_of layer_walk q) ≡ (key, c) ∷ [] → after ≡ places ++ q ∷ [] → HaveFollowed (key, c) places after
own_followed places after q key c can apart lawful linked pairs e =
    let size = ap (λ (z : List (Place DraftView)). length z) e in
    let some = can.some in
    record {
      pairs = walk_last after places q e ∙ ap (λ (w : List Pair). walk (views layer_walk places) ++ w) pairs;
      lawful = own_layer places after q key c can apart lawful pairs e;
      links = subst HaveLawfulLinks (sym e) (all_append (λ p. IsLawfulLink p.content) places (q ∷ []) can.links (linked, tt));
      first = ap (λ (z : List (Place DraftView)). first_slice_of (views layer_walk z)) e ∙ first_kept places (q ∷ []) some;
      some = omega (arith, size, some, length-append places (q ∷ []));
      more = omega (arith, size, length-append places (q ∷ []));
    }

-- ---- below the last place
pub record Deeper (p : Place DraftView) (slice : ℕ) (key : List ℕ) (c : List (ℕ × List ℕ)) (upper : List Pair) : Type 0 where
  pub place : IsPlace (view_of layer_walk p)
  pub same : p.slice ≡ slice
  pub long : length_at (view_of layer_walk p) ≡ 9
  pub is_slice : slice ≡ slice_in key
  pub bytes : AreBytes key
  pub longer : 8 < length key
  pub upper_is : put_before (slice_bytes p.slice) upper ≡ pairs_at (view_of layer_walk p)
  pub some : 0 < length upper
  pub keys : HasNoEmptyKey upper

met_here : (places xs : List (Place DraftView)) (p : Place DraftView) (key : List ℕ) → LastMeets key places → places ≡ xs ++ p ∷ [] → (p.slice ≡ slice_in key) × (length_at (view_of layer_walk p) ≡ 9)
met_here places xs p key m e =
    let same : m.last ≡ p = (same_from_push m.front xs m.last p (sym m.is ∙ e)).1 in
    subst (λ (q : Place DraftView). (q.slice ≡ slice_in key) × (length_at (view_of layer_walk q) ≡ 9)) same (m.slice, m.long)

-- the last place as the code looked at it, which meets the key or not
module _ (places : List (Place DraftView)) (n : ℕ) (x : Place DraftView) (key : List ℕ) (slice : ℕ) (some : 1 ≤ length places) (whole : n ≡ length places) (e : x ≡ get_or places (n - 1) x) (is_slice : slice ≡ slice_in key) where
  pub last_meets : (x.slice ≡ slice) × (length_at (view_of layer_walk x) ≡ 9) × (8 < length key) → LastMeets key places
  last_meets met =
      let l = last_at places n x some whole e in
      record { front = l.front; last = x; is = l.is; slice = met.0 ∙ is_slice; long = met.1; longer = met.2 }

  pub last_apart : ((x.slice ≡ slice) × (length_at (view_of layer_walk x) ≡ 9) × (8 < length key) → ⊥) → LastMeets key places → ⊥
  last_apart other m =
      let l = last_at places n x some whole e in
      let here = met_here places l.front x key m l.is in
      other (here.0 ∙ sym is_slice, here.1, m.longer)

pub met_long : (places xs : List (Place DraftView)) (p : Place DraftView) (key : List ℕ) → LastMeets key places → places ≡ xs ++ p ∷ [] → length_at (view_of layer_walk p) ≡ 9
met_long places xs p key m e = (met_here places xs p key m e).1

pub deeper : (places xs : List (Place DraftView)) (p : Place DraftView) (slice : ℕ) (key : List ℕ) (c : List (ℕ × List ℕ)) (upper : List Pair) → IsRanked (views layer_walk places) → LastMeets key places → places ≡ xs ++ p ∷ []
    → slice ≡ slice_in key → AreBytes key → put_before (slice_bytes p.slice) upper ≡ pairs_at (view_of layer_walk p) → 0 < length upper → HasNoEmptyKey upper → Deeper p slice key c upper
deeper places xs p slice key c upper h m e is_slice bytes upper_is some keys =
    let here = met_here places xs p key m e in
    record {
      place = popped_lawful places xs p h e;
      same = here.0 ∙ sym is_slice;
      long = here.1;
      is_slice = is_slice;
      bytes = bytes;
      longer = m.longer;
      upper_is = upper_is;
      some = some;
      keys = keys;
    }

-- the place of this slice that links to this layer
abbrev pub linking : ℕ → DraftView → Place DraftView
linking slice lower = record { slice = slice; content = Link lower }

-- the last of these places, n in number, has this slice and links to this layer, and the key goes below it
pub record Linked (places : List (Place DraftView)) (n at slice : ℕ) (lower : DraftView) (key : List ℕ) (c : List (ℕ × List ℕ)) : Type 0 where
  pub last : LastAt places n (linking at lower)
  pub below : Deeper (linking at lower) slice key c (layer_walk lower)

pub linked_last : (places : List (Place DraftView)) (n slice : ℕ) (x : Place DraftView) (lower : DraftView) (key : List ℕ) (c : List (ℕ × List ℕ)) → CanFollow (key, c) places → LastMeets key places → n ≡ length places
    → x ≡ get_or places (n - 1) x → x.content ≡ Link lower → slice ≡ slice_in key → AreBytes key → Linked places n x.slice slice lower key c
linked_last places n slice x lower key c can m whole f content is_slice bytes =
    let p = linking x.slice lower in
    let same : x ≡ p = ap (λ (z : Content DraftView). record { slice = x.slice; content = z }) content in
    let last : LastAt places n p = subst (LastAt places n) same (last_at places n x can.some whole f) in
    let lawful : IsPlace (view_of layer_walk p) = popped_lawful places last.front p can.lawful last.is in
    let two : 2 ≤ length (layer_walk lower) = lawful.1 in
    record { last = last; below = deeper places last.front p slice key c (layer_walk lower) can.lawful m last.is is_slice bytes refl (omega (arith, two)) lawful.2 }

module _ (p : Place DraftView) (slice : ℕ) (key : List ℕ) (c : List (ℕ × List ℕ)) (upper : List Pair) (d : Deeper p slice key c upper) where
  whole_key : slice_bytes slice ++ drop 8 key ≡ key
  whole_key = ap (λ (s : ℕ). slice_bytes s ++ drop 8 key) d.is_slice ∙ slice_bytes-long key (let long = d.longer in omega arith) (bytes_take 8 key d.bytes)

  upper_here : put_before (slice_bytes slice) upper ≡ pairs_at (view_of layer_walk p)
  upper_here = ap (λ (s : ℕ). put_before (slice_bytes s) upper) (sym d.same) ∙ d.upper_is

  pub deeper_below : (places xs : List (Place DraftView)) (rest : List ℕ) → places ≡ xs ++ p ∷ [] → rest ≡ drop 8 key → AllKeysBelow (walk (views layer_walk places)) ((key, c) ∷ []) → AllKeysBelow upper ((rest, c) ∷ [])
  deeper_below places xs rest e f below =
      let here : AllKeysBelow (pairs_at (view_of layer_walk p)) ((key, c) ∷ []) = all_back _ (walk (views layer_walk xs)) (pairs_at (view_of layer_walk p)) (subst (λ (w : List Pair). AllKeysBelow w ((key, c) ∷ [])) (walk_last places xs p e) below) in
      let put : AllKeysBelow (put_before (slice_bytes slice) upper) ((key, c) ∷ []) = subst (λ (w : List Pair). AllKeysBelow w ((key, c) ∷ [])) (sym upper_here) here in
      let both : AllKeysBelow (put_before (slice_bytes slice) upper) (put_before (slice_bytes slice) ((drop 8 key, c) ∷ [])) = subst (λ (k : List ℕ). AllKeysBelow (put_before (slice_bytes slice) upper) ((k, c) ∷ [])) (sym whole_key) put in
      subst (λ (k : List ℕ). AllKeysBelow upper ((k, c) ∷ [])) (sym f) (below_unprefixed (slice_bytes slice) upper ((drop 8 key, c) ∷ []) both)

  pub deeper_light : (places xs : List (Place DraftView)) → places ≡ xs ++ p ∷ [] → weight upper < weight (walk (views layer_walk places))
  deeper_light places xs e =
      let light = below_lighter (slice_bytes slice) upper (slice_bytes-length slice) d.some in
      omega (arith, light, ap weight upper_here, ap weight (walk_last places xs p e), weight-append (walk (views layer_walk xs)) (pairs_at (view_of layer_walk p)))

  module _ (lower : List Pair) (rest : List ℕ) (is : lower ≡ upper ++ (rest, c) ∷ []) (f : rest ≡ drop 8 key) where
    deeper_lawful : IsPlace (link slice lower)
    deeper_lawful =
        let low : slice < 2 ^ 64 = subst (λ (s : ℕ). s < 2 ^ 64) (slice_at-draft p ∙ d.same) (slice_at-lt (view_of layer_walk p) d.place) in
        let some = d.some in
        let longer = d.longer in
        let more : length (rest) ≡ length (drop 8 key) = ap (λ (k : List ℕ). length k) f in
        let two : 2 ≤ length lower = omega (arith, ap (λ (w : List Pair). length w) is, length-append upper ((rest, c) ∷ []), some) in
        let last : 0 < length rest = omega (arith, more, length-drop 8 key, longer) in
        (low, two, subst HasNoEmptyKey (sym is) (all_append (λ (q : Pair). 0 < length q.0) upper ((rest, c) ∷ []) d.keys (last, tt)))

    deeper_pairs : pairs_at (link slice lower) ≡ pairs_at (view_of layer_walk p) ++ (key, c) ∷ []
    deeper_pairs =
        ap (put_before (slice_bytes slice)) is ∙ put_before-append (slice_bytes slice) upper ((rest, c) ∷ [])
        ∙ (λ i. upper_here i ++ ((ap (λ (k : List ℕ). slice_bytes slice ++ k) f ∙ whole_key) i, c) ∷ [])

    pub deeper_layer : (places xs after : List (Place DraftView)) (m : Place DraftView) → IsRanked (views layer_walk places) → places ≡ xs ++ p ∷ [] → after ≡ xs ++ m ∷ [] → view_of layer_walk m ≡ link slice lower → IsRanked (views layer_walk after)
    deeper_layer places xs after m h e g mine =
        let long = d.long in
        let rank : rank_at (view_of layer_walk p) ≡ slice * 10 + 9 = omega (arith, slice_at-draft p, d.same, long) in
        subst IsRanked (sym (ap (views layer_walk) g ∙ map-append (view_of layer_walk) xs (m ∷ []) ∙ ap (λ (z : PlaceView). views layer_walk xs ++ z ∷ []) mine))
        (layer_seam 0 (views layer_walk xs) (view_of layer_walk p) (link slice lower) [] (front_layer places xs p h e) deeper_lawful (omega arith) tt)

    pub deeper_walk : (places xs after : List (Place DraftView)) (m : Place DraftView) → places ≡ xs ++ p ∷ [] → after ≡ xs ++ m ∷ [] → view_of layer_walk m ≡ link slice lower → walk (views layer_walk after) ≡ walk (views layer_walk places) ++ (key, c) ∷ []
    deeper_walk places xs after m e g mine =
        walk_last after xs m g ∙ ap (λ (z : PlaceView). walk (views layer_walk xs) ++ pairs_at z) mine ∙ ap (λ (w : List Pair). walk (views layer_walk xs) ++ w) deeper_pairs
        ∙ sym (append_assoc (walk (views layer_walk xs)) (pairs_at (view_of layer_walk p)) ((key, c) ∷ [])) ∙ ap (λ (w : List Pair). w ++ (key, c) ∷ []) (sym (walk_last places xs p e))

  pub deeper_first : (places xs after : List (Place DraftView)) (m : Place DraftView) → places ≡ xs ++ p ∷ [] → after ≡ xs ++ m ∷ [] → m.slice ≡ slice → first_slice_of (views layer_walk after) ≡ first_slice_of (views layer_walk places)
  deeper_first places xs after m e g own =
      ap first_slice_of (ap (views layer_walk) g ∙ map-append (view_of layer_walk) xs (m ∷ []))
      ∙ first_merged (views layer_walk xs) [] (view_of layer_walk p) (view_of layer_walk m) (slice_at-draft m ∙ own ∙ sym d.same ∙ sym (slice_at-draft p))
      ∙ sym (ap first_slice_of (ap (views layer_walk) e ∙ map-append (view_of layer_walk) xs (p ∷ [])))

-- another last place, that links to a layer with one pair more, replaces the last one
pub deeper_followed : (places xs after : List (Place DraftView)) (p m : Place DraftView) (slice : ℕ) (key rest : List ℕ) (c : List (ℕ × List ℕ)) (upper : List Pair) (lower : DraftView) → CanFollow (key, c) places → Deeper p slice key c upper → places ≡ xs ++ p ∷ [] → rest ≡ drop 8 key
    → layer_walk lower ≡ upper ++ (rest, c) ∷ [] → AreBorders lower → m ≡ linking slice lower → after ≡ xs ++ m ∷ [] → HaveFollowed (key, c) places after
deeper_followed places xs after p m slice key rest c upper lower can d e f is borders mine g =
    let to : after ≡ xs ++ linking slice lower ∷ [] = g ∙ ap (λ (z : Place DraftView). xs ++ z ∷ []) mine in
    let size = ap (λ (z : List (Place DraftView)). length z) to in
    let was = ap (λ (z : List (Place DraftView)). length z) e in
    record {
      pairs = deeper_walk p slice key c upper d (layer_walk lower) rest is f places xs after (linking slice lower) e to refl;
      lawful = deeper_layer p slice key c upper d (layer_walk lower) rest is f places xs after (linking slice lower) can.lawful e to refl;
      links = subst HaveLawfulLinks (sym to) (all_append (λ q. IsLawfulLink q.content) xs (linking slice lower ∷ []) (all_front (λ q. IsLawfulLink q.content) xs (p ∷ []) (subst HaveLawfulLinks e can.links)) (borders, tt));
      first = deeper_first p slice key c upper d places xs after (linking slice lower) e to refl;
      some = omega (arith, size, length-append xs (linking slice lower ∷ []));
      more = omega (arith, size, was, length-append xs (linking slice lower ∷ []), length-append xs (p ∷ []));
    }

-- ---- the last border
pub record Opened (fs : List (List PlaceView)) (l : List PlaceView) (v : List (List PlaceView)) : Type 0 where
  pub are : AreRanked (fs ++ l ∷ [])
  pub is : borders_walk v ≡ walk (joined fs) ++ walk l

pub open_end : (lb fs : List Border) (b : Border) (l : Vec (Place DraftView) Global) → lb ≡ fs ++ b ∷ [] → b ≡ Open l → lb ≡ fs ++ Open l ∷ []
open_end lb fs b l e f = e ∙ ap (λ (z : Border). fs ++ z ∷ []) f

pub last_border : (bs : List Border) (n : ℕ) (b : Border) (l : Vec (Place DraftView) Global) → 1 ≤ length bs → n ≡ length bs → b ≡ get_or bs (n - 1) b → b ≡ Open l → LastAt bs n (Open l)
last_border bs n b l some whole e f = subst (LastAt bs n) f (last_at bs n b some whole e)

pub last_is_open : (bs : List Border) (n : ℕ) (b : Border) → IsStored bs → 1 ≤ length bs → n ≡ length bs → b ≡ get_or bs (n - 1) b → IsOpen b
last_is_open bs n b stored some whole e = let k = last_at bs n b some whole e in popped_open bs k.front b k.is stored.last

-- a last border that is popped is the one that was there
module _ (all front popped : List Border) (b : Border) (l : Vec (Place DraftView) Global) (e : all ≡ front ++ Open l ∷ []) (f : all ≡ popped ++ b ∷ []) where
  same_last_border : (popped ≡ front) × (b ≡ Open l)
  same_last_border = same_from_push popped front b (Open l) (sym f ∙ e)

  pub popped_is_open : IsOpen b
  popped_is_open = subst IsOpen (sym same_last_border.1) tt

  pub popped_front : popped ≡ front
  popped_front = same_last_border.0

  pub popped_places : (r : Vec (Place DraftView) Global) → b ≡ Open r → r.items ≡ l.items
  popped_places r g = subst (λ (z : Border). IsOpened z r.items) (sym g ∙ same_last_border.1) refl

pub opened : (lb fs : List Border) (l : Vec (Place DraftView) Global) (d : DraftView) → draft_of lb ≡ d → IsStored lb → lb ≡ fs ++ Open l ∷ [] → Opened (border_views fs) (views layer_walk l.items) d.borders
opened lb fs l d seen stored e =
    let view : border_views lb ≡ d.borders = ap (λ (z : DraftView). z.borders) seen in
    let ls = views layer_walk l.items in
    let front = border_views fs in
    let same : border_views lb ≡ front ++ ls ∷ [] = ap border_views e ∙ borders-append fs (Open l ∷ []) in
    record {
      are = subst AreRanked same stored.own;
      is = ap borders_walk (sym view ∙ same) ∙ ap walk (joined-append front (ls ∷ []) ∙ ap (λ (z : List PlaceView). joined front ++ z) (append-nil ls)) ∙ walk-append (joined front) ls;
    }

module _ (fs : List (List PlaceView)) (l : List PlaceView) (v : List (List PlaceView)) (o : Opened fs l v) where
  pub opened_layer : IsRanked l
  opened_layer = subst IsRanked (append-nil l) (layer_back 0 (joined fs) (joined (l ∷ [])) (subst IsRanked (joined-append fs (l ∷ [])) o.are.2))

  pub opened_border : IsBorder l
  opened_border = (all_back IsBorder fs (l ∷ []) o.are.0).0

  pub opened_below : (w : List Pair) → AllKeysBelow (borders_walk v) w → AllKeysBelow (walk l) w
  opened_below w below = all_back _ (walk (joined fs)) (walk l) (subst (λ (z : List Pair). AllKeysBelow z w) o.is below)

  pub opened_light : weight (walk l) ≤ weight (borders_walk v)
  opened_light = omega (arith, ap weight o.is, weight-append (walk (joined fs)) (walk l))

-- other borders that begin with the same slice replace the last one
pub opened_put : (fs : List Border) (l : List PlaceView) (v : List (List PlaceView)) → Opened (border_views fs) l v → (places : List (Place DraftView)) (new : List Border) (p : Pair) → PutBehind places fs new
    → walk (views layer_walk places) ≡ walk l ++ p ∷ [] → first_slice_of (views layer_walk places) ≡ first_slice_of l → AreRanked (border_views new) × (borders_walk (border_views new) ≡ borders_walk v ++ p ∷ [])
opened_put fs l v o places new p put pairs first =
    let front = border_views fs in
    let more = border_views put.more in
    let seen : joined more ≡ views layer_walk places = put.same in
    let behind : border_views new ≡ front ++ more = ap border_views put.behind ∙ borders-append fs put.more in
    let some : 1 ≤ length l = (opened_border front l v o).0 in
    let whole : walk (joined more) ≡ walk l ++ p ∷ [] = ap walk seen ∙ pairs in (
      subst AreRanked (sym behind) (behind_are front l more o.are put.lawful some (ap first_slice_of seen ∙ first)),
      ap borders_walk behind ∙ ap walk (joined-append front more) ∙ walk-append (joined front) (joined more) ∙ ap (λ (w : List Pair). walk (joined front) ++ w) whole
          ∙ sym (append_assoc (walk (joined front)) (walk l) (p ∷ [])) ∙ ap (λ (w : List Pair). w ++ p ∷ []) (sym o.is),
    )
