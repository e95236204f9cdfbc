use Rattle.std.proofs.Common.{◌≡◌, ℕ, suc, ◌+◌, ◌<◌, ◌≤◌, true, false, List, [], ◌∷◌, ◌++◌, length, drop, get_or, refl, sym, ap, ◌∙◌, subst, arith}
use Rattle.std.specs.Prelude.{not}
use Rattle.std.specs.Ordering.{nat_cmp, is_lt}
use Rattle.std.specs.Cmp.Lexicographic.{slice_cmp}
use Rattle.std.proofs.lemmas.List.{take_all}
use Rattle.mt_words.specs.Slices.{slice_in, slice_bytes}
use Rattle.mt_words.specs.Walks.{Pair, joined}
use Rattle.mt_tree.specs.Layer.{walk, pairs_at, put_before}
use Rattle.mt_tree.specs.Steps.Ranks.{rank_at}
use Rattle.mt_tree.specs.Steps.Levels.{borders_of, node_walk}
use Rattle.mt_tree.specs.Nodes.{NodeView}
use Rattle.mt_tree.specs.Range.{from}
use Rattle.mt_tree.proofs.Finds.{border_walk, interior_is, interior_walk}
use Rattle.mt_tree.proofs.Lights.{content_lighter}
use Rattle.mt_tree.proofs.Ranged.{one_tested, place_gone}
use Rattle.mt_tree.proofs.Collects.{not_before, is_before, short_pairs, suffix_pairs, link_pairs, fits_link, later_kid, place_in, child_in, kids_then, kids_done, kids_from}
use Rattle.mt_tree.proofs.Visits.{moved, short_shown, deeper_shown, link_room}
use Rattle.arrayvec.specs.declared.array_vec.ArrayVec.{ArrayVec}
use Rattle.mt_tree.specs.Steps.Places.{views, view_of}
use Rattle.mt_tree.specs.declared.place.Place.{Place}
use Rattle.mt_tree.proofs.+visit.Goals as goal
use Rattle.mt_tree.proofs.+visit.Goals.{visit::Place+Node::visit-in-Short+in_ok-show-in-Short, visit::Place+Node::visit-in-Suffix+then-reaches+in_ok-show-in-Suffix, visit::Place+Node::visit-in-Suffix+else-reaches, visit::Place+Node::visit-in-Link+in_ok-visit-in-Link, visit::Place+Node::visit-then-is_full-via-then-is_full, visit::Place+Node::visit-then-is_full-via-else-is_full+then-lies_before, node::Node::visit-in-Interior+in_ok-visit-in-Interior+else-loop-child-test, node::Node::visit-in-Border+else-loop-place-test}

-- ---- a place
pub visit::Place+Node::visit-returns-then-is_full-clause-shown : goal.visit::Place+Node::visit-returns-then-is_full-clause-shown
visit::Place+Node::visit-returns-then-is_full-clause-shown g t c =
    elim c.then-is_full.branch [
      | visit::Place+Node::visit-then-is_full-via-then-is_full w ↦ w.if-is_full.ensures refl _
      | visit::Place+Node::visit-then-is_full-via-else-is_full+then-lies_before w ↦
          let lt = is_before (rank_at (view_of node_walk c.args.self.now)) c.slice_of-slice.result c.args.start.now w.lies_before.result c.slice_of-slice.ensures.value w.if-lies_before.true w.lies_before.ensures.0 in
          let none = place_gone c.args.start.now c.slice_of-slice.ensures.bytes (view_of node_walk c.args.self.now) c.requires.lawful lt in
          moved g.V.Visitor.shown _ _ _ _ _ refl (ap (put_before c.args.prefix.now.items) (sym none)) (g.met.V.Visitor.none c.args.target.now)
    ]

pub visit::Place+Node::visit-extend-requires-in-Link : goal.visit::Place+Node::visit-extend-requires-in-Link
visit::Place+Node::visit-extend-requires-in-Link g t c =
    link_room _ _ _ c.in-Link.below _ c.in-Link.is c.slice_bytes-bytes.ensures c.requires.lawful c.requires.fits

pub visit::Place+Node::visit-visit-requires : goal.visit::Place+Node::visit-visit-requires
visit::Place+Node::visit-visit-requires g t c κs within =
    let lighter = content_lighter _ _ _ c.requires.lawful c.in-Link.is in (
      omega (arith, c.decreases, lighter),
      (within.0, (within.1.0, (within.1.1, fits_link c.args.self.now.slice c.args.self.now.content c.in-Link.below c.args.prefix.now.items c.slice_bytes-bytes.result _ c.in-Link.is c.extend-in-Link.ensures c.slice_bytes-bytes.ensures c.requires.fits))),
    )

pub visit::Place+Node::visit-returns-clause-shown : goal.visit::Place+Node::visit-returns-clause-shown
visit::Place+Node::visit-returns-clause-shown g t c =
    let place = c.args.self.now in
    let start = c.args.start.now in
    let before = c.args.prefix.now.items in
    let bytes = slice_bytes place.slice in
    let all = from start (pairs_at (view_of node_walk place)) in
    let rest = c.rest_of-rest.result.now in
    let is = c.slice_of-slice.ensures.bytes in
    let le = not_before (rank_at (view_of node_walk place)) c.slice_of-slice.result start c.lies_before.result c.slice_of-slice.ensures.value c.if-lies_before.false c.lies_before.ensures.1 in
    elim c.match-self.branch [
      | visit::Place+Node::visit-in-Short+in_ok-show-in-Short w ↦
          let pairs = short_pairs start place.slice place.content is c.requires.lawful le _ _ w.in-Short.is in
          moved g.V.Visitor.shown _ _ _ _ _ w.target-is (short_shown place.slice before _ c.slice_bytes-bytes.ensures _ _ all pairs) w.in_ok-show-in-Short.ensures.shown
      | visit::Place+Node::visit-in-Suffix+then-reaches+in_ok-show-in-Suffix w ↦
          let suffix = w.in-Suffix.suffix.items in
          let pairs = suffix_pairs start place.slice place.content is c.requires.lawful le _ _ rest w.in-Suffix.is c.rest_of-rest.ensures.here c.rest_of-rest.ensures.past in
          let test = subst (λ (z : List ℕ). w.reaches.result ≡ not (is_lt (slice_cmp nat_cmp z rest))) w.deref.ensures w.reaches.ensures in
          let tested : from rest ((suffix, w.in-Suffix.columns) ∷ []) ≡ (suffix, w.in-Suffix.columns) ∷ [] = one_tested rest suffix w.in-Suffix.columns true (sym w.if-reaches.true ∙ test) in
          let shown = deeper_shown place.slice before _ c.slice_bytes-bytes.ensures w.extend.new.prefix.items all ((suffix, w.in-Suffix.columns) ∷ []) w.extend.ensures (pairs ∙ ap (put_before bytes) tested) in
          moved g.V.Visitor.shown _ _ _ _ _ w.target-is (ap (λ (z : List ℕ). put_before w.extend.new.prefix.items ((z, w.in-Suffix.columns) ∷ [])) w.deref-then-reaches.ensures ∙ shown) w.in_ok-show-in-Suffix.ensures.shown
      | visit::Place+Node::visit-in-Suffix+else-reaches w ↦
          let suffix = w.in-Suffix.suffix.items in
          let pairs = suffix_pairs start place.slice place.content is c.requires.lawful le _ _ rest w.in-Suffix.is c.rest_of-rest.ensures.here c.rest_of-rest.ensures.past in
          let test = subst (λ (z : List ℕ). w.reaches.result ≡ not (is_lt (slice_cmp nat_cmp z rest))) w.deref.ensures w.reaches.ensures in
          let tested : from rest ((suffix, w.in-Suffix.columns) ∷ []) ≡ [] = one_tested rest suffix w.in-Suffix.columns false (sym w.if-reaches.false ∙ test) in
          moved g.V.Visitor.shown _ _ _ _ _ w.target-is (sym (ap (put_before before) (pairs ∙ ap (put_before bytes) tested))) (g.met.V.Visitor.none c.args.target.now)
      | visit::Place+Node::visit-in-Link+in_ok-visit-in-Link w ↦
          let pairs = link_pairs start place.slice place.content is c.requires.lawful le _ rest w.in-Link.is c.rest_of-rest.ensures.here c.rest_of-rest.ensures.past in
          moved g.V.Visitor.shown _ _ _ _ _ w.target-is (deeper_shown place.slice before _ c.slice_bytes-bytes.ensures w.extend-in-Link.new.prefix.items all _ w.extend-in-Link.ensures pairs) w.in_ok-visit-in-Link.ensures.shown
    ]

-- ---- a border
pub node::Node::visit-visit-requires-in-loop-place : goal.node::Node::visit-visit-requires-in-loop-place
node::Node::visit-visit-requires-in-loop-place g t c κs within =
    let x = place_in _ _ _ _ _ _ _ _ c.self.view_is c.self.invariant c.in-Border.is c.deref-place-items.ensures.value c.place-item.is c.loop-place-test.true c.loop-place.invariant.prefix c.requires in
    (omega (arith, x.light, c.decreases), (within.0, (within.1.0, (within.1.1, (x.lawful, x.fits)))))

-- ---- an interior node
pub node::Node::visit-visit-requires : goal.node::Node::visit-visit-requires
node::Node::visit-visit-requires g t c κs within =
    let h = interior_is _ _ _ c.self.invariant c.in-Interior.is in
    let ks = c.in-Interior.children.items in
    let at = c.child_at-at.result in
    let between : length c.in-Interior.separators.value.items + 1 ≡ length ks = h.between in
    let bound : at ≤ length c.in-Interior.separators.value.items = subst (λ (z : List ℕ). at ≤ length z) (c.as_slice.ensures.value ∙ ap (λ (z : ArrayVec ℕ 15 (Unit {0})). z.items) c.deref.ensures) c.child_at-at.ensures.bound in
    let inside : at < length ks = omega (arith, between, bound) in
    let x = child_in _ _ _ _ _ _ _ _ _ c.self.view_is c.self.invariant c.in-Interior.is refl c.index.ensures inside refl c.requires in
    (omega (arith, x.lighter, c.decreases), (within.0, (within.1.0, (within.1.1, x.fits))))

pub node::Node::visit-visit-requires-in-loop-child : goal.node::Node::visit-visit-requires-in-loop-child
node::Node::visit-visit-requires-in-loop-child g t c κs within =
    let at = later_kid c.deref-in-Interior.result.now (c.child_at-at.result + 1) c.loop-child.child-index c.child-item.result c.loop-child-test.true c.child-item.is in
    let x = child_in _ _ _ _ _ _ _ _ _ c.self.view_is c.self.invariant c.in-Interior.is c.deref-in-Interior.ensures.value at.1 at.0 c.loop-child.invariant.prefix c.requires in
    (omega (arith, x.lighter, c.decreases), (within.0, (within.1.0, (within.1.1, x.fits))))

pub node::Node::visit-loop-child-preserved : goal.node::Node::visit-loop-child-preserved
node::Node::visit-loop-child-preserved g t c =
    record {
      prefix = c.in_ok-visit-in-Interior-2.ensures.prefix ∙ c.loop-child.invariant.prefix;
      shown = subst (g.V.Visitor.shown _ _) (kids_then _ _ _ _ _ c.loop-child.invariant.prefix c.loop-child-test.true c.child-item.is) (g.met.V.Visitor.more _ _ _ _ _ c.loop-child.invariant.shown c.in_ok-visit-in-Interior-2.ensures.shown);
    }

pub node::Node::visit-returns-clause-shown : goal.node::Node::visit-returns-clause-shown
node::Node::visit-returns-clause-shown g t c =
    let start = c.args.start.now in
    let before = c.args.prefix.now.items in
    elim c.match-self.branch [
      | node::Node::visit-in-Interior+in_ok-visit-in-Interior+else-loop-child-test w ↦
          let h = interior_is _ _ _ c.self.invariant w.in-Interior.is in
          let ks = w.in-Interior.children.items in
          let separators = w.in-Interior.separators.value.items in
          let at = w.child_at-at.result in
          let same : w.as_slice.result.now ≡ separators = w.as_slice.ensures.value ∙ ap (λ (z : ArrayVec ℕ 15 (Unit {0})). z.items) w.deref.ensures in
          let items : w.deref-in-Interior.result.now ≡ ks = w.deref-in-Interior.ensures.value in
          let slice = w.slice_of.ensures.value in
          let bound : at ≤ length separators = subst (λ (z : List ℕ). at ≤ length z) same w.child_at-at.ensures.bound in
          let below : (k : ℕ) → k < at → get_or separators k 0 ≤ slice_in start =
          λ k l. subst (λ (n : ℕ). get_or separators k 0 ≤ n) slice (subst (λ (z : List ℕ). get_or z k 0 ≤ w.slice_of.result) same (w.child_at-at.ensures.before k l)) in
          let above : at < length separators → slice_in start < get_or separators at 0 =
          λ l. subst (λ (n : ℕ). n < get_or separators at 0) slice (subst (λ (z : List ℕ). w.slice_of.result < get_or z at 0) same (w.child_at-at.ensures.after (subst (λ (z : List ℕ). at < length z) (sym same) l))) in
          let is : node_walk c.args.self.now ≡ walk (joined (borders_of ks)) = interior_walk _ _ _ _ c.self.view_is w.in-Interior.is in
          let parts = kids_from start separators ks at w.index.result.now w.slice_of.ensures.bytes h.nodes h.separated h.between bound below above in
          let whole : from start (node_walk c.args.self.now) ≡ from start (node_walk w.index.result.now) ++ walk (joined (borders_of (drop (suc at) w.deref-in-Interior.result.now))) =
          ap (from start) is ∙ parts
          ∙ (λ i. from start (node_walk (sym w.index.ensures i)) ++ walk (joined (borders_of (drop (suc at) (sym items i))))) in
          moved g.V.Visitor.shown _ _ _ _ _ w.target-is (kids_done before start _ w.deref-in-Interior.result.now w.index.result.now at w.loop-child.child-index whole w.loop-child-test.false)
          (g.met.V.Visitor.more _ _ _ _ _ w.in_ok-visit-in-Interior.ensures.shown w.loop-child.invariant.shown)
      | node::Node::visit-in-Border+else-loop-place-test w ↦
          let items = take_all w.loop-place.place-index _ w.loop-place-test.false ∙ w.deref-place-items.ensures.value in
          let whole = ap (λ (z : List (Place NodeView)). walk (views node_walk z)) items ∙ sym (border_walk _ _ _ c.self.view_is w.in-Border.is) in
          moved g.V.Visitor.shown _ _ _ _ _ w.target-is (ap (λ (z : List Pair). put_before before (from start z)) whole) w.loop-place.invariant.shown
    ]
