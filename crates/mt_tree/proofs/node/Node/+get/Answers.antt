use Rattle.std.proofs.Common.{◌≡◌, ℕ, ◌-◌, ◌<◌, ◌≤◌, length, get_or, take, drop, List, sym, ap, ◌∙◌, subst, rules}
use Rattle.std.specs.Cmp.Lexicographic.{bytes_decides}
use Rattle.mt_tree.specs.Steps.Pairs.{find_key}
use Rattle.std.specs.Option.{option_copied}
use Rattle.mt_words.specs.Slices.{slice_in}
use Rattle.mt_tree.specs.Nodes.{NodeView}
use Rattle.mt_tree.specs.Steps.Levels.{node_walk}
use Rattle.mt_tree.proofs.Finds.{border_walk, border_layer, interior_is, interior_walk, layer_lawful, found_at, not_found, short_case, suffix_long, suffix_true, suffix_false, link_long, link_case, kids_find, rest_is}
use Rattle.arrayvec.specs.declared.array_vec.ArrayVec.{ArrayVec}
use Rattle.mt_tree.proofs.node.Node.+get.Goals as goal

pub find_place-requires : goal.find_place-requires
find_place-requires t c = rw c.deref-in-Border.ensures.value (layer_lawful 0 _ (border_layer _ _ c.self.invariant c.in-Border.is))

pub returns-in-Short : goal.returns-in-Short
returns-in-Short t c =
    let f = found_at c.args.key.now _ _ _ _ _ _ (border_walk _ _ _ c.self.view_is c.in-Border.is) (border_layer _ _ c.self.invariant c.in-Border.is) c.deref-in-Border.ensures.value c.in_ok-at-in-Border.ensures.found c.in_ok-at-in-Border.ensures.here c.slice_of-slice.ensures.value c.index-in-Border.ensures in
    sym (short_case _ _ _ f c.slice_of-slice.ensures.bytes _ _ c.in-Short.is)

pub slice_bounds-eq-count : goal.slice_bounds-eq-count
slice_bounds-eq-count t c =
    let f = found_at c.args.key.now _ _ _ _ _ _ (border_walk _ _ _ c.self.view_is c.in-Border.is) (border_layer _ _ c.self.invariant c.in-Border.is) c.deref-in-Border.ensures.value c.in_ok-at-in-Border.ensures.found c.in_ok-at-in-Border.ensures.here c.slice_of-slice.ensures.value c.index-in-Border.ensures in
    suffix_long _ _ _ f c.slice_of-slice.ensures.bytes _ _ c.in-Suffix.is

pub slice_bounds-get-count : goal.slice_bounds-get-count
slice_bounds-get-count t c =
    let f = found_at c.args.key.now _ _ _ _ _ _ (border_walk _ _ _ c.self.view_is c.in-Border.is) (border_layer _ _ c.self.invariant c.in-Border.is) c.deref-in-Border.ensures.value c.in_ok-at-in-Border.ensures.found c.in_ok-at-in-Border.ensures.here c.slice_of-slice.ensures.value c.index-in-Border.ensures in
    link_long _ _ _ f c.slice_of-slice.ensures.bytes _ c.in-Link.is

pub slice_bounds-eq-start : goal.slice_bounds-eq-start
slice_bounds-eq-start t c =
    let f = found_at c.args.key.now _ _ _ _ _ _ (border_walk _ _ _ c.self.view_is c.in-Border.is) (border_layer _ _ c.self.invariant c.in-Border.is) c.deref-in-Border.ensures.value c.in_ok-at-in-Border.ensures.found c.in_ok-at-in-Border.ensures.here c.slice_of-slice.ensures.value c.index-in-Border.ensures in
    let long = suffix_long _ _ _ f c.slice_of-slice.ensures.bytes _ _ c.in-Suffix.is in search (rules, long)

pub slice_bounds-get-start : goal.slice_bounds-get-start
slice_bounds-get-start t c =
    let f = found_at c.args.key.now _ _ _ _ _ _ (border_walk _ _ _ c.self.view_is c.in-Border.is) (border_layer _ _ c.self.invariant c.in-Border.is) c.deref-in-Border.ensures.value c.in_ok-at-in-Border.ensures.found c.in_ok-at-in-Border.ensures.here c.slice_of-slice.ensures.value c.index-in-Border.ensures in
    let long = link_long _ _ _ f c.slice_of-slice.ensures.bytes _ c.in-Link.is in search (rules, long)

pub returns-then-eq : goal.returns-then-eq
returns-then-eq t c =
    let f = found_at c.args.key.now _ _ _ _ _ _ (border_walk _ _ _ c.self.view_is c.in-Border.is) (border_layer _ _ c.self.invariant c.in-Border.is) c.deref-in-Border.ensures.value c.in_ok-at-in-Border.ensures.found c.in_ok-at-in-Border.ensures.here c.slice_of-slice.ensures.value c.index-in-Border.ensures in
    let same = (bytes_decides c.as_slice-in-Suffix.result.now (take (length c.args.key.now - 8) (drop 8 c.args.key.now))).0 (sym c.if-eq.ensures) in
    sym (suffix_true _ _ _ f c.slice_of-slice.ensures.bytes _ _ c.in-Suffix.is (sym c.as_slice-in-Suffix.ensures ∙ same ∙ rest_is c.args.key.now))

pub returns-else-eq : goal.returns-else-eq
returns-else-eq t c =
    let f = found_at c.args.key.now _ _ _ _ _ _ (border_walk _ _ _ c.self.view_is c.in-Border.is) (border_layer _ _ c.self.invariant c.in-Border.is) c.deref-in-Border.ensures.value c.in_ok-at-in-Border.ensures.found c.in_ok-at-in-Border.ensures.here c.slice_of-slice.ensures.value c.index-in-Border.ensures in
    let other : (c.in-Suffix.suffix.items ≡ drop 8 c.args.key.now) → ⊥ = λ s.
    let h = (bytes_decides c.as_slice-in-Suffix.result.now (take (length c.args.key.now - 8) (drop 8 c.args.key.now))).1 (c.as_slice-in-Suffix.ensures ∙ s ∙ sym (rest_is c.args.key.now)) in
    (cc (h, c.eq.ensures, c.if-eq.false)) in
    sym (suffix_false _ _ _ f c.slice_of-slice.ensures.bytes _ _ c.in-Suffix.is other)

pub returns-in-Link : goal.returns-in-Link
returns-in-Link t c =
    let f = found_at c.args.key.now _ _ _ _ _ _ (border_walk _ _ _ c.self.view_is c.in-Border.is) (border_layer _ _ c.self.invariant c.in-Border.is) c.deref-in-Border.ensures.value c.in_ok-at-in-Border.ensures.found c.in_ok-at-in-Border.ensures.here c.slice_of-slice.ensures.value c.index-in-Border.ensures in
    c.get-in-Link.ensures ∙ ap (λ (z : List ℕ). find_key z (node_walk c.in-Link.below)) (rest_is c.args.key.now) ∙ sym (link_case _ _ _ f c.slice_of-slice.ensures.bytes _ c.in-Link.is)

pub returns-in_err-at-in-Border : goal.returns-in_err-at-in-Border
returns-in_err-at-in-Border t c =
    ap option_copied c.from_residual.ensures
    ∙ sym (not_found c.args.key.now _ _ _ _ (border_walk _ _ _ c.self.view_is c.in-Border.is) (border_layer _ _ c.self.invariant c.in-Border.is) c.deref-in-Border.ensures.value c.slice_of-slice.ensures.value c.in_err-at-in-Border.ensures.absent)

pub returns-in-Interior : goal.returns-in-Interior
returns-in-Interior t c =
    let h = interior_is _ _ _ c.self.invariant c.in-Interior.is in
    let separators = c.in-Interior.separators.value.items in
    let same : c.as_slice.result.now ≡ separators = c.as_slice.ensures.value ∙ ap (λ (z : ArrayVec ℕ 15 (Unit {0})). z.items) c.deref.ensures in
    let slice = c.slice_of-slice.ensures.value in
    let bound : c.child_at-at.result ≤ length separators = subst (λ (z : List ℕ). c.child_at-at.result ≤ length z) same c.child_at-at.ensures.bound in
    let before : (k : ℕ) → k < c.child_at-at.result → get_or separators k 0 ≤ slice_in c.args.key.now =
    λ k l. subst (λ (n : ℕ). get_or separators k 0 ≤ n) slice (subst (λ (z : List ℕ). get_or z k 0 ≤ c.slice_of-slice.result) same (c.child_at-at.ensures.before k l)) in
    let after : c.child_at-at.result < length separators → slice_in c.args.key.now < get_or separators c.child_at-at.result 0 =
    λ l. subst (λ (n : ℕ). n < get_or separators c.child_at-at.result 0) slice (subst (λ (z : List ℕ). c.slice_of-slice.result < get_or z c.child_at-at.result 0) same (c.child_at-at.ensures.after (subst (λ (z : List ℕ). c.child_at-at.result < length z) (sym same) l))) in
    c.get.ensures
    ∙ ap (λ (n : NodeView). find_key c.args.key.now (node_walk n)) c.index.ensures
    ∙ sym (kids_find c.args.key.now separators c.in-Interior.children.items c.child_at-at.result c.index.result.now h.nodes h.separated h.between bound before after)
    ∙ sym (ap (find_key c.args.key.now) (interior_walk _ _ _ _ c.self.view_is c.in-Interior.is))
