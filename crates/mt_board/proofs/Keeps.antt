-- Each step of the board keeps its rule.
use Rattle.std.proofs.Common.{◌≡◌, ℕ, zero, suc, ◌+◌, ◌%◌, ◌^◌, ◌<◌, ◌≤◌, ◌≢◌, List, [], ◌∷◌, ◌++◌, length, get_or, set, sym, refl, ap, ◌∙◌, subst, ⊎_elim, arith, min, Bool, true, false, ltb, cond, length-set, get_or-set_same, get_or-set_other}
use Rattle.std.specs.List.{All}
use Rattle.std.proofs.lemmas.List.Sums.{sum_by-cons, sum_by_push}
use Rattle.std.proofs.lemmas.List.Elements.{All-push, All-append, All-nil}
use Rattle.std.proofs.lemmas.Bool.Decides.{nat_tests}
use mathlib.Core.Option.{none, some, some-injective, some-ne-none}
use lib.ListN.{get_elem?}
use Rattle.atomic_table.specs.Table.{step, keeps, Allows, Splits, Joins, opening}
use Rattle.atomic_table.proofs.Lists.{at_set, at_snoc, set_else}
use Rattle.mt_board.specs.declared.view.Counts.{Counts}
use Rattle.mt_board.specs.declared.view.SeatView.{SeatView}
use Rattle.mt_board.specs.declared.board.TheConstants.{MOST_NUMBERS, MOST_PASSES}
use Rattle.mt_board.specs.Board.{times, once_below, nothing_noted}
use Rattle.mt_board.specs.Steps.Rule.{Sitter, spent_view, first_view, IsIdle, IsSeatOf, IsBoardState, IsBoard, parts_in, done_in, drew, Draws, Notes, Looks, without_one, one_part, both_views}
use Rattle.mt_board.proofs.Sums.{sum_set, sum_at, sum_join, least_set, least_same, least_at, least_snoc, least_join, times_push, times_append, times_at, once_more, below_once, once_full}

abbrev pub parts_of : SeatView → ℕ
parts_of v = v.parts

abbrev pub done_of : SeatView → ℕ
done_of v = v.done

abbrev pub noted_of : SeatView → ℕ
noted_of v = v.noted

abbrev pub drawn_of : ℕ → SeatView → ℕ
drawn_of x v = times x v.draws

done_le : (l : List SeatView) → ((i : ℕ) (v : SeatView) → get_elem? l i ≡ some v → v.done ≤ v.parts) → done_in l ≤ parts_in l
done_le [] h = omega arith
done_le (x ∷ xs) h = omega (arith, done_le xs (λ i v e. h (suc i) v e), h 0 x refl, sum_by-cons done_of x xs, sum_by-cons parts_of x xs)

lower : (k : Counts) (m m' : ℕ) (v : SeatView) → m' ≤ m → IsSeatOf k m v → IsSeatOf k m' v
lower k m m' v le f = record { counts = f.counts; done = f.done; idles = f.idles; looks = λ i d h. let at = f.looks i d h in omega arith }

each_set : (k : Counts) (m : ℕ) (l : List SeatView) (id : ℕ) (w : SeatView) → IsSeatOf k m w → ((i : ℕ) (v : SeatView) → get_elem? l i ≡ some v → IsSeatOf k m v) → (i : ℕ) (v : SeatView) → get_elem? (set l id w) i ≡ some v → IsSeatOf k m v
each_set k m l id w mine all i v e = ⊎_elim (λ (h : (i ≡ id) × (w ≡ v)). subst (λ u. IsSeatOf k m u) h.1 mine) (λ (h : (i ≢ id) × (get_elem? l i ≡ some v)). all i v h.1) (at_set l id i w v e)

module _ (k : Counts) (n m : ℕ) (l : List SeatView) (r : IsBoardState k n m l) where
  pub next_small : n + 1 < 2 ^ 64
  next_small = omega (arith, done_le l (λ i v e. (r.each i v e).done), r.bound, r.parts, r.small)

  module _ (id : ℕ) (v : SeatView) (at : get_elem? l id ≡ some v) (one : v.parts ≡ 1) where
    fits : IsSeatOf k m v
    fits = r.each id v at

    pub knows : v.counts ≡ k
    knows = fits.counts (omega arith)

    draws_more : n < k.total → IsBoardState k (n + 1) m (set l id (record v { draws = v.draws ++ n ∷ [] }))
    draws_more lt = let w : SeatView = record v { draws = v.draws ++ n ∷ [] } in record {
      small = r.small;
      parts = omega (arith, sum_set parts_of l id v w at, r.parts);
      draws = λ x. omega (arith, sum_set (drawn_of x) l id v w at, r.draws x, times_push x v.draws n, once_more x n k.total lt);
      done = λ some_done. let none_left = r.done (omega (arith, sum_set done_of l id v w at)) in omega arith;
      bound = omega (arith, sum_set done_of l id v w at, r.bound);
      noted = r.noted ∙ sym (least_same noted_of l id v w at refl);
      each = each_set k m l id w (record { counts = fits.counts; done = fits.done; idles = λ none. absurd (omega arith); looks = fits.looks }) r.each;
    }

    draws_none : v.done ≡ 0 → k.total ≤ n → IsBoardState k (n + 1) m (set l id (record v { done = v.done + 1 }))
    draws_none new le = let w : SeatView = record v { done = v.done + 1 } in record {
      small = r.small;
      parts = omega (arith, sum_set parts_of l id v w at, r.parts);
      draws = λ x. omega (arith, sum_set (drawn_of x) l id v w at, r.draws x, once_full x n k.total le, once_full x (n + 1) k.total (omega arith));
      done = λ _. omega arith;
      bound = omega (arith, sum_set done_of l id v w at, r.bound);
      noted = r.noted ∙ sym (least_same noted_of l id v w at refl);
      each = each_set k m l id w (record { counts = fits.counts; done = omega arith; idles = λ none. absurd (omega arith); looks = fits.looks }) r.each;
    }

    -- what the seat drew is below the next number
    pub drawn_below : (x : ℕ) → 0 < times x v.draws → x < n
    drawn_below x some_draw = below_once x n k.total (omega (arith, some_draw, sum_at (drawn_of x) l id v at, r.draws x))

    pub rises : All (λ x. x < n) v.draws
    rises i d short = drawn_below (get_or v.draws i d) (times_at v.draws i d short)

    notes_state : (x : ℕ) → IsBoardState k n (min m x) (set l id (record v { noted = min v.noted x }))
    notes_state x = let w : SeatView = record v { noted = min v.noted x } in record {
      small = r.small;
      parts = omega (arith, sum_set parts_of l id v w at, r.parts);
      draws = λ y. omega (arith, sum_set (drawn_of y) l id v w at, r.draws y);
      done = λ some_done. r.done (omega (arith, sum_set done_of l id v w at));
      bound = omega (arith, sum_set done_of l id v w at, r.bound);
      noted = omega (arith, r.noted, least_set noted_of l id v w x at refl);
      each = each_set k (min m x) l id w (lower k m (min m x) w (omega arith) (record { counts = fits.counts; done = fits.done; idles = λ none. absurd (omega arith); looks = fits.looks }))
          (λ i u e. lower k m (min m x) u (omega arith) (r.each i u e));
    }

    looks_state : IsBoardState k n m (set l id (record v { looks = v.looks ++ m ∷ [] }))
    looks_state = let w : SeatView = record v { looks = v.looks ++ m ∷ [] } in record {
      small = r.small;
      parts = omega (arith, sum_set parts_of l id v w at, r.parts);
      draws = λ y. omega (arith, sum_set (drawn_of y) l id v w at, r.draws y);
      done = λ some_done. r.done (omega (arith, sum_set done_of l id v w at));
      bound = omega (arith, sum_set done_of l id v w at, r.bound);
      noted = r.noted ∙ sym (least_same noted_of l id v w at refl);
      each = each_set k m l id w
          (record { counts = fits.counts; done = fits.done; idles = λ none. absurd (omega arith); looks = All-push (λ x. m ≤ x) v.looks m fits.looks (omega arith) })
          r.each;
    }

-- the rule of the two words after a step changes one of them
first_word : (k : Counts) (ws : List ℕ) (n : ℕ) (l : List SeatView) → length ws ≡ 2 → IsBoardState k n (get_or ws 1 0) l → (length (set ws 0 n) ≡ 2) × IsBoardState k (get_or (set ws 0 n) 0 0) (get_or (set ws 0 n) 1 0) l
first_word k ws n l two r = (length-set ws 0 n ∙ two, subst (λ (z : ℕ × ℕ). IsBoardState k z.0 z.1 l) (λ i. (sym (get_or-set_same ws 0 n 0 (omega arith)) i, sym (get_or-set_other ws 0 1 n 0 (omega arith)) i)) r)

second_word : (k : Counts) (ws : List ℕ) (m : ℕ) (l : List SeatView) → length ws ≡ 2 → IsBoardState k (get_or ws 0 0) m l → (length (set ws 1 m) ≡ 2) × IsBoardState k (get_or (set ws 1 m) 0 0) (get_or (set ws 1 m) 1 0) l
second_word k ws m l two r = (length-set ws 1 m ∙ two, subst (λ (z : ℕ × ℕ). IsBoardState k z.0 z.1 l) (λ i. (sym (get_or-set_other ws 1 0 m 0 (omega arith)) i, sym (get_or-set_same ws 1 m 0 (omega arith)) i)) r)

pub below : (n total : ℕ) → ltb n total ≡ true → n < total
below n total is = grind (arith, nat_tests)

pub not_below : (n total : ℕ) → ltb n total ≡ false → total ≤ n
not_below n total is = grind (arith, nat_tests)

module _ (k : Counts) (n m : ℕ) (l : List SeatView) (r : IsBoardState k n m l) (id : ℕ) (v : SeatView) (at : get_elem? l id ≡ some v) (one : v.parts ≡ 1) (new : v.done ≡ 0) where
  draw_by : (b : Bool) → ltb n v.counts.total ≡ b → IsBoardState k (n + 1) m (set l id (cond b (record v { draws = v.draws ++ n ∷ [] }) (record v { done = v.done + 1 })))
  draw_by true is = let lt = below n v.counts.total is in let same : v.counts.total ≡ k.total = ap (λ (z : Counts). z.total) (knows k n m l r id v at one) in draws_more k n m l r id v at one (omega arith)
  draw_by false is = let le = not_below n v.counts.total is in let same : v.counts.total ≡ k.total = ap (λ (z : Counts). z.total) (knows k n m l r id v at one) in draws_none k n m l r id v at one new (omega arith)

  pub draw_state : IsBoardState k (n + 1) m (set l id (drew n v))
  draw_state = draw_by (ltb n v.counts.total) refl

module _ (k : Counts) (slots id : ℕ) (me : Sitter) (one : me.0.parts ≡ 1) where
  pub draws : me.0.done ≡ 0 → Allows (IsBoard k) slots id me 0 (λ n. (n + 1) % 2 ^ 64) (Draws (step slots 0 1 0 none) me)
  draws new s kept _ at _ =
      let n : ℕ = get_or s.words 0 0 in
      let m : ℕ = get_or s.words 1 0 in
      let next : n + 1 ≡ (n + 1) % 2 ^ 64 = omega (arith, next_small k n m s.views kept.1) in (
        drew n me.0,
        keeps,
        tt,
        first_word k s.words ((n + 1) % 2 ^ 64) (set s.views id (drew n me.0)) kept.0 (subst (λ (z : ℕ). IsBoardState k z m (set s.views id (drew n me.0))) next (draw_state k n m s.views kept.1 id me.0 at one new)),
        (refl, λ _. rises k n m s.views kept.1 id me.0 at one),
      )

  pub notes : (x : ℕ) → Allows (IsBoard k) slots id me 1 (λ m. min m x) (Notes (step slots 1 x 0 none) me)
  notes x s kept _ at _ =
      let n : ℕ = get_or s.words 0 0 in
      let m : ℕ = get_or s.words 1 0 in
      let w : SeatView = record me.0 { noted = min me.0.noted x } in
      (w, keeps, tt, second_word k s.words (min m x) (set s.views id w) kept.0 (notes_state k n m s.views kept.1 id me.0 at one x), refl)

  pub looks : Allows (IsBoard k) slots id me 1 (λ m. m) (Looks (step slots 1 0 0 none) me)
  looks s kept _ at _ =
      let n : ℕ = get_or s.words 0 0 in
      let m : ℕ = get_or s.words 1 0 in
      let w : SeatView = record me.0 { looks = me.0.looks ++ m ∷ [] } in (
        w,
        keeps,
        tt,
        second_word k s.words m (set s.views id w) kept.0 (looks_state k n m s.views kept.1 id me.0 at one),
        (refl, omega (arith, kept.1.noted, least_at noted_of s.views id me.0 at), (kept.1.each id me.0 at).looks),
      )

module _ (k : Counts) (n m : ℕ) (l : List SeatView) (r : IsBoardState k n m l) (id : ℕ) (v : SeatView) (at : get_elem? l id ≡ some v) (some_part : 0 < v.parts) where
  -- the rule holds after the seat of one pass is split off a seat that has done nothing
  pub split_state : IsIdle v → IsBoardState k n m (set l id (without_one v) ++ one_part v ∷ [])
  split_state blank = let a : SeatView = without_one v in let b : SeatView = one_part v in let l' : List SeatView = set l id a in let f : IsSeatOf k m v = r.each id v at in record {
    small = r.small;
    parts = omega (arith, sum_by_push parts_of l' b, sum_set parts_of l id v a at, r.parts);
    draws = λ x. omega (arith, sum_by_push (drawn_of x) l' b, sum_set (drawn_of x) l id v a at, r.draws x);
    done = λ some_done. r.done (omega (arith, sum_by_push done_of l' b, sum_set done_of l id v a at));
    bound = omega (arith, sum_by_push done_of l' b, sum_set done_of l id v a at, r.bound);
    noted = r.noted ∙ sym (least_snoc noted_of l' b refl ∙ least_same noted_of l id v a at refl);
    each = λ i u e. ⊎_elim
        (λ (h : get_elem? l' i ≡ some u). each_set k m l id a (record { counts = λ _. f.counts some_part; done = omega (arith, blank.done); idles = λ _. record { draws = blank.draws; done = blank.done; noted = blank.noted; looks = blank.looks }; looks = f.looks }) r.each i u h)
        (λ (h : b ≡ u). subst (λ z. IsSeatOf k m z) h (record { counts = λ _. f.counts some_part; done = omega arith; idles = λ no. absurd (omega arith); looks = All-nil (λ x. m ≤ x) }))
        (at_snoc l' b u i e);
  }

  -- the rule holds after two seats are joined
  pub join_state : (other : ℕ) (w : SeatView) → other ≢ id → get_elem? (set l id (both_views v w)) other ≡ some w → IsBoardState k n m (set (set l id (both_views v w)) other spent_view)
  join_state other w apart there = let both : SeatView = both_views v w in let f : IsSeatOf k m v = r.each id v at in let h : IsSeatOf k m w = r.each other w (sym (set_else l id other both apart) ∙ there) in record {
    small = r.small;
    parts = sum_join parts_of l id other v w both spent_view at there refl refl ∙ r.parts;
    draws = λ x. sum_join (drawn_of x) l id other v w both spent_view at there (times_append x v.draws w.draws) refl ∙ r.draws x;
    done = λ some_done. r.done (omega (arith, sum_join done_of l id other v w both spent_view at there refl refl));
    bound = omega (arith, sum_join done_of l id other v w both spent_view at there refl refl, r.bound);
    noted = r.noted ∙ sym (least_join noted_of l id other v w both spent_view at apart there refl refl);
    each = each_set k m (set l id both) other spent_view (record { counts = λ no. absurd (omega arith); done = omega arith; idles = λ _. record { draws = refl; done = refl; noted = refl; looks = refl }; looks = All-nil (λ x. m ≤ x) })
        (each_set k m l id both (record { counts = λ _. f.counts some_part; done = omega (arith, f.done, h.done); idles = λ no. absurd (omega arith); looks = All-append (λ x. m ≤ x) v.looks w.looks f.looks h.looks }) r.each);
  }

pub splits : (k : Counts) (id : ℕ) (v : SeatView) → 0 < v.parts → IsIdle v → Splits (IsBoard k) id v (without_one v) (one_part v)
splits k id v some_part blank s kept at = (kept.0, split_state k (get_or s.words 0 0) (get_or s.words 1 0) s.views kept.1 id v at some_part blank)

pub joins : (k : Counts) (id : ℕ) (v : SeatView) (other : ℕ) (w : SeatView) → 0 < v.parts → Joins (IsBoard k) id v other w (both_views v w) spent_view
joins k id v other w some_part s kept at apart there = (kept.0, join_state k (get_or s.words 0 0) (get_or s.words 1 0) s.views kept.1 id v at some_part other w apart there)

pub first_each : (k : Counts) (id : ℕ) (v : SeatView) → get_elem? (first_view k ∷ []) id ≡ some v → IsSeatOf k nothing_noted v
first_each k zero v e = subst (λ z. IsSeatOf k nothing_noted z) (some-injective (first_view k) v e) (record { counts = λ _. refl; done = omega arith; idles = λ _. record { draws = refl; done = refl; noted = refl; looks = refl }; looks = All-nil (λ x. nothing_noted ≤ x) })
first_each k (suc id) v e = absurd (some-ne-none v (sym e))

pub none_below : (x total : ℕ) → 0 ≡ once_below x (min 0 total)
none_below x total = grind (arith, nat_tests)

pub opens : (k : Counts) → k.total ≤ MOST_NUMBERS → k.passes ≤ MOST_PASSES → IsBoard k (opening (0 ∷ nothing_noted ∷ []) [] (first_view k))
opens k few small = (
  refl,
  record {
    small = omega (arith, few, small);
    parts = omega arith;
    draws = λ x. none_below x k.total;
    done = λ no. absurd (omega arith);
    bound = omega arith;
    noted = omega arith;
    each = first_each k;
  },
)
