-- What the last seat knows once the seats of all passes are joined.
use Rattle.std.proofs.Common.{◌≡◌, ℕ, zero, suc, ◌+◌, ◌<◌, ◌≤◌, List, [], ◌∷◌, ◌++◌, length, get_or, sym, refl, ap, ◌∙◌, subst, arith, min, cond, Bool, length-append}
use Rattle.std.specs.List.{sum_by, count_by, All}
use Rattle.std.proofs.lemmas.List.{length_push, get_or_append_left, get_or-append-add}
use Rattle.std.proofs.lemmas.List.Sums.{sum_by-cons, sum_by_push}
use Rattle.std.proofs.lemmas.List.Elements.{All-push, All-nil}
use mathlib.Core.Option.{some, some-injective, some-ne-none}
use lib.ListN.{get_elem?}
use Rattle.atomic_table.specs.Table.{Seen, Final}
use Rattle.atomic_table.specs.Seated.{TableId}
use Rattle.mt_board.specs.declared.view.Counts.{Counts}
use Rattle.mt_board.specs.declared.view.SeatView.{SeatView}
use Rattle.mt_board.specs.Board.{BoardId, PassView, times, once_below, times_drawn, SomeIsDone, DrewEachBelow, DrewFromBelow, least_noted, nothing_noted, SawNoneBelow}
use Rattle.mt_board.specs.Steps.Rule.{pass_view, IsIdle, IsBoardState, IsBoard, parts_in, done_in, noted_in, both_views}
use Rattle.mt_board.proofs.Sums.{sum_at, least_by, least_small, times_append, once_full}
use Rattle.mt_board.proofs.Keeps.{parts_of, done_of, noted_of, drawn_of}

-- the seat represents all passes but those of `rest`
pub record Gathers (b : BoardId) (rest all : List PassView) (v : SeatView) : Type 0 where
  pub some : 0 < v.parts
  pub parts : v.parts + length rest ≡ length all
  pub boards : All (λ (p : PassView). p.board ≡ b) rest
  pub draws : (x : ℕ) → times x v.draws + times_drawn x rest ≡ times_drawn x all
  pub done : v.done + count_by (λ (p : PassView). p.done) rest ≡ count_by (λ (p : PassView). p.done) all
  pub noted : min v.noted (least_noted rest) ≡ least_noted all
  pub looks : (m : ℕ) → All (λ x. m ≤ x) v.looks → SawNoneBelow m rest → SawNoneBelow m all

module _ {X : Type 0} (P : X → Type 0) where
  pub all_left : (xs ys : List X) → All P (xs ++ ys) → All P xs
  all_left xs ys h k d lt = subst P (get_or_append_left xs ys d k lt) (h k d (omega (arith, length-append xs ys)))

  all_right : (xs ys : List X) → All P (xs ++ ys) → All P ys
  all_right xs ys h k d lt = subst P (get_or-append-add xs ys k d) (h (length xs + k) d (omega (arith, length-append xs ys)))

  pub all_last : (xs : List X) (y : X) → All P (xs ++ y ∷ []) → P y
  all_last xs y h = all_right xs (y ∷ []) h 0 y (omega arith)

-- the last pass belongs to the board
pub last_board : (b : BoardId) (all rest : List PassView) (p : PassView) → All (λ (q : PassView). q.board ≡ b) all → all ≡ rest ++ p ∷ [] → p.board ≡ b
last_board b all rest p boards e = all_last (λ (q : PassView). q.board ≡ b) rest p (subst (All (λ (q : PassView). q.board ≡ b)) e boards)

module _ {X : Type 0} (f : X → ℕ) where
  least_push : (l : List X) (x : X) → least_by f (l ++ x ∷ []) ≡ min (least_by f l) (f x)
  least_push [] x = omega arith
  least_push (y ∷ ys) x = omega (arith, least_push ys x)

abbrev drew_of : ℕ → PassView → ℕ
drew_of x p = times x p.draws

abbrev is_done : PassView → ℕ
is_done p = cond p.done 1 0

abbrev least_by_pass : PassView → ℕ
least_by_pass p = p.noted

module _ (b : BoardId) (rest all : List PassView) (p : PassView) (t : TableId) (n : ℕ) (done : Bool) (w : SeatView) (is : pass_view t n done w ≡ p) (one : w.parts ≡ 1) (is_noted : w.done ≡ cond done 1 0) where
  same_draws : (x : ℕ) → times x w.draws ≡ times x p.draws
  same_draws x = ap (drew_of x) is

  same_done : w.done ≡ is_done p
  same_done = is_noted ∙ ap is_done is

  same_noted : w.noted ≡ p.noted
  same_noted = ap least_by_pass is

  same_looks : w.looks ≡ p.looks
  same_looks = ap (λ (q : PassView). q.looks) is

  pub gathers_first : 0 < length all → All (λ (q : PassView). q.board ≡ b) all → all ≡ rest ++ p ∷ [] → Gathers b rest all w
  gathers_first more boards e = record {
    some = omega arith;
    parts = omega (arith, ap length e, length_push rest p);
    boards = all_left (λ (q : PassView). q.board ≡ b) rest (p ∷ []) (subst (All (λ (q : PassView). q.board ≡ b)) e boards);
    draws = λ x. omega (arith, same_draws x, ap (times_drawn x) e, sum_by_push (drew_of x) rest p);
    done = omega (arith, same_done, ap (sum_by is_done) e, sum_by_push is_done rest p);
    noted = omega (arith, same_noted, ap least_noted e, least_push least_by_pass rest p);
    looks = λ m mine others. subst (SawNoneBelow m) (sym e) (All-push (λ (q : PassView). All (λ x. m ≤ x) q.looks) rest p others (subst (All (λ x. m ≤ x)) same_looks mine));
  }

  pub gathers_more : (v : SeatView) (before : List PassView) → Gathers b before all v → before ≡ rest ++ p ∷ [] → Gathers b rest all (both_views v w)
  gathers_more v before g e = record {
    some = omega (arith, g.some);
    parts = omega (arith, g.parts, ap length e, length_push rest p);
    boards = all_left (λ (q : PassView). q.board ≡ b) rest (p ∷ []) (subst (All (λ (q : PassView). q.board ≡ b)) e g.boards);
    draws = λ x. omega (arith, same_draws x, times_append x v.draws w.draws, g.draws x, ap (times_drawn x) e, sum_by_push (drew_of x) rest p);
    done = omega (arith, same_done, g.done, ap (sum_by is_done) e, sum_by_push is_done rest p);
    noted = omega (arith, same_noted, g.noted, ap least_noted e, least_push least_by_pass rest p);
    looks = λ m mine others. g.looks m (all_left (λ x. m ≤ x) v.looks w.looks mine)
        (subst (SawNoneBelow m) (sym e) (All-push (λ (q : PassView). All (λ x. m ≤ x) q.looks) rest p others (subst (All (λ x. m ≤ x)) same_looks (all_right (λ x. m ≤ x) v.looks w.looks mine))));
  }

abbrev pub Idles : List SeatView → Type 0
Idles l = (i : ℕ) (u : SeatView) → get_elem? l i ≡ some u → u.parts ≡ 0 → IsIdle u

module _ (f : SeatView → ℕ) (idles_at : (u : SeatView) → IsIdle u → f u ≡ 0) where
  sum_none : (l : List SeatView) → Idles l → parts_in l ≡ 0 → sum_by f l ≡ 0
  sum_none [] h e = omega arith
  sum_none (x ∷ xs) h e =
      let c : parts_in (x ∷ xs) ≡ x.parts + parts_in xs = sum_by-cons parts_of x xs in
      omega (arith, sum_by-cons f x xs, idles_at x (h 0 x refl (omega arith)), sum_none xs (λ i u at. h (suc i) u at) (omega arith))

  -- the sum over all seats is the value of a seat that represents all passes
  pub sum_alone : (l : List SeatView) (id : ℕ) (v : SeatView) → get_elem? l id ≡ some v → Idles l → parts_in l ≤ v.parts → sum_by f l ≡ f v
  sum_alone [] id v e h le = absurd (some-ne-none v (sym e))
  sum_alone (x ∷ xs) zero v e h le =
      let c : parts_in (x ∷ xs) ≡ x.parts + parts_in xs = sum_by-cons parts_of x xs in
      let same : x.parts ≡ v.parts = ap parts_of (some-injective x v e) in
      let is : f x ≡ f v = ap f (some-injective x v e) in
      omega (arith, sum_by-cons f x xs, sum_none xs (λ i u at. h (suc i) u at) (omega arith))
  sum_alone (x ∷ xs) (suc id) v e h le =
      let c : parts_in (x ∷ xs) ≡ x.parts + parts_in xs = sum_by-cons parts_of x xs in
      let some_parts : v.parts ≤ parts_in xs = sum_at parts_of xs id v e in
      omega (arith, sum_by-cons f x xs, idles_at x (h 0 x refl (omega arith)), sum_alone xs id v e (λ i u at. h (suc i) u at) (omega arith))

least_none : (l : List SeatView) → Idles l → parts_in l ≡ 0 → noted_in l ≡ nothing_noted
least_none [] h e = omega arith
least_none (x ∷ xs) h e =
    let c : parts_in (x ∷ xs) ≡ x.parts + parts_in xs = sum_by-cons parts_of x xs in
    let idle_first : IsIdle x = h 0 x refl (omega arith) in
    omega (arith, idle_first.noted, least_none xs (λ i u at. h (suc i) u at) (omega arith))

least_alone : (l : List SeatView) (id : ℕ) (v : SeatView) → get_elem? l id ≡ some v → Idles l → parts_in l ≤ v.parts → noted_in l ≡ min v.noted nothing_noted
least_alone [] id v e h le = absurd (some-ne-none v (sym e))
least_alone (x ∷ xs) zero v e h le =
    let c : parts_in (x ∷ xs) ≡ x.parts + parts_in xs = sum_by-cons parts_of x xs in
    let same : x.parts ≡ v.parts = ap parts_of (some-injective x v e) in
    let is : x.noted ≡ v.noted = ap noted_of (some-injective x v e) in
    omega (arith, least_none xs (λ i u at. h (suc i) u at) (omega arith))
least_alone (x ∷ xs) (suc id) v e h le =
    let c : parts_in (x ∷ xs) ≡ x.parts + parts_in xs = sum_by-cons parts_of x xs in
    let some_parts : v.parts ≤ parts_in xs = sum_at parts_of xs id v e in
    let idle_first : IsIdle x = h 0 x refl (omega arith) in
    omega (arith, idle_first.noted, least_small noted_of xs, least_alone xs id v e (λ i u at. h (suc i) u at) (omega arith))

at_get : (l : List ℕ) (i x : ℕ) → get_elem? l i ≡ some x → get_or l i 0 ≡ x
at_get [] i x e = absurd (some-ne-none x (sym e))
at_get (y ∷ ys) zero x e = some-injective y x e
at_get (y ∷ ys) (suc i) x e = at_get ys i x e

-- what a board guarantees when it is closed
pub record Tells (b : BoardId) (least : ℕ) (all : List PassView) : Type 0 where
  pub whole : length all ≡ b.passes
  pub once : DrewFromBelow b.total all
  pub all_drawn : SomeIsDone all → DrewEachBelow b.total all
  pub noted : least ≡ least_noted all
  pub seen : SawNoneBelow least all

module _ (k : Counts) (b : BoardId) (all : List PassView) (same_total : k.total ≡ b.total) (same_passes : k.passes ≡ b.passes) (enough : b.passes ≤ length all) (id : ℕ) (v : SeatView) (g : Gathers b [] all v) where
  tells : (n m : ℕ) (l : List SeatView) → IsBoardState k n m l → get_elem? l id ≡ some v → Tells b m all
  tells n m l r at =
      let idles : Idles l = λ i u e. (r.each i u e).idles in
      let every : parts_in l ≤ v.parts = omega (arith, r.parts, g.parts) in
      let drawn : DrewEachBelow (min n k.total) all = λ x. omega (arith, g.draws x, r.draws x, sum_alone (drawn_of x) (λ u z. ap (times x) z.draws) l id v at idles every) in
      let done : done_in l ≡ v.done = sum_alone done_of (λ u z. z.done) l id v at idles every in record {
        whole = omega (arith, r.parts, g.parts, sum_at parts_of l id v at);
        once = (min n k.total, omega arith, drawn);
        all_drawn = λ some_done x. drawn x ∙ once_full x n k.total (r.done (omega (arith, g.done))) ∙ ap (once_below x) same_total;
        noted = omega (arith, r.noted, g.noted, least_alone l id v at idles every);
        seen = g.looks m (r.each id v at).looks (All-nil (λ (p : PassView). All (λ look. m ≤ look) p.looks));
      }

  pub closes : (ws : List ℕ) (xs : List (Unit {0})) (least : ℕ) → Final (Seen (IsBoard k) id v) ws xs → get_elem? ws 1 ≡ some least → Tells b least all
  closes ws xs least f word =
      let s = f.0 in
      let is : get_or ws 1 0 ≡ least = at_get ws 1 least word in
      subst (λ (z : ℕ). Tells b z all) (ap (λ (u : List ℕ). get_or u 1 0) f.2 ∙ is)
      (tells (get_or s.words 0 0) (get_or s.words 1 0) s.views f.1.0.1 f.1.1)
