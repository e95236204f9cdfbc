-- What threads did with logs that they were lent has one order.
use Rattle.std.proofs.Common.{◌≡◌, ◌≢◌, ◌⊎◌, inl, inr, ⊎_elim, ℕ, zero, suc, ◌+◌, ◌*◌, ◌^◌, ◌≤◌, ◌<◌, Bool, cond, eqb, eq-eqb, ne_eqb, Some, List, [], ◌∷◌, length, map, slice_set, get_or, set, refl, sym, ap, ◌∙◌, subst, arith, length-set}
use Rattle.std.specs.Prelude.{slice_get, sum_by}
use Rattle.std.proofs.lemmas.Option.{none-some, same_Some}
use Rattle.std.proofs.lemmas.List.Sums.{sum_by-cons}
use native.Mathlib.Decide.{ℕ_discrete}
use Rattle.mt_laws.specs.Writing.{Server}
use Rattle.mt_shared.specs.declared.known.Act.{Act}
use Rattle.mt_shared.specs.Words.{Step, Leads, acts_by}
use Rattle.mt_keeper.specs.Keeping.{Keeping, Holds}
use Rattle.mt_keeper.specs.Crews.{LentView, Deed, Held, resting, log_with, words_of, Does, Works, draws, after_deed, IsDeed, AreDeeds, deeds_by}
use Rattle.mt_keeper.proofs.Deeds.{IsDone, deed_done}

-- ---- what is changed at one place

module _ {A : Type 0} where
  -- f, with x at i
  abbrev pub with : (ℕ → A) → ℕ → A → ℕ → A
  with f i x j = cond (eqb j i) x (f j)

  with_here : (f : ℕ → A) (i j : ℕ) (x : A) → j ≡ i → with f i x j ≡ x
  with_here f i j x same = ap (λ (b : Bool). cond b x (f j)) (eq-eqb j i same)

  with_else : (f : ℕ → A) (i j : ℕ) (x : A) → j ≢ i → with f i x j ≡ f j
  with_else f i j x other = ap (λ (b : Bool). cond b x (f j)) (ne_eqb j i other)

  -- the element at a place, if there is one
  pub element : (xs : List A) (i : ℕ) → ((x : A) × (slice_get xs i ≡ Some x)) ⊎ (length xs ≤ i)
  element [] i = inr (omega arith)
  element (x ∷ xs) zero = inl (x, refl)
  element (x ∷ xs) (suc i) = ⊎_elim (λ (is : (y : A) × (slice_get xs i ≡ Some y)). inl is) (λ (far : length xs ≤ i). inr (omega (arith, far))) (element xs i)

  pub within : (xs : List A) (i : ℕ) (x : A) → slice_get xs i ≡ Some x → i < length xs
  within [] i x is = absurd (none-some x is)
  within (y ∷ ys) zero x is = omega arith
  within (y ∷ ys) (suc i) x is = omega (arith, within ys i x is)

  pub get_set_here : (xs : List A) (i : ℕ) (x y : A) → slice_get xs i ≡ Some x → slice_get (set xs i y) i ≡ Some y
  get_set_here [] i x y is = absurd (none-some x is)
  get_set_here (z ∷ zs) zero x y is = refl
  get_set_here (z ∷ zs) (suc i) x y is = get_set_here zs i x y is

  pub get_set_else : (xs : List A) (i j : ℕ) (y : A) → j ≢ i → slice_get (set xs i y) j ≡ slice_get xs j
  get_set_else [] i j y other = refl
  get_set_else (z ∷ zs) zero zero y other = absurd (other refl)
  get_set_else (z ∷ zs) zero (suc j) y other = refl
  get_set_else (z ∷ zs) (suc i) zero y other = refl
  get_set_else (z ∷ zs) (suc i) (suc j) y other = get_set_else zs i j y (λ same. other (ap suc same))

number_at : (lents : List LentView) (i : ℕ) (lent : LentView) → slice_get lents i ≡ Some lent → get_or (map (λ (l : LentView). l.number) lents) i 0 ≡ lent.number
number_at [] i lent is = absurd (none-some lent is)
number_at (l ∷ ls) zero lent is = ap (λ (x : LentView). x.number) (same_Some l lent is)
number_at (l ∷ ls) (suc i) lent is = number_at ls i lent is

-- ---- the stamps that are drawn

-- how many stamps the deeds of the first n logs draw
abbrev pub total : ℕ → (ℕ → List Deed) → ℕ
total zero ds = 0
total (suc n) ds = total n ds + sum_by draws (ds n)

total_else : (n : ℕ) (ds : ℕ → List Deed) (i : ℕ) (x : List Deed) → n ≤ i → total n (with ds i x) ≡ total n ds
total_else zero ds i x far = refl
total_else (suc n) ds i x far = omega (arith, total_else n ds i x (omega (arith, far)), ap (sum_by draws) (with_else ds i n x (λ same. absurd (omega (arith, same, far)))))

total_with : (n : ℕ) (ds : ℕ → List Deed) (i : ℕ) (x : List Deed) → i < n → total n (with ds i x) + sum_by draws (ds i) ≡ total n ds + sum_by draws x
total_with zero ds i x near = absurd (omega (arith, near))
total_with (suc n) ds i x near = by_place (ℕ_discrete n i) (λ closer. total_with n ds i x closer)
  where
    by_place : Dec (n ≡ i) → (i < n → total n (with ds i x) + sum_by draws (ds i) ≡ total n ds + sum_by draws x) → total (suc n) (with ds i x) + sum_by draws (ds i) ≡ total (suc n) ds + sum_by draws x
    by_place (yes same) less = omega (arith, total_else n ds i x (omega (arith, same)), ap (sum_by draws) (with_here ds i n x same), ap (λ (j : ℕ). sum_by draws (ds j)) same)
    by_place (no other) less = omega (arith, less (omega (arith, near, other)), ap (sum_by draws) (with_else ds i n x other))

pub total_most : (n : ℕ) (ds : ℕ → List Deed) (most : ℕ) → ((i : ℕ) → i < n → sum_by draws (ds i) ≤ most) → total n ds ≤ n * most
total_most zero ds most each = omega arith
total_most (suc n) ds most each = omega (arith, total_most n ds most (λ i near. each i (omega (arith, near))), each n (omega arith))

-- ---- deeds and their acts

works_none : (logs number : ℕ) (before : Held) (deeds : List Deed) (after : Held) → Works logs number before deeds [] after → (deeds ≡ []) × (after ≡ before)
works_none logs number before [] after works = (refl, works)
works_none logs number before (d ∷ deeds) after works = absurd works

-- the first deed has the first act
pub record First (logs number : ℕ) (before : Held) (deeds : List Deed) (a : Act) (acts : List Act) (after : Held) : Type 0 where
  pub d : Deed
  pub rest : List Deed
  pub next : Held
  pub split : deeds ≡ d ∷ rest
  pub does : Does logs number before d a next
  pub works : Works logs number next rest acts after

works_some : (logs number : ℕ) (before : Held) (deeds : List Deed) (a : Act) (acts : List Act) (after : Held) → Works logs number before deeds (a ∷ acts) after
    → First logs number before deeds a acts after
works_some logs number before [] a acts after works = absurd works
works_some logs number before (d ∷ deeds) a acts after works = record { d = d; rest = deeds; next = works.0; split = refl; does = works.1; works = works.2 }

acts_first : (k : ℕ) (x : Step) (rest : List Step) → x.by ≡ k → acts_by k (x ∷ rest) ≡ x.act ∷ acts_by k rest
acts_first k x rest same = ap (λ (b : Bool). cond b (x.act ∷ acts_by k rest) (acts_by k rest)) (eq-eqb x.by k same)

acts_else : (k : ℕ) (x : Step) (rest : List Step) → x.by ≢ k → acts_by k (x ∷ rest) ≡ acts_by k rest
acts_else k x rest other = ap (λ (b : Bool). cond b (x.act ∷ acts_by k rest) (acts_by k rest)) (ne_eqb x.by k other)

deeds_first : (k i : ℕ) (d : Deed) (order : List (ℕ × Deed)) → i ≡ k → deeds_by k ((i, d) ∷ order) ≡ d ∷ deeds_by k order
deeds_first k i d order same = ap (λ (b : Bool). cond b (d ∷ deeds_by k order) (deeds_by k order)) (eq-eqb i k same)

deeds_else : (k i : ℕ) (d : Deed) (order : List (ℕ × Deed)) → i ≢ k → deeds_by k ((i, d) ∷ order) ≡ deeds_by k order
deeds_else k i d order other = ap (λ (b : Bool). cond b (d ∷ deeds_by k order) (deeds_by k order)) (ne_eqb i k other)

-- ---- the order

-- no two logs have one number
abbrev pub AreApart : List LentView → Type 0
AreApart lents = (i j : ℕ) (a b : LentView) → slice_get lents i ≡ Some a → slice_get lents j ≡ Some b → a.number ≡ b.number → i ≡ j

-- no log is lent that has this number
abbrev pub IsNotLent : List LentView → ℕ → Type 0
IsNotLent lents number = (i : ℕ) (lent : LentView) → slice_get lents i ≡ Some lent → lent.number ≡ number → ⊥

-- the keeper has this log with the writer of now, and its deeds lead to the writer that it came back with
pub record IsAtWork (k : Keeping) (history : List Step) (held : ℕ → Held) (ds : ℕ → List Deed) (i : ℕ) (lent : LentView) : Type 0 where
  pub at : slice_get k.logs lent.number ≡ Some (log_with lent (held i).writer)
  pub works : Works (length k.logs) lent.number (held i) (ds i) (acts_by i history) (resting lent.writer)

-- the lent logs, when this history is left
pub record AreAtWork (lents : List LentView) (k : Keeping) (history : List Step) (held : ℕ → Held) (ds : ℕ → List Deed) : Type 0 where
  pub each : (i : ℕ) (lent : LentView) → slice_get lents i ≡ Some lent → IsAtWork k history held ds i lent
  pub none : (i : ℕ) → length lents ≤ i → (acts_by i history ≡ []) × (ds i ≡ [])
  pub low : (i x : ℕ) → x < (held i).seen → (held i).least ≤ get_or (words_of k) (suc x) 0
  pub few : k.clock + total (length lents) ds + 1 < 2 ^ 64

-- an order of all deeds, from this server to one that the keeper holds in the end
pub record AreOrdered (lents : List LentView) (k : Keeping) (s : Server) (ds : ℕ → List Deed) (words : List ℕ) : Type 0 where
  pub order : List (ℕ × Deed)
  pub after : Server
  pub now : Keeping
  pub calls : AreDeeds (map (λ (l : LentView). l.number) lents) order s after
  pub holds : Holds now after
  pub each : (i : ℕ) → deeds_by i order ≡ ds i
  pub words_are : words ≡ words_of now
  pub same : now ≡ record k { clock = now.clock; logs = now.logs }
  pub many : length now.logs ≡ length k.logs
  pub lent : (i : ℕ) (lent : LentView) → slice_get lents i ≡ Some lent → slice_get now.logs lent.number ≡ Some (log_with lent lent.writer)
  pub others : (number : ℕ) → IsNotLent lents number → slice_get now.logs number ≡ slice_get k.logs number

module _ (lents : List LentView) (apart : AreApart lents) where
  none_left : (k : Keeping) (s : Server) (held : ℕ → Held) (ds : ℕ → List Deed) (words : List ℕ) → Holds k s → AreAtWork lents k [] held ds → words ≡ words_of k → AreOrdered lents k s ds words
  none_left k s held ds words holds are is = record {
    order = [];
    after = s;
    now = k;
    calls = refl;
    holds = holds;
    each = λ i. ⊎_elim (λ (x : (lent : LentView) × (slice_get lents i ≡ Some lent)). sym (works_none (length k.logs) x.0.number (held i) (ds i) (resting x.0.writer) (are.each i x.0 x.1).works).0)
        (λ (far : length lents ≤ i). sym (are.none i far).1) (element lents i);
    words_are = is;
    same = refl;
    many = refl;
    lent = λ i lent at. (are.each i lent at).at ∙ ap (λ (h : Held). Some (log_with lent h.writer)) (sym (works_none (length k.logs) lent.number (held i) (ds i) (resting lent.writer) (are.each i lent at).works).1);
    others = λ number not. refl;
  }

  module _ (k : Keeping) (s : Server) (x : Step) (rest : List Step) (held : ℕ → Held) (ds : ℕ → List Deed) (holds : Holds k s) (are : AreAtWork lents k (x ∷ rest) held ds)
      (lent : LentView) (is_lent : slice_get lents x.by ≡ Some lent) (first : First (length k.logs) lent.number (held x.by) (ds x.by) x.act (acts_by x.by rest) (resting lent.writer))
      (done : IsDone k s lent.number (log_with lent first.next.writer) first.d x.act first.next) where
    abbrev now : Keeping
    now = record k { clock = done.clock; logs = slice_set k.logs lent.number (log_with lent first.next.writer) }

    still : AreAtWork lents now rest (with held x.by first.next) (with ds x.by first.rest)
    still = record {
      each = λ i other at. by_place i other at (ℕ_discrete i x.by);
      none = λ i far.
          let apart : x.by ≢ i = λ same. absurd (omega (arith, within lents x.by lent is_lent, same, far)) in
          (sym (acts_else i x rest apart) ∙ (are.none i far).0, with_else ds x.by i first.rest (λ same. apart (sym same)) ∙ (are.none i far).1);
      low = λ i n near. lower i n near (ℕ_discrete i x.by);
      few = omega (arith, are.few, done.clock_is, total_with (length lents) ds x.by first.rest (within lents x.by lent is_lent), ap (sum_by draws) first.split, sum_by-cons draws first.d first.rest);
    }
      where
        by_place : (i : ℕ) (other : LentView) → slice_get lents i ≡ Some other → Dec (i ≡ x.by) → IsAtWork now rest (with held x.by first.next) (with ds x.by first.rest) i other
        by_place i other at (yes same) =
            let is : other ≡ lent = same_Some other lent (sym at ∙ ap (slice_get lents) same ∙ is_lent) in record {
              at = ap (λ (l : LentView). slice_get now.logs l.number) is ∙ get_set_here k.logs lent.number (log_with lent (held x.by).writer) (log_with lent first.next.writer) (are.each x.by lent is_lent).at
                  ∙ (λ j. Some (log_with (sym is j) (sym (with_here held x.by i first.next same) j).writer));
              works = subst (λ (z : LentView × Held × List Deed × ℕ × ℕ). Works z.4 z.0.number z.1 z.2 (acts_by z.3 rest) (resting z.0.writer))
                  (λ j. (sym is j, sym (with_here held x.by i first.next same) j, sym (with_here ds x.by i first.rest same) j, sym same j, sym (length-set k.logs lent.number (log_with lent first.next.writer)) j)) first.works;
            }
        by_place i other at (no differs) =
            let old = are.each i other at in record {
              at = get_set_else k.logs lent.number other.number (log_with lent first.next.writer) (λ same. differs (apart i x.by other lent at is_lent same)) ∙ old.at
                  ∙ (λ j. Some (log_with other (sym (with_else held x.by i first.next differs) j).writer));
              works = subst (λ (z : Held × List Deed × List Act × ℕ). Works z.3 other.number z.0 z.1 z.2 (resting other.writer))
                  (λ j. (sym (with_else held x.by i first.next differs) j, sym (with_else ds x.by i first.rest differs) j, acts_else i x rest (λ same. differs (sym same)) j, sym (length-set k.logs lent.number (log_with lent first.next.writer)) j)) old.works;
            }

        lower : (i n : ℕ) → n < (with held x.by first.next i).seen → Dec (i ≡ x.by) → (with held x.by first.next i).least ≤ get_or (words_of now) (suc n) 0
        lower i n near (yes same) =
            let is = with_here held x.by i first.next same in
            omega (arith, ap (λ (h : Held). h.least) is, done.low n (omega (arith, near, ap (λ (h : Held). h.seen) is)))
        lower i n near (no differs) =
            let is = with_else held x.by i first.next differs in
            omega (arith, ap (λ (h : Held). h.least) is, are.low i n (omega (arith, near, ap (λ (h : Held). h.seen) is)), done.grows n)

    one_more : (words : List ℕ) → AreOrdered lents now (after_deed lent.number first.d s) (with ds x.by first.rest) words → AreOrdered lents k s ds words
    one_more words later = record {
      order = (x.by, first.d) ∷ later.order;
      after = later.after;
      now = later.now;
      calls = subst (λ (n : ℕ). IsDeed n first.d s × AreDeeds (map (λ (l : LentView). l.number) lents) later.order (after_deed n first.d s) later.after) (sym (number_at lents x.by lent is_lent)) (done.allowed, later.calls);
      holds = later.holds;
      each = λ i. by_place i (ℕ_discrete x.by i);
      words_are = later.words_are;
      same = later.same;
      many = later.many ∙ length-set k.logs lent.number (log_with lent first.next.writer);
      lent = later.lent;
      others = λ number not. later.others number not ∙ get_set_else k.logs lent.number number (log_with lent first.next.writer) (λ same. not x.by lent is_lent (sym same));
    }
      where
        by_place : (i : ℕ) → Dec (x.by ≡ i) → deeds_by i ((x.by, first.d) ∷ later.order) ≡ ds i
        by_place i (yes same) = deeds_first i x.by first.d later.order same ∙ ap (λ (l : List Deed). first.d ∷ l) (later.each i ∙ with_here ds x.by i first.rest (sym same)) ∙ sym first.split ∙ ap ds same
        by_place i (no other) = deeds_else i x.by first.d later.order other ∙ later.each i ∙ with_else ds x.by i first.rest (λ same. other (sym same))

  -- the deeds have an order
  pub ordered : (history : List Step) (k : Keeping) (s : Server) (held : ℕ → Held) (ds : ℕ → List Deed) (words : List ℕ) → Holds k s → AreAtWork lents k history held ds
      → Leads (words_of k) history words → AreOrdered lents k s ds words
  ordered [] k s held ds words holds are leads = none_left k s held ds words holds are leads
  ordered (x ∷ rest) k s held ds words holds are leads = ⊎_elim
      (λ (is : (lent : LentView) × (slice_get lents x.by ≡ Some lent)).
      let lent = is.0 in
      let old = are.each x.by lent is.1 in
      let first = works_some (length k.logs) lent.number (held x.by) (ds x.by) x.act (acts_by x.by rest) (resting lent.writer)
      (subst (λ (l : List Act). Works (length k.logs) lent.number (held x.by) (ds x.by) l (resting lent.writer)) (acts_first x.by x rest refl) old.works) in
      let done = deed_done k s lent (held x.by) first.next x.act holds old.at leads.0 (omega (arith, are.few)) (are.low x.by) first.d first.does in
      one_more k s x rest held ds holds are lent is.1 first done words
      (ordered rest (now k s x rest held ds holds are lent is.1 first done) (after_deed lent.number first.d s) (with held x.by first.next) (with ds x.by first.rest) words done.holds
      (still k s x rest held ds holds are lent is.1 first done) (subst (λ (ws : List ℕ). Leads ws rest words) (sym done.words) leads.1)))
      (λ (far : length lents ≤ x.by). absurd (let is : x.act ∷ acts_by x.by rest ≡ [] = sym (acts_first x.by x rest refl) ∙ (are.none x.by far).0 in cc))
      (element lents x.by)
