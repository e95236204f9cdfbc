-- Each step keeps the rule of the words' table.
use Rattle.std.proofs.Common.{◌≡◌, ◌≢◌, ℕ, zero, suc, ◌+◌, ◌%◌, ◌^◌, ◌<◌, ◌⊎◌, List, [], ◌∷◌, ◌++◌, length, get_or, set, sym, refl, ap, ◌∙◌, subst, ⊎_elim, inl, inr, arith, Bool, true, false, eqb, eq-eqb, ne_eqb, cond, length-set}
use Rattle.std.proofs.lemmas.List.{append-nil}
use mathlib.Core.Option.{some, none, some-injective, some-ne-none}
use lib.ListN.{get_elem?}
use Rattle.atomic_table.specs.Table.{State, step, keeps, Allows, Splits, Joins, opening}
use Rattle.atomic_table.proofs.Lists.{at_set}
use Rattle.mt_shared.specs.declared.known.Act.{Act}
use Rattle.mt_shared.specs.declared.known.Own.{Own}
use Rattle.mt_shared.specs.declared.known.Known.{Known}
use Rattle.mt_shared.specs.Words.{Step, Leads, acts_by, act}
use Rattle.mt_shared.specs.Steps.Rule.{Sitter, first_known, lone, Each, IsOwn, IsKnown, IsKept, more_in, with_act, Adds, Loads, Swaps, without_next, next_hand, both_known, nothing_known}

-- ---- histories

-- the step of a hand
abbrev pub step_by : ℕ → Act → Step
step_by k a = record { by = k; act = a }

leads_more : (words : List ℕ) (history : List Step) (after : List ℕ) (s : Step) → Leads words history after → s.act.found ≡ get_or after s.act.word 0
    → Leads words (history ++ s ∷ []) (set after s.act.word s.act.left)
leads_more words [] after s is found = (found ∙ ap (λ (ws : List ℕ). get_or ws s.act.word 0) is, ap (λ (ws : List ℕ). set ws s.act.word s.act.left) is)
leads_more words (x ∷ xs) after s is found = (is.0, leads_more (set words x.act.word x.act.left) xs after s is.1 found)

push_if : (b : Bool) (a : Act) (l m n : List Act) → l ≡ m ++ n → cond b (a ∷ l) l ≡ cond b (a ∷ m) m ++ n
push_if true a l m n is = ap (λ (x : List Act). a ∷ x) is
push_if false a l m n is = is

acts_push : (k : ℕ) (history : List Step) (s : Step) → acts_by k (history ++ s ∷ []) ≡ acts_by k history ++ cond (eqb s.by k) (s.act ∷ []) []
acts_push k [] s = refl
acts_push k (x ∷ xs) s = push_if (eqb x.by k) x.act (acts_by k (xs ++ s ∷ [])) (acts_by k xs) (cond (eqb s.by k) (s.act ∷ []) []) (acts_push k xs s)

acts_mine : (k : ℕ) (history : List Step) (a : Act) → acts_by k (history ++ step_by k a ∷ []) ≡ acts_by k history ++ a ∷ []
acts_mine k history a = acts_push k history (step_by k a) ∙ ap (λ (b : Bool). acts_by k history ++ cond b (a ∷ []) []) (eq-eqb k k refl)

acts_other : (k by : ℕ) (history : List Step) (a : Act) → by ≢ k → acts_by k (history ++ step_by by a ∷ []) ≡ acts_by k history
acts_other k by history a apart = acts_push k history (step_by by a) ∙ ap (λ (b : Bool). acts_by k history ++ cond b (a ∷ []) []) (ne_eqb by k apart) ∙ append-nil (acts_by k history)

-- ---- hands of a seat

pub each_map : (P Q : Own → Type 0) (owns : List Own) → ((own : Own) → P own → Q own) → Each P owns → Each Q owns
each_map P Q [] then each = tt
each_map P Q (own ∷ owns) then each = (then own each.0, each_map P Q owns then each.1)

pub each_append : (P : Own → Type 0) (owns more : List Own) → Each P owns → Each P more → Each P (owns ++ more)
each_append P [] more each also = also
each_append P (own ∷ owns) more each also = (each.0, each_append P owns more each.1 also)

-- the last element stands behind the others
at_end : {A : Type 0} (l : List A) (a b : A) (j : ℕ) → get_elem? (l ++ a ∷ []) j ≡ some b → (get_elem? l j ≡ some b) ⊎ ((j ≡ length l) × (a ≡ b))
at_end [] a b zero e = inr (refl, some-injective a b e)
at_end [] a b (suc j) e = absurd (some-ne-none b (sym e))
at_end (x ∷ xs) a b zero e = inl e
at_end (x ∷ xs) a b (suc j) e = ⊎_elim inl (λ (h : (j ≡ length xs) × (a ≡ b)). inr (ap suc h.0, h.1)) (at_end xs a b j e)

at_below : {A : Type 0} (l : List A) (i : ℕ) (a : A) → get_elem? l i ≡ some a → i < length l
at_below [] i a e = absurd (some-ne-none a (sym e))
at_below (x ∷ xs) zero a e = omega arith
at_below (x ∷ xs) (suc i) a e = omega (arith, at_below xs i a e)

module _ (first : List ℕ) (hands : ℕ) where
  -- ---- a step

  module _ (s : State (Unit {0}) Known) (kept : IsKept first hands s) (id by : ℕ) (acts : List Act) (at : get_elem? s.views id ≡ some (lone by acts)) where
    own_of : IsOwn kept.history kept.seat hands id (record { by = by; acts = acts })
    own_of = (kept.each id (lone by acts) at).owns.0

    apart : (k i : ℕ) → i ≢ id → kept.seat k ≡ i → by ≢ k
    apart k i other here same = other (sym here ∙ ap kept.seat (sym same) ∙ own_of.here)

    kept_more : (word left : ℕ) → IsKept first hands (record { words = set s.words word left; homes = s.homes; views = set s.views id (lone by (acts ++ act word (get_or s.words word 0) left ∷ [])) })
    kept_more word left = record {
      history = history;
      seat = kept.seat;
      many = length-set s.words word left ∙ kept.many;
      leads = leads_more first kept.history s.words (step_by by a) kept.leads refl;
      each = λ i u e. ⊎_elim (λ (h : (i ≡ id) × (lone by (acts ++ a ∷ []) ≡ u)). subst (λ (z : ℕ × Known). IsKnown history kept.seat hands z.0 z.1) (λ k. (sym h.0 k, h.1 k)) mine)
          (λ (h : (i ≢ id) × (get_elem? s.views i ≡ some u)). others i u h.0 (kept.each i u h.1)) (at_set s.views id i (lone by (acts ++ a ∷ [])) u e);
      others = λ k high. acts_other k by kept.history a (λ same. absurd (omega (arith, own_of.below, same, high))) ∙ kept.others k high;
    }
      where
        a : Act
        a = act word (get_or s.words word 0) left

        history : List Step
        history = kept.history ++ step_by by a ∷ []

        mine : IsKnown history kept.seat hands id (lone by (acts ++ a ∷ []))
        mine = record {
          owns = (record { here = own_of.here; below = own_of.below; acts = acts_mine by kept.history a ∙ ap (λ (l : List Act). l ++ a ∷ []) own_of.acts }, tt);
          left = λ k low high. absurd (omega (arith, low, high));
        }

        others : (i : ℕ) (u : Known) → i ≢ id → IsKnown kept.history kept.seat hands i u → IsKnown history kept.seat hands i u
        others i u other is = record {
          owns = each_map (IsOwn kept.history kept.seat hands i) (IsOwn history kept.seat hands i) u.owns
              (λ own of. record { here = of.here; below = of.below; acts = acts_other own.by by kept.history a (apart own.by i other of.here) ∙ of.acts }) is.owns;
          left = λ k low high. let of = is.left k low high in record { here = of.here; below = of.below; acts = acts_other k by kept.history a (apart k i other of.here) ∙ of.acts };
        }

  module _ (slots id by : ℕ) (acts : List Act) (me : Sitter) (is : me ≡ (lone by acts, [])) where
    here : (s : State (Unit {0}) Known) → get_elem? s.views id ≡ some me.0 → get_elem? s.views id ≡ some (lone by acts)
    here s at = at ∙ ap (λ (m : Sitter). some m.0) is

    after : (word found left : ℕ) → (lone by (acts ++ act word found left ∷ []), me.1) ≡ with_act (act word found left) me
    after word found left = λ i. (record { owns = more_in (act word found left) (sym is i).0.owns; next = (sym is i).0.next; parts = (sym is i).0.parts }, me.1)

    pub adds : (word more : ℕ) → Allows (IsKept first hands) slots id me word (λ n. (n + more) % 2 ^ 64) (Adds (step slots word more 0 none) me)
    adds word more s kept _ at _ = (
      lone by (acts ++ act word (get_or s.words word 0) ((get_or s.words word 0 + more) % 2 ^ 64) ∷ []),
      keeps,
      tt,
      kept_more s kept id by acts (here s at) word ((get_or s.words word 0 + more) % 2 ^ 64),
      after word (get_or s.words word 0) ((get_or s.words word 0 + more) % 2 ^ 64),
    )

    pub loads : (word : ℕ) → Allows (IsKept first hands) slots id me word (λ n. n) (Loads (step slots word 0 0 none) me)
    loads word s kept _ at _ = (
      lone by (acts ++ act word (get_or s.words word 0) (get_or s.words word 0) ∷ []),
      keeps,
      tt,
      kept_more s kept id by acts (here s at) word (get_or s.words word 0),
      after word (get_or s.words word 0) (get_or s.words word 0),
    )

    pub swaps : (word value : ℕ) → Allows (IsKept first hands) slots id me word (λ _. value) (Swaps (step slots word value 0 none) me)
    swaps word value s kept _ at _ = (
      lone by (acts ++ act word (get_or s.words word 0) value ∷ []),
      keeps,
      tt,
      kept_more s kept id by acts (here s at) word value,
      after word (get_or s.words word 0) value,
    )

  -- ---- seats

  pub opens : IsKept first hands (opening first [] (first_known hands))
  opens = record {
    history = [];
    seat = λ _. 0;
    many = refl;
    leads = refl;
    each = alone;
    others = λ k high. refl;
  }
    where
      alone : (id : ℕ) (v : Known) → get_elem? (first_known hands ∷ []) id ≡ some v → IsKnown [] (λ _. 0) hands id v
      alone zero v e = subst (λ (u : Known). IsKnown [] (λ _. 0) hands 0 u) (some-injective (first_known hands) v e) (record {
        owns = tt;
        left = λ k low high. record { here = refl; below = omega (arith, high); acts = refl };
      })
      alone (suc id) v e = absurd (some-ne-none v (sym e))

  -- the seat of the next hand is split off
  pub splits : (id next parts : ℕ) → 0 < parts → Splits (IsKept first hands) id (record { owns = []; next = next; parts = parts }) (without_next (record { owns = []; next = next; parts = parts })) (next_hand (record { owns = []; next = next; parts = parts }))
  splits id next parts some_part s kept at = record {
    history = kept.history;
    seat = seat;
    many = kept.many;
    leads = kept.leads;
    each = λ i u e. ⊎_elim
        (λ (h : get_elem? l i ≡ some u). ⊎_elim (λ (g : (i ≡ id) × (left ≡ u)). subst (λ (z : ℕ × Known). IsKnown kept.history seat hands z.0 z.1) (λ k. (sym g.0 k, g.1 k)) fewer)
        (λ (g : (i ≢ id) × (get_elem? s.views i ≡ some u)). others i u g.0 (kept.each i u g.1)) (at_set s.views id i left u h))
        (λ (h : (i ≡ length l) × (lone next [] ≡ u)). subst (λ (z : ℕ × Known). IsKnown kept.history seat hands z.0 z.1) (λ k. (sym h.0 k, h.1 k)) new)
        (at_end l (lone next []) u i e);
    others = kept.others;
  }
    where
      v : Known
      v = record { owns = []; next = next; parts = parts }

      left : Known
      left = without_next v

      l : List Known
      l = set s.views id left

      seat : ℕ → ℕ
      seat k = cond (eqb k next) (length l) (kept.seat k)

      own_of : IsOwn kept.history kept.seat hands id (record { by = next; acts = [] })
      own_of = (kept.each id v at).left next (omega arith) (omega (arith, some_part))

      still : (k i : ℕ) → k ≢ next → kept.seat k ≡ i → seat k ≡ i
      still k i other is = ap (λ (b : Bool). cond b (length l) (kept.seat k)) (ne_eqb k next other) ∙ is

      fewer : IsKnown kept.history seat hands id left
      fewer = record {
        owns = tt;
        left = λ k low high. let of = (kept.each id v at).left k (omega (arith, low)) (omega (arith, high, some_part)) in record {
          here = still k id (λ same. absurd (omega (arith, same, low))) of.here;
          below = of.below;
          acts = of.acts;
        };
      }

      others : (i : ℕ) (u : Known) → i ≢ id → IsKnown kept.history kept.seat hands i u → IsKnown kept.history seat hands i u
      others i u other is = record {
        owns = each_map (IsOwn kept.history kept.seat hands i) (IsOwn kept.history seat hands i) u.owns
            (λ own of. record { here = still own.by i (λ same. other (sym of.here ∙ ap kept.seat same ∙ own_of.here)) of.here; below = of.below; acts = of.acts }) is.owns;
        left = λ k low high. let of = is.left k low high in record { here = still k i (λ same. other (sym of.here ∙ ap kept.seat same ∙ own_of.here)) of.here; below = of.below; acts = of.acts };
      }

      new : IsKnown kept.history seat hands (length l) (lone next [])
      new = record {
        owns = (record { here = ap (λ (b : Bool). cond b (length l) (kept.seat next)) (eq-eqb next next refl); below = own_of.below; acts = own_of.acts }, tt);
        left = λ k low high. absurd (omega (arith, low, high));
      }

  -- two seats are joined
  pub joins : (id : ℕ) (v : Known) (other : ℕ) (w : Known) → Joins (IsKept first hands) id v other w (both_known v w) nothing_known
  joins id v other w s kept at differs there = record {
    history = kept.history;
    seat = seat;
    many = kept.many;
    leads = kept.leads;
    each = λ i u e. ⊎_elim (λ (h : (i ≡ other) × (nothing_known ≡ u)). subst (λ (z : ℕ × Known). IsKnown kept.history seat hands z.0 z.1) (λ k. (sym h.0 k, h.1 k)) none_left)
        (λ (h : (i ≢ other) × (get_elem? l i ≡ some u)). ⊎_elim (λ (g : (i ≡ id) × (both_known v w ≡ u)). subst (λ (z : ℕ × Known). IsKnown kept.history seat hands z.0 z.1) (λ k. (sym g.0 k, g.1 k)) both)
        (λ (g : (i ≢ id) × (get_elem? s.views i ≡ some u)). others i u h.0 (kept.each i u g.1)) (at_set s.views id i (both_known v w) u h.1))
        (at_set l other i nothing_known u e);
    others = kept.others;
  }
    where
      l : List Known
      l = set s.views id (both_known v w)

      seat : ℕ → ℕ
      seat k = cond (eqb (kept.seat k) other) id (kept.seat k)

      still : (k i : ℕ) → i ≢ other → kept.seat k ≡ i → seat k ≡ i
      still k i apart is = ap (λ (b : Bool). cond b id (kept.seat k)) (ne_eqb (kept.seat k) other (λ same. apart (sym is ∙ same))) ∙ is

      moved : (k : ℕ) → kept.seat k ≡ other → seat k ≡ id
      moved k is = ap (λ (b : Bool). cond b id (kept.seat k)) (eq-eqb (kept.seat k) other is)

      was : get_elem? s.views other ≡ some w
      was = ⊎_elim (λ (h : (other ≡ id) × (both_known v w ≡ w)). absurd (differs h.0)) (λ (h : (other ≢ id) × (get_elem? s.views other ≡ some w)). h.1) (at_set s.views id other (both_known v w) w there)

      none_left : IsKnown kept.history seat hands other nothing_known
      none_left = record { owns = tt; left = λ k low high. absurd (omega (arith, low, high)) }

      both : IsKnown kept.history seat hands id (both_known v w)
      both = record {
        owns = each_append (IsOwn kept.history seat hands id) v.owns w.owns
            (each_map (IsOwn kept.history kept.seat hands id) (IsOwn kept.history seat hands id) v.owns
            (λ own of. record { here = still own.by id (λ same. differs (sym same)) of.here; below = of.below; acts = of.acts }) (kept.each id v at).owns)
            (each_map (IsOwn kept.history kept.seat hands other) (IsOwn kept.history seat hands id) w.owns
            (λ own of. record { here = moved own.by of.here; below = of.below; acts = of.acts }) (kept.each other w was).owns);
        left = λ k low high. let of = (kept.each id v at).left k low high in record { here = still k id (λ same. differs (sym same)) of.here; below = of.below; acts = of.acts };
      }

      others : (i : ℕ) (u : Known) → i ≢ other → IsKnown kept.history kept.seat hands i u → IsKnown kept.history seat hands i u
      others i u apart is = record {
        owns = each_map (IsOwn kept.history kept.seat hands i) (IsOwn kept.history seat hands i) u.owns
            (λ own of. record { here = still own.by i apart of.here; below = of.below; acts = of.acts }) is.owns;
        left = λ k low high. let of = is.left k low high in record { here = still k i apart of.here; below = of.below; acts = of.acts };
      }
