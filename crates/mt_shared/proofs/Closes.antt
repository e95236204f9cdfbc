-- What the last seat knows once the seats of all hands are joined.
use Rattle.std.proofs.Common.{◌≡◌, ◌⊎◌, inl, inr, ⊎_elim, ℕ, zero, suc, ◌<◌, ◌≤◌, List, [], ◌∷◌, ◌++◌, Some, length, get_or, sym, refl, ap, ◌∙◌, subst, arith, length-append}
use Rattle.std.specs.Prelude.{slice_get}
use Rattle.std.specs.List.{All}
use mathlib.Core.Option.{some, some-injective, some-ne-none}
use native.Mathlib.Decide.{dec_le}
use lib.ListN.{get_elem?}
use Rattle.std.proofs.lemmas.List.{length_push}
use Rattle.atomic_table.specs.Table.{Seen, Final}
use Rattle.atomic_table.specs.Seated.{TableId}
use Rattle.mt_shared.specs.declared.known.Act.{Act}
use Rattle.mt_shared.specs.declared.known.Own.{Own}
use Rattle.mt_shared.specs.declared.known.Known.{Known}
use Rattle.mt_shared.specs.Words.{HandView, Step, Leads, acts_by, acts_at, AreAll}
use Rattle.mt_shared.specs.Steps.Rule.{lone, Each, IsOwn, IsKept, both_known}

-- among these hands is the one of this number, with these acts
abbrev pub Has : List Own → ℕ → List Act → Type 0
Has [] k acts = ⊥
Has (own ∷ owns) k acts = ((own.by ≡ k) × (own.acts ≡ acts)) ⊎ Has owns k acts

has_left : (owns more : List Own) (k : ℕ) (acts : List Act) → Has owns k acts → Has (owns ++ more) k acts
has_left [] more k acts has = absurd has
has_left (own ∷ owns) more k acts has = ⊎_elim inl (λ (later : Has owns k acts). inr (has_left owns more k acts later)) has

has_right : (owns more : List Own) (k : ℕ) (acts : List Act) → Has more k acts → Has (owns ++ more) k acts
has_right [] more k acts has = has
has_right (own ∷ owns) more k acts has = inr (has_right owns more k acts has)

acts_of_own : (history : List Step) (seat : ℕ → ℕ) (hands id : ℕ) (owns : List Own) (k : ℕ) (acts : List Act) → Each (IsOwn history seat hands id) owns → Has owns k acts
    → acts_by k history ≡ acts
acts_of_own history seat hands id [] k acts each has = absurd has
acts_of_own history seat hands id (own ∷ owns) k acts each has =
    ⊎_elim (λ (is : (own.by ≡ k) × (own.acts ≡ acts)). ap (λ (j : ℕ). acts_by j history) (sym is.0) ∙ each.0.acts ∙ is.1)
    (λ (later : Has owns k acts). acts_of_own history seat hands id owns k acts each.1 later) has

-- ---- hands in order of their numbers

get_here : (rest back : List HandView) (hand : HandView) → slice_get (rest ++ hand ∷ back) (length rest) ≡ Some hand
get_here [] back hand = refl
get_here (h ∷ rest) back hand = get_here rest back hand

acts_here : (rest back : List HandView) (hand : HandView) → acts_at (length rest) (rest ++ hand ∷ back) ≡ hand.acts
acts_here [] back hand = refl
acts_here (h ∷ rest) back hand = acts_here rest back hand

none_beyond : (hands : List HandView) (k : ℕ) → length hands ≤ k → acts_at k hands ≡ []
none_beyond [] k far = refl
none_beyond (h ∷ hands) zero far = absurd (omega arith)
none_beyond (h ∷ hands) (suc k) far = none_beyond hands k (omega arith)

append_again : (xs ys zs : List HandView) → (xs ++ ys) ++ zs ≡ xs ++ (ys ++ zs)
append_again [] ys zs = refl
append_again (x ∷ xs) ys zs = ap (λ (l : List HandView). x ∷ l) (append_again xs ys zs)

get_or_here : (rest back : List HandView) (hand : HandView) → get_or (rest ++ hand ∷ back) (length rest) hand ≡ hand
get_or_here [] back hand = refl
get_or_here (h ∷ rest) back hand = get_or_here rest back hand

-- what is true of all hands is true of this one
pub all_at : (P : HandView → Type 0) (all rest back : List HandView) (hand : HandView) → All P all → all ≡ rest ++ hand ∷ back → P hand
all_at P all rest back hand each split = subst P (ap (λ (l : List HandView). get_or l (length rest) hand) split ∙ get_or_here rest back hand)
    (each (length rest) hand (omega (arith, ap length split, length-append rest (hand ∷ back))))

-- the seat represents all hands but those of `rest`
pub record Gathers (rest all : List HandView) (v : Known) : Type 0 where
  pub back : List HandView
  pub split : all ≡ rest ++ back
  pub has : (k : ℕ) → length rest ≤ k → k < length all → Has v.owns k (acts_at k all)

-- the last hand of `before` is of these words
pub one_of : (P : HandView → Type 0) (all before rest : List HandView) (hand : HandView) (v : Known) → All P all → Gathers before all v → before ≡ rest ++ hand ∷ [] → P hand
one_of P all before rest hand v each g last =
    all_at P all rest g.back hand each (g.split ∙ ap (λ (l : List HandView). l ++ g.back) last ∙ append_again rest (hand ∷ []) g.back)

module _ (count : ℕ) (all : List HandView) (are : AreAll count all) (rest : List HandView) (hand : HandView) (t : TableId) (n : ℕ) (acts : List Act)
    (is : record { table = t; number = n; acts = acts } ≡ hand) where
  -- the hand behind the others has their number
  mine : (back : List HandView) → all ≡ rest ++ hand ∷ back → (n ≡ length rest) × (acts ≡ acts_at (length rest) all)
  mine back split = (
    ap (λ (h : HandView). h.number) is ∙ are.placed (length rest) hand (ap (λ (l : List HandView). slice_get l (length rest)) split ∙ get_here rest back hand),
    ap (λ (h : HandView). h.acts) is ∙ sym (ap (λ (l : List HandView). acts_at (length rest) l) split ∙ acts_here rest back hand),
  )

  pub gathers_first : all ≡ rest ++ hand ∷ [] → Gathers rest all (lone n acts)
  gathers_first split = record {
    back = hand ∷ [];
    split = split;
    has = λ k low high.
        let here : k ≡ length rest = omega (arith, low, high, ap length split, length_push rest hand) in
        inl ((mine [] split).0 ∙ sym here, (mine [] split).1 ∙ ap (λ (j : ℕ). acts_at j all) (sym here));
  }

  pub gathers_more : (before : List HandView) (v : Known) → Gathers before all v → before ≡ rest ++ hand ∷ [] → Gathers rest all (both_known v (lone n acts))
  gathers_more before v g last = record {
    back = hand ∷ g.back;
    split = split;
    has = λ k low high. by_place k low high (dec_le (length before) k);
  }
    where
      split : all ≡ rest ++ hand ∷ g.back
      split = g.split ∙ ap (λ (l : List HandView). l ++ g.back) last ∙ append_again rest (hand ∷ []) g.back

      by_place : (k : ℕ) → length rest ≤ k → k < length all → Dec (length before ≤ k) → Has (v.owns ++ (lone n acts).owns) k (acts_at k all)
      by_place k low high (yes above) = has_left v.owns (lone n acts).owns k (acts_at k all) (g.has k above high)
      by_place k low high (no below) =
          let here : k ≡ length rest = omega (arith, low, below, ap length last, length_push rest hand) in
          has_right v.owns (lone n acts).owns k (acts_at k all) (inl ((mine g.back split).0 ∙ sym here, (mine g.back split).1 ∙ ap (λ (j : ℕ). acts_at j all) (sym here)))

-- ---- the order of all steps

at_get : (l : List ℕ) (i x : ℕ) → get_elem? l i ≡ some x → get_or l i 0 ≡ x
at_get [] i x e = absurd (some-ne-none x (sym e))
at_get (y ∷ ys) zero x e = some-injective y x e
at_get (y ∷ ys) (suc i) x e = at_get ys i x e

-- the steps of all hands have one order
pub record HaveOrder (words : List ℕ) (hands : List HandView) (first : ℕ) : Type 0 where
  pub history : List Step
  pub after : List ℕ
  pub leads : Leads words history after
  pub is_first : get_or after 0 0 ≡ first
  pub each : (k : ℕ) → acts_by k history ≡ acts_at k hands

-- no hand is left out
ordered : (words : List ℕ) (count first : ℕ) (all : List HandView) (kept_words : List ℕ) (history : List Step) → length all ≡ count → Leads words history kept_words
    → get_elem? kept_words 0 ≡ some first → ((k : ℕ) → count ≤ k → acts_by k history ≡ []) → ((k : ℕ) → k < length all → acts_by k history ≡ acts_at k all)
    → HaveOrder words all first
ordered words count first all kept_words history many leads word others each = record {
  history = history;
  after = kept_words;
  leads = leads;
  is_first = at_get kept_words 0 first word;
  each = λ k. by_place k (dec_le (length all) k);
}
  where
    by_place : (k : ℕ) → Dec (length all ≤ k) → acts_by k history ≡ acts_at k all
    by_place k (yes far) = others k (omega (arith, far, many)) ∙ sym (none_beyond all k far)
    by_place k (no near) = each k (omega (arith, near))

pub closes : (words : List ℕ) (count id first : ℕ) (v : Known) (all : List HandView) (ws : List ℕ) (xs : List (Unit {0})) → length all ≡ count → Gathers [] all v
    → Final (Seen (IsKept words count) id v) ws xs → get_elem? ws 0 ≡ some first → HaveOrder words all first
closes words count id first v all ws xs many g f word =
    let s = f.0 in
    let kept = f.1.0 in
    ordered words count first all s.words kept.history many kept.leads (ap (λ (l : List ℕ). get_elem? l 0) f.2 ∙ word) kept.others
    (λ k near. acts_of_own kept.history kept.seat count id v.owns k (acts_at k all) (kept.each id v f.1.1).owns (g.has k (omega arith) near))

-- of no hands
pub closes_none : (words : List ℕ) (count first : ℕ) (all : List HandView) (ws : List ℕ) (xs : List (Unit {0})) → length all ≡ count → all ≡ []
    → Final (IsKept words count) ws xs → get_elem? ws 0 ≡ some first → HaveOrder words all first
closes_none words count first all ws xs many none f word =
    let s = f.0 in
    let kept = f.1 in
    ordered words count first all s.words kept.history many kept.leads (ap (λ (l : List ℕ). get_elem? l 0) f.2 ∙ word) kept.others
    (λ k near. absurd (omega (arith, near, ap length none)))
