-- A buffer that is being filled with pairs.
use Rattle.std.proofs.Common.{◌≡◌, ◌∙◌, ℕ, suc, true, false, true≢false, ◌+◌, ◌<◌, ◌≤◌, ◌^◌, Option, None, Some, List, [], ◌∷◌, ◌++◌, length, take, drop, refl, sym, ap, subst, append_assoc, append-nil, length-append, length-drop, arith, take_at}
use Rattle.std.specs.Option.{is_some}
use Rattle.std.proofs.lemmas.Slice.{drop-append-drop}
use Rattle.std.proofs.lemmas.List.Concat.{flat_map-append}
use Rattle.mt_words.specs.Walks.{Pair, KeysRise}
use Rattle.mt_c.specs.declared.filling.Filling.{Filling}
use Rattle.mt_c.specs.declared.filling.Stop.{Stop}
use Rattle.mt_c.specs.declared.filling.Stop.TheVariants.{Room, End}
use Rattle.mt_c.specs.declared.status.TheConstants.{DONE, ABSENT, SHORT}
use Rattle.mt_c.specs.Buffers.{IsShort}
use Rattle.mt_c.specs.Flat.{pair_bytes, pairs_bytes, IsMost, Dumps}
use Rattle.mt_c.specs.Cuts.{is_until, until}
use Rattle.mt_c.specs.Filling.{IsLeft, IsFilled, refused_of}
use Rattle.mt_c.proofs.Cuts.{until_none, until-append, none_until, one_until, rise_after}

-- ---- one pair more

one_pair : (pair : Pair) → pairs_bytes (pair ∷ []) ≡ pair_bytes pair
one_pair pair = append-nil (pair_bytes pair)

more_bytes : (pairs : List Pair) (pair : Pair) → pairs_bytes (pairs ++ pair ∷ []) ≡ pairs_bytes pairs ++ pair_bytes pair
more_bytes pairs pair = flat_map-append pair_bytes pairs (pair ∷ []) ∙ ap (λ (bytes : List ℕ). pairs_bytes pairs ++ bytes) (one_pair pair)

-- each pair takes a byte at least
few_pairs : (pairs : List Pair) → length pairs ≤ length (pairs_bytes pairs)
few_pairs [] = omega arith
few_pairs (pair ∷ pairs) =
    let some : 0 < length (pair_bytes pair) = omega arith in
    omega (arith, few_pairs pairs, length-append (pair_bytes pair) (pairs_bytes pairs), some)

-- a buffer keeps its length
same_room : (before : List ℕ) (filling : Filling) (pairs : List Pair) (is : IsFilled before filling pairs) → length filling.out.now ≡ length before
same_room before filling pairs is = ap length is.out ∙ omega (arith, length-append (pairs_bytes is.taken) (drop filling.at before), length-drop filling.at before, is.end, is.fits)

nothing_left : (room at : ℕ) (end : List ℕ) (stop : Option Stop) (left : List Pair) → stop ≡ None → IsLeft room at end stop left → left ≡ []
nothing_left room at end stop left none is = subst (λ (s : Option Stop). IsLeft room at end s left) none is

pub is_unfull : (stop : Option Stop) → false ≡ is_some stop → stop ≡ None
is_unfull None is = refl
is_unfull (Some stop) is = absurd (true≢false (sym is))

-- nothing is filled yet
pub none_yet : (before : List ℕ) (filling : Filling) → filling.out.now ≡ before → filling.at ≡ 0 → filling.pairs ≡ 0 → filling.stop ≡ None → IsFilled before filling []
none_yet before filling out at count none = record {
  taken = [];
  left = [];
  split = refl;
  below = refl;
  count = count;
  end = at;
  fits = omega (arith, at);
  out = out ∙ ap (λ (n : ℕ). drop n before) (sym at);
  is_left = subst (λ (s : Option Stop). IsLeft (length before) filling.at filling.end.now s []) (sym none) refl;
}

-- a pair that fits is taken
pub pair_taken : (before : List ℕ) (old new : Filling) (earlier : List Pair) (pair : Pair) → old.stop ≡ None → new.stop ≡ None → new.end.now ≡ old.end.now → is_until old.end.now pair.0 ≡ true → new.at ≡ old.at + length (pair_bytes pair)
    → new.at ≤ length old.out.now → new.at < 2 ^ 64 → (old.pairs + 1 < 2 ^ 64 → new.pairs ≡ old.pairs + 1) → new.out.now ≡ take old.at old.out.now ++ (pair_bytes pair ++ drop new.at old.out.now)
    → IsFilled before old earlier → IsFilled before new (earlier ++ pair ∷ [])
pair_taken before old new earlier pair unfull still same_end until_end at room small count out is =
    let some : 0 < length (pair_bytes pair) = omega arith in
    let same = same_room before old earlier is in
    let nothing = nothing_left (length before) old.at old.end.now old.stop is.left unfull is.is_left in
    let few = few_pairs is.taken in
    let counted : new.pairs ≡ old.pairs + 1 = count (omega (arith, is.count, is.end, few, at, small, some)) in
    let front : take old.at old.out.now ≡ pairs_bytes is.taken = ap (λ (o : List ℕ). take old.at o) is.out ∙ take_at (pairs_bytes is.taken) (drop old.at before) old.at (sym is.end) in
    let back : drop new.at old.out.now ≡ drop new.at before =
    ap (λ (o : List ℕ). drop new.at o) is.out ∙ drop-append-drop old.at before (pairs_bytes is.taken) new.at (omega (arith, at)) (sym is.end) in
    record {
      taken = is.taken ++ pair ∷ [];
      left = [];
      split = ap (λ (ps : List Pair). ps ++ pair ∷ []) (is.split ∙ ap (λ (ps : List Pair). is.taken ++ ps) nothing ∙ append-nil is.taken) ∙ sym (append-nil (is.taken ++ pair ∷ []));
      below = (λ i. until (same_end i) (is.taken ++ pair ∷ [])) ∙ until-append old.end.now is.taken (pair ∷ []) ∙ (λ i. is.below i ++ one_until old.end.now pair [] until_end i);
      count = omega (arith, counted, is.count, length-append is.taken (pair ∷ []));
      end = omega (arith, at, is.end, ap length (more_bytes is.taken pair), length-append (pairs_bytes is.taken) (pair_bytes pair));
      fits = omega (arith, room, same);
      out = out ∙ ap (λ (f : List ℕ). f ++ (pair_bytes pair ++ drop new.at old.out.now)) front ∙ ap (λ (b : List ℕ). pairs_bytes is.taken ++ (pair_bytes pair ++ b)) back
          ∙ sym (append_assoc (pairs_bytes is.taken) (pair_bytes pair) (drop new.at before)) ∙ ap (λ (f : List ℕ). f ++ drop new.at before) (sym (more_bytes is.taken pair));
      is_left = subst (λ (s : Option Stop). IsLeft (length before) new.at new.end.now s []) (sym still) refl;
    }

-- ---- after the walk

-- what is left of the pairs below the end: nothing, or what begins with a pair of the refused length, which does not fit
abbrev IsOver : (room at : ℕ) → Option ℕ → List Pair → Type 0
IsOver room at None left = left ≡ []
IsOver room at (Some refused) [] = ⊥
IsOver room at (Some refused) (pair ∷ left) = (refused ≡ length (pair_bytes pair)) × (room < at + refused)

-- the buffer has the first of these pairs, all of which are below the end
record HasFirst (before : List ℕ) (filling : Filling) (refused : Option ℕ) (pairs : List Pair) : Type 0 where
  taken : List Pair
  left : List Pair
  split : pairs ≡ taken ++ left
  count : filling.pairs ≡ length taken
  end : filling.at ≡ length (pairs_bytes taken)
  fits : filling.at ≤ length before
  out : filling.out.now ≡ pairs_bytes taken ++ drop filling.at before
  is_left : IsOver (length before) filling.at refused left

left_over : (room at : ℕ) (end : List ℕ) (stop : Option Stop) (left : List Pair) → KeysRise left → IsLeft room at end stop left → IsOver room at (refused_of stop) (until end left)
left_over room at end None left rise is = ap (until end) is
left_over room at end (Some stop) [] rise is = absurd is
left_over room at end (Some (Room refused)) (pair ∷ left) rise is = rw is.0 (is.1, is.2)
left_over room at end (Some End) (pair ∷ left) rise is = none_until end pair left rise is

has_first : (before : List ℕ) (filling : Filling) (pairs : List Pair) → KeysRise pairs → IsFilled before filling pairs → HasFirst before filling (refused_of filling.stop) (until filling.end.now pairs)
has_first before filling pairs rise is = record {
  taken = is.taken;
  left = until filling.end.now is.left;
  split = ap (until filling.end.now) is.split ∙ until-append filling.end.now is.taken is.left ∙ ap (λ (ps : List Pair). ps ++ until filling.end.now is.left) is.below;
  count = is.count;
  end = is.end;
  fits = is.fits;
  out = is.out;
  is_left = left_over (length before) filling.at filling.end.now filling.stop is.left (rise_after is.taken is.left (subst KeysRise is.split rise)) is.is_left;
}

take_next : (taken : List Pair) (pair : Pair) (left : List Pair) → take (suc (length taken)) (taken ++ pair ∷ left) ≡ taken ++ pair ∷ []
take_next [] pair left = refl
take_next (first ∷ taken) pair left = ap (λ (ps : List Pair). first ∷ ps) (take_next taken pair left)

no_more : (taken left : List Pair) (room at : ℕ) (refused : Option ℕ) → at ≡ length (pairs_bytes taken) → IsOver room at refused left → length taken < length (taken ++ left)
    → room < length (pairs_bytes (take (suc (length taken)) (taken ++ left)))
no_more taken [] room at None end is more = absurd (omega (arith, more, length-append taken []))
no_more taken (pair ∷ left) room at None end is more = cc
no_more taken [] room at (Some refused) end is more = absurd is
no_more taken (pair ∷ left) room at (Some refused) end is more =
    omega (arith, end, is.0, is.1, ap (λ (ps : List Pair). length (pairs_bytes ps)) (take_next taken pair left), ap length (more_bytes taken pair), length-append (pairs_bytes taken) (pair_bytes pair))

first_taken : (before : List ℕ) (filling : Filling) (refused : Option ℕ) (pairs : List Pair) (is : HasFirst before filling refused pairs) → take filling.pairs pairs ≡ is.taken
first_taken before filling refused pairs is = ap (λ (ps : List Pair). take filling.pairs ps) is.split ∙ take_at is.taken is.left filling.pairs (sym is.count)

is_most : (before : List ℕ) (filling : Filling) (refused : Option ℕ) (pairs : List Pair) → HasFirst before filling refused pairs → IsMost pairs (length before) filling.pairs
is_most before filling refused pairs is =
    let split = ap length is.split in
    record {
      within = omega (arith, is.count, split, length-append is.taken is.left);
      fits = omega (arith, is.end, is.fits, ap (λ (ps : List Pair). length (pairs_bytes ps)) (first_taken before filling refused pairs is));
      most = λ more.
          let next = no_more is.taken is.left (length before) filling.at refused is.end is.is_left (omega (arith, more, is.count, split)) in
          let here : take (suc filling.pairs) pairs ≡ take (suc (length is.taken)) (is.taken ++ is.left) = (λ i. take (suc (is.count i)) (is.split i)) in
          subst (λ (ps : List Pair). length before < length (pairs_bytes ps)) (sym here) next;
    }

dumps_done : (pairs : List Pair) (before after : List ℕ) (filling : Filling) (refused : Option ℕ) → HasFirst before filling refused pairs → 0 < filling.pairs → after ≡ filling.out.now → Dumps pairs before after filling.at filling.pairs DONE
dumps_done pairs before after filling refused is some final =
    let taken = ap pairs_bytes (first_taken before filling refused pairs is) in
    let end : filling.at ≡ length (pairs_bytes (take filling.pairs pairs)) = is.end ∙ ap length (sym taken) in
    record {
      some = λ done. some;
      most = λ done. is_most before filling refused pairs is;
      done = λ done. record {
        fits = omega (arith, end, is.fits);
        buffer = final ∙ is.out ∙ (λ i. sym taken i ++ drop (end i) before);
        count_is = end;
      };
      short = λ short. absurd (omega (arith, short));
      absent = λ absent. absurd (omega (arith, absent));
      kept = λ other. absurd (other refl);
    }

none_taken : (taken : List Pair) → length taken ≡ 0 → taken ≡ []
none_taken [] none = refl
none_taken (pair ∷ taken) none = absurd (omega (arith, none))

-- nothing was written
unchanged : (pairs : List Pair) (before : List ℕ) (filling : Filling) (refused : Option ℕ) → filling.pairs ≡ 0 → (is : HasFirst before filling refused pairs) → (pairs ≡ is.left) × (filling.out.now ≡ before) × (filling.at ≡ 0)
unchanged pairs before filling refused none is =
    let no : is.taken ≡ [] = none_taken is.taken (sym is.count ∙ none) in
    let at : filling.at ≡ 0 = is.end ∙ ap (λ (ps : List Pair). length (pairs_bytes ps)) no in
    (is.split ∙ ap (λ (ps : List Pair). ps ++ is.left) no, is.out ∙ (λ i. pairs_bytes (no i) ++ drop (at i) before), at)

short_first : (left : List Pair) (before : List ℕ) (at refused : ℕ) → at ≡ 0 → IsOver (length before) at (Some refused) left → IsShort (pairs_bytes (take 1 left)) before refused
short_first [] before at refused none is = absurd is
short_first (pair ∷ left) before at refused none is =
    let one : length (pairs_bytes (take 1 (pair ∷ left))) ≡ length (pair_bytes pair) = ap length (one_pair pair) in
    record { short = omega (arith, one, is.0, is.1, none); count_is = is.0 ∙ sym one }

dumps_short : (pairs : List Pair) (before after : List ℕ) (told refused : ℕ) (filling : Filling) → HasFirst before filling (Some refused) pairs → filling.pairs ≡ 0 → after ≡ filling.out.now → Dumps pairs before after refused told SHORT
dumps_short pairs before after told refused filling is none final =
    let (left, same, at) = unchanged pairs before filling (Some refused) none is in
    record {
      some = λ done. absurd (omega (arith, done));
      most = λ done. absurd (omega (arith, done));
      done = λ done. absurd (omega (arith, done));
      short = λ short. subst (λ (ps : List Pair). IsShort (pairs_bytes (take 1 ps)) before refused) (sym left) (short_first is.left before filling.at refused at is.is_left);
      absent = λ absent. absurd (omega (arith, absent));
      kept = λ other. final ∙ same;
    }

dumps_absent : (pairs : List Pair) (before after : List ℕ) (count told : ℕ) (filling : Filling) → HasFirst before filling None pairs → filling.pairs ≡ 0 → after ≡ filling.out.now → Dumps pairs before after count told ABSENT
dumps_absent pairs before after count told filling is none final =
    let (left, same, at) = unchanged pairs before filling None none is in
    record {
      some = λ done. absurd (omega (arith, done));
      most = λ done. absurd (omega (arith, done));
      done = λ done. absurd (omega (arith, done));
      short = λ short. absurd (omega (arith, short));
      absent = λ absent. left ∙ is.is_left;
      kept = λ other. final ∙ same;
    }

-- ---- what a walk over rising pairs leaves

module _ (end : List ℕ) (pairs : List Pair) (before after : List ℕ) (filling : Filling) (rise : KeysRise pairs) (is : IsFilled before filling pairs) (same_end : filling.end.now ≡ end) where
  has : HasFirst before filling (refused_of filling.stop) (until end pairs)
  has = subst (λ (e : List ℕ). HasFirst before filling (refused_of filling.stop) (until e pairs)) same_end (has_first before filling pairs rise is)

  pub leaves_done : 0 < filling.pairs → after ≡ filling.out.now → Dumps (until end pairs) before after filling.at filling.pairs DONE
  leaves_done some final = dumps_done (until end pairs) before after filling (refused_of filling.stop) has some final

  pub leaves_short : (told refused : ℕ) → filling.pairs ≡ 0 → refused_of filling.stop ≡ Some refused → after ≡ filling.out.now → Dumps (until end pairs) before after refused told SHORT
  leaves_short told refused none full final = dumps_short (until end pairs) before after told refused filling (subst (λ (r : Option ℕ). HasFirst before filling r (until end pairs)) full has) none final

  pub leaves_absent : (count told : ℕ) → filling.pairs ≡ 0 → refused_of filling.stop ≡ None → after ≡ filling.out.now → Dumps (until end pairs) before after count told ABSENT
  leaves_absent count told none unfull final = dumps_absent (until end pairs) before after count told filling (subst (λ (r : Option ℕ). HasFirst before filling r (until end pairs)) unfull has) none final

-- without an end
pub dumps_without_end : (pairs : List Pair) (before after : List ℕ) (count told status : ℕ) → Dumps (until [] pairs) before after count told status → Dumps pairs before after count told status
dumps_without_end pairs before after count told status is = subst (λ (ps : List Pair). Dumps ps before after count told status) (until_none pairs) is
