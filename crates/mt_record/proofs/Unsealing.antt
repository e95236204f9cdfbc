-- The blocks of a file, read in chunks.
use Rattle.std.proofs.Common.{◌≡◌, ◌⊎◌, inl, inr, ℕ, ◌+◌, ◌-◌, ◌<◌, ◌≤◌, Bool, true, false, List, [], ◌∷◌, ◌++◌, length, take, drop, refl, sym, ap, ◌∙◌, subst, append_assoc, arith}
use Rattle.std.proofs.lemmas.Bool.{cases_lt, false≢true}
use Rattle.std.specs.Prelude.{◌==◌, MatchBool}
use Rattle.std.proofs.lemmas.List.{length-append, append-nil, take-append-drop, length-drop, flat_map_more, take_rest}
use Rattle.std.proofs.lemmas.List.Elements.{All-append, All-cons, All-nil}
use Rattle.mt_block.specs.Blocks.{head_bytes, block, IsBody, HasHead, HasNoHead, HasSomeHead, IsNext, IsCut, IsBroken, IsTornEnd, IsDamage, blocks}
use Rattle.mt_block.proofs.Heads.{same_split, head-length, head_long as head_size, block-length}
use Rattle.mt_block.proofs.Files.{cut_at}
use Rattle.mt_block.proofs.Seals.{joined_more}
use Rattle.mt_record.specs.declared.feed.blocks.Blocks.{Blocks}
use Rattle.mt_record.specs.Opening.{joined}
use Rattle.mt_record.specs.Feeding.{Reads, IsFedBy}
use Rattle.mt_record.specs.Unsealing.{Place, place_of, IsSeam, IsPassed, HasPassed, HoldsBlocks}
use Rattle.mt_record.proofs.Feeds.{behind_on, front_read, apart}

-- ---- heads, when more bytes follow

-- a head stays one when more bytes follow
pub head_on : (mark : ℕ) (bytes more : List ℕ) → HasHead mark bytes → HasHead mark (bytes ++ more)
head_on mark bytes more h = record { number = h.number; after = h.after ++ more; fits = h.fits; spelled = behind_on (head_bytes mark h.number) bytes h.after more h.spelled }

-- enough bytes for a head have one if they have one when more bytes follow
pub head_back : (mark : ℕ) (bytes more : List ℕ) → 12 ≤ length bytes → HasHead mark (bytes ++ more) → HasHead mark bytes
head_back mark bytes more long h =
    let c = cut_at 12 bytes long in
    let s = same_split c.front (head_bytes mark h.number) (c.back ++ more) h.after (c.size ∙ sym (head-length mark h.number)) (sym (append_assoc c.front c.back more) ∙ ap (λ (l : List ℕ). l ++ more) (sym c.spelled) ∙ h.spelled) in
    record { number = h.number; after = c.back; fits = h.fits; spelled = c.spelled ∙ ap (λ (l : List ℕ). l ++ c.back) s.0 }

-- what is broken stays so when more bytes follow
pub broken_on : (mark : ℕ) (bytes behind more : List ℕ) → IsBroken mark bytes behind → IsBroken mark (bytes ++ more) (behind ++ more)
unfolding head_on
broken_on mark bytes behind more (inl lacks) = inl (record {
  byte = lacks.byte;
  spelled = ap (λ (l : List ℕ). l ++ more) lacks.spelled;
  long = let long : 12 ≤ length bytes = lacks.long in omega (arith, length-append bytes more);
  none = λ h. lacks.none (head_back mark bytes more lacks.long h);
})
broken_on mark bytes behind more (inr lacks) = inr (record {
  head = head_on mark bytes more lacks.head;
  body = lacks.body;
  check = lacks.check;
  spelled = behind_on lacks.body lacks.head.after (lacks.check ++ behind) more lacks.spelled ∙ ap (λ (l : List ℕ). lacks.body ++ l) (append_assoc lacks.check behind more);
  size = lacks.size;
  four = lacks.four;
  wrong = lacks.wrong;
})

pub broken_some : (mark : ℕ) (bytes behind : List ℕ) → IsBroken mark bytes behind → 0 < length bytes
broken_some mark bytes behind (inl lacks) = let long : 12 ≤ length bytes = lacks.long in omega arith
broken_some mark bytes behind (inr lacks) = let long : length bytes ≡ 12 + length lacks.head.after = head_size mark bytes lacks.head in omega arith

-- ---- seams

pub is_seam : (bytes : List ℕ) (start : ℕ) → start ≡ length bytes - 11 → IsSeam bytes (drop start bytes)
is_seam bytes start e =
    let s : length (drop start bytes) ≡ length bytes - start = length-drop start bytes in
    record {
      front = take start bytes;
      spelled = sym (take-append-drop start bytes);
      most = omega (arith, e, s);
      all = λ few. let z : start ≡ 0 = omega (arith, e, s, few) in ap (λ (n : ℕ). take n bytes) z;
    }

pub is_seam_drained : (bytes : List ℕ) (len start : ℕ) → len ≡ length bytes → start ≡ len - 11 → IsSeam bytes (drop start bytes)
is_seam_drained bytes len start size e = is_seam bytes start (e ∙ ap (λ (n : ℕ). n - 11) size)

-- the same of a slice
pub is_seam_slice : (bytes : List ℕ) (start : ℕ) → start ≡ length bytes - 11 → IsSeam bytes (take (length bytes - start) (drop start bytes))
is_seam_slice bytes start e = subst (IsSeam bytes) (sym (take_rest bytes start)) (is_seam bytes start e)

-- the last bytes of a seam and more bytes are the last of all
seam_on : (behind seam bytes new : List ℕ) → IsSeam behind seam → IsSeam (seam ++ bytes) new → IsSeam (behind ++ bytes) new
seam_on behind seam bytes new ends is = record {
  front = ends.front ++ is.front;
  spelled = behind_on ends.front behind seam bytes ends.spelled ∙ ap (λ (l : List ℕ). ends.front ++ l) is.spelled ∙ sym (append_assoc ends.front is.front new);
  most = is.most;
  all = λ few.
      let none : is.front ≡ [] = is.all few in
      let whole : length (seam ++ bytes) ≡ length is.front + length new = ap length is.spelled ∙ length-append is.front new in
      let zero : length is.front ≡ 0 = ap length none in
      let part : length (seam ++ bytes) ≡ length seam + length bytes = length-append seam bytes in
      let first : ends.front ≡ [] = ends.all (omega (arith, whole, zero, part, few)) in
      λ i. first i ++ none i;
}

-- ---- what was passed over

-- a head behind a place at which the seam begins is in the seam and the bytes after it
head_late : (mark : ℕ) (behind seam bytes front back rest : List ℕ) → IsSeam behind seam → HasNoHead mark (seam ++ bytes) → (ends : IsSeam behind seam) → front ≡ ends.front ++ rest → behind ++ bytes ≡ front ++ back → HasHead mark back → ⊥
head_late mark behind seam bytes front back rest is none ends e whole h =
    let all : ends.front ++ (seam ++ bytes) ≡ ends.front ++ (rest ++ back) = sym (behind_on ends.front behind seam bytes ends.spelled) ∙ whole ∙ ap (λ (l : List ℕ). l ++ back) e ∙ append_assoc ends.front rest back in
    none rest back (same_split ends.front ends.front (seam ++ bytes) (rest ++ back) refl all).1 h

-- a head before that place is in the bytes passed over
head_early : (mark : ℕ) (behind seam bytes front back x : List ℕ) (ends : IsSeam behind seam) → HasNoHead mark behind → ends.front ≡ front ++ x → 0 < length x → behind ++ bytes ≡ front ++ back → HasHead mark back → ⊥
head_early mark behind seam bytes front back x ends none e some whole h =
    let parts : behind ≡ front ++ (x ++ seam) = ends.spelled ∙ ap (λ (l : List ℕ). l ++ seam) e ∙ append_assoc front x seam in
    let there : (x ++ seam) ++ bytes ≡ back = (same_split front front ((x ++ seam) ++ bytes) back refl (sym (append_assoc front (x ++ seam) bytes) ∙ ap (λ (l : List ℕ). l ++ bytes) (sym parts) ∙ whole)).1 in
    let size : length (x ++ seam) ≡ length x + length seam = length-append x seam in
    let long : 12 ≤ length (x ++ seam) = elim (cases_lt (length seam) 11) as (λ _. 12 ≤ length (x ++ seam)) [
      | inl few ↦ absurd (let gone = ap length (ends.all few) in let both = ap length e in omega (arith, gone, both, some, length-append front x))
      | inr enough ↦ omega (arith, size, some, enough)
    ] in
    none front (x ++ seam) parts (head_back mark (x ++ seam) bytes long (subst (HasHead mark) (sym there) h))

-- more bytes with no head are passed over
pub passed_on : (mark : ℕ) (skipped seam bytes new : List ℕ) → IsPassed mark skipped seam → HasNoHead mark (seam ++ bytes) → IsSeam (seam ++ bytes) new → IsPassed mark (skipped ++ bytes) new
passed_on mark skipped seam bytes new passed none is = record {
  behind = passed.behind ++ bytes;
  broken = broken_on mark skipped passed.behind bytes passed.broken;
  none = λ front back whole h.
      let ends = passed.ends in
      elim (apart front ends.front back (seam ++ bytes) (sym whole ∙ behind_on ends.front passed.behind seam bytes ends.spelled)) as (λ _. ⊥) [
        | inl u ↦ head_late mark passed.behind seam bytes front back u.0 ends none ends u.1 whole h
        | inr u ↦ early front back u.0 u.1 whole h
      ];
  ends = seam_on passed.behind seam bytes new passed.ends is;
}
  where
    early : (front back x : List ℕ) → passed.ends.front ≡ front ++ x → passed.behind ++ bytes ≡ front ++ back → HasHead mark back → ⊥
    early front back [] e whole h = head_late mark passed.behind seam bytes front back [] passed.ends none passed.ends (sym (append-nil front) ∙ sym e ∙ sym (append-nil passed.ends.front)) whole h
    early front back (y ∷ ys) e whole h = head_early mark passed.behind seam bytes front back (y ∷ ys) passed.ends passed.none e (omega arith) whole h

pub not_empty : (bytes : List ℕ) (empty : Bool) → empty ≡ (length bytes == 0) → empty ≡ false → 0 < length bytes
not_empty [] empty e f = absurd (false≢true (sym f ∙ e))
not_empty (x ∷ xs) empty e f = omega arith

-- a search goes on
pub searched : (searching : Bool) (P Q : Type 0) → searching ≡ true → P → MatchBool searching P Q
searched searching P Q e p = subst (λ (x : Bool). MatchBool x P Q) (sym e) p

-- ---- steps

-- the first bytes that are passed over
pub first_passed : (place : Place) (skipped bytes behind last new : List ℕ) → place.searching ≡ false → IsBroken place.mark bytes behind → HasNoHead place.mark behind → IsSeam behind last → new ≡ place.seam ++ last
    → HasPassed place skipped → IsPassed place.mark (skipped ++ bytes) new
first_passed place skipped bytes behind last new first broken none ends e passed =
    let empty : (skipped ≡ []) × (place.seam ≡ []) = subst (λ (x : Bool). MatchBool x (IsPassed place.mark skipped place.seam) ((skipped ≡ []) × (place.seam ≡ []))) first passed in
    let same : last ≡ new = sym (e ∙ ap (λ (l : List ℕ). l ++ last) empty.1) in
    record {
      behind = behind;
      broken = subst (λ (l : List ℕ). IsBroken place.mark (l ++ bytes) behind) (sym empty.0) broken;
      none = none;
      ends = subst (IsSeam behind) same ends;
    }

-- further ones
pub more_passed : (place : Place) (skipped bytes new : List ℕ) → place.searching ≡ true → HasNoHead place.mark (place.seam ++ bytes) → IsSeam (place.seam ++ bytes) new
    → HasPassed place skipped → HasPassed (record place { seam = new }) (skipped ++ bytes)
more_passed place skipped bytes new searches none is passed =
    searched place.searching (IsPassed place.mark (skipped ++ bytes) new) ((skipped ++ bytes ≡ []) × (new ≡ [])) searches
    (passed_on place.mark skipped place.seam bytes new (subst (λ (x : Bool). MatchBool x (IsPassed place.mark skipped place.seam) ((skipped ≡ []) × (place.seam ≡ []))) searches passed) none is)

-- bytes are passed over
pub passes : (is_fed : List ℕ → Type 0) (text : List ℕ) (mark : ℕ) (place new : Place) (before bytes : List ℕ) → new.mark ≡ place.mark → HoldsBlocks is_fed place text mark before
    → ((skipped : List ℕ) → HasPassed place skipped → HasPassed new (skipped ++ bytes))
    → HoldsBlocks is_fed new text mark (before ++ bytes)
passes is_fed text mark place new before bytes same h on = record {
  same = same ∙ h.same;
  bodies = h.bodies;
  skipped = h.skipped ++ bytes;
  spelled = behind_on (blocks place.mark h.bodies) before h.skipped bytes h.spelled ∙ ap (λ (m : ℕ). blocks m h.bodies ++ (h.skipped ++ bytes)) (sym same);
  are_bodies = h.are_bodies;
  fed = h.fed;
  passed = on h.skipped h.passed;
}

-- the seam is as it was
pub seam_kept : (is_fed : List ℕ → Type 0) (text : List ℕ) (mark : ℕ) (place : Place) (seam before : List ℕ) → seam ≡ place.seam → HoldsBlocks is_fed place text mark before → HoldsBlocks is_fed (record place { seam = seam }) text mark before
seam_kept is_fed text mark place seam before e h = subst (λ (l : List ℕ). HoldsBlocks is_fed (record place { seam = l }) text mark before) (sym e) h

-- a block is read, and its body fed
pub block_read : {T I F : Type 0} (holds : T → I → List ℕ → Type 0) (is_left : I → List ℕ → Type 0) (shows : I → F → List ℕ → Type 0) (old new : Blocks I F) (bytes body after : List ℕ)
    → IsNext old.mark bytes body after → old.searching ≡ false → place_of new ≡ place_of old
    → ((taken : T) (text : List ℕ) → IsFedBy (holds taken) is_left shows old.inner.items old.inner.held.items old.inner.fault text → IsFedBy (holds taken) is_left shows new.inner.items new.inner.held.items new.inner.fault (text ++ body))
    → Reads {T = T × List ℕ × ℕ} {I = Blocks I F} (λ taken b. HoldsBlocks (IsFedBy (holds taken.0) is_left shows b.inner.items b.inner.held.items b.inner.fault) (place_of b) taken.1 taken.2) old new bytes after × (length after < length bytes)
block_read {T} {I} {F} holds is_left shows old new bytes body after next first same fed =
    front_read {T = T × List ℕ × ℕ} {I = Blocks I F} (λ taken b. HoldsBlocks (IsFedBy (holds taken.0) is_left shows b.inner.items b.inner.held.items b.inner.fault) (place_of b) taken.1 taken.2) old new (block old.mark body) bytes after next.spelled
    (omega (arith, block-length old.mark body))
    (λ taken before h.
    let empty : (h.skipped ≡ []) × (old.seam.items ≡ []) = subst (λ (x : Bool). MatchBool x (IsPassed old.mark h.skipped old.seam.items) ((h.skipped ≡ []) × (old.seam.items ≡ []))) first h.passed in
    let all : before ≡ blocks old.mark h.bodies = h.spelled ∙ ap (λ (l : List ℕ). blocks old.mark h.bodies ++ l) empty.0 ∙ append-nil (blocks old.mark h.bodies) in
    let text : (taken.1 ++ joined h.bodies) ++ body ≡ taken.1 ++ joined (h.bodies ++ body ∷ []) = append_assoc taken.1 (joined h.bodies) body ∙ ap (λ (l : List ℕ). taken.1 ++ l) (sym (joined_more h.bodies body)) in
    let none : List ℕ = [] in
    let is_fed = IsFedBy (holds taken.0) is_left shows new.inner.items new.inner.held.items new.inner.fault in
    subst (λ (p : Place). HoldsBlocks is_fed p taken.1 taken.2 (before ++ block old.mark body)) (sym same) (record {
      same = h.same;
      bodies = h.bodies ++ body ∷ [];
      skipped = [];
      spelled = ap (λ (l : List ℕ). l ++ block old.mark body) all ∙ flat_map_more (block old.mark) [] h.bodies body ∙ sym (append-nil (blocks old.mark (h.bodies ++ body ∷ [])));
      are_bodies = All-append IsBody h.bodies (body ∷ []) h.are_bodies (All-cons IsBody body [] next.is_body (All-nil IsBody));
      fed = subst is_fed text (fed taken.0 (taken.1 ++ joined h.bodies) h.fed);
      passed = subst (λ (x : Bool). MatchBool x (IsPassed old.mark none old.seam.items) ((none ≡ []) × (old.seam.items ≡ []))) (sym first) (refl, empty.1);
    }))

-- ---- what all steps have read

-- the end of a file
pub end_of : (place : Place) (skipped held : List ℕ) → HasPassed place skipped → MatchBool place.searching (held ≡ []) ((held ≡ []) ⊎ IsCut place.mark held)
    → (skipped ++ held ≡ []) ⊎ IsTornEnd place.mark (skipped ++ held)
end_of place skipped held = by place.searching
  where
    by : (searching : Bool) → MatchBool searching (IsPassed place.mark skipped place.seam) ((skipped ≡ []) × (place.seam ≡ [])) → MatchBool searching (held ≡ []) ((held ≡ []) ⊎ IsCut place.mark held)
        → (skipped ++ held ≡ []) ⊎ IsTornEnd place.mark (skipped ++ held)
    by true passed none =
        let all : skipped ≡ skipped ++ held = sym (append-nil skipped) ∙ ap (λ (l : List ℕ). skipped ++ l) (sym none) in
        inr (subst (IsTornEnd place.mark) all (inr (passed.behind, passed.broken, passed.none)))
    by false passed (inl none) = inl ((λ i. passed.0 i ++ none i))
    by false passed (inr cut) = inr (subst (λ (l : List ℕ). IsTornEnd place.mark (l ++ held)) (sym passed.0) (inl cut))

-- damage, behind what was passed over
pub damage_of : (place : Place) (skipped shown more : List ℕ) → HasPassed place skipped → MatchBool place.searching (HasSomeHead place.mark (place.seam ++ shown)) (IsDamage place.mark shown)
    → IsDamage place.mark (skipped ++ (shown ++ more))
damage_of place skipped shown more = by place.searching
  where
    by : (searching : Bool) → MatchBool searching (IsPassed place.mark skipped place.seam) ((skipped ≡ []) × (place.seam ≡ [])) → MatchBool searching (HasSomeHead place.mark (place.seam ++ shown)) (IsDamage place.mark shown)
        → IsDamage place.mark (skipped ++ (shown ++ more))
    by true passed some =
        let ends = passed.ends in
        let parts : passed.behind ++ (shown ++ more) ≡ (ends.front ++ some.0) ++ (some.1 ++ more) =
        behind_on ends.front passed.behind place.seam (shown ++ more) ends.spelled
        ∙ ap (λ (l : List ℕ). ends.front ++ l) (sym (append_assoc place.seam shown more) ∙ behind_on some.0 (place.seam ++ shown) some.1 more some.2)
        ∙ sym (append_assoc ends.front some.0 (some.1 ++ more)) in
        (passed.behind ++ (shown ++ more), broken_on place.mark skipped passed.behind (shown ++ more) passed.broken, (ends.front ++ some.0, some.1 ++ more, parts, head_on place.mark some.1 more some.3))
    by false passed damage =
        let some = damage.2 in
        let there : IsDamage place.mark (shown ++ more) = (
          damage.0 ++ more,
          broken_on place.mark shown damage.0 more damage.1,
          (some.0, some.1 ++ more, behind_on some.0 damage.0 some.1 more some.2, head_on place.mark some.1 more some.3),
        ) in
        subst (λ (l : List ℕ). IsDamage place.mark (l ++ (shown ++ more))) (sym passed.0) there
