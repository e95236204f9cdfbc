use Rattle.std.proofs.Common.{◌≡◌, ◌∙◌, ◌-◌, ◌<◌, ℕ, List, [], ◌∷◌, length, map, get_or, refl, sym, ap, subst, arith}
use Rattle.std.proofs.lemmas.Bool.{false≢true}
use Rattle.std.proofs.lemmas.List.{length-map, get_or_default}
use Rattle.mt_words.specs.declared.record.Change.{Change}
use Rattle.mt_words.specs.Slices.{slice_in}
use Rattle.mt_words.specs.Words.{AreRising}
use Rattle.mt_words.proofs.SliceLemmas.{bytes_from_fits}
use Rattle.mt_record.specs.Steps.Kept.{IsLastSlice}
use Rattle.mt_record.proofs.RisingKeys.{key_at, rise_front, rise_to, rise_by_slice}
use Rattle.mt_record.proofs.kept.part.KeptEntries.is_rising_to.Goals as goal

-- the keys of the entries
abbrev keys_of : List Change → List (List ℕ)
keys_of entries = map (λ (entry : Change). entry.key) entries

pub returns-then-not-self : goal.returns-then-not-self
returns-then-not-self c = (
  λ rising. absurd (false≢true rising),
  λ rise. sym c.if-not-self.true ∙ c.self.invariant.told.1 (subst (λ (es : List Change). AreRising (keys_of es)) (sym c.self.view_is) (rise_front (keys_of c.args.self.now) (c.args.key.now ∷ []) rise)),
)

pub returns-then-self-head : goal.returns-then-self-head
returns-then-self-head c =
    let rise = subst (λ (es : List Change). AreRising (keys_of es)) c.self.view_is (c.self.invariant.told.0 c.if-not-self.false) in
    let told = subst (λ (es : List Change). IsLastSlice (keys_of es) c.self.inside.last) c.self.view_is c.self.invariant.slice in
    (λ _. rise_by_slice (keys_of c.args.self.now) c.self.inside.last c.args.key.now rise told (bytes_from_fits c.args.key.now c.type_inv.key) (omega (arith, c.if-self-head.true, c.requires)), λ _. refl)

-- the last key is at the last place
last_there : (entries : List Change) (n : ℕ) (last : List ℕ) → n ≡ length entries → 0 < n → ((d : Change) → last ≡ (get_or entries (n - 1) d).key)
    → (0 < length (keys_of entries)) × (last ≡ get_or (keys_of entries) (length (keys_of entries) - 1) last)
last_there entries n last long some is =
    let count = length-map entries (λ (entry : Change). entry.key) in
    let place : n - 1 ≡ length (keys_of entries) - 1 = omega (arith, count, long) in
    (omega (arith, count, long, some), key_at entries (n - 1) last (omega (arith, some, long)) is ∙ ap (λ (at : ℕ). get_or (keys_of entries) at last) place)

pub is_below_by-requires-clause-head : goal.is_below_by-requires-clause-head
is_below_by-requires-clause-head c =
    let last = c.key.result.now in
    let keys = keys_of c.args.self.now in
    let at = last_there c.args.self.now c.len-count.result last c.len-count.ensures (omega (arith, c.if-count-eq0.false)) c.key.ensures in
    let told = subst (λ (es : List Change). IsLastSlice (keys_of es) c.self.inside.last) c.self.view_is c.self.invariant.slice in
    (told at.0).0 ∙ sym (ap slice_in (at.1 ∙ get_or_default keys (length keys - 1) last [] (omega (arith, at.0))))

pub returns-else-count-eq0 : goal.returns-else-count-eq0
returns-else-count-eq0 c =
    let last = c.key.result.now in
    let at = last_there c.args.self.now c.len-count.result last c.len-count.ensures (omega (arith, c.if-count-eq0.false)) c.key.ensures in
    let rise = subst (λ (es : List Change). AreRising (keys_of es)) c.self.view_is (c.self.invariant.told.0 c.if-not-self.false) in
    rw c.is_below_by.ensures (rise_to (keys_of c.args.self.now) last c.args.key.now at.0 at.1 rise)
