-- Lists of entries with rising keys.
use Rattle.std.proofs.Common.{◌≡◌, ◌∙◌, ◌↔◌, ℕ, suc, ◌+◌, ◌-◌, ◌<◌, List, [], ◌∷◌, ◌++◌, length, get_or, take, drop, Option, Some, None, refl, sym, ap, subst, arith}
use Rattle.std.specs.Borrow.{Bor}
use Rattle.std.proofs.lemmas.List.{append_assoc, append-nil, map-append, take_more, drop_more, take-append-drop}
use Rattle.std.proofs.lemmas.List.Concat.{flat_map-append}
use Rattle.mt_words.specs.declared.record.Change.{Change}
use Rattle.mt_words.specs.Words.{IsBelow, AreRising}
use Rattle.mt_record.specs.Parts.{PartReading}
use Rattle.mt_record.proofs.RisingKeys.{above_all, rise_front}
use Rattle.mt_scan.specs.PartsShown.{KeptPart, shown_by, shown_by_all}
use Rattle.mt_scan.specs.Choice.{entry_keys}
use Rattle.mt_scan.specs.Steps.Checkpoints.{entries_of, none_or_one, last_key_of}

-- in a rising list, the last key of a front and all keys after it rise
pub rise_back : (xs ys : List (List ℕ)) → AreRising (xs ++ ys) → AreRising (last_key_of xs ++ ys)
rise_back [] ys rise = rise
rise_back (x ∷ []) ys rise = rise
rise_back (x ∷ y ∷ xs) ys rise = rise_back (y ∷ xs) ys rise.1

-- if a list rises, and its last key with the next list rises, both lists joined rise
pub rise_on : (xs ys : List (List ℕ)) → AreRising xs → AreRising (last_key_of xs ++ ys) → AreRising (xs ++ ys)
rise_on [] ys rise on = on
rise_on (x ∷ []) ys rise on = on
rise_on (x ∷ y ∷ xs) ys rise on =
    let rest : AreRising (y ∷ xs ++ ys) = rise_on (y ∷ xs) ys rise.1 on in
    ((rise.0.0, above_all x y (xs ++ ys) rise.0.0 rest.0), rest)

pub last_of_push : (xs : List (List ℕ)) (x : List ℕ) → last_key_of (xs ++ x ∷ []) ≡ x ∷ []
last_of_push [] x = refl
last_of_push (y ∷ []) x = refl
last_of_push (y ∷ z ∷ xs) x = last_of_push (z ∷ xs) x

last_of_on : (xs ys : List (List ℕ)) → last_key_of (xs ++ ys) ≡ last_key_of (last_key_of xs ++ ys)
last_of_on [] ys = refl
last_of_on (x ∷ []) ys = refl
last_of_on (x ∷ y ∷ xs) ys = last_of_on (y ∷ xs) ys

-- the keys rise, and this is the last of them
pub record RiseTo (xs last : List (List ℕ)) : Type 0 where
  pub rise : AreRising xs
  pub is_last : last ≡ last_key_of xs

-- the keys rise with more keys, if these rise after the last one
pub rise_to_more : (xs ys last new : List (List ℕ)) → RiseTo xs last → AreRising (last ++ ys) → new ≡ last_key_of (last ++ ys) → RiseTo (xs ++ ys) new
rise_to_more xs ys last new to on is = record {
  rise = rise_on xs ys to.rise (subst (λ (zs : List (List ℕ)). AreRising (zs ++ ys)) to.is_last on);
  is_last = is ∙ ap (λ (zs : List (List ℕ)). last_key_of (zs ++ ys)) to.is_last ∙ sym (last_of_on xs ys);
}

-- if the next keys do not rise after the last one, the complete list does not rise
pub rise_to_end : (xs ys zs last : List (List ℕ)) → RiseTo xs last → (AreRising (last ++ ys) → ⊥) → AreRising (xs ++ (ys ++ zs)) → ⊥
rise_to_end xs ys zs last to stops rise =
    let front = rise_front (xs ++ ys) zs (subst AreRising (sym (append_assoc xs ys zs)) rise) in
    stops (subst (λ (ws : List (List ℕ)). AreRising (ws ++ ys)) (sym to.is_last) (rise_back xs ys front))

-- in a rising list, the keys after a front rise
rise_after : (xs ys : List (List ℕ)) → AreRising (xs ++ ys) → AreRising ys
rise_after [] ys rise = rise
rise_after (x ∷ xs) ys rise = rise_after xs ys rise.1

-- rising keys rise after others exactly if the first of them does
pub rise_behind : (before : List (List ℕ)) (keys : List (List ℕ)) (first : List ℕ) → 0 < length keys → first ≡ get_or keys 0 first → AreRising keys
    → AreRising (before ++ first ∷ []) ↔ AreRising (before ++ keys)
rise_behind before [] first some at rise = absurd (omega (arith, some))
rise_behind before (k ∷ ks) first some at rise =
    let all : (before ++ first ∷ []) ++ ks ≡ before ++ k ∷ ks = append_assoc before (first ∷ []) ks ∙ ap (λ (x : List ℕ). before ++ x ∷ ks) at in (
      λ on. subst AreRising all (rise_on (before ++ first ∷ []) ks on (subst (λ (xs : List (List ℕ)). AreRising (xs ++ ks)) (ap (λ (x : List ℕ). x ∷ []) (sym at) ∙ sym (last_of_push before first)) rise)),
      λ on. rise_front (before ++ first ∷ []) ks (subst AreRising (sym all) on),
    )

-- a key may follow another exactly if it is above it
pub follows : (a b : List ℕ) → IsBelow a b ↔ AreRising (a ∷ b ∷ [])
follows a b = (λ h. ((h, tt), (tt, tt)), λ rise. rise.0.0)

last_at : (xs : List (List ℕ)) (k : List ℕ) → 0 < length xs → k ≡ get_or xs (length xs - 1) k → k ∷ [] ≡ last_key_of xs
last_at [] k some at = absurd (omega (arith, some))
last_at (x ∷ []) k some at = ap (λ (y : List ℕ). y ∷ []) at
last_at (x ∷ y ∷ ys) k some at =
    let e : length (x ∷ y ∷ ys) - 1 ≡ suc (length (y ∷ ys) - 1) = omega arith in
    last_at (y ∷ ys) k (omega arith) (at ∙ ap (λ (n : ℕ). get_or (x ∷ y ∷ ys) n k) e)

-- if at least one key is added, the last key is that of the added ones
pub last_behind : (before : Option (Bor (List ℕ))) (xs : List (List ℕ)) (k : List ℕ) → 0 < length xs → k ≡ get_or xs (length xs - 1) k → k ∷ [] ≡ last_key_of (none_or_one before ++ xs)
last_behind None xs k some at = last_at xs k some at
last_behind (Some b) [] k some at = absurd (omega (arith, some))
last_behind (Some b) (x ∷ xs) k some at = last_at (x ∷ xs) k some at

-- ---- keys of entries

-- the keys of the entries of these parts
abbrev pub keys_in : List KeptPart → List (List ℕ)
keys_in texts = entry_keys (entries_of (shown_by_all texts))

keys_in-append : (xs ys : List KeptPart) → keys_in (xs ++ ys) ≡ keys_in xs ++ keys_in ys
keys_in-append xs ys =
    ap (λ (zs : List PartReading). entry_keys (entries_of zs)) (map-append shown_by xs ys)
    ∙ ap (λ (es : List Change). entry_keys es) (flat_map-append (λ (text : PartReading). text.entries) (shown_by_all xs) (shown_by_all ys))
    ∙ map-append (λ (entry : Change). entry.key) (entries_of (shown_by_all xs)) (entries_of (shown_by_all ys))

-- if the keys of the entries of all parts rise, so do those of each part
pub part_rises : (before : List KeptPart) (text : KeptPart) (after : List KeptPart) → AreRising (keys_in (before ++ text ∷ after)) → AreRising (entry_keys text.entries)
part_rises before text after rise =
    let keys : List (List ℕ) = keys_in (text ∷ after) in
    let behind : AreRising keys = rise_after (keys_in before) keys (subst AreRising (keys_in-append before (text ∷ after)) rise) in
    rise_front (entry_keys text.entries) (keys_in after) (subst AreRising (map-append (λ (entry : Change). entry.key) text.entries (entries_of (shown_by_all after))) behind)

module _ (texts : List KeptPart) (i : ℕ) (text : KeptPart) (last : List (List ℕ)) (fits : i < length texts) (at : text ≡ get_or texts i text) where
  -- the keys rise with those of one more part, if these rise after the last one
  pub text_more : (new : List (List ℕ)) → RiseTo (keys_in (take i texts)) last → AreRising (last ++ entry_keys text.entries) → new ≡ last_key_of (last ++ entry_keys text.entries) → RiseTo (keys_in (take (i + 1) texts)) new
  text_more new to on is =
      let keys : List (List ℕ) = entry_keys text.entries in
      let more : take (i + 1) texts ≡ take i texts ++ text ∷ [] = take_more texts i text fits ∙ ap (λ (x : KeptPart). take i texts ++ x ∷ []) (sym at) in
      let all : keys_in (take i texts) ++ keys ≡ keys_in (take (i + 1) texts) =
      ap (λ (es : List Change). keys_in (take i texts) ++ entry_keys es) (sym (append-nil text.entries)) ∙ sym (keys_in-append (take i texts) (text ∷ [])) ∙ ap (λ (xs : List KeptPart). keys_in xs) (sym more) in
      subst (λ (ys : List (List ℕ)). RiseTo ys new) all (rise_to_more (keys_in (take i texts)) keys last new to on is)

  -- if the keys of a part do not rise after the last one, the keys of all parts do not rise
  pub text_stops : RiseTo (keys_in (take i texts)) last → (AreRising (last ++ entry_keys text.entries) → ⊥) → AreRising (keys_in texts) → ⊥
  text_stops to stops rise =
      let keys : List (List ℕ) = entry_keys text.entries in
      let rest : drop i texts ≡ text ∷ drop (i + 1) texts = drop_more texts i text fits ∙ ap (λ (x : KeptPart). x ∷ drop (i + 1) texts) (sym at) in
      let behind : keys_in (drop i texts) ≡ keys ++ keys_in (drop (i + 1) texts) =
      ap (λ (xs : List KeptPart). keys_in xs) rest ∙ map-append (λ (entry : Change). entry.key) text.entries (entries_of (shown_by_all (drop (i + 1) texts))) in
      let all : keys_in texts ≡ keys_in (take i texts) ++ (keys ++ keys_in (drop (i + 1) texts)) =
      ap (λ (xs : List KeptPart). keys_in xs) (sym (take-append-drop i texts)) ∙ keys_in-append (take i texts) (drop i texts) ∙ ap (λ (ys : List (List ℕ)). keys_in (take i texts) ++ ys) behind in
      rise_to_end (keys_in (take i texts)) keys (keys_in (drop (i + 1) texts)) last to stops (subst AreRising all rise)
