-- A text with escapes, read byte by byte.
use Rattle.std.proofs.Common.{◌≡◌, ◌∙◌, ℕ, List, [], ◌∷◌, ◌++◌, Some, None, Option, Result, Ok, Err, MatchResult, slice_index, append-nil, append_assoc, ◌<◌, ap, arith, length, refl, subst, sym}
use Rattle.std.proofs.lemmas.Option.{none-some, some_pair_parts}
use Rattle.hex.specs.declared.error.FromHexError.{FromHexError}
use Rattle.mt_text.specs.Escapes.{StandsFor, StandsForNone, first_if_ok, front}

-- the beginning of the text stands for these bytes, and this is the rest
pub record Read (text bytes rest : List ℕ) : Type 0 where
  pub reaches : (more : List ℕ) → StandsFor rest more → StandsFor text (bytes ++ more)
  pub only : (all : List ℕ) → StandsFor text all → (more : List ℕ) × (all ≡ bytes ++ more) × StandsFor rest more

pub read_first : (text : List ℕ) → Read text [] text
read_first text = record { reaches = λ more stands. stands; only = λ all stands. (all, refl, stands) }

is_empty : (l : List ℕ) → length l ≡ 0 → l ≡ []
is_empty [] none = refl
is_empty (x ∷ xs) none = absurd (omega (arith, none))

module _ (text bytes rest : List ℕ) (is : Read text bytes rest) where
  pub read_all : length rest ≡ 0 → StandsFor text bytes
  read_all none = subst (StandsFor text) (append-nil bytes) (is.reaches [] (is_empty rest none))

  none_left : front rest ≡ None → 0 < length rest → (more : List ℕ) → ¬ (StandsFor rest more)
  none_left none some [] stands = omega (arith, some, ap length stands)
  none_left none some (byte ∷ more) stands = none-some (byte, stands.0) (sym none ∙ stands.1)

  pub read_none : front rest ≡ None → 0 < length rest → StandsForNone text
  read_none none some all stands = let more = is.only all stands in none_left none some more.0 more.2

  module _ (byte : ℕ) (after : List ℕ) (begins : front rest ≡ Some (byte, after)) where
    goes_on : (more : List ℕ) → StandsFor rest more → 0 < length rest → (tail : List ℕ) × (more ≡ byte ∷ tail) × StandsFor after tail
    goes_on [] stands some = absurd (omega (arith, some, ap length stands))
    goes_on (b ∷ tail) stands some =
        let same = some_pair_parts b byte stands.0 after (sym stands.1 ∙ begins) in
        (tail, ap (λ x. x ∷ tail) same.0, subst (λ l. StandsFor l tail) same.1 stands.2)

    pub read_more : 0 < length rest → Read text (bytes ++ byte ∷ []) after
    read_more some = record {
      reaches = λ more stands. subst (StandsFor text) (sym (append_assoc bytes (byte ∷ []) more)) (is.reaches (byte ∷ more) (after, begins, stands));
      only = λ all stands.
          let more = is.only all stands in
          let tail = goes_on more.0 more.2 some in
          (tail.0, more.1 ∙ ap (λ l. bytes ++ l) tail.1 ∙ sym (append_assoc bytes (byte ∷ []) tail.0), tail.2);
    }

-- ---- two hexadecimal digits

ok_or_err : {X : Type 0} (u : Unit {0}) (e : FromHexError) → ◌≡◌ {A = Result (Unit {0}) FromHexError} (Ok u) (Err e) → X
ok_or_err u e same = absurd (subst (λ (r : Result (Unit {0}) FromHexError). MatchResult r (λ _. Unit {0}) (λ _. ⊥)) same tt)

pub decoded : (r : Result (List ℕ) FromHexError) (u : Unit {0}) (out : List ℕ) → MatchResult r (λ bytes. (◌≡◌ {A = Result (Unit {0}) FromHexError} (Ok u) (Ok tt)) × (out ≡ bytes)) (λ e. Ok u ≡ Err e) → Some (slice_index out 0) ≡ first_if_ok r
decoded (Ok bytes) u out says = ap (λ l. Some (slice_index l 0)) says.1
decoded (Err e) u out says = ok_or_err u e says

pub refused : (r : Result (List ℕ) FromHexError) (f : FromHexError) (out : List ℕ) → MatchResult r (λ bytes. (◌≡◌ {A = Result (Unit {0}) FromHexError} (Err f) (Ok tt)) × (out ≡ bytes)) (λ e. ◌≡◌ {A = Result (Unit {0}) FromHexError} (Err f) (Err e)) → None ≡ first_if_ok r
refused (Ok bytes) f out says = ok_or_err tt f (sym says.0)
refused (Err e) f out says = refl
