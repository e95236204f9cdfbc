-- What a feed has read when more bytes follow, whatever its items are.
use Rattle.std.proofs.Common.{◌≡◌, ◌⊎◌, inl, inr, ℕ, ◌-◌, ◌<◌, Result, Ok, Err, Option, Some, List, [], ◌∷◌, ◌++◌, length, drop, refl, sym, ap, ◌∙◌, subst, append_assoc, arith, true, false, Bool}
use Rattle.std.proofs.lemmas.Bool.{false≢true}
use Rattle.std.proofs.Math.Seq.{drop-append_seam}
use Rattle.std.proofs.lemmas.List.{length-append, nil_from_length}
use Rattle.std.proofs.lemmas.Bool.Decides.{Decides-eqb}
use Rattle.std.proofs.lemmas.Option.{none-some}
use Rattle.std.specs.Prelude.{◌==◌, OnOk, IfErr}
use Rattle.std.specs.Result.{result_err}
use Rattle.mt_record.specs.Fronts.{GoTogether, ShowsNone}
use Rattle.mt_record.specs.Feeding.{HasRead, Reads, HasShown, HoldsAll, IsFedBy}

-- ---- bytes

-- a prefix of some bytes is still one when more bytes follow
pub behind_on : (front rest after more : List ℕ) → rest ≡ front ++ after → rest ++ more ≡ front ++ (after ++ more)
behind_on front rest after more e = ap (λ (x : List ℕ). x ++ more) e ∙ append_assoc front after more

-- of two prefixes of the same list, one is a prefix of the other
pub apart : (a b x y : List ℕ) → a ++ x ≡ b ++ y → GoTogether a b
apart [] b x y e = inr (b, refl)
apart (p ∷ a) [] x y e = inl (p ∷ a, refl)
apart (p ∷ a) (q ∷ b) x y e =
    let tails : a ++ x ≡ b ++ y = cc in
    let first : p ≡ q = cc in
    elim (apart a b x y tails) as (λ _. ((c : List ℕ) × (p ∷ a ≡ q ∷ (b ++ c))) ⊎ ((c : List ℕ) × (q ∷ b ≡ p ∷ (a ++ c)))) [
      | inl u ↦ inl (u.0, λ i. first i ∷ u.1 i)
      | inr u ↦ inr (u.0, λ i. sym first i ∷ u.1 i)
    ]

-- if bytes show that there is no such value, they still do when more bytes follow
pub shows_none_on : {H : Type 0} (Is : H → Type 0) (spelled : H → List ℕ) (bytes more : List ℕ) → ShowsNone Is spelled bytes → ShowsNone Is spelled (bytes ++ more)
shows_none_on Is spelled bytes more h = (
  λ head after is e. elim (apart bytes (spelled head) more after e) as (λ _. ⊥) [
    | inl u ↦ h.0 head u.0 is u.1
    | inr u ↦ h.1 head u.0 is u.1
  ],
  λ head after is e. h.1 head (more ++ after) is (e ∙ append_assoc bytes more after),
)

-- ---- items

-- two reads, one after the other, are one read
pub then_read : {T I : Type 0} (holds : T → I → List ℕ → Type 0) (old middle new : I) (bytes rest after : List ℕ) → Reads holds old middle bytes rest → Reads holds middle new rest after
    → Reads holds old new bytes after
then_read holds old middle new bytes rest after first next = record {
  front = first.front ++ next.front;
  joins = first.joins ∙ ap (λ (x : List ℕ). first.front ++ x) next.joins ∙ sym (append_assoc first.front next.front after);
  read = λ taken front is.
      subst (λ (x : List ℕ). holds taken new x) (append_assoc front first.front next.front) (next.read taken (front ++ first.front) (first.read taken front is));
}

-- items read at the front of the rest are added to what was read
pub read_on : {T I : Type 0} (holds : T → I → List ℕ → Type 0) (taken : T) (old new : I) (text bytes after : List ℕ) → HasRead (holds taken old) text bytes → Reads holds old new bytes after
    → HasRead (holds taken new) text after
read_on holds taken old new text bytes after has next = record {
  front = has.front ++ next.front;
  joins = has.joins ∙ ap (λ (x : List ℕ). has.front ++ x) next.joins ∙ sym (append_assoc has.front next.front after);
  read = next.read taken has.front has.read;
}

-- what was read stays the same when more bytes follow
pub goes_on : (holds : List ℕ → Type 0) (text rest more : List ℕ) → HasRead holds text rest → HasRead holds (text ++ more) (rest ++ more)
goes_on holds text rest more has = record { front = has.front; joins = behind_on has.front text rest more has.joins; read = has.read }

-- an item at the front is read, and fewer bytes are left
pub front_read : {T I : Type 0} (holds : T → I → List ℕ → Type 0) (old new : I) (front bytes after : List ℕ) → bytes ≡ front ++ after → 0 < length front
    → ((taken : T) (before : List ℕ) → holds taken old before → holds taken new (before ++ front)) → Reads holds old new bytes after × (length after < length bytes)
front_read holds old new front bytes after joins some on = (record { front = front; joins = joins; read = on }, omega (arith, ap length joins, length-append front after, some))

-- ---- the input

-- a feed that has a fault counts as fed with any bytes that follow
pub fed_on : {I F : Type 0} (holds : I → List ℕ → Type 0) (is_left : I → List ℕ → Type 0) (shows : I → F → List ℕ → Type 0) (items : I) (held : List ℕ) (answered : Option F) (fault : F) (text more : List ℕ)
    → answered ≡ Some fault → IsFedBy holds is_left shows items held answered text → IsFedBy holds is_left shows items held answered (text ++ more)
fed_on holds is_left shows items held answered fault text more failed fed = (
  λ none. absurd (none-some fault (sym none ∙ failed)),
  λ other is.
      let h = fed.1 other is in
      record { shown = h.shown; more = h.more ++ more; read = rw (← append_assoc h.shown h.more more) (goes_on (holds items) text (h.shown ++ h.more) more h.read); fault = h.fault },
)

-- a feed reads a chunk: the held bytes and the chunk are read, except for the bytes that it holds then, or they show a fault
pub fed_next : {T I F : Type 0} (holds : T → I → List ℕ → Type 0) (is_left : I → List ℕ → Type 0) (shows : I → F → List ℕ → Type 0) (taken : T) (old new : I) (held left text piece : List ℕ)
    (answer : Result (Unit {0}) F) → HoldsAll (holds taken) is_left old held text → (is_left old held → OnOk answer (Reads holds old new (held ++ piece) left × is_left new left))
    → IfErr answer (λ fault. HasShown (Reads holds old new (held ++ piece)) (shows new fault)) → IsFedBy (holds taken) is_left shows new left (result_err answer) (text ++ piece)
fed_next holds is_left shows taken old new held left text piece (Ok done) (has, rest) ok failed = (
  λ none. (read_on holds taken old new (text ++ piece) (held ++ piece) left (goes_on (holds taken old) text held piece has) (ok rest).0, (ok rest).1),
  λ fault is. absurd (none-some fault is),
)
fed_next {F = F} holds is_left shows taken old new held left text piece (Err fault) (has, rest) ok h = (
  λ none. absurd (none-some fault (sym none)),
  λ other same.
      let e : fault ≡ other = cc in
      record {
        shown = h.shown;
        more = h.more;
        read = read_on holds taken old new (text ++ piece) (held ++ piece) (h.shown ++ h.more) (goes_on (holds taken old) text held piece has) h.read;
        fault = subst (λ (f : F). shows new f h.shown) e h.fault;
      },
)

-- ---- the bytes held back

pub nil_if_empty : {T : Type 0} (xs : List T) (len : ℕ) (empty : Bool) → len ≡ length xs → empty ≡ (len == 0) → empty ≡ true → xs ≡ []
nil_if_empty xs len empty number test outcome = nil_from_length xs (sym number ∙ (Decides-eqb len 0).0 (sym test ∙ outcome))

pub some_if_not : {T : Type 0} (xs : List T) (len : ℕ) (empty : Bool) → len ≡ length xs → empty ≡ (len == 0) → empty ≡ false → xs ≡ [] → ⊥
some_if_not xs len empty number test outcome none = false≢true (sym outcome ∙ test ∙ ap (λ (n : ℕ). n == 0) (number ∙ ap length none))

-- if the items at the front are dropped, the rest is left
pub left_over : (held items left : List ℕ) (len : ℕ) → held ≡ items ++ left → len ≡ length held → drop (len - length left) held ≡ left
left_over held items left len e so_many =
    let number : len - length left ≡ length items = omega (arith, so_many, ap length e, length-append items left) in
    rw (number, e) (drop-append_seam items left)
