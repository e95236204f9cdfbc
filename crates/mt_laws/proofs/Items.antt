-- What bytes begin with: a value that has an encoding, and items one after the other.
use Rattle.std.proofs.Common.{◌≡◌, ◌⊎◌, inl, inr, ℕ, suc, ◌<◌, List, [], ◌∷◌, ◌++◌, length, drop, sym, ap, ◌∙◌, append_assoc, arith}
use Rattle.std.proofs.Math.Seq.{drop-append_seam}
use Rattle.std.proofs.lemmas.List.{length-append, flat_map_more}
use Rattle.std.specs.List.{flat_map}
use Rattle.mt_record.specs.Spelling.{framed}
use Rattle.mt_record.specs.Heads.{NoneBegins}
use Rattle.mt_record.proofs.Unique.{length_framed}
use Rattle.mt_laws.proofs.Decided.{Decided, same_bytes, both, some_or_none}

-- the bytes begin with the encoding of a value that satisfies `Is`
pub record Begins {H : Type 0} (Is : H → Type 0) (spelled : H → List ℕ) (bytes : List ℕ) : Type 0 where
  pub head : H
  pub more : List ℕ
  pub is_head : Is head
  pub joins : bytes ≡ spelled head ++ more

-- if bytes can begin with the encoding of only one such value, they begin with it or with none
pub begins_or_none : {H : Type 0} (Is : H → Type 0) (spelled : H → List ℕ) (bytes : List ℕ) (candidate : H)
    → ((head : H) (more : List ℕ) → Is head → bytes ≡ spelled head ++ more → candidate ≡ head) → Decided (Is candidate)
    → Begins Is spelled bytes ⊎ NoneBegins Is spelled bytes
begins_or_none {H} Is spelled bytes candidate only test =
    elim (some_or_none Fronts candidate (λ head is. only head (after head) is.0 is.1) (both test (same_bytes bytes (spelled candidate ++ after candidate))))
    as (λ _. Begins Is spelled bytes ⊎ NoneBegins Is spelled bytes) [
      | inl found ↦ inl (record { head = found.0; more = after found.0; is_head = found.1.0; joins = found.1.1 })
      | inr none ↦ inr (λ head more is e.
          none head (is, e ∙ ap (λ (x : List ℕ). spelled head ++ x) (sym (ap (drop (length (spelled head))) e ∙ drop-append_seam (spelled head) more))))
    ]
  where
    after : H → List ℕ
    after head = drop (length (spelled head)) bytes

    Fronts : H → Type 0
    Fronts head = Is head × (bytes ≡ spelled head ++ after head)

-- a further item joins those before it
pub joined : {A : Type 0} (spelled : A → List ℕ) (bytes front rest after : List ℕ) (items : List A) (item : A) → bytes ≡ front ++ (flat_map spelled items ++ rest) → rest ≡ spelled item ++ after
    → bytes ≡ front ++ (flat_map spelled (items ++ item ∷ []) ++ after)
joined spelled bytes front rest after items item all next =
    let items_and_next = ap (λ (x : List ℕ). flat_map spelled items ++ x) next ∙ sym (append_assoc (flat_map spelled items) (spelled item) after) in
    all ∙ ap (λ (x : List ℕ). front ++ x) (items_and_next ∙ ap (λ (x : List ℕ). x ++ after) (flat_map_more spelled [] items item))

-- after a framed item fewer bytes are left
pub fewer_left : (n : ℕ) (rest bytes after : List ℕ) → length rest < suc n → rest ≡ framed bytes ++ after → length after < n
fewer_left n rest bytes after fewer e = omega (arith, fewer, ap length e ∙ length-append (framed bytes) after, length_framed bytes)
