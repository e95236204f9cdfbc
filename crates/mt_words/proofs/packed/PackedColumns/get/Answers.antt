use Rattle.std.proofs.Common.{◌≡◌, ◌≢◌, ◌↔◌, ℕ, List, ◌∷◌, Contains, inl, inr, sym, ap, subst}
use Rattle.mt_words.proofs.Elements.{no_element, head_or_tail, head_in, tail_in}
use Rattle.mt_words.proofs.packed.PackedColumns.get.Goals as goal

-- the column at the front is contained by its number
found : (columns more : List (ℕ × List ℕ)) (here number : ℕ) (bytes : List ℕ) → columns ≡ (here, bytes) ∷ more → here ≡ number → Contains columns (number, bytes)
found columns more here number bytes is same =
    subst (λ (n : ℕ). Contains columns (n, bytes)) same (subst (λ (cs : List (ℕ × List ℕ)). Contains cs (here, bytes)) (sym is) (head_in (here, bytes) more))

-- a column with another number than the front's is behind it
behind : (columns more : List (ℕ × List ℕ)) (here number : ℕ) (value bytes : List ℕ) → columns ≡ (here, value) ∷ more → here ≢ number
    → Contains columns (number, bytes) ↔ Contains more (number, bytes)
behind columns more here number value bytes is other = (
  λ at. elim (head_or_tail (here, value) (number, bytes) more (subst (λ (cs : List (ℕ × List ℕ)). Contains cs (number, bytes)) is at)) as (λ _. Contains more (number, bytes)) [
    | inl same ↦ absurd (other (ap (λ (c : ℕ × List ℕ). c.0) same))
    | inr later ↦ later
  ],
  λ later. subst (λ (cs : List (ℕ × List ℕ)). Contains cs (number, bytes)) (sym is) (tail_in (here, value) (number, bytes) more later),
)

pub returns-then-here-number : goal.returns-then-here-number
returns-then-here-number c =
    (c.loop-here.invariant c.in-Some.bytes.now).1 (found c.loop-here.rest c.next.new.self c.in-Some.here c.args.number c.in-Some.bytes.now c.in-Some.ensures.some c.if-here-number.true)

pub loop-here-preserved : goal.loop-here-preserved
loop-here-preserved c = λ bytes.
    let so_far = c.loop-here.invariant bytes in
    let left = behind c.loop-here.rest c.next.new.self c.in-Some.here c.args.number c.in-Some.bytes.now bytes c.in-Some.ensures.some c.if-here-number.false in
    (λ at. left.0 (so_far.0 at), λ later. so_far.1 (left.1 later))

pub returns : goal.returns
returns c = λ bytes at.
    no_element (c.args.number, bytes) (subst (λ (cs : List (ℕ × List ℕ)). Contains cs (c.args.number, bytes)) c.in_default.ensures.none.0 ((c.loop-here.invariant bytes).0 at))
