-- The rule that every step at the words' table keeps, and what a step guarantees its caller.
use Rattle.std.specs.Prelude.{◌≡◌, ℕ, ◌+◌, ◌-◌, ◌%◌, ◌^◌, ◌<◌, ◌≤◌, List, [], ◌∷◌, ◌++◌, length}
use mathlib.Core.Option.{some}
use lib.ListN.{get_elem?}
use Rattle.atomic_table.specs.Table.{State, Me, Step as TableStep}
use Rattle.mt_shared.specs.declared.known.Act.{Act}
use Rattle.mt_shared.specs.declared.known.Own.{Own}
use Rattle.mt_shared.specs.declared.known.Known.{Known}
use Rattle.mt_shared.specs.Words.{Step, Leads, acts_by, act}

-- a seat: what it knows, and the slots that it holds, which are none
abbrev pub Sitter : Type 0
Sitter = Me (Unit {0}) Known

-- what the first seat knows: all hands are left to be split off
abbrev pub first_known : ℕ → Known
first_known hands = record { owns = []; next = 0; parts = hands }

-- what the seat of one hand knows
abbrev pub lone : ℕ → List Act → Known
lone number acts = record { owns = record { by = number; acts = acts } ∷ []; next = 0; parts = 0 }

-- the acts of the first hand
abbrev pub acts_in : List Own → List Act
acts_in [] = []
acts_in (own ∷ owns) = own.acts

-- the fact holds for each hand
abbrev pub Each : (Own → Type 0) → List Own → Type 0
Each P [] = Unit {0}
Each P (own ∷ owns) = P own × Each P owns

-- the hand is at this seat, and these are its acts
pub record IsOwn (history : List Step) (seat : ℕ → ℕ) (hands id : ℕ) (own : Own) : Type 0 where
  pub here : seat own.by ≡ id
  pub below : own.by < hands
  pub acts : acts_by own.by history ≡ own.acts

-- what is true of a seat: its hands are at it, with those that are left to be split off, which took no steps
pub record IsKnown (history : List Step) (seat : ℕ → ℕ) (hands id : ℕ) (v : Known) : Type 0 where
  pub owns : Each (IsOwn history seat hands id) v.owns
  pub left : (k : ℕ) → v.next ≤ k → k < v.next + v.parts → IsOwn history seat hands id (record { by = k; acts = [] })

-- the rule: some history of the steps leads to the words, each hand is at one seat, which knows its acts, and no other took a step
pub record IsKept (first : List ℕ) (hands : ℕ) (s : State (Unit {0}) Known) : Type 0 where
  pub history : List Step
  pub seat : ℕ → ℕ
  pub many : length s.words ≡ length first
  pub leads : Leads first history s.words
  pub each : (id : ℕ) (v : Known) → get_elem? s.views id ≡ some v → IsKnown history seat hands id v
  pub others : (k : ℕ) → hands ≤ k → acts_by k history ≡ []

-- the first hand with one act more
abbrev pub more_in : Act → List Own → List Own
more_in a [] = []
more_in a (own ∷ owns) = record own { acts = own.acts ++ a ∷ [] } ∷ owns

abbrev pub with_act : Act → Sitter → Sitter
with_act a me = (record me.0 { owns = more_in a me.0.owns }, me.1)

-- what a step adds to the acts of its hand
abbrev pub Adds : TableStep (Unit {0}) → Sitter → ℕ → Sitter → Type 0
Adds step me found me' = me' ≡ with_act (act step.word found ((found + step.first) % 2 ^ 64)) me

abbrev pub Loads : TableStep (Unit {0}) → Sitter → ℕ → Sitter → Type 0
Loads step me found me' = me' ≡ with_act (act step.word found found) me

abbrev pub Swaps : TableStep (Unit {0}) → Sitter → ℕ → Sitter → Type 0
Swaps step me found me' = me' ≡ with_act (act step.word found step.first) me

-- what a seat knows after the next hand was split off, and what the seat of that hand knows
abbrev pub without_next : Known → Known
without_next v = record v { next = v.next + 1; parts = v.parts - 1 }

abbrev pub next_hand : Known → Known
next_hand v = lone v.next []

-- what two seats know after they were joined, and what the other one knows then
abbrev pub both_known : Known → Known → Known
both_known v w = record { owns = v.owns ++ w.owns; next = v.next; parts = v.parts }

abbrev pub nothing_known : Known
nothing_known = record { owns = []; next = 0; parts = 0 }
