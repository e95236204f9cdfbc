-- Maps: for each list of cells of which no two give one column different bytes, there is the map that holds exactly these.
use Rattle.std.proofs.Common.{◌≡◌, ◌⊎◌, inl, inr, ◌↔◌, ℕ, suc, ◌<◌, ◌≤◌, List, [], ◌∷◌, length, Contains, refl, sym, ap, ◌∙◌, subst, arith}
use Rattle.std.specs.List.{AllByRecursion}
use Rattle.std.specs.Ordering.{nat_cmp, is_lt, is_eq, ordering_reverse}
use Rattle.std.specs.declared.cmp.Ordering.{Ordering}
use Rattle.std.specs.declared.cmp.Ordering.TheVariants.{Less, Equal, Greater}
use Rattle.std.specs.Cmp.Lexicographic.{slice_cmp}
use Rattle.std.proofs.lemmas.Bool.{cases_order}
use Rattle.std.proofs.lemmas.Cmp.{nat_list_cmp_total}
use Rattle.mt_words.proofs.Elements.{no_element, head_or_tail, head_in, tail_in}
use Rattle.mt_words.specs.Limits.{widest}
use Rattle.mt_words.specs.Words.{IsKey, IsBelow, IsColumn, NumbersRise, AreColumns}
use Rattle.mt_words.specs.Walks.{Pair, IsPair, IsMap, Holds}
use Rattle.mt_replay.proofs.Members.{of_each, all_from}
use Rattle.mt_words.proofs.KeyOrder.{below_trans}
use Rattle.mt_replay.proofs.StepLemmas.{same_key}

-- ---- columns

abbrev Column : Type 0
Column = ℕ × List ℕ

-- the new list has what the old one has, and one more
abbrev Adds : {A : Type 0} → A → List A → List A → Type 0
Adds {A} one old new = (x : A) → Contains new x ↔ ((one ≡ x) ⊎ Contains old x)

adds_head : {A : Type 0} (one : A) (old : List A) → Adds one old (one ∷ old)
adds_head one old x = (
  λ at. head_or_tail one x old at,
  λ cases. elim cases as (λ _. Contains (one ∷ old) x) [
    | inl e ↦ subst (Contains (one ∷ old)) e (head_in one old)
    | inr before ↦ tail_in one x old before
  ],
)

adds_later : {A : Type 0} (first one : A) (old new : List A) → Adds one old new → Adds one (first ∷ old) (first ∷ new)
adds_later first one old new adds x = (
  λ at. elim (head_or_tail first x new at) as (λ _. (one ≡ x) ⊎ Contains (first ∷ old) x) [
    | inl e ↦ inr (subst (Contains (first ∷ old)) e (head_in first old))
    | inr later ↦ elim ((adds x).0 later) as (λ _. (one ≡ x) ⊎ Contains (first ∷ old) x) [
      | inl e ↦ inl e
      | inr before ↦ inr (tail_in first x old before)
    ]
  ],
  λ cases. elim cases as (λ _. Contains (first ∷ new) x) [
    | inl e ↦ tail_in first x new ((adds x).1 (inl e))
    | inr at ↦ elim (head_or_tail first x old at) as (λ _. Contains (first ∷ new) x) [
      | inl e ↦ subst (Contains (first ∷ new)) e (head_in first new)
      | inr before ↦ tail_in first x new ((adds x).1 (inr before))
    ]
  ],
)

-- what is there already is added by nothing
adds_none : {A : Type 0} (one : A) (old : List A) → Contains old one → Adds one old old
adds_none one old has x = (
  λ at. inr at,
  λ cases. elim cases as (λ _. Contains old x) [ inl e ↦ subst (Contains old) e has | inr at ↦ at ],
)

-- the numbers still rise with one more column; the same column may be there already
add_column : (low : ℕ) (one : Column) (old : List Column) → low ≤ one.0 → NumbersRise low old
    → ((other : Column) → Contains old other → one.0 ≡ other.0 → one ≡ other) → (new : List Column) × NumbersRise low new × Adds one old new
add_column low one [] le rise same = (one ∷ [], (le, tt), adds_head one [])
add_column low one (c ∷ cs) le rise same = elim (cases_order one.0 c.0) as (λ _. (new : List Column) × NumbersRise low new × Adds one (c ∷ cs) new) [
  | inl e ↦ (c ∷ cs, rise, adds_none one (c ∷ cs) (subst (Contains (c ∷ cs)) (sym (same c (head_in c cs) e)) (head_in c cs)))
  | inr apart ↦ elim apart as (λ _. (new : List Column) × NumbersRise low new × Adds one (c ∷ cs) new) [
    | inl lt ↦ (one ∷ c ∷ cs, (le, (lt, rise.1)), adds_head one (c ∷ cs))
    | inr gt ↦
        let rest = add_column (suc c.0) one cs gt rise.1 (λ other at e. same other (tail_in c other cs at) e) in
        (c ∷ rest.0, (rise.0, rest.1), adds_later c one cs rest.0 rest.2)
  ]
]

has_some : {A : Type 0} (x : A) (xs : List A) → Contains xs x → 0 < length xs
has_some x xs at = omega (arith, at.1)

-- lawful columns with one more
abbrev HasOneMore : Column → List Column → Type 0
HasOneMore one old = (new : List Column) × AreColumns widest new × (0 < length new) × Adds one old new

more_columns : (one : Column) (old : List Column) → IsColumn widest one → AreColumns widest old
    → ((other : Column) → Contains old other → one.0 ≡ other.0 → one ≡ other) → HasOneMore one old
more_columns one old is are same =
    let made = add_column 0 one old (omega arith) are.1 same in
    let lawful : AllByRecursion (IsColumn widest) made.0 =
    all_from (IsColumn widest) made.0 (λ c at. elim ((made.2 c).0 at) as (λ _. IsColumn widest c) [
      | inl e ↦ subst (IsColumn widest) e is
      | inr before ↦ of_each (IsColumn widest) old c are.0 before
    ]) in
    (made.0, (lawful, made.1), has_some one made.0 ((made.2 one).1 (inl refl)), made.2)

-- ---- keys

-- two keys are equal, or one is below the other
key_order : (a b : List ℕ) → (a ≡ b) ⊎ (IsBelow a b ⊎ IsBelow b a)
key_order a b = by (slice_cmp nat_cmp a b) refl
  where
    by : (o : Ordering) → slice_cmp nat_cmp a b ≡ o → (a ≡ b) ⊎ (IsBelow a b ⊎ IsBelow b a)
    by Less e = inr (inl (ap is_lt e))
    by Equal e = inl (same_key a b (ap is_eq e))
    by Greater e = inr (inr (ap is_lt (nat_list_cmp_total.antisymm b a ∙ ap ordering_reverse e)))

-- ---- the cells of pairs

-- a cell: a key, a column number and bytes
abbrev pub Cell : Type 0
Cell = List ℕ × ℕ × List ℕ

-- the pair has the cell
abbrev Has : Pair → Cell → Type 0
Has pair cell = (pair.0 ≡ cell.0) × Contains pair.1 (cell.1, cell.2)

-- one of the pairs has the cell
abbrev Have : List Pair → Cell → Type 0
Have pairs cell = Holds pairs cell.0 cell.1 cell.2

-- the first pair has the cell, or a later one
have_cases : (p : Pair) (ps : List Pair) (cell : Cell) → Have (p ∷ ps) cell ↔ (Has p cell ⊎ Have ps cell)
have_cases p ps cell = (
  λ have. elim (head_or_tail p (cell.0, have.0) ps have.1) as (λ _. Has p cell ⊎ Have ps cell) [
    | inl e ↦ inl (ap (λ (x : Pair). x.0) e, subst (λ (x : Pair). Contains x.1 (cell.1, cell.2)) (sym e) have.2)
    | inr later ↦ inr (have.0, later, have.2)
  ],
  λ cases. elim cases as (λ _. Have (p ∷ ps) cell) [
    | inl first ↦ (p.1, subst (λ (k : List ℕ). Contains (p ∷ ps) (k, p.1)) first.0 (head_in p ps), first.1)
    | inr later ↦ (later.0, tail_in p (cell.0, later.0) ps later.1, later.2)
  ],
)

-- the new pairs have what the old ones have, and this cell
abbrev HaveMore : Cell → List Pair → List Pair → Type 0
HaveMore cell old new = (c : Cell) → Have new c ↔ ((cell ≡ c) ⊎ Have old c)

-- so it is if a pair with only this cell comes first
more_before : (cell : Cell) (p : Pair) (ps : List Pair) → ((c : Cell) → Has p c ↔ (cell ≡ c)) → HaveMore cell ps (p ∷ ps)
more_before cell p ps own c = (
  λ have. elim ((have_cases p ps c).0 have) as (λ _. (cell ≡ c) ⊎ Have ps c) [ inl first ↦ inl ((own c).0 first) | inr later ↦ inr later ],
  λ cases. (have_cases p ps c).1 (elim cases as (λ _. Has p c ⊎ Have ps c) [ inl e ↦ inl ((own c).1 e) | inr old ↦ inr old ]),
)

-- if the first pair has it
more_first : (cell : Cell) (old new : Pair) (ps : List Pair) → ((c : Cell) → Has new c ↔ ((cell ≡ c) ⊎ Has old c)) → HaveMore cell (old ∷ ps) (new ∷ ps)
more_first cell old new ps more c = (
  λ have. elim ((have_cases new ps c).0 have) as (λ _. (cell ≡ c) ⊎ Have (old ∷ ps) c) [
    | inl first ↦ elim ((more c).0 first) as (λ _. (cell ≡ c) ⊎ Have (old ∷ ps) c) [ inl e ↦ inl e | inr before ↦ inr ((have_cases old ps c).1 (inl before)) ]
    | inr later ↦ inr ((have_cases old ps c).1 (inr later))
  ],
  λ cases. (have_cases new ps c).1 (elim cases as (λ _. Has new c ⊎ Have ps c) [
    | inl e ↦ inl ((more c).1 (inl e))
    | inr before ↦ elim ((have_cases old ps c).0 before) as (λ _. Has new c ⊎ Have ps c) [ inl first ↦ inl ((more c).1 (inr first)) | inr later ↦ inr later ]
  ]),
)

-- and if the later pairs have it
more_later : (cell : Cell) (p : Pair) (old new : List Pair) → HaveMore cell old new → HaveMore cell (p ∷ old) (p ∷ new)
more_later cell p old new more c = (
  λ have. elim ((have_cases p new c).0 have) as (λ _. (cell ≡ c) ⊎ Have (p ∷ old) c) [
    | inl first ↦ inr ((have_cases p old c).1 (inl first))
    | inr later ↦ elim ((more c).0 later) as (λ _. (cell ≡ c) ⊎ Have (p ∷ old) c) [ inl e ↦ inl e | inr before ↦ inr ((have_cases p old c).1 (inr before)) ]
  ],
  λ cases. (have_cases p new c).1 (elim cases as (λ _. Has p c ⊎ Have new c) [
    | inl e ↦ inr ((more c).1 (inl e))
    | inr before ↦ elim ((have_cases p old c).0 before) as (λ _. Has p c ⊎ Have new c) [ inl first ↦ inl first | inr later ↦ inr ((more c).1 (inr later)) ]
  ]),
)

-- ---- one cell more

-- a cell that may be added: a lawful key with a lawful column, and the pairs have no other bytes there
record MayAdd (cell : Cell) (pairs : List Pair) : Type 0 where
  key : IsKey widest cell.0
  column : IsColumn widest (cell.1, cell.2)
  same : (bytes : List ℕ) → Holds pairs cell.0 cell.1 bytes → cell.2 ≡ bytes

-- a map with one cell more
abbrev HasMap : Cell → List Pair → Type 0
HasMap cell old = (new : List Pair) × IsMap new × HaveMore cell old new

-- the cell becomes the first pair
add_before : (cell : Cell) (old : List Pair) → MayAdd cell old → IsMap old → AllByRecursion (λ (p : Pair). IsBelow cell.0 p.0) old → HasMap cell old
add_before cell old may map below =
    let column : Column = (cell.1, cell.2) in
    let pair : Pair = (cell.0, column ∷ []) in (
      pair ∷ old,
      ((below, map.0), ((may.key, ((may.column, tt), (omega arith, tt)), omega arith), map.1)),
      more_before cell pair old (λ c. (
        λ has. elim (head_or_tail column (c.1, c.2) [] has.1) as (λ _. cell ≡ c) [
          | inl e ↦ (λ i. (has.0 i, (e i).0, (e i).1))
          | inr none ↦ absurd (no_element (c.1, c.2) none)
        ],
        λ e. (ap (λ (x : Cell). x.0) e, subst (Contains pair.1) (λ i. ((e i).1, (e i).2)) (head_in column [])),
      )),
    )

-- the cell becomes a column of the first pair
add_first : (cell : Cell) (p : Pair) (ps : List Pair) → MayAdd cell (p ∷ ps) → IsMap (p ∷ ps) → cell.0 ≡ p.0 → HasMap cell (p ∷ ps)
add_first cell p ps may map own =
    let made = more_columns (cell.1, cell.2) p.1 may.column map.1.0.1 (λ other at e.
    let stands : Contains (p ∷ ps) (cell.0, p.1) = subst (λ (k : List ℕ). Contains (p ∷ ps) (k, p.1)) (sym own) (head_in p ps) in
    let bytes : cell.2 ≡ other.1 = may.same other.1 (p.1, stands, subst (λ (n : ℕ). Contains p.1 (n, other.1)) (sym e) at) in
    λ i. (e i, bytes i)) in
    let pair : Pair = (p.0, made.0) in (
      pair ∷ ps,
      (map.0, ((map.1.0.0, made.1, made.2), map.1.1)),
      more_first cell p pair ps (λ c. (
        λ has. elim ((made.3 (c.1, c.2)).0 has.1) as (λ _. (cell ≡ c) ⊎ Has p c) [
          | inl e ↦ let of_key : cell.0 ≡ c.0 = own ∙ has.0 in inl (λ i. (of_key i, (e i).0, (e i).1))
          | inr before ↦ inr (has.0, before)
        ],
        λ cases. elim cases as (λ _. Has pair c) [
          | inl e ↦ (sym own ∙ ap (λ (x : Cell). x.0) e, (made.3 (c.1, c.2)).1 (inl (λ i. ((e i).1, (e i).2))))
          | inr before ↦ (before.0, (made.3 (c.1, c.2)).1 (inr before.1))
        ],
      )),
    )

-- columns that are not empty have a first one
first_column : (columns : List Column) → 0 < length columns → (column : Column) × Contains columns column
first_column [] some = absurd (omega arith)
first_column (c ∷ cs) some = (c, head_in c cs)

-- a key below this cell and below the old pairs is below the new pairs
below_more : (low : List ℕ) (cell : Cell) (old new : List Pair) → IsBelow low cell.0 → AllByRecursion (λ (p : Pair). IsBelow low p.0) old → AllByRecursion IsPair new
    → HaveMore cell old new → AllByRecursion (λ (p : Pair). IsBelow low p.0) new
below_more low cell old new below under are more = all_from (λ (p : Pair). IsBelow low p.0) new each
  where
    each : (p : Pair) → Contains new p → IsBelow low p.0
    each p at =
        let column = first_column p.1 (of_each IsPair new p are at).2 in
        elim ((more (p.0, column.0.0, column.0.1)).0 (p.1, at, column.1)) as (λ _. IsBelow low p.0) [
          | inl e ↦ subst (IsBelow low) (ap (λ (x : Cell). x.0) e) below
          | inr holds ↦ of_each (λ (q : Pair). IsBelow low q.0) old (p.0, holds.0) under holds.1
        ]

add_cell : (cell : Cell) (old : List Pair) → MayAdd cell old → IsMap old → HasMap cell old
add_cell cell [] may map = add_before cell [] may map tt
add_cell cell (p ∷ ps) may map = elim (key_order cell.0 p.0) as (λ _. HasMap cell (p ∷ ps)) [
  | inl own ↦ add_first cell p ps may map own
  | inr apart ↦ elim apart as (λ _. HasMap cell (p ∷ ps)) [
    | inl below ↦ add_before cell (p ∷ ps) may map
        (below, all_from (λ (q : Pair). IsBelow cell.0 q.0) ps (λ q at. below_trans cell.0 p.0 q.0 below (of_each (λ (r : Pair). IsBelow p.0 r.0) ps q map.0.0 at)))
    | inr above ↦
        let same : (bytes : List ℕ) → Holds ps cell.0 cell.1 bytes → cell.2 ≡ bytes = λ bytes holds. may.same bytes ((have_cases p ps (cell.0, cell.1, bytes)).1 (inr holds)) in
        let rest = add_cell cell ps (record { key = may.key; column = may.column; same = same }) (map.0.1, map.1.1) in
        (p ∷ rest.0, ((below_more p.0 cell ps rest.0 above map.0.0 rest.1.1 rest.2, rest.1.0), (map.1.0, rest.1.1)), more_later cell p ps rest.0 rest.2)
  ]
]

-- ---- maps of cells

-- cells of which a map can be made: lawful keys with lawful columns, and no column with two values
pub record AreCells (cells : List Cell) : Type 0 where
  pub lawful : (cell : Cell) → Contains cells cell → IsKey widest cell.0 × IsColumn widest (cell.1, cell.2)
  pub one : (key : List ℕ) (number : ℕ) (a b : List ℕ) → Contains cells (key, number, a) → Contains cells (key, number, b) → a ≡ b

-- a map that has exactly these cells
pub record IsMapOfCells (cells : List Cell) (pairs : List Pair) : Type 0 where
  pub map : IsMap pairs
  pub exact : (key : List ℕ) (number : ℕ) (bytes : List ℕ) → Holds pairs key number bytes ↔ Contains cells (key, number, bytes)

-- there is one
pub map_of_cells : (cells : List Cell) → AreCells cells → (pairs : List Pair) × IsMapOfCells cells pairs
map_of_cells [] are =
    ([], record { map = (tt, tt); exact = λ key number bytes. (λ holds. absurd (no_element (key, holds.0) holds.1), λ at. absurd (no_element (key, number, bytes) at)) })
map_of_cells (c ∷ cs) are =
    let rest = map_of_cells cs (record {
      lawful = λ cell at. are.lawful cell (tail_in c cell cs at);
      one = λ key number a b at here. are.one key number a b (tail_in c (key, number, a) cs at) (tail_in c (key, number, b) cs here);
    }) in
    let own = are.lawful c (head_in c cs) in
    let made = add_cell c rest.0 (record {
      key = own.0;
      column = own.1;
      same = λ bytes holds. are.one c.0 c.1 c.2 bytes (head_in c cs) (tail_in c (c.0, c.1, bytes) cs ((rest.1.exact c.0 c.1 bytes).0 holds));
    }) rest.1.map in (
      made.0,
      record {
        map = made.1;
        exact = λ key number bytes. (
          λ holds. elim ((made.2 (key, number, bytes)).0 holds) as (λ _. Contains (c ∷ cs) (key, number, bytes)) [
            | inl e ↦ subst (Contains (c ∷ cs)) e (head_in c cs)
            | inr before ↦ tail_in c (key, number, bytes) cs ((rest.1.exact key number bytes).0 before)
          ],
          λ at. (made.2 (key, number, bytes)).1 (elim (head_or_tail c (key, number, bytes) cs at) as (λ _. (c ≡ (key, number, bytes)) ⊎ Holds rest.0 key number bytes) [
            | inl e ↦ inl e
            | inr later ↦ inr ((rest.1.exact key number bytes).1 later)
          ]),
        );
      },
    )
