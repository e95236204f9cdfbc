-- Logs that are lent.
use Rattle.std.proofs.Common.{◌≡◌, ⊎_elim, ℕ, zero, suc, ◌<◌, Some, List, [], ◌∷◌, ◌++◌, length, map, drop, get_or, set, refl, sym, ap, ◌∙◌, subst, arith, append_assoc, length-set}
use Rattle.std.specs.Prelude.{slice_get}
use Rattle.std.proofs.lemmas.Option.{none-some, same_Some, slice_get_read}
use Rattle.std.proofs.lemmas.List.{length_push}
use Rattle.atomic_table.specs.Seated.{TableId}
use Rattle.mt_writer.specs.Journals.{Writer}
use Rattle.mt_shared.specs.declared.known.Act.{Act}
use Rattle.mt_shared.specs.Words.{HandView, fresh_hand, fresh_hands}
use Rattle.mt_keeper.specs.declared.keeper.Stage.{Stage}
use Rattle.mt_keeper.specs.declared.keeper.Stage.TheVariants.{Coming, Writing, Followed, Going, Gone}
use Rattle.mt_keeper.specs.declared.keeper.Log.{Log}
use Rattle.mt_keeper.specs.Keeping.{Keeping}
use Rattle.mt_keeper.specs.Crews.{LentView, resting, reach_of, written_from, if_writing, Works, HasDone}
use Rattle.mt_keeper.specs.Lending.{IsFresh}
use Rattle.mt_keeper.proofs.Orders.{within, get_set_else}
use Rattle.mt_keeper.proofs.Closing.{written_at, written_rise, get_push, get_last, numbers_are}

-- ---- the words and the numbers

drop_get : (logs : List Log) (n : ℕ) (log : Log) → slice_get logs n ≡ Some log → drop n logs ≡ log ∷ drop (suc n) logs
drop_get [] n log is = absurd (none-some log is)
drop_get (l ∷ ls) zero log is = ap (λ (x : Log). x ∷ ls) (same_Some l log is)
drop_get (l ∷ ls) (suc n) log is = drop_get ls n log is

-- one more word
pub word_next : (logs : List Log) (n : ℕ) (log : Log) (ws all : List ℕ) → slice_get logs n ≡ Some log → ws ++ map reach_of (drop n logs) ≡ all
    → (ws ++ reach_of log ∷ []) ++ map reach_of (drop (suc n) logs) ≡ all
word_next logs n log ws all is so_far = append_assoc ws (reach_of log ∷ []) (map reach_of (drop (suc n) logs)) ∙ ap (λ (l : List Log). ws ++ map reach_of l) (sym (drop_get logs n log is)) ∙ so_far

-- one more number
pub number_next : (logs : List Log) (n : ℕ) (log : Log) (w : Writer) (ns all : List ℕ) → slice_get logs n ≡ Some log → log.stage ≡ Writing w → ns ++ written_from n (drop n logs) ≡ all
    → (ns ++ n ∷ []) ++ written_from (suc n) (drop (suc n) logs) ≡ all
number_next logs n log w ns all is stage so_far =
    append_assoc ns (n ∷ []) (written_from (suc n) (drop (suc n) logs))
    ∙ ap (λ (s : Stage). ns ++ if_writing s n (written_from (suc n) (drop (suc n) logs))) (sym stage)
    ∙ ap (λ (l : List Log). ns ++ written_from n l) (sym (drop_get logs n log is)) ∙ so_far

no_number : (stage : Stage) (n : ℕ) (rest : List ℕ) → ((w : Writer) → stage ≡ Writing w → ⊥) → if_writing stage n rest ≡ rest
no_number (Writing w) n rest not = absurd (not w refl)
no_number (Coming new) n rest not = refl
no_number (Followed last) n rest not = refl
no_number Going n rest not = refl
no_number Gone n rest not = refl

pub number_same : (logs : List Log) (n : ℕ) (log : Log) (ns all : List ℕ) → slice_get logs n ≡ Some log → ((w : Writer) → log.stage ≡ Writing w → ⊥) → ns ++ written_from n (drop n logs) ≡ all
    → ns ++ written_from (suc n) (drop (suc n) logs) ≡ all
number_same logs n log ns all is not so_far =
    ap (λ (l : List ℕ). ns ++ l) (sym (no_number log.stage n (written_from (suc n) (drop (suc n) logs)) not)) ∙ ap (λ (l : List Log). ns ++ written_from n l) (sym (drop_get logs n log is)) ∙ so_far

-- ---- the hands

pub fresh_many : (table : TableId) (k : ℕ) → length (fresh_hands table k) ≡ k
fresh_many table zero = refl
fresh_many table (suc k) = omega (arith, length_push (fresh_hands table k) (fresh_hand table k), fresh_many table k)

fresh_below : (table : TableId) (n i : ℕ) (hand : HandView) → slice_get (fresh_hands table n) i ≡ Some hand → (i < n) × (hand ≡ fresh_hand table i)
fresh_below table zero i hand is = absurd (none-some hand is)
fresh_below table (suc n) i hand is = ⊎_elim (λ (old : slice_get (fresh_hands table n) i ≡ Some hand). let b = fresh_below table n i hand old in (omega (arith, b.0), b.1))
    (λ (last : (i ≡ length (fresh_hands table n)) × (fresh_hand table n ≡ hand)). let m : i ≡ n = last.0 ∙ fresh_many table n in (omega (arith, m), sym last.1 ∙ ap (λ (k : ℕ). fresh_hand table k) (sym m)))
    (get_push (fresh_hands table n) (fresh_hand table n) i hand is)

-- the next hand
pub next_hand : (table : TableId) (n : ℕ) (yielded rest : List HandView) (hand : HandView) → yielded ++ hand ∷ rest ≡ fresh_hands table n → (length yielded < n) × (hand ≡ fresh_hand table (length yielded))
next_hand table n yielded rest hand split = fresh_below table n (length yielded) hand (ap (λ (l : List HandView). slice_get l (length yielded)) (sym split) ∙ get_last yielded hand rest)

-- the number of its log
pub next_number : (table : TableId) (numbers : List ℕ) (yielded rest : List HandView) (hand : HandView) (i n : ℕ) → yielded ++ hand ∷ rest ≡ fresh_hands table (length numbers) → i ≡ hand.number
    → n ≡ get_or numbers i n → (i ≡ length yielded) × (slice_get numbers (length yielded) ≡ Some n)
next_number table numbers yielded rest hand i n split is value =
    let h = next_hand table (length numbers) yielded rest hand split in
    let place : i ≡ length yielded = is ∙ ap (λ (x : HandView). x.number) h.1 in
    (place, slice_get_read numbers (length numbers) (length yielded) n refl h.0 (value ∙ ap (λ (j : ℕ). get_or numbers j n) place))

-- ---- the logs

-- none of the first so many numbers
abbrev pub NotAmongFirst : List ℕ → ℕ → ℕ → Type 0
NotAmongFirst numbers so_far number = (i : ℕ) → i < so_far → slice_get numbers i ≡ Some number → ⊥

-- so many logs are lent
pub record AreTaken (before : Keeping) (table : TableId) (numbers : List ℕ) (so_far : ℕ) (lents : List LentView) (logs : List Log) : Type 0 where
  pub many : length lents ≡ so_far
  pub fresh : (i : ℕ) (lent : LentView) → slice_get lents i ≡ Some lent → IsFresh before table numbers i lent
  pub same : length logs ≡ length before.logs
  pub others : (number : ℕ) → NotAmongFirst numbers so_far number → slice_get logs number ≡ slice_get before.logs number

module _ (before : Keeping) (table : TableId) (numbers : List ℕ) (named : numbers ≡ written_from 0 before.logs) (so_far : ℕ) (lents : List LentView) (logs : List Log)
    (are : AreTaken before table numbers so_far lents logs) (number : ℕ) (is : slice_get numbers so_far ≡ Some number) where
  named_at : (i n : ℕ) → slice_get numbers i ≡ Some n → slice_get (written_from 0 before.logs) i ≡ Some n
  named_at i n at = ap (λ (l : List ℕ). slice_get l i) (sym named) ∙ at

  -- the next log is as it was
  pub untaken : slice_get logs number ≡ slice_get before.logs number
  untaken = are.others number (λ i below at. absurd (let rises = written_rise 0 before.logs i so_far number number (named_at i number at) (named_at so_far number is) below in omega (arith, rises)))

  pub number_in : number < length before.logs
  number_in = let x = written_at 0 before.logs so_far number (named_at so_far number is) in omega (arith, x.number, within before.logs x.place x.log x.at)

  -- it is written
  pub is_written : (log : Log) → slice_get logs number ≡ Some log → (w : Writer) × (log.stage ≡ Writing w)
  is_written log at =
      let x = written_at 0 before.logs so_far number (named_at so_far number is) in
      let place : number ≡ x.place = omega (arith, x.number) in
      let same : log ≡ x.log = same_Some log x.log (sym at ∙ untaken ∙ ap (slice_get before.logs) place ∙ x.at) in
      (x.writer, ap (λ (l : Log). l.stage) same ∙ x.is)

  -- one more is lent
  pub one_taken : (lent : LentView) (gone : Log) → IsFresh before table numbers so_far lent → AreTaken before table numbers (suc so_far) (lents ++ lent ∷ []) (set logs number gone)
  one_taken lent gone new = record {
    many = omega (arith, length_push lents lent, are.many);
    fresh = λ i other found. ⊎_elim (λ (old : slice_get lents i ≡ Some other). are.fresh i other old)
        (λ (last : (i ≡ length lents) × (lent ≡ other)). subst (λ (z : ℕ × LentView). IsFresh before table numbers z.0 z.1) (λ j. (sym (last.0 ∙ are.many) j, last.1 j)) new) (get_push lents lent i other found);
    same = length-set logs number gone ∙ are.same;
    others = λ other not. get_set_else logs number other gone (λ same. not so_far (omega arith) (is ∙ ap (λ (n : ℕ). Some n) (sym same))) ∙ are.others other (λ i below. not i (omega (arith, below)));
  }

-- the numbers of fresh logs
pub fresh_numbers : (before : Keeping) (table : TableId) (numbers : List ℕ) (lents : List LentView) → length lents ≡ length numbers
    → ((i : ℕ) (lent : LentView) → slice_get lents i ≡ Some lent → IsFresh before table numbers i lent) → map (λ (l : LentView). l.number) lents ≡ numbers
fresh_numbers before table numbers lents many fresh = numbers_are numbers lents (record { whole = many; placed = λ i lent at. let f = fresh i lent at in (f.place, f.number) })

-- nothing was done with a fresh log
pub nothing_done : (before : Keeping) (table : TableId) (numbers : List ℕ) (i : ℕ) (lent : LentView) → IsFresh before table numbers i lent → HasDone before lent []
nothing_done before table numbers i lent is = record {
  start = lent.writer;
  was = is.was;
  works = subst (λ (acts : List Act). Works (length before.logs) lent.number (resting lent.writer) [] acts (resting lent.writer)) (sym is.acts) refl;
  few = omega (arith, is.left);
}
