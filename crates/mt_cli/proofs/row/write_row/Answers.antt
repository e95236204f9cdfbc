use Rattle.std.proofs.Common.{◌≡◌, ◌+◌, ◌<◌, length, get_or, refl, sym, ap, subst, ◌∙◌, true, false, Bool, Option, Some, None, List, [], ◌∷◌, ℕ, zero, suc, arith}
use Rattle.std.specs.Prelude.{All}
use Rattle.std.specs.Io.KnownBytes.{Appends}
use Rattle.std.proofs.lemmas.List.Elements.{All-get_or}
use Rattle.mt_cli.specs.Rows.{Field, IsTold, is_there, field_text}
use Rattle.mt_cli.specs.declared.row.Cell.{Cell}
use Rattle.mt_cli.specs.declared.row.Cell.TheVariants as cells
use Rattle.mt_cli.proofs.RowLemmas.{IsRowSoFar, one_more, no_more}
use Rattle.mt_cli.proofs.row.write_row.Goals as goal
use Rattle.mt_cli.proofs.row.write_row.Goals.{in-Number+in-Some+in_ok-number-in-Number, in-Number+in_default, in-Value+in_ok-value-in-Value, in-Word+in_ok-word-in-Word, in-What+in_ok-word-in-What, in-Name+in_ok-text-in-Name, in-Format+in-Some-head+in_ok-format-in-Format, in-Format+in_default-head, in-Reason+in-Some-reason+in_ok-word-in-Reason, in-Reason+in_default-reason, in-Failure+in_ok-word-in-Failure}

-- at a place of the list no default counts
same_at : (row : List Field) (i : ℕ) (d e : Field) → i < length row → get_or row i d ≡ get_or row i e
same_at [] i d e less = absurd (omega (arith, less))
same_at (field ∷ fields) zero d e less = refl
same_at (field ∷ fields) (suc i) d e less = same_at fields i d e (omega (arith, less))

-- the row's next value is printed
printed : (is_json form is_first : Bool) (row : List Field) (i : ℕ) (d : Field) (cell : Cell) (a b c : Option (List ℕ)) → i < length row → form ≡ is_json → (get_or row i d).1 ≡ cell → is_there ((get_or row i d).0, cell) ≡ true
    → IsRowSoFar is_json is_first row i a b → Appends b c (field_text form is_first ((get_or row i d).0, cell)) → IsRowSoFar is_json false row (i + 1) a c
printed is_json form is_first row i d cell a b c less same is has front more =
    let field = get_or row i d in
    one_more is_json is_first row i field a b c less (same_at row i d field less) (subst (λ z. is_there (field.0, z) ≡ true) (sym is) has) front
    (λ told. subst (λ z. Appends b c (field_text is_json is_first (field.0, z))) (sym is) (subst (λ z. Appends b c (field_text z is_first (field.0, cell))) same more))

-- the line does not have the row's next value
absent : (is_json is_first : Bool) (row : List Field) (i : ℕ) (d : Field) (cell : Cell) (a b : Option (List ℕ)) → i < length row → (get_or row i d).1 ≡ cell → is_there ((get_or row i d).0, cell) ≡ false
    → IsRowSoFar is_json is_first row i a b → IsRowSoFar is_json is_first row (i + 1) a b
absent is_json is_first row i d cell a b less is lacks front =
    let field = get_or row i d in
    no_more is_json is_first row i field a b less (same_at row i d field less) (subst (λ z. is_there (field.0, z) ≡ false) (sym is) lacks) front

-- the next value of a row whose values are told is told
told_at : (row : List Field) (i : ℕ) (d : Field) (cell : Cell) → i < length row → (get_or row i d).1 ≡ cell → All IsTold row → IsTold ((get_or row i d).0, cell)
told_at row i d cell less is told = let field = get_or row i d in subst (λ z. IsTold (field.0, z)) is (All-get_or IsTold row i d less told)

pub loop-name-preserved : goal.loop-name-preserved
loop-name-preserved g c =
    let contents = g.W.Write.contents in
    let row = c.args.row.now in
    let i = c.loop-name.name-index in
    let less = c.loop-name-test.true in
    let front = c.loop-name.invariant in
    let json = c.args.is_json in
    let form = c.loop-name.line.is_json in
    let first = c.loop-name.line.is_first in
    let old = contents c.args.out.now in
    let was = contents c.loop-name.line.out.now in
    let none : Field = (record { ref_ptr = (0, 0); now = [] }, cells.Number None) in
    elim c.match-cell.branch [
      | in-Number+in-Some+in_ok-number-in-Number w ↦ let e = w.in_ok-number-in-Number.ensures in record {
        same = λ told. rw w.line-is (e.line.0 ∙ front.same told);
        is_json = λ told. rw w.line-is (e.line.1 ∙ front.is_json told);
        so_far = λ told. rw w.line-is (rw e.line.2 (printed json form first row i none (cells.Number (Some w.in-Some.number)) old was _ less (front.is_json told) (w.in-Number.is ∙ ap (λ z. cells.Number z) w.in-Some.is) refl (front.so_far told) e.number));
      }
      | in-Number+in_default w ↦ record {
        same = λ told. rw w.line-is (front.same told);
        is_json = λ told. rw w.line-is (front.is_json told);
        so_far = λ told. rw w.line-is (absent json first row i none (cells.Number None) old was less (w.in-Number.is ∙ ap (λ z. cells.Number z) w.in_default.is) refl (front.so_far told));
      }
      | in-Value+in_ok-value-in-Value w ↦ let e = w.in_ok-value-in-Value.ensures in record {
        same = λ told. rw w.line-is (e.line.0 ∙ front.same told);
        is_json = λ told. rw w.line-is (e.line.1 ∙ front.is_json told);
        so_far = λ told. rw w.line-is (rw e.line.2 (printed json form first row i none (cells.Value w.in-Value.value) old was _ less (front.is_json told) w.in-Value.is refl (front.so_far told) e.value));
      }
      | in-Word+in_ok-word-in-Word w ↦ let e = w.in_ok-word-in-Word.ensures in record {
        same = λ told. rw w.line-is (e.line.0 ∙ front.same told);
        is_json = λ told. rw w.line-is (e.line.1 ∙ front.is_json told);
        so_far = λ told. rw w.line-is (rw e.line.2 (printed json form first row i none (cells.Word w.in-Word.word) old was _ less (front.is_json told) w.in-Word.is refl (front.so_far told) e.word));
      }
      | in-What+in_ok-word-in-What w ↦ let un = told_at row i _ _ less w.in-What.is in record { same = λ told. absurd (un told); is_json = λ told. absurd (un told); so_far = λ told. absurd (un told) }
      | in-Name+in_ok-text-in-Name w ↦ let e = w.in_ok-text-in-Name.ensures in record {
        same = λ told. rw w.line-is (e.line.0 ∙ front.same told);
        is_json = λ told. rw w.line-is (e.line.1 ∙ front.is_json told);
        so_far = λ told. rw w.line-is (rw e.line.2 (printed json form first row i none (cells.Name w.in-Name.text) old was _ less (front.is_json told) w.in-Name.is refl (front.so_far told) e.text));
      }
      | in-Format+in-Some-head+in_ok-format-in-Format w ↦ let e = w.in_ok-format-in-Format.ensures in record {
        same = λ told. rw w.line-is (e.line.0 ∙ front.same told);
        is_json = λ told. rw w.line-is (e.line.1 ∙ front.is_json told);
        so_far = λ told. rw w.line-is (rw e.line.2 (printed json form first row i none (cells.Format (Some w.in-Some-head.head)) old was _ less (front.is_json told) (w.in-Format.is ∙ ap (λ z. cells.Format z) w.in-Some-head.is) refl (front.so_far told) e.format));
      }
      | in-Format+in_default-head w ↦ record {
        same = λ told. rw w.line-is (front.same told);
        is_json = λ told. rw w.line-is (front.is_json told);
        so_far = λ told. rw w.line-is (absent json first row i none (cells.Format None) old was less (w.in-Format.is ∙ ap (λ z. cells.Format z) w.in_default-head.is) refl (front.so_far told));
      }
      | in-Reason+in-Some-reason+in_ok-word-in-Reason w ↦ let un = told_at row i _ (cells.Reason (Some w.in-Some-reason.reason)) less (w.in-Reason.is ∙ ap (λ z. cells.Reason z) w.in-Some-reason.is) in record { same = λ told. absurd (un told); is_json = λ told. absurd (un told); so_far = λ told. absurd (un told) }
      | in-Reason+in_default-reason w ↦ record {
        same = λ told. rw w.line-is (front.same told);
        is_json = λ told. rw w.line-is (front.is_json told);
        so_far = λ told. rw w.line-is (absent json first row i none (cells.Reason None) old was less (w.in-Reason.is ∙ ap (λ z. cells.Reason z) w.in_default-reason.is) refl (front.so_far told));
      }
      | in-Failure+in_ok-word-in-Failure w ↦ let un = told_at row i _ _ less w.in-Failure.is in record { same = λ told. absurd (un told); is_json = λ told. absurd (un told); so_far = λ told. absurd (un told) }
    ]
