-- The writers of the files of logs, and new files.
use Rattle.std.proofs.Common.{◌≡◌, ℕ, zero, suc, Some, List, [], ◌∷◌, slice_set, refl, sym, ap, ◌∙◌}
use Rattle.std.specs.Prelude.{slice_get}
use Rattle.std.proofs.lemmas.Option.{none-some, same_Some}
use Rattle.mt_writer.specs.Journals.{Writer, NewFile}
use Rattle.mt_keeper.specs.declared.keeper.Stage.{Stage}
use Rattle.mt_keeper.specs.declared.keeper.Stage.TheVariants.{Coming, Writing}
use Rattle.mt_keeper.specs.declared.keeper.Log.{Log}
use Rattle.mt_keeper.specs.Keeping.{Keeping}
use Rattle.mt_keeper.specs.Refusals.{IsAt}

-- a log that was put there is there
pub set_there : (logs : List Log) (number : ℕ) (x y : Log) → slice_get logs number ≡ Some x → slice_get (slice_set logs number y) number ≡ Some y
set_there [] number x y is = absurd (none-some x is)
set_there (l ∷ ls) zero x y is = refl
set_there (l ∷ ls) (suc number) x y is = set_there ls number x y is

writer_or : Writer → Stage → Writer
writer_or other (Writing w) = w
writer_or other stage = other

-- a log has one writer
pub same_writer : (inside keeper : Keeping) (number : ℕ) (x : Log) (w v : Writer) → inside ≡ keeper → slice_get inside.logs number ≡ Some x → x.stage ≡ Writing w
    → IsAt keeper number (Writing v) → w ≡ v
unfolding writer_or
same_writer inside keeper number x w v is stands stage at =
    let there = sym at.stands ∙ sym (ap (λ (k : Keeping). slice_get k.logs number) is) ∙ stands in
    ap (writer_or w) (sym stage ∙ ap (λ (log : Log). log.stage) (sym (same_Some at.log x there)) ∙ at.is)

new_or : NewFile → Stage → NewFile
new_or other (Coming n) = n
new_or other stage = other

-- a log is one new file
pub same_new : (inside keeper : Keeping) (number : ℕ) (x : Log) (n m : NewFile) → inside ≡ keeper → slice_get inside.logs number ≡ Some x → x.stage ≡ Coming n
    → IsAt keeper number (Coming m) → n ≡ m
unfolding new_or
same_new inside keeper number x n m is stands stage at =
    let there = sym at.stands ∙ sym (ap (λ (k : Keeping). slice_get k.logs number) is) ∙ stands in
    ap (new_or n) (sym stage ∙ ap (λ (log : Log). log.stage) (sym (same_Some at.log x there)) ∙ at.is)
