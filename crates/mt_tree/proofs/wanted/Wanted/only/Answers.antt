use Rattle.std.proofs.Common.{◌≡◌, ℕ, zero, suc, false, replicate, refl}
use Rattle.mt_words.specs.declared.limits.TheConstants.{MOST_COLUMNS}
use Rattle.mt_tree.specs.Range.{wants}
use Rattle.mt_tree.proofs.wanted.Wanted.only.Goals as goal

none : (count number : ℕ) → wants (replicate count false) number ≡ false
none zero number = refl
none (suc count) zero = refl
none (suc count) (suc number) = none count number

pub loop-number-init : goal.loop-number-init
loop-number-init c = record { room = refl; accepted = tt; value = λ number. none MOST_COLUMNS number }
