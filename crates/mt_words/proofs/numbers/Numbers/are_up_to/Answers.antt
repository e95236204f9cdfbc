use Rattle.std.proofs.Common.{◌≡◌, ◌-◌, suc, length, get_or, ◌∙◌, sym, subst, arith}
use Rattle.std.proofs.lemmas.Bool.{leb-true, le-leb}
use Rattle.mt_words.specs.Limits.{widest}
use Rattle.mt_words.specs.Words.{AreNumbers}
use Rattle.mt_words.proofs.Rising.{above_last, below_at, up_to, below_next}
use Rattle.mt_words.proofs.numbers.Numbers.are_up_to.Goals as goal

pub returns-in-Some : goal.returns-in-Some
returns-in-Some c = λ limits most.
    let numbers = c.as_slice.result.now in
    let same : numbers ≡ c.args.self.now = c.as_slice.ensures.value ∙ c.self.view_is in
    let are : AreNumbers widest numbers = subst (AreNumbers widest) (sym c.as_slice.ensures.value) c.self.invariant.0 in
    let d = c.in-Some.last.now in
    let last = c.in-Some.ensures.item in
    let at : d ≡ get_or numbers (length numbers - 1) d = last.3.1 d in
    rw (sym same) (
      λ t. let le = leb-true _ _ t in
          let below = above_last 0 numbers (length numbers - 1) (suc limits.column) d are.1 (omega (arith, last.3.0)) (omega (arith, at, most, le)) in
          ((up_to limits.column numbers below, are.1), omega (arith, last.3.0)),
      λ h. let below = below_at numbers (length numbers - 1) (suc limits.column) d (omega (arith, last.3.0)) (below_next limits.column numbers h.0.0) in
          le-leb _ _ (omega (arith, at, most, below)),
    )
