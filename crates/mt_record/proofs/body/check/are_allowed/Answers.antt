use Rattle.std.proofs.Common.{List, ℕ, length, ◌<◌, sym, ap, subst}
use Rattle.std.proofs.lemmas.Bool.{false≢true}
use Rattle.mt_words.specs.declared.limits.Limits.{Limits}
use Rattle.mt_words.specs.Limits.{limits_of}
use Rattle.mt_words.specs.Words.{AreNumbers}
use Rattle.mt_words.proofs.Formats.{some_numbers_within}
use Rattle.mt_record.proofs.body.check.are_allowed.Goals as goal

pub returns-in-Some : goal.returns-in-Some
returns-in-Some c =
    let limits = limits_of c.args.format in
    let is = c.are_up_to.ensures limits (ap (λ (l : Limits). l.column) (sym c.limits.ensures)) in (
      λ t. subst (λ (numbers : List ℕ). AreNumbers limits numbers × (0 < length numbers)) c.in-Some.ensures.value (is.0 t),
      λ are. is.1 (subst (λ (numbers : List ℕ). AreNumbers limits numbers × (0 < length numbers)) (sym c.in-Some.ensures.value) are),
    )

pub returns-in-None : goal.returns-in-None
returns-in-None c = (λ t. absurd (false≢true t), λ are. c.in-None.ensures.accepted.1 (some_numbers_within c.args.format c.args.numbers.now are.0, are.1))
