use Rattle.std.proofs.Common.{◌∷◌}
use Rattle.std.proofs.lemmas.Bool.Decides.{Decides-eqb}
use Rattle.std.proofs.lemmas.Slice.Eq.{strip_prefix_is}
use Rattle.mt_words.specs.Limits.{limits_of}
use Rattle.mt_record.proofs.Beginnings.{letters_begin, behind_digit}
use Rattle.mt_record.proofs.feed.magic.format_at.Goals as goal

pub returns-in_err-strip_prefix-clause-none : goal.returns-in_err-strip_prefix-clause-none
returns-in_err-strip_prefix-clause-none c =
    let strips = strip_prefix_is Decides-eqb c.args.bytes.now c.args.letters.now c.strip_prefix.result c.strip_prefix.ensures.cases in
    let none = rw c.in_err-strip_prefix.was at strips in
    rw c.from_residual.ensures (λ format more e. none ((limits_of format).digit ∷ more) (letters_begin c.args.letters.now c.args.bytes.now more format e))

pub returns-clause-found : goal.returns-clause-found
returns-clause-found c =
    let strips = strip_prefix_is Decides-eqb c.args.bytes.now c.args.letters.now c.strip_prefix.result c.strip_prefix.ensures.cases in
    let behind = rw c.in_ok-strip_prefix.was at strips in
    behind_digit c.args.letters.now c.args.bytes.now c.in_ok-strip_prefix.field-0.now c.in_ok-digit.rest.now c.in_ok-digit.digit.now c.in_ok-of_digit.field-0
    behind c.in_ok-digit.ensures.cases.0 c.in_ok-of_digit.ensures.found
