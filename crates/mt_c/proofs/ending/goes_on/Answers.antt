use Rattle.std.proofs.Common.{◌≡◌, ◌∙◌, ◌==◌, ℕ, length, subst, ap, arith}
use Rattle.mt_words.specs.declared.limits.Format.{Format}
use Rattle.mt_words.specs.Limits.{limits_of}
use Rattle.mt_record.specs.declared.front.LogFront.{LogFront}
use Rattle.mt_record.specs.declared.salvage.Items.TheVariants.{Records}
use Rattle.mt_record.specs.Salvage.{AreFound}
use Rattle.mt_c.proofs.Ends.{goes_on_if}
use Rattle.mt_c.proofs.ending.goes_on.Goals as goal

pub returns : goal.returns
returns c = λ reading is same.
    let rest = c.rest_of-rest.result.now in
    let found = c.in_ok-found.found in
    let size : found.len ≡ length found.items = omega (arith, found.ok.0, found.ok.1) in
    let are = subst (λ (format : Format). AreFound Records (limits_of format) rest found.items) (ap (λ (front : LogFront). front.head.format) same) c.in_ok-found.ensures in
    goes_on_if c.args.log.now reading rest found.items c.is_empty.result (rw c.if-is_sealed.false at c.is_sealed.ensures) (c.rest_of-rest.ensures reading is same) are
    (c.is_empty.ensures ∙ ap (λ (n : ℕ). n == 0) size)
