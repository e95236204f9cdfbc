use Rattle.std.proofs.Common.{◌↔◌, inl, inr, ap, sym, arith, IsTrue}
use Rattle.mt_words.specs.declared.limits.Limits.{Limits}
use Rattle.mt_words.specs.Limits.{limits_of}
use Rattle.mt_words.specs.Changes.{AllowsKind}
use Rattle.mt_words.proofs.update.Kind.fits.Goals as goal

pub returns-then-limits-byte : goal.returns-then-limits-byte
returns-then-limits-byte c =
    let limits = limits_of c.args.format in
    let column = ap (λ (l : Limits). l.column) (sym c.limits-limits.ensures) in
    let kind = ap (λ (l : Limits). l.kind) c.limits-limits.ensures in
    let fit = c.are_up_to.ensures limits column in
    rw c.in-Erase.is (
      λ t. let f = fit.0 t in (omega (arith, c.if-limits-byte.true, kind), f.0, f.1),
      λ h. fit.1 (h.1, h.2),
    )

pub returns-in-Put : goal.returns-in-Put
returns-in-Put c =
    let limits = limits_of c.args.format in
    let column = ap (λ (l : Limits). l.column) (sym c.limits-limits.ensures) in
    let fit = c.are_some_up_to.ensures limits column in
    elim c.in-Put.is as (λ _. IsTrue c.are_some_up_to.result ↔ AllowsKind limits c.args.self.now) [
      | inl put ↦ rw put fit
      | inr whole ↦ rw whole fit
    ]
