use Rattle.std.proofs.Common.{refl, sym, ◌∙◌, ◌<◌, length, inr}
use Rattle.std.proofs.lemmas.Bool.{false≢true}
use Rattle.std.proofs.lemmas.Bool.Decides.{Decides-eqb}
use Rattle.std.proofs.lemmas.Slice.Eq.{starts_is}
use Rattle.std.specs.Prelude.{codes}
use Rattle.mt_record.proofs.Tellings.{told_nothing, tells_plain}
use Rattle.mt_record.proofs.feed.file_feed.told_by.Goals as goal

pub returns-then-starts_with-clause-told : goal.returns-then-starts_with-clause-told
returns-then-starts_with-clause-told c =
    let starts = starts_is Decides-eqb (codes "MTL4") c.args.held.now c.starts_with.result c.starts_with.ensures.value in
    told_nothing c.args.held.now _ (starts.0 c.if-starts_with.true) (rw c.if-not-is_sealed.true at c.is_sealed.ensures)

pub returns-then-not-is_sealed-clause-told : goal.returns-then-not-is_sealed-clause-told
returns-then-not-is_sealed-clause-told c =
    let starts = starts_is Decides-eqb (codes "MTL4") c.args.held.now c.starts_with.result c.starts_with.ensures.value in
    (tells_plain c.args.held.now (rw c.if-not-is_sealed.true at c.is_sealed.ensures) (λ more e. false≢true (sym c.if-starts_with.false ∙ starts.1 more e)), refl)

pub returns-then-held-lt-FILE_HEADER_BYTES-clause-told : goal.returns-then-held-lt-FILE_HEADER_BYTES-clause-told
returns-then-held-lt-FILE_HEADER_BYTES-clause-told c =
    let few : length c.args.held.now < 44 = c.if-held-lt-FILE_HEADER_BYTES.true in
    (inr (rw c.if-not-is_sealed.false at c.is_sealed.ensures, few), few)

pub returns-in-Some-clause-told : goal.returns-in-Some-clause-told
returns-in-Some-clause-told c = (c.in-Some.ensures.found.0, (c.in-Some.field-0-1.now, c.in-Some.ensures.found.1), refl)

pub returns-in-None-clause-fault : goal.returns-in-None-clause-fault
returns-in-None-clause-fault c = (refl, (rw c.if-not-is_sealed.false at c.is_sealed.ensures, c.if-held-lt-FILE_HEADER_BYTES.false, c.in-None.ensures.none))
