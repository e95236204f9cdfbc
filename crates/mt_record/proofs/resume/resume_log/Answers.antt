use Rattle.std.proofs.Common.{◌≡◌, ◌∙◌, ◌++◌, inl, inr, List, ℕ, sym, ap, subst}
use Rattle.std.proofs.lemmas.Bool.{false≢true}
use Rattle.std.proofs.lemmas.List.{append-nil}
use Rattle.std.proofs.lemmas.Result.{IfOk-weaker, err_from_is_err_and}
use Rattle.mt_record.specs.declared.open.FileEnd.TheVariants.{Damaged}
use Rattle.mt_record.specs.Opening.{IsSealed, text_head, joined}
use Rattle.mt_record.specs.Logs.{LogReading, IsReading}
use Rattle.mt_record.specs.Resuming.{IsSealedAgain}
use Rattle.mt_record.specs.Runs.{HasSmallBlocks}
use Rattle.mt_record.specs.LogFaults.{IsTextFault}
use Rattle.mt_record.proofs.FileFeeds.{text_is_head}
use Rattle.mt_record.proofs.SealedLogs.{sealed_fault, opened_text, text_of_file, resumed_fits, sealed_again}
use Rattle.mt_record.proofs.resume.resume_log.Goals as goal

pub returns-in_default-clause-changed : goal.returns-in_default-clause-changed
returns-in_default-clause-changed c =
    let plain : IsSealed c.args.bytes.now → ⊥ = rw c.in_default.is at c.in_ok-opened.ensures.opened in
    IfOk-weaker c.resume_text.result _ _
    (λ new told. (λ t. inr (told.0 t), λ either. elim either [ inl sealed ↦ absurd (plain sealed) | inr differs ↦ told.1 differs ]))
    c.resume_text.ensures.changed

pub returns-in_default-clause-small : goal.returns-in_default-clause-small
returns-in_default-clause-small c =
    let plain : IsSealed c.args.bytes.now → ⊥ = rw c.in_default.is at c.in_ok-opened.ensures.opened in
    IfOk-weaker c.resume_text.result _ _ (λ new told sealed. absurd (plain sealed)) c.resume_text.ensures.log

pub returns-in_err-text-clause-fault : goal.returns-in_err-text-clause-fault
returns-in_err-text-clause-fault c =
    let p = err_from_is_err_and c.from_residual-in_err-text.result c.from_residual-in_err-text.ensures.1 in
    let fault = c.in_err-text.field-0.0 in
    let opened = c.in-Some.opened in
    let is = rw c.in-Some.is at c.in_ok-opened.ensures.opened in
    rw (p.1, p.2) (λ other. sealed_fault c.args.bytes.now opened.header is.bodies is.rest fault is.begins
    (subst (λ (text : List ℕ). IsTextFault text fault) (c.deref.ensures.value ∙ is.is_text) (c.in_err-text.ensures.fault other)))

pub seal_log-requires-clause-header : goal.seal_log-requires-clause-header
seal_log-requires-clause-header c =
    let header = c.in-Some.opened.header in
    let is = rw c.in-Some.is at c.in_ok-opened.ensures.opened in
    resumed_fits c.args.cutoff c.args.salt c.args.workers header (record header { salt = c.args.salt; workers = c.args.workers; from = c.min-from.result }) is.begins.is_header c.ranges.cutoff.fits c.ranges.salt.fits c.ranges.workers.fits
    (λ i. record header { salt = c.args.salt; workers = c.args.workers; from = c.min-from.ensures i })

pub returns-clause-log : goal.returns-clause-log
returns-clause-log c =
    let bytes = c.args.bytes.now in
    let opened = c.in-Some.opened in
    let header = opened.header in
    let new = c.in_ok-text.text in
    let file = c.in_ok-seal_log.field-0.items in
    let is = rw c.in-Some.is at c.in_ok-opened.ensures.opened in
    let sealed = c.in_ok-seal_log.ensures in
    let whole = λ (e : opened.end ≡ Damaged). false≢true (sym c.if-eq.false ∙ (rw e at c.eq.ensures)) in
    let begins = c.in_ok-text.ensures.header (text_head header) (joined is.bodies) (text_is_head header is.begins.is_header) (c.deref.ensures.value ∙ is.is_text) in
    let again = sealed_again bytes opened c.args.cutoff c.args.salt c.args.workers c.deref.result.now new.front.items new.records.now new.marks.items file (record header { salt = c.args.salt; workers = c.args.workers; from = c.min-from.result }) sealed.0 is whole
    c.deref.ensures.value c.in_ok-text.ensures.log begins (λ i. record header { salt = c.args.salt; workers = c.args.workers; from = c.min-from.ensures i }) sealed.1
    (sealed.2 ∙ ap (λ (l : List ℕ). new.records.now ++ l) c.deref-2.ensures.value) in
    inr (subst (λ (l : List ℕ). IsSealedAgain c.args.cutoff c.args.salt c.args.workers bytes l) (sym (append-nil file) ∙ ap (λ (l : List ℕ). file ++ l) (sym c.new.ensures.items)) again)

pub returns-clause-small : goal.returns-clause-small
returns-clause-small c sealed =
    let file = c.in_ok-seal_log.field-0.items in
    let made = c.in_ok-seal_log.ensures in
    subst HasSmallBlocks (sym (append-nil file) ∙ ap (λ (l : List ℕ). file ++ l) (sym c.new.ensures.items))
    (record { header = record c.in-Some.opened.header { salt = c.args.salt; workers = c.args.workers; from = c.min-from.result }; bodies = made.0; is_file = made.1; are_small = made.3 })

pub returns-clause-dropped : goal.returns-clause-dropped
returns-clause-dropped c log reading =
    let opened = c.in-Some.opened in
    let is = rw c.in-Some.is at c.in_ok-opened.ensures.opened in
    let whole = λ (e : opened.end ≡ Damaged). false≢true (sym c.if-eq.false ∙ (rw e at c.eq.ensures)) in
    let said = text_of_file c.args.bytes.now opened.text.items _ log (opened_text c.args.bytes.now opened is whole) reading in
    let text : LogReading = record log { torn = said.0 } in
    c.in_ok-text.ensures.dropped text (subst (λ (l : List ℕ). IsReading l text) (sym c.deref.ensures.value) said.1)

pub returns-clause-late_marks : goal.returns-clause-late_marks
returns-clause-late_marks c log reading =
    let opened = c.in-Some.opened in
    let is = rw c.in-Some.is at c.in_ok-opened.ensures.opened in
    let whole = λ (e : opened.end ≡ Damaged). false≢true (sym c.if-eq.false ∙ (rw e at c.eq.ensures)) in
    let said = text_of_file c.args.bytes.now opened.text.items _ log (opened_text c.args.bytes.now opened is whole) reading in
    let text : LogReading = record log { torn = said.0 } in
    c.in_ok-text.ensures.late_marks text (subst (λ (l : List ℕ). IsReading l text) (sym c.deref.ensures.value) said.1)

pub returns-clause-ended : goal.returns-clause-ended
returns-clause-ended c log reading =
    let opened = c.in-Some.opened in
    let is = rw c.in-Some.is at c.in_ok-opened.ensures.opened in
    let whole = λ (e : opened.end ≡ Damaged). false≢true (sym c.if-eq.false ∙ (rw e at c.eq.ensures)) in
    let said = text_of_file c.args.bytes.now opened.text.items _ log (opened_text c.args.bytes.now opened is whole) reading in
    let text : LogReading = record log { torn = said.0 } in
    c.in_ok-text.ensures.ended text (subst (λ (l : List ℕ). IsReading l text) (sym c.deref.ensures.value) said.1)
