use Rattle.std.proofs.Common.{◌∙◌, sym, ap, arith}
use Rattle.std.proofs.lemmas.Bool.{false≢true}
use Rattle.mt_words.specs.declared.limits.Limits.{Limits}
use Rattle.mt_words.specs.Limits.{limits_of}
use Rattle.mt_words.specs.Codes.{byte_of}
use Rattle.mt_words.specs.Words.{IsKey}
use Rattle.mt_record.specs.LogFaults.{HasVersionFault, HasKeyFault, HasColumnsFault}
use Rattle.mt_record.proofs.Changes.{of_change, no_change}
use Rattle.mt_record.proofs.Checked.{lawful_change}
use Rattle.mt_record.proofs.body.check.check_change.Goals as goal

pub returns-in_default-judge_kind-clause-fault : goal.returns-in_default-judge_kind-clause-fault
returns-in_default-judge_kind-clause-fault c = no_change (byte_of c.args.code) c.args.bytes.now c.in-Some.fields c.in-Some.ensures.found c.in_default-judge_kind.ensures.none

pub returns-then-fields-eq0-clause-fault : goal.returns-then-fields-eq0-clause-fault
returns-then-fields-eq0-clause-fault c =
    let judged = c.in-Some-judge_kind.ensures.found in
    of_change (byte_of c.args.code) _ c.in-Some.fields HasVersionFault c.in-Some.ensures.found judged.kind judged.is_kind c.if-fields-eq0.true

pub returns-then-fields-limits-clause-fault : goal.returns-then-fields-limits-clause-fault
returns-then-fields-limits-clause-fault c =
    let judged = c.in-Some-judge_kind.ensures.found in
    of_change (byte_of c.args.code) _ c.in-Some.fields (HasKeyFault (limits_of c.args.format)) c.in-Some.ensures.found judged.kind judged.is_kind
    (omega arith, λ key. omega (arith, key, c.if-fields-limits.true, ap (λ (l : Limits). l.key) c.limits.ensures))

pub returns-then-not-allowed-clause-fault : goal.returns-then-not-allowed-clause-fault
returns-then-not-allowed-clause-fault c =
    let judged = c.in-Some-judge_kind.ensures.found in
    let key : IsKey (limits_of c.args.format) c.in-Some.fields.key.now = omega (arith, c.if-fields-limits.false, ap (λ (l : Limits). l.key) c.limits.ensures) in
    of_change (byte_of c.args.code) _ c.in-Some.fields (HasColumnsFault (limits_of c.args.format)) c.in-Some.ensures.found judged.kind judged.is_kind
    (record { version = omega arith; key = key; refused = λ allows. false≢true (sym c.if-not-allowed.true ∙ judged.judged.1 allows) })

pub returns-clause-found : goal.returns-clause-found
returns-clause-found c =
    let judged = c.in-Some-judge_kind.ensures.found in
    lawful_change (limits_of c.args.format) (byte_of c.args.code) _ c.in-Some.fields c.in-Some.ensures.found (omega arith) (omega (arith, c.if-fields-limits.false, ap (λ (l : Limits). l.key) c.limits.ensures)) judged.kind judged.is_kind (judged.judged.0 c.if-not-allowed.false)
