use Rattle.std.specs.Prelude.{Result, Ok, Err, OnErr}
use Rattle.mt_words.specs.Limits.{limits_of}
use Rattle.mt_record.specs.declared.salvage.Items.TheVariants.{Records, Entries}
use Rattle.mt_record.specs.Steps.Salvages.{IsFault}
use Rattle.mt_record.proofs.Salvages.{record_fault, entry_fault, record_next, entry_next}
use Rattle.mt_record.proofs.salvage.next_item.Goals as goal

on_err : {T E P : Type 0} (r : Result T E) → P → OnErr r P
on_err (Ok value) p = tt
on_err (Err error) p = p

pub returns-in_err-timestamp-in-Records-clause-fault : goal.returns-in_err-timestamp-in-Records-clause-fault
returns-in_err-timestamp-in-Records-clause-fault c =
    let fault = c.in_err-timestamp-in-Records in
    let shown : IsFault Records (limits_of c.args.format) c.args.bytes.now = record_fault c.args.format c.args.bytes.now fault.field-0.0 fault.ensures.fault in
    on_err c.from_residual.result (rw c.in-Records.is shown)

pub returns-in_err-after-in-Entries-clause-fault : goal.returns-in_err-after-in-Entries-clause-fault
returns-in_err-after-in-Entries-clause-fault c =
    let shown : IsFault Entries (limits_of c.args.format) c.args.bytes.now = entry_fault c.args.format c.args.bytes.now c.in_err-after-in-Entries.ensures.fault in
    on_err c.from_residual-in_err-after-in-Entries.result (rw c.in-Entries.is shown)

pub returns-in-Some-clause-found : goal.returns-in-Some-clause-found
returns-in-Some-clause-found c =
    let found = rw c.in-Some.is at c.in_ok-timestamp-in-Records.ensures.found in
    rw c.in-Records.is (record_next (limits_of c.args.format) c.args.bytes.now c.in-Some.timestamp c.in-Some.field-0-1.now c.in-Some.after.now found)

pub returns-in-Some-2-clause-found : goal.returns-in-Some-2-clause-found
returns-in-Some-2-clause-found c =
    let found = rw c.in-Some-2.is at c.in_ok-after-in-Entries.ensures.found in
    rw c.in-Entries.is (entry_next (limits_of c.args.format) c.args.bytes.now c.in-Some-2.field-0-0.now c.in-Some-2.after.now found)
