use Rattle.mt_record.specs.declared.salvage.Found.{Found}
use Rattle.mt_record.proofs.Salvages.{first_found, none_found, end_found}
use Rattle.mt_record.proofs.salvage.next_found.Goals as goal

pub returns-in-Ok-Some-clause-some : goal.returns-in-Ok-Some-clause-some
returns-in-Ok-Some-clause-some c =
    let next = rw c.in-Ok-Some.field-0-is at c.in-Ok-Some.ensures.found in
    let found : Found = record { skipped = c.split_at.result.0; bytes = c.split_at-in-Ok-Some.result.0; timestamp = c.in-Ok-Some.timestamp } in
    first_found c.args.items c.args.format c.args.bytes.now c.split_at.result.1.now c.in-Ok-Some.after.now c.split_at-in-Ok-Some.result.1.now c.place_in.result found
    c.place_in.ensures.within c.place_in.ensures.nowhere c.place_in.ensures.starts next c.split_at.ensures.back c.split_at.ensures.front c.split_at-in-Ok-Some.ensures.front c.split_at-in-Ok-Some.ensures.back

pub returns-in-Ok-None-clause-none : goal.returns-in-Ok-None-clause-none
returns-in-Ok-None-clause-none c =
    let ends = rw c.in-Ok-None.field-0-is at c.in-Ok-None.ensures.found in
    end_found c.args.items c.args.format c.args.bytes.now c.split_at.result.1.now c.place_in.result c.place_in.ensures.within c.place_in.ensures.nowhere c.place_in.ensures.starts ends c.split_at.ensures.back

pub returns-in-Err-clause-none : goal.returns-in-Err-clause-none
returns-in-Err-clause-none c =
    none_found c.args.items c.args.format c.args.bytes.now c.split_at.result.1.now c.place_in.result c.place_in.ensures.within c.place_in.ensures.nowhere c.place_in.ensures.starts c.in-Err.ensures.fault.no_item c.split_at.ensures.back
