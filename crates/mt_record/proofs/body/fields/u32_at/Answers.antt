use Rattle.std.proofs.lemmas.List.{take_rest}
use Rattle.mt_record.proofs.Numbers.{four, number_front}
use Rattle.mt_record.proofs.body.fields.u32_at.Goals as goal

pub returns-clause-found : goal.returns-clause-found
returns-clause-found c =
    let behind = c.in_ok-rest.ensures.lookup.0 in
    let front = number_front 4 c.args.bytes.now four behind.0 (λ i. (c.type_inv.bytes i).fits) in
    rw (c.read_u32.ensures, behind.2, take_rest) (front.0, front.1)
