use Rattle.mt_record.proofs.SealedLogs.{damaged_faulty, front_fault}
use Rattle.mt_record.proofs.resume.damage_of.Goals as goal

pub unreachable-requires : goal.unreachable-requires
unreachable-requires c =
    let is = c.in-Ok.ensures.front in
    let faulty = damaged_faulty c.args.bytes.now c.requires.0 is.0 c.in-Ok.front is.1 c.requires.1 in
    c.in_default.not-Faulty faulty.0 faulty.1

pub returns : goal.returns
returns c other =
    let is = c.in-Ok.ensures.front in
    front_fault c.args.bytes.now is.0 c.in-Ok.front c.in-Faulty.what is.1 c.in-Faulty.is
