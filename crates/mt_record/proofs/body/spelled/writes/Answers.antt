use Rattle.mt_record.specs.Decoding.{code_in, carried_in}
use Rattle.mt_record.proofs.Decodes.{carried_is, carried_writes}
use Rattle.mt_record.proofs.body.spelled.writes.Goals as goal

pub of_carried-requires : goal.of_carried-requires
of_carried-requires c = rw (c.change.ensures.carried, c.payload.ensures, c.code.ensures) (carried_is c.args.body.now c.requires)

pub returns : goal.returns
returns c = rw (c.of_carried.ensures, c.change.ensures.carried, c.payload.ensures, c.code.ensures) (carried_writes (code_in c.args.body.now) (carried_in c.args.body.now))
