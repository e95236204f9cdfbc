use Rattle.std.proofs.Common.{◌∙◌}
use Rattle.std.proofs.lemmas.Option.{slice_get-get_or}
use Rattle.mt_keeper.proofs.Lending.{fresh_numbers, nothing_done}
use Rattle.mt_keeper.proofs.keeper.Keeper.lend.Goals as goal

pub returns-in-Ok-clause-logs : goal.returns-in-Ok-clause-logs
returns-in-Ok-clause-logs c = fresh_numbers c.args.self c.part.result.0.table c.in-Ok.dealt.numbers.items c.part.result.1.items c.part.ensures.many c.part.ensures.fresh ∙ c.in-Ok.ensures.made.named

pub returns-in-Ok-clause-fresh : goal.returns-in-Ok-clause-fresh
returns-in-Ok-clause-fresh c = λ k d near.
    let f = c.part.ensures.fresh k _ (slice_get-get_or c.part.result.1.items k d near) in
    (f.table_is, nothing_done c.args.self c.part.result.0.table c.in-Ok.dealt.numbers.items k _ f)
