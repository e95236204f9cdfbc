use Rattle.std.proofs.Common.{◌≡◌, Some, refl}
use Rattle.mt_c.specs.declared.held.Held.TheVariants as held
use Rattle.mt_c.proofs.crewing.mtr_crew_join.Goals as goal

pub join-requires-clause-own : goal.join-requires-clause-own
join-requires-clause-own c =
    let value = c.in-Some.ensures.value in
    let kind = c.in-Loan.is in
    let taken = c.in-Some-take_awaited.ensures.taken.0 in
    let loan : c.args.crew.now.handle.value ≡ Some (held.Loan c.in-Loan.lending) = cc in
    let worker : c.args.worker.now.handle.value ≡ Some (held.Borrower c.in-Some-take_awaited.back) = cc in
    c.requires c.in-Loan.lending c.in-Some-take_awaited.back (rw loan refl) (rw worker refl)
