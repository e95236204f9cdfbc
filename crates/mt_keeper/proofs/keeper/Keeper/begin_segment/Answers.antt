use Rattle.std.proofs.Common.{◌≡◌, ◌+◌, ◌%◌, ◌^◌, inr, List, [], ◌∷◌, ◌++◌, length, slice_set, Some, sym, ap, ◌∙◌, subst, arith, length-set}
use Rattle.std.specs.Prelude.{slice_get}
use Rattle.std.proofs.lemmas.Slice.Zip.{AllZip-long}
use Rattle.mt_keeper.specs.declared.keeper.Log.{Log}
use Rattle.mt_keeper.specs.contracts.keeper.Keeper.{the_view}
use Rattle.mt_keeper.specs.Keeping.{Keeping, Holds, numbered, IsLogOf}
use Rattle.mt_keeper.specs.Calling.{StepsToNext}
use Rattle.mt_keeper.specs.Filing.{workers_created, next_salt}
use Rattle.mt_keeper.proofs.NewLogs.{begins_last}
use Rattle.mt_keeper.proofs.OneChanged.{reads}
use Rattle.mt_keeper.proofs.Following.{followed_by, not_followed}
use Rattle.mt_keeper.proofs.keeper.Keeper.begin_segment.Goals as goal

pub returns-in-Ok-clause-step : goal.returns-in-Ok-clause-step
returns-in-Ok-clause-step c = λ s stands holds.
    let k = the_view c.self.inside in
    let here = subst (λ (x : Keeping). Holds x s) (sym c.self.view_is) holds in
    let x = c.in-Some.log.now in
    let after = c.follow.new.self in
    let next = c.in-Ok.next in
    let at : slice_get k.logs c.args.log ≡ Some x =
    ap (λ (logs : List Log). slice_get logs c.args.log) (sym c.reserve.ensures.items) ∙ reads c.reserve.new.self.items c.args.log x c.in-Some.ensures.item.3.0 c.in-Some.ensures.value in
    let long = AllZip-long (IsLogOf k.clock) k.logs (numbered s) here.logs in (
      omega (arith, c.len-number.ensures, ap length c.reserve.ensures.items, long),
      subst (λ (logs : List Log). StepsToNext s c.args.log (record k { logs = logs; salt = (c.self.inside.salt + 1) % 2 ^ 64 }))
          (sym (c.push_reserved.ensures.items ∙ ap (λ (logs : List Log). slice_set logs c.args.log after ++ next ∷ []) c.reserve.ensures.items))
          (followed_by k s c.args.log ((c.self.inside.salt + 1) % 2 ^ 64) x after next stands here at c.in-Ok.ensures.ok),
    )

pub returns-in-Ok-clause-file : goal.returns-in-Ok-clause-file
returns-in-Ok-clause-file c =
    let k = the_view c.self.inside in
    let after = c.follow.new.self in
    let next = c.in-Ok.next in
    let begun = c.in-Ok.ensures.header in
    begins_last c.args.self.now _ (workers_created c.args.self.now.logs) _ (slice_set k.logs c.args.log after) next begun.0
    (c.push_reserved.ensures.items ∙ ap (λ (logs : List Log). slice_set logs c.args.log after ++ next ∷ []) c.reserve.ensures.items)
    (omega (arith, c.len-number.ensures, ap length c.reserve.ensures.items, length-set k.logs c.args.log after)) begun.1
    (begun.2 ∙ ap (λ (y : Keeping). y.salt) c.self.view_is)
    (omega (arith, begun.3, c.workers_created-workers.ensures, ap workers_created (c.deref.ensures.value ∙ c.reserve.ensures.items), ap (λ (y : Keeping). workers_created y.logs) c.self.view_is))
    (ap (λ (y : Keeping). next_salt y.salt) c.self.view_is)

pub returns-in-Err-clause-fault : goal.returns-in-Err-clause-fault
returns-in-Err-clause-fault c = λ s holds.
    let k = the_view c.self.inside in
    let x = c.in-Some.log.now in
    let at : slice_get k.logs c.args.log ≡ Some x =
    ap (λ (logs : List Log). slice_get logs c.args.log) (sym c.reserve.ensures.items) ∙ reads c.reserve.new.self.items c.args.log x c.in-Some.ensures.item.3.0 c.in-Some.ensures.value in
    inr (not_followed k c.args.self.now s c.args.log x c.in-Err.fault c.self.view_is at holds c.in-Err.ensures.fault)
