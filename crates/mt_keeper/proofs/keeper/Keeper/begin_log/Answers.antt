use Rattle.std.proofs.Common.{◌≡◌, ℕ, ◌+◌, ◌%◌, ◌^◌, [], ◌∷◌, ◌++◌, length, refl, sym, ap, ◌∙◌, subst, arith}
use Rattle.mt_block.specs.declared.header.Header.{Header}
use Rattle.mt_record.specs.Encoding.{segment_head}
use Rattle.mt_writer.specs.Journals.{Begins}
use Rattle.mt_keeper.specs.Keeping.{Keeping, Holds}
use Rattle.mt_keeper.specs.Calling.{with_new_log}
use Rattle.mt_keeper.specs.Filing.{workers_created, next_salt}
use Rattle.mt_keeper.proofs.NewLogs.{new_log, begins_log, begins_last}
use Rattle.mt_keeper.proofs.keeper.Keeper.begin_log.Goals as goal

pub returns-clause-step : goal.returns-clause-step
returns-clause-step c = λ s holds.
    let k = c.args.self.now in
    let new = c.in_ok-new.new in
    let worker : c.self.inside.workers ≡ k.workers = ap (λ (y : Keeping). y.workers) c.self.view_is in
    let workers : c.in-Some.workers ≡ k.workers + 1 = omega (arith, worker, c.in-Some.ensures.1) in
    let begins = subst (λ (w : ℕ). Begins new (segment_head 0 w 0)) worker c.in_ok-new.ensures.begins in
    let is = begins_log k s new _ holds begins (omega (arith, c.in_ok-new.ensures.mark, c.in_ok-mark.ensures.ok.0)) in
    let salt = (c.self-2.inside.salt + 1) % 2 ^ 64 in
    let same = ap (λ (y : Keeping). record y { workers = c.in-Some.workers; salt = salt }) (c.self-2.view_is ∙ c.in_ok-add.ensures.ok)
    ∙ ap (λ (w : ℕ). record k { logs = k.logs ++ new_log w new ∷ []; workers = c.in-Some.workers; salt = salt }) worker
    ∙ ap (λ (w : ℕ). record k { logs = k.logs ++ new_log k.workers new ∷ []; workers = w; salt = salt }) workers in (
      omega (arith, is.0, c.len-log.ensures, c.self.inside.logs.ok.0, ap (λ (y : Keeping). length y.logs) c.self.view_is),
      (is.1.0, subst (λ (y : Keeping). Holds y (with_new_log s k.workers)) (sym same) is.1.1),
    )

pub returns-clause-file : goal.returns-clause-file
returns-clause-file c =
    let k = c.args.self.now in
    let new = c.in_ok-new.new in
    let added = c.self-2.view_is ∙ c.in_ok-add.ensures.ok in
    begins_last k _ (workers_created k.logs + 1) _ k.logs (new_log c.self.inside.workers new) new (ap (λ (y : Keeping). y.logs) added)
    (omega (arith, c.len-log.ensures, c.self.inside.logs.ok.0, ap (λ (y : Keeping). length y.logs) c.self.view_is)) refl
    (ap (λ (h : Header). h.salt) c.in_ok-new.ensures.header ∙ ap (λ (y : Keeping). y.salt) c.self.view_is)
    (omega (arith, ap (λ (h : Header). h.workers) c.in_ok-new.ensures.header, c.saturating_add.ensures, c.workers_created.ensures, ap workers_created c.deref.ensures.value, ap (λ (y : Keeping). workers_created y.logs) c.self.view_is))
    (ap (λ (y : Keeping). next_salt y.salt) added)
